-- What is shown way by way of a listed network: potentials, what they bound, and sets of places that no step leaves.
use Rattle.std.proofs.Common.{◌≡◌, ℕ, zero, suc, ◌<◌, List, [], ◌∷◌, get_or, Some, sym, refl, ◌∙◌, subst}
use Rattle.std.specs.List.{slice_get, AllByRecursion}
use Rattle.costs.specs.Kind.{Kind}
use Rattle.networks.specs.Net.{Net, Way}
use Rattle.plan.specs.declared.step.Step.{Step}
use Rattle.plan.specs.Steps.{Gives, forth, behind, Leads, there, then, Route}
use Rattle.plan.specs.Standing.{Potential}
use Rattle.plan.proofs.Faults.{some_none}
use Rattle.plan.proofs.Found.{Entries, rises}

-- P k w of each way w, whose number is k
abbrev pub Each : {C : Type 0} → (ℕ → Way C → Type 0) → List (Way C) → Type 0
Each P [] = Unit {0}
Each P (w ∷ ws) = P 0 w × Each (λ k. P (suc k)) ws

pub each : {C : Type 0} (P : ℕ → Way C → Type 0) (ws : List (Way C)) → Each P ws → (k : ℕ) (w : Way C) → slice_get ws k ≡ Some w → P k w
each P [] h k w e = absurd (some_none w (sym e))
each P (x ∷ ws) h zero w e = let same : x ≡ w = cc in subst (P 0) same h.0
each P (x ∷ ws) h (suc k) w e = each (λ j. P (suc j)) ws h.1 k w e

-- a bound on each entry of a list, and on what stands for those past its end
pub at_each : {A : Type 0} (P : A → Type 0) (xs : List A) (d : A) → AllByRecursion P xs → P d → (v : ℕ) → P (get_or xs v d)
at_each P [] d h p v = p
at_each P (x ∷ xs) d h p zero = h.0
at_each P (x ∷ xs) d h p (suc v) = at_each P xs d h.1 p v

module _ {C R : Type 0} (K : Kind C R) (net : Net C) (f : List ℕ) where
  -- π rises over neither step of the way by more than it costs
  abbrev pub RisesWithin : (ℕ → K.group.Carrier) → ℕ → Way C → Type 0
  RisesWithin π k w =
      (get_or f k 0 < w.limit → K.group.le (π w.head) (K.group.plus (π w.tail) (K.value w.cost)))
      × (0 < get_or f k 0 → K.group.le (π w.tail) (K.group.plus (π w.head) (K.group.opp (K.value w.cost))))

  pub potential_by : (π : ℕ → K.group.Carrier) → Each (RisesWithin π) net.ways → Potential K net f π
  potential_by π h s u v c r (forth k w e l) = (each (RisesWithin π) net.ways h k w e).0 l
  potential_by π h s u v c r (behind k w e l) = (each (RisesWithin π) net.ways h k w e).1 l

  -- so it rises over a route by no more than this costs
  pub rises_by : (π : ℕ → K.group.Carrier) → Potential K net f π → {x u v : ℕ} {ss : List Step} {c : K.group.Carrier} → Route K net f x u ss v c →
      K.group.le (π v) (K.group.plus (π u) c)
  rises_by π valid {u = u} {v = v} {c = c} r =
      let entries : Entries K net f (λ v x. π v ≡ x) = record {
        one = λ v x y a b. sym a ∙ b;
        closed = λ s u v r c x g e. (π v, refl, subst (λ z. K.group.le (π v) (K.group.plus z c)) e (valid s u v c r g));
      } in
      let a = rises K net f entries {z = π u} refl r.leads in
      subst (λ z. K.group.le z (K.group.plus (π u) c)) (sym a.1) a.2

  -- and from a place where it is at most zero, to no more than that
  pub under_by : (π : ℕ → K.group.Carrier) → Potential K net f π → {x u v : ℕ} {ss : List Step} {c : K.group.Carrier} → K.group.le (π u) K.group.zero →
      Route K net f x u ss v c → K.group.le (π v) c
  under_by π valid {u = u} {c = c} low r =
      K.group.trans _ _ _ (rises_by π valid r) (subst (K.group.le (K.group.plus (π u) c)) (K.group.unit c) (K.group.shift (π u) K.group.zero c low))

  -- neither step of the way leaves the set
  abbrev pub Stays : (ℕ → Type 0) → ℕ → Way C → Type 0
  Stays In k w = (get_or f k 0 < w.limit → In w.tail → In w.head) × (0 < get_or f k 0 → In w.head → In w.tail)

  stays : (In : ℕ → Type 0) → Each (Stays In) net.ways → {s : Step} {u v r : ℕ} {c : K.group.Carrier} → Gives K net f s u v c r → In u → In v
  stays In h (forth k w e l) = (each (Stays In) net.ways h k w e).0 l
  stays In h (behind k w e l) = (each (Stays In) net.ways h k w e).1 l

  pub stays_by : (In : ℕ → Type 0) → Each (Stays In) net.ways → {x u v : ℕ} {ss : List Step} {vs : List ℕ} {c : K.group.Carrier} → Leads K net f x u ss vs v c → In u → In v
  stays_by In h (there u) i = i
  stays_by In h (then u v w s ss vs c d r g l rest) i = stays_by In h rest (stays In h g i)
