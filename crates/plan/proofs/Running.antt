-- One scan after others: what holds after n of them, and at the end.
use Rattle.std.proofs.Common.{◌≡◌, ℕ, ◌+◌, ◌*◌, ◌<◌, ◌≤◌, true, false, List, [], ◌∷◌, ◌++◌, length, Some, sym, refl, ap, ◌∙◌, subst, ⊎_elim, mul-le-mul_right, add-mul, arith}
use Rattle.std.proofs.lemmas.Bool.{cases_eq, false≢true}
use Rattle.costs.specs.Group.{Group}
use Rattle.costs.specs.Kind.{Kind, values}
use Rattle.networks.specs.Net.{Net}
use Rattle.plan.specs.declared.step.Step.{Step}
use Rattle.plan.specs.Entries.{Work, Most, write, entry, Under}
use Rattle.plan.specs.Rounds.{Walk, Walked, Fell, Rounds}
use Rattle.plan.specs.Steps.{Gives, Leads}
use Rattle.plan.specs.Steps.Leads.{there, then}
use Rattle.plan.specs.Sweeps.{Moves, Swept, Left}
use Rattle.plan.specs.Sweeps.Moves.{stay, move}
use Rattle.plan.proofs.Bridge.{given}
use Rattle.plan.proofs.Flow.{unit_of}
use Rattle.plan.proofs.Noting.{noted_same, noted_other, noted_within}
use Rattle.plan.proofs.Sweeping.{most_is, most_le, below_le, moves_grow, moves_kept, moves_join}
use Rattle.plan.proofs.Tracing.{moves_traced}
use Rattle.plan.proofs.Walking.{leads_more, leads_last}

module _ {C R : Type 0} (K : Kind C R) (net : Net C) (loads : List ℕ) where
  abbrev G : Group
  G = K.group

  -- n scans, each of which changed something
  pub record Ran (n : ℕ) (t t' : Work R) : Type 0 where
    pub moves : Moves K (Left K net loads) t t'
    pub short : (u : ℕ) (x : G.Carrier) (ss : List Step) (v : ℕ) (c : G.Carrier) → Walk K net loads t u x ss v c → length ss ≤ n → Most G (entry K t' v) (G.plus x c)
    pub fell : 1 ≤ n → Fell K net loads t t' n
    pub weight : (b : ℕ) → Under K t b → Under K t' (b + n * (2000000 * length net.ways))

  stays : (t : Work R) {u v : ℕ} {x c : G.Carrier} {ss : List Step} {vs : List ℕ} → entry K t u ≡ Some x → Leads K net loads 1 u ss vs v c → length ss ≤ 0 → Most G (entry K t v) (G.plus x c)
  stays t {x} e (there u) l = most_is G (e ∙ ap (λ y. Some y) (sym (unit_of G x)))
  stays t e (then u v w s ss vs c d r g room p) l = absurd (omega arith)

  pub ran_none : (t : Work R) → Ran 0 t t
  ran_none t = record {
    moves = stay;
    short = λ u x ss v c w l. stays t w.from w.leads l;
    fell = λ l. absurd (omega arith);
    weight = λ b under v w e. omega (arith, under v w e);
  }

  module _ (n : ℕ) (t t' t'' : Work R) (p : Ran n t t') (q : Swept K (Left K net loads) (Left K net loads) (2000000 * length net.ways) t' t'' true) where
    short_more : (u : ℕ) (x : G.Carrier) (ss : List Step) (v : ℕ) (c : G.Carrier) → Walk K net loads t u x ss v c → length ss ≤ n + 1 → Most G (entry K t'' v) (G.plus x c)
    short_more u x [] v c w l =
        let had = p.short u x [] v c w (omega arith) in
        most_le G (moves_grow K q.moves v had.value had.is) had.most
    short_more u x (s ∷ ss) v c w l =
        let part = leads_last K net loads w.leads in
        let had = p.short u x part.steps part.place part.cost (record { met = part.met; from = w.from; leads = part.leads }) (omega (arith, part.long)) in
        let now = q.met part.step part.place v part.more had.value (part.room, part.gives) had.is in
        let total : G.plus (G.plus x part.cost) part.more ≡ G.plus x c = G.assoc x part.cost part.more ∙ ap (G.plus x) (sym part.sum) in
        most_le G now (subst (G.le (G.plus had.value part.more)) total (G.shift had.value (G.plus x part.cost) part.more had.most))

    fell_more : Fell K net loads t t'' (n + 1)
    fell_more =
        let low = q.lower refl in
        record {
          place = low.place;
          value = low.value;
          is = low.is;
          below = λ u x ss c w l le.
              let had = p.short u x ss low.place c w (omega arith) in
              let b = below_le G low.value had.value (G.plus x c) (low.better had.value had.is) had.most in
              b.1 (G.antisym low.value (G.plus x c) b.0 le);
        }

    pub ran_more : Ran (n + 1) t t''
    ran_more = record {
      moves = moves_join K p.moves q.moves;
      short = short_more;
      fell = λ _. fell_more;
      weight = λ b under v w e. omega (arith, add-mul n 1 (2000000 * length net.ways), q.weight (b + n * (2000000 * length net.ways)) (p.weight b under) v w e);
    }

  -- each entry is the value of a walk
  pub moves_walked : {t t' : Work R} → Moves K (Left K net loads) t t' → (v : ℕ) (y : G.Carrier) → entry K t' v ≡ Some y → Walked K net loads t v y
  moves_walked {t} stay v y e = record {
    place = v;
    value = y;
    steps = [];
    cost = G.zero;
    walk = record { met = []; from = e; leads = there v };
    sum = sym (unit_of G y);
    start = noted_within (values K) t v y e;
  }
  moves_walked {t} (move {t'} m s u v c x a near h r sum better) w y e =
      ⊎_elim
      (λ (q : w ≡ v).
      let far = moves_walked m u x near in
      let leads = leads_more K net loads far.walk.leads a.1 (given K net loads a.1).some in
      let some : Some (values K r) ≡ Some y = sym (ap (entry K (write t' v r s)) q ∙ noted_same (values K) t' v r s h) ∙ e in
      let is : values K r ≡ y = cc in
      subst (λ i. Walked K net loads t i y) (sym q) (record {
        place = far.place;
        value = far.value;
        steps = far.steps ++ s ∷ [];
        cost = G.plus far.cost c;
        walk = record { met = far.walk.met ++ v ∷ []; from = far.walk.from; leads = leads };
        sum = sym is ∙ sum ∙ ap (λ z. G.plus z c) far.sum ∙ G.assoc far.value far.cost c;
        start = far.start;
      }))
      (λ (q : w ≡ v → ⊥). moves_walked m w y (sym (noted_other (values K) t' v w r s q) ∙ e))
      (cases_eq w v)

  pub rounds_end : (t t' : Work R) → Ran net.places t t' → Rounds K net loads t t' false
  rounds_end t t' p = record {
    kept = moves_kept K p.moves;
    grows = moves_grow K p.moves;
    walked = moves_walked p.moves;
    traced = moves_traced K net loads t p.moves;
    short = p.short;
    least = λ e. absurd (false≢true e);
    closed = λ e. absurd (false≢true e);
    fell = λ _. p.fell;
    weight = p.weight;
  }

  -- where no step improves an entry, no walk does
  least_of : (t : Work R) → ((s : Step) (u v : ℕ) (c x : G.Carrier) (room : ℕ) → Gives K net loads s u v c room → entry K t u ≡ Some x → Most G (entry K t v) (G.plus x c))
      → {n u v : ℕ} {x c : G.Carrier} {ss : List Step} {vs : List ℕ} → Leads K net loads n u ss vs v c → Most G (entry K t u) x → Most G (entry K t v) (G.plus x c)
  least_of t closed {x} (there u) m = subst (Most G (entry K t u)) (sym (unit_of G x)) m
  least_of t closed {x} (then u v w s ss vs c d r g room p) m =
      let next = closed s u v c m.value r g m.is in
      let most : Most G (entry K t v) (G.plus x c) = most_le G next (G.shift m.value x c m.most) in
      subst (Most G (entry K t w)) (G.assoc x c d) (least_of t closed p most)

  -- a scan that changes nothing ends the rounds
  pub rounds_early : (n : ℕ) (t t' t'' : Work R) → n < net.places → Ran n t t' → Swept K (Left K net loads) (Left K net loads) (2000000 * length net.ways) t' t'' false → Rounds K net loads t t'' true
  rounds_early n t t' t'' l p q =
      let W = 2000000 * length net.ways in
      let moves = moves_join K p.moves q.moves in
      let closed : (s : Step) (u v : ℕ) (c x : G.Carrier) (room : ℕ) → Gives K net loads s u v c room → entry K t'' u ≡ Some x → Most G (entry K t'' v) (G.plus x c) =
      λ s u v c x room g e. q.met s u v c x (room, g) (ap (λ y. entry K y u) (sym (q.same refl)) ∙ e) in
      let least : (u : ℕ) (x : G.Carrier) (ss : List Step) (v : ℕ) (c : G.Carrier) → Walk K net loads t u x ss v c → Most G (entry K t'' v) (G.plus x c) =
      λ u x ss v c w. least_of t'' closed w.leads (moves_grow K moves u x w.from) in
      record {
        kept = moves_kept K moves;
        grows = moves_grow K moves;
        walked = moves_walked moves;
        traced = moves_traced K net loads t moves;
        short = λ u x ss v c w _. least u x ss v c w;
        least = λ _. least;
        closed = λ _. closed;
        fell = λ e. absurd (false≢true (sym e));
        weight = λ b under v w e. omega (arith, add-mul n 1 W, mul-le-mul_right {m = n + 1} {n = net.places} W (omega arith), q.weight (b + n * W) (p.weight b under) v w e);
      }
