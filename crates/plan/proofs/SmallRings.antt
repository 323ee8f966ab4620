-- Opening over two ways, there and back.
use Rattle.std.proofs.Common.{◌≡◌, ℕ, [], ◌∷◌, length, get_or, replicate, ℤ, pos, negsuc, neg_ℤ, None, sym, refl, ◌∙◌, arith}
use lib.Signed.{le_z_yes}
use Rattle.std.proofs.lemmas.Int.{ints}
use Rattle.costs.specs.Kind.{Kind}
use Rattle.costs.specs.Whole.{whole_kind}
use Rattle.networks.specs.Net.{Net}
use Rattle.networks.specs.declared.refusal.Refusal.TheVariants.{LosingRing}
use Rattle.plan.specs.declared.calls.Answer.{Answer}
use Rattle.plan.specs.declared.calls.Answer.TheVariants.{Opened, Refused}
use Rattle.plan.specs.declared.calls.Call.TheVariants.{Open}
use Rattle.plan.specs.declared.step.Step.TheVariants.{Ahead}
use Rattle.plan.specs.Checks.{open_fault}
use Rattle.plan.specs.Edges.{Answers, there_and_back}
use Rattle.plan.specs.Rules.{Rule, open_refused, open_losing, open_accepted}
use Rattle.plan.specs.State.{State, closed}
use Rattle.plan.specs.Steps.{Losing, forth, there, then}
use Rattle.plan.proofs.EachWay.{potential_by}
use Rattle.plan.proofs.Faults.{some_none}
use Rattle.plan.proofs.Walks.{no_losing}

-- an open that nothing else is wrong with is refused exactly if a ring loses
module _ {C R : Type 0} (K : Kind C R) (net : Net C) (work : ℕ) where
  only_opened : {s s' : State} {a : Answer} → open_fault K net s work ≡ None → (Losing K net (replicate (length net.ways) 0) → ⊥) → Rule K net work s Open a s' → a ≡ Opened
  only_opened fair sound (open_refused s r e) = absurd (some_none r (sym e ∙ fair))
  only_opened fair sound (open_losing s e l) = absurd (sound l)
  only_opened fair sound (open_accepted s e n) = refl

  only_losing : {s s' : State} {a : Answer} → open_fault K net s work ≡ None → Losing K net (replicate (length net.ways) 0) → Rule K net work s Open a s' → a ≡ Refused LosingRing
  only_losing fair ring (open_refused s r e) = absurd (some_none r (sym e ∙ fair))
  only_losing fair ring (open_losing s e l) = refl
  only_losing fair ring (open_accepted s e n) = absurd (n ring)

  opens : {s : State} → open_fault K net s work ≡ None → (Losing K net (replicate (length net.ways) 0) → ⊥) → Answers K net work s Open Opened
  opens {s} fair sound = record { after = _; by_rule = open_accepted s fair sound; only = λ b s' r. only_opened fair sound r }

  loses : {s : State} → open_fault K net s work ≡ None → Losing K net (replicate (length net.ways) 0) → Answers K net work s Open (Refused LosingRing)
  loses {s} fair ring = record { after = s; by_rule = open_losing s fair ring; only = λ b s' r. only_losing fair ring r }

-- the potentials are 0 at place 0, and as given at place 1
level_sound : Losing whole_kind (there_and_back (neg_ℤ (pos 3)) 1 1) (0 ∷ 0 ∷ []) → ⊥
level_sound = no_losing whole_kind _ _ π (potential_by whole_kind _ _ π ((λ l. le_z_yes tt, λ l. absurd (omega arith)), ((λ l. le_z_yes tt, λ l. absurd (omega arith)), tt)))
  where
    π : ℕ → ℤ
    π v = get_or (pos 0 ∷ pos 3 ∷ []) v (pos 0)

pub level_ring_opens :
    (Losing whole_kind (there_and_back (neg_ℤ (pos 3)) 1 1) (0 ∷ 0 ∷ []) → ⊥)
    × Answers whole_kind (there_and_back (neg_ℤ (pos 3)) 1 1) 2 closed Open Opened
level_ring_opens = (level_sound, opens whole_kind _ 2 refl level_sound)

ring : Losing whole_kind (there_and_back (neg_ℤ (pos 4)) 1 1) (0 ∷ 0 ∷ [])
ring = record {
  place = 0;
  first = Ahead 0;
  rest = Ahead 1 ∷ [];
  total = negsuc 0;
  ring = record {
    met = 1 ∷ 0 ∷ [];
    leads = then 0 1 0 (Ahead 0) (Ahead 1 ∷ []) (0 ∷ []) (pos 3) (negsuc 3) 1 (forth 0 _ refl (omega arith)) (omega arith)
        (then 1 0 0 (Ahead 1) [] [] (negsuc 3) (pos 0) 1 (forth 1 _ refl (omega arith)) (omega arith) (there 0));
    apart = ((λ e. omega arith, tt), (tt, tt));
  };
  below = le_z_yes tt;
  apart = λ e. omega (arith, ints);
}

pub losing_ring_refused :
    Losing whole_kind (there_and_back (neg_ℤ (pos 4)) 1 1) (0 ∷ 0 ∷ [])
    × Answers whole_kind (there_and_back (neg_ℤ (pos 4)) 1 1) 2 closed Open (Refused LosingRing)
losing_ring_refused = (ring, loses whole_kind _ 2 refl ring)

shut_ahead : Losing whole_kind (there_and_back (neg_ℤ (pos 4)) 0 1) (0 ∷ 0 ∷ []) → ⊥
shut_ahead = no_losing whole_kind _ _ π (potential_by whole_kind _ _ π ((λ l. absurd (omega arith), λ l. absurd (omega arith)), ((λ l. le_z_yes tt, λ l. absurd (omega arith)), tt)))
  where
    π : ℕ → ℤ
    π v = get_or (pos 0 ∷ pos 4 ∷ []) v (pos 0)

shut_back : Losing whole_kind (there_and_back (neg_ℤ (pos 4)) 1 0) (0 ∷ 0 ∷ []) → ⊥
shut_back = no_losing whole_kind _ _ π (potential_by whole_kind _ _ π ((λ l. le_z_yes tt, λ l. absurd (omega arith)), ((λ l. absurd (omega arith), λ l. absurd (omega arith)), tt)))
  where
    π : ℕ → ℤ
    π v = pos 0

pub shut_ring_opens :
    Answers whole_kind (there_and_back (neg_ℤ (pos 4)) 0 1) 2 closed Open Opened
    × Answers whole_kind (there_and_back (neg_ℤ (pos 4)) 1 0) 2 closed Open Opened
shut_ring_opens = (opens whole_kind _ 2 refl shut_ahead, opens whole_kind _ 2 refl shut_back)
