-- The picks and the search of one route give what the rules ask for.
use Rattle.std.proofs.Common.{◌≡◌, ℕ, ◌<◌, true, List, length, Some, vec_items, sym, ap, ◌∙◌, subst, ap₂}
use Rattle.costs.specs.Kind.{Kind}
use Rattle.networks.specs.Net.{Net}
use Rattle.plan.specs.declared.table.Table.{Table}
use Rattle.plan.specs.Entries.{tables}
use Rattle.plan.specs.Nearest.{Nearest}
use Rattle.plan.specs.Picks.{Spent, Lowest}
use Rattle.plan.specs.Rules.{AtRest, Source, Target, Sends}
use Rattle.plan.specs.Sendings.{Dispatched}
use Rattle.plan.specs.Standing.{Standing}
use Rattle.plan.specs.State.{State, rest}
use Rattle.plan.specs.Tables.{Same, state_of}
use Rattle.plan.specs.Trails.{Ended}
use Rattle.plan.proofs.Costs.{nats}
use Rattle.plan.proofs.Moves.{positive_none, none_owed}
use Rattle.plan.proofs.Standing.{level}
use Rattle.plan.proofs.Sums.{total_none}

module _ {C R : Type 0} (K : Kind C R) (net : Net C) (s : State) where
  pub source_by : {u : ℕ} → length s.rests ≡ net.places → Lowest s.rests u → Source K net s u
  source_by {u} e low = record { place = subst (λ n. u < n) e low.place; positive = low.positive; lowest = low.lowest }

  pub rest_by : Standing K net s → Spent s.rests → AtRest K net s
  rest_by stands spent =
      none_owed net.places (rest s)
      (total_none nats net.places _ (λ v l. positive_none (rest s v) (spent v (subst (λ n. v < n) (sym stands.whole) l))))
      (level K net stands)

-- loads, rests and count make the state
pub same_state : (t t' : Table) → Same t t' → state_of t' ≡ state_of t
same_state t t' same =
    ap₂ (λ f g. record { open? = true; loads = vec_items f; rests = vec_items g; count = t'.count }) same.loads same.rests
    ∙ ap (λ n. record { open? = true; loads = vec_items t.loads; rests = vec_items t.rests; count = n }) same.count

-- what the search found is sent
module _ {C R : Type 0} (K : Kind C R) (net : Net C) (t t₁ : Table) (same : Same t t₁) (u v x : ℕ) (rows : List R) (s' : State) where
  pub sent_by : Source K net (state_of t) u → Nearest K net (state_of t) u (tables rows (vec_items t₁.notes)) (Some v) → Dispatched K net t₁ u v x s' →
      Standing K net (state_of t) → Sends K net (state_of t) u v x s'
  sent_by source near dispatched stands =
      let e = same_state t t₁ same in
      let n = near stands in
      subst (λ s. Sends K net s u v x s') e
      (dispatched rows n.0 (subst (Standing K net) (sym e) stands) (subst (λ s. Source K net s u) (sym e) source) (subst (λ s. Target K net s u v n.0) (sym e) n.1)
      (subst (λ s. Ended K net s.loads u v (tables rows (vec_items t₁.notes)) n.0) (sym e) n.2))
