-- Route after route: one more may be put last, and what is left tells how a settle ends.
use Rattle.std.proofs.Common.{◌≡◌, ℕ, suc, ◌+◌, ◌<◌, ◌≤◌, sym, ◌∙◌, subst, arith}
use Rattle.std.proofs.lemmas.Int.{ints}
use Rattle.costs.specs.Kind.{Kind}
use Rattle.networks.specs.Net.{Net}
use Rattle.plan.specs.declared.calls.Ending.TheVariants as ending
use Rattle.plan.specs.declared.calls.Routed.TheVariants.{Settled, Blocked, Sent}
use Rattle.plan.specs.declared.table.Table.{Table}
use Rattle.plan.specs.Routings.{Routes, Settles}
use Rattle.plan.specs.Rules.{Source, Sends, Repeats, none, more}
use Rattle.plan.specs.Sendings.{AsLong}
use Rattle.plan.specs.State.{State}

-- tables as long as tables as long
pub longer : (t t₁ t₂ : Table) → AsLong t t₁ → AsLong t₁ t₂ → AsLong t t₂
longer t t₁ t₂ a b = record { loads = b.loads ∙ a.loads; rests = b.rests ∙ a.rests }

module _ {C R : Type 0} (K : Kind C R) (net : Net C) where
  after : (n u t x : ℕ) (s s' s'' : State) → Repeats K net n s s' → Sends K net s' u t x s'' → Repeats K net (suc n) s s''
  after n u t x s s' s'' (none z) sends = more 0 u t x s s'' s'' sends (none s'')
  after n u t x s s' s'' (more m u₁ t₁ x₁ z z' z'' first rest) sends = more (suc m) u₁ t₁ x₁ z z' s'' first (after m u t x z' s' s'' rest sends)

  module _ (budget n : ℕ) (s s' s'' : State) (sent : Repeats K net n s s') where
    -- one route more
    pub one_more : {u t x : ℕ} → Routes K net s' (Sent u t x) s'' → Repeats K net (n + 1) s s''
    one_more {u} {t} {x} sends = subst (λ m. Repeats K net m s s'') (omega arith) (after n u t x s s' s'' sent sends)

    pub ends_settled : n ≤ budget → Routes K net s' Settled s'' → Settles K net budget s (record { routes = n; ending = ending.Settled }) s''
    ends_settled l r = subst (λ z. Settles K net budget s (record { routes = n; ending = ending.Settled }) z) (sym r.1) (record { few = l; sent = sent; ends = r.0 })

    pub ends_blocked : {u : ℕ} → n < budget → Routes K net s' (Blocked u) s'' → Settles K net budget s (record { routes = n; ending = ending.Blocked u }) s''
    ends_blocked {u} l r = subst (λ z. Settles K net budget s (record { routes = n; ending = ending.Blocked u }) z) (sym r.1) (record { few = omega (arith, l); sent = sent; ends = (l, r.0) })

    pub ends_unfinished : {u : ℕ} → n ≡ budget → Source K net s' u → Settles K net budget s (record { routes = n; ending = ending.Unfinished }) s'
    ends_unfinished {u} e source = record {
      few = omega (arith, e);
      sent = sent;
      ends = (e, λ rest. let z = rest u source.place in let p = source.positive in omega (arith, ints));
    }
