-- The leg of a step: where it leads from and to, at what cost, and with how much room; its span: the same without the cost.
use Rattle.std.specs.Prelude.{ℕ, List, Option, MatchOption}
use Rattle.costs.specs.Kind.{Kind}
use Rattle.networks.specs.Net.{Net}
use Rattle.plan.specs.declared.leg.Leg.{Leg}
use Rattle.plan.specs.declared.leg.Span.{Span}
use Rattle.plan.specs.declared.step.Step.{Step}
use Rattle.plan.specs.Steps.{Gives}

module _ {C R : Type 0} (K : Kind C R) (net : Net C) (loads : List ℕ) where
  -- the step leads nowhere
  abbrev pub IsShut : Step → Type 0
  IsShut s = (u v : ℕ) (c : K.group.Carrier) (room : ℕ) → Gives K net loads s u v c room → ⊥

  -- the leg is that of the step, and none if it leads nowhere
  abbrev pub LegOf : Step → Option (Leg C) → Type 0
  LegOf s r = MatchOption r (IsShut s) (λ leg. Gives K net loads s leg.from leg.to (K.value leg.cost) leg.room)

  -- the span is that of the step, and none if it leads nowhere
  abbrev pub SpanOf : Step → Option Span → Type 0
  SpanOf s r = MatchOption r (IsShut s) (λ span. (c : K.group.Carrier) × Gives K net loads s span.from span.to c span.room)
