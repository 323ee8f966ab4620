-- Sending along a route, step by step.
use Rattle.std.proofs.Common.{◌≡◌, ℕ, List, [], ◌∷◌}
use Rattle.plan.specs.declared.step.Step.{Step}
use Rattle.plan.specs.declared.step.Step.TheVariants.{Ahead, Back}
use Rattle.plan.specs.Rules.{along}
use Rattle.plan.specs.Trails.{Bears}

-- the loads f bear the steps that are left, and come to what the loads g had to along the route
pub record ToGo (x : ℕ) (route left : List Step) (f g : List ℕ) : Type 0 where
  pub bears : Bears x left f
  pub same : along x left f ≡ along x route g

module _ {x : ℕ} {route : List Step} {f g : List ℕ} where
  -- the first step that is left bears x, and then the others are left
  next : (s : Step) (left : List Step) → ToGo x route (s ∷ left) f g → Bears x (s ∷ []) f × ToGo x route left (along x (s ∷ []) f) g
  next (Ahead k) left go = let b = go.bears in ((b.0, b.1, tt), record { bears = b.2; same = go.same })
  next (Back k) left go = let b = go.bears in ((b.0, b.1, tt), record { bears = b.2; same = go.same })
