-- A new plan is where no calls lead.
use Rattle.std.proofs.Common.{min, length, refl, ap, ◌∙◌}
use lib.ListN.{length-replicate}
use Rattle.plan.specs.Law.{start}
use Rattle.plan.proofs.planner.Plan.new.Goals as goal

pub returns : goal.returns
returns g c =
    let t = c.in_ok-table.ensures in (
      refl,
      record {
        trace = start;
        sized = record {
          loads = c.in_ok-table.table.loads.ok.0 ∙ ap length t.0 ∙ length-replicate _ _ ∙ c.min-2.ensures ∙ ap (λ n. min n 3000) c.ways.ensures;
          rests = c.in_ok-table.table.rests.ok.0 ∙ ap length t.1 ∙ length-replicate _ _ ∙ c.min.ensures ∙ ap (λ n. min n 1024) c.places.ensures;
        };
      },
    )
