-- The calls made so far led to the plan, and each got an answer, for which there was room.
use Rattle.std.proofs.Common.{◌≡◌, ◌≤◌, length, drop, vec_items, vec_len, vec_capacity}
use Rattle.plan.specs.Histories.{events}
use Rattle.plan.specs.Plans.{Runs}
use Rattle.plan.proofs.runs.run_calls.Given as goal

abbrev pub invariant-loop-call : goal.invariant-loop-call
invariant-loop-call g l =
    record {
      net : l.plan.net ≡ l.initial.plan.net;
      each : vec_len l.answers ≡ l.call-index;
      room : length l.calls ≤ vec_capacity l.answers;
      past : drop (g.N.Network.means l.initial.plan.net).places l.work ≡ drop (g.N.Network.means l.initial.plan.net).places l.initial.work;
      runs : Runs g.N.Cost.Cost.kind (g.N.Network.means l.initial.plan.net) (events (length l.initial.work) l.calls (vec_items l.answers) l.call-index) l.plan;
    }
