-- The steps on the path lead from where the loop has come to, and there is room for one more.
use Rattle.std.proofs.Common.{◌≡◌, reverse, vec_items, vec_len, vec_capacity}
use Rattle.plan.proofs.Trailing.{SoFarBy}
use Rattle.plan.proofs.loaded.Loaded.trace.Given as goal

abbrev pub invariant-loop : goal.invariant-loop
invariant-loop g l = record {
  each : vec_len l.path ≡ l.counter;
  room : vec_capacity l.path ≡ vec_capacity l.fn.path;
  leads : SoFarBy g.N.Cost.Cost.kind (g.N.Network.means l.self.net.now) l.self.loads.now l.notes l.to l.amount (reverse (vec_items l.path)) l.at l.left;
}
