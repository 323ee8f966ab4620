-- Each edge case, by its lemma.
use Rattle.costs.specs.Whole.{whole_kind}
use Rattle.plan.specs.Edges.{pairs}
use Rattle.plan.proofs.BothWays.{pair_order, sum_too_heavy, both_ways}
use Rattle.plan.proofs.SmallRings.{level_ring_opens, losing_ring_refused, shut_ring_opens}
use Rattle.plan.proofs.WorkedStudy.{worked_prices, third_route, blocked_reach, blocked_bookings}
use Rattle.plan.proofs.edges.edges_stand.Goals as goal

pub returns : goal.returns
returns c = record {
  level_ring_opens = level_ring_opens;
  losing_ring_refused = losing_ring_refused;
  shut_ring_opens = shut_ring_opens;
  pair_order = pair_order;
  sum_too_heavy = sum_too_heavy;
  worked_prices = worked_prices;
  third_route = third_route;
  blocked_reach = blocked_reach;
  blocked_bookings = blocked_bookings;
  alike_both_ways = (both_ways whole_kind, both_ways pairs);
}
