-- The number falls to its half.
use Rattle.plan.proofs.multiples.+doubled.Given as goal

abbrev pub decreases-doubled : goal.decreases-doubled
decreases-doubled g l = l.n
