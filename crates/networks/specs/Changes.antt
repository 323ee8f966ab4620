-- What a layer makes of a way: its limit and its cost, each changed according to whether the way is listed.
use Rattle.std.specs.Prelude.{ℕ, Bool, cond, List, pos, ◌==◌}
use Rattle.std.specs.List.{list_any}
use Rattle.costs.specs.Whole.{whole_kind}
use Rattle.costs.specs.declared.pair.Pair.{Pair}
use Rattle.costs.specs.declared.whole.Whole.{Whole}
use Rattle.networks.specs.Net.{Way}

-- whether a number stands in a list
abbrev pub has : List ℕ → ℕ → Bool
has ks k = list_any (λ x. x == k) ks

-- a way with its limit and its cost changed
abbrev pub changed : {C D : Type 0} → (Bool → ℕ → ℕ) → (Bool → C → D) → List ℕ → ℕ → Way C → Way D
changed limits costs ks k w = record { tail = w.tail; head = w.head; limit = limits (has ks k) w.limit; cost = costs (has ks k) w.cost }

-- a listed way has limit 0
abbrev pub shut_limit : Bool → ℕ → ℕ
shut_limit listed limit = cond listed 0 limit

abbrev pub shut_way : {C : Type 0} → List ℕ → ℕ → Way C → Way C
shut_way ks k w = record { tail = w.tail; head = w.head; limit = cond (has ks k) 0 w.limit; cost = w.cost }

-- the cost of a way is the pair of 1 or 0, listed or not, and the cost below
abbrev pub redraw_cost : {C : Type 0} → Bool → C → Pair Whole C
redraw_cost listed cost = record { first = whole_kind.reads (pos (cond listed 1 0)); second = cost }

abbrev pub redraws : List ℕ → ℕ → Whole
redraws ks k = whole_kind.reads (pos (cond (has ks k) 1 0))

abbrev pub redraw_way : {C : Type 0} → List ℕ → ℕ → Way C → Way (Pair Whole C)
redraw_way ks k w = record { tail = w.tail; head = w.head; limit = w.limit; cost = record { first = redraws ks k; second = w.cost } }
