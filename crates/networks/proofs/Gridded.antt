-- The ways of a size grid, by their numbers.
use Rattle.std.proofs.Common.{◌≡◌, ℕ, zero, suc, ◌+◌, ◌-◌, ◌*◌, ◌/◌, ◌%◌, ◌<◌, ◌≤◌, cond, List, length, Some, None, sym, ap, ◌∙◌, mul-zero, zero-add, arith, le-ltb, lt-ltb}
use Rattle.std.specs.List.{slice_get, range_with_len}
use Rattle.std.proofs.lemmas.Nat.{div_below, mod_below}
use Rattle.std.proofs.lemmas.List.FromFn.{length-range_with_len, get_or-range_with_len, length-map-range_with_len}
use Rattle.networks.specs.Grids.{fitting, collecting, grid_way, grid_net}
use Rattle.networks.specs.declared.sizes.Group.{Group}
use Rattle.networks.specs.declared.sizes.Last.{Last}
use Rattle.networks.proofs.Looked.{nth_map_at, nth_map_past}

some_columns : (k g l : ℕ) → k < g * l → 0 < l
some_columns k g zero h = absurd (let e = mul-zero g in omega arith)
some_columns k g (suc l) h = omega arith

pub row_within : (k g l : ℕ) → k < g * l → k / l < g
row_within k g l h = div_below k l g (some_columns k g l h) h

pub column_within : (k g l : ℕ) → k < g * l → k % l < l
column_within k g l h = mod_below k l (some_columns k g l h)

module _ (gs : List Group) (ls : List Last) (k : ℕ) where
  at_number : k < length gs * length ls + length ls → slice_get (grid_net gs ls).ways k ≡ Some (grid_way gs ls k)
  at_number h =
      let n = length gs * length ls + length ls in
      let l : k < length (range_with_len 0 n) = simp length-range_with_len h in
      nth_map_at (grid_way gs ls) (range_with_len 0 n) k 0 l ∙ ap (λ j. Some (grid_way gs ls j)) (get_or-range_with_len 0 n k 0 h ∙ zero-add k)

  pub at_fitting : k < length gs * length ls → slice_get (grid_net gs ls).ways k ≡ Some (fitting gs ls (k / length ls) (k % length ls))
  at_fitting h =
      at_number (omega arith)
      ∙ ap (λ b. Some (cond b (fitting gs ls (k / length ls) (k % length ls)) (collecting gs ls (k - length gs * length ls)))) (lt-ltb k (length gs * length ls) h)

  pub at_collecting : length gs * length ls ≤ k → k - length gs * length ls < length ls → slice_get (grid_net gs ls).ways k ≡ Some (collecting gs ls (k - length gs * length ls))
  at_collecting h m =
      at_number (omega arith)
      ∙ ap (λ b. Some (cond b (fitting gs ls (k / length ls) (k % length ls)) (collecting gs ls (k - length gs * length ls)))) (le-ltb k (length gs * length ls) h)

  pub past_ways : length gs * length ls ≤ k → length ls ≤ k - length gs * length ls → slice_get (grid_net gs ls).ways k ≡ None
  past_ways h m =
      let l : length (range_with_len 0 (length gs * length ls + length ls)) ≤ k = simp length-range_with_len (omega arith) in
      nth_map_past (grid_way gs ls) (range_with_len 0 (length gs * length ls + length ls)) k l

pub ways_count : (us bs : List Group) (cs ds : List Last) → us ≡ bs → cs ≡ ds → length us * length cs + length cs ≡ length (grid_net bs ds).ways
ways_count us bs cs ds p q =
    ap (λ xs. length xs * length cs + length cs) p ∙ ap (λ ys. length bs * length ys + length ys) q
    ∙ sym (length-map-range_with_len (grid_way bs ds) 0 (length bs * length ds + length ds))
