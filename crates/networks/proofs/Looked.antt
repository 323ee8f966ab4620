-- What stands at a place of a list that was made from another, place by place.
use Rattle.std.proofs.Common.{◌≡◌, ℕ, zero, suc, ◌+◌, ◌<◌, ◌≤◌, List, [], ◌∷◌, map, length, get_or, Some, None, sym, refl, ap, ◌∙◌, add-zero, zero-add, arith}
use Rattle.std.specs.List.{slice_get}
use Rattle.std.specs.Option.{option_map}
use Rattle.std.proofs.lemmas.List.{get_or-map, length-map}
use Rattle.std.proofs.lemmas.Option.{slice_get-get_or, slice_get_past}
use Rattle.networks.specs.Layers.{each_from}

pub nth_map_at : {X Y : Type 0} (f : X → Y) (xs : List X) (k : ℕ) (d : X) → k < length xs → slice_get (map f xs) k ≡ Some (f (get_or xs k d))
nth_map_at f xs k d l =
    let l' : k < length (map f xs) = simp length-map (omega arith) in
    slice_get-get_or (map f xs) k (f d) l' ∙ ap (λ y. Some y) (get_or-map f xs k d (f d) l)

pub nth_map_past : {X Y : Type 0} (f : X → Y) (xs : List X) (k : ℕ) → length xs ≤ k → slice_get (map f xs) k ≡ None
nth_map_past f xs k l = slice_get_past (map f xs) k (simp length-map (omega arith))

pub length_each : {X Y : Type 0} (i : ℕ) (f : ℕ → X → Y) (xs : List X) → length (each_from i f xs) ≡ length xs
length_each i f [] = refl
length_each i f (x ∷ xs) = ap suc (length_each (i + 1) f xs)

nth_each_from : {X Y : Type 0} (i : ℕ) (f : ℕ → X → Y) (xs : List X) (k : ℕ) → slice_get (each_from i f xs) k ≡ option_map (f (i + k)) (slice_get xs k)
nth_each_from i f [] k = refl
nth_each_from i f (x ∷ xs) zero = ap (λ j. Some (f j x)) (sym (add-zero i))
nth_each_from i f (x ∷ xs) (suc k) =
    let e : (i + 1) + k ≡ i + suc k = omega arith in
    nth_each_from (i + 1) f xs k ∙ ap (λ j. option_map (f j) (slice_get xs k)) e

pub nth_each : {X Y : Type 0} (f : ℕ → X → Y) (xs : List X) (k : ℕ) → slice_get (each_from 0 f xs) k ≡ option_map (f k) (slice_get xs k)
nth_each f xs k = nth_each_from 0 f xs k ∙ ap (λ j. option_map (f j) (slice_get xs k)) (zero-add k)
