-- The lines of a network's ways, one more with each way that was asked for.
use Rattle.std.proofs.Common.{◌≡◌, ℕ, zero, suc, ◌+◌, List, [], ◌∷◌, ◌++◌, take, Some, None, Option, sym, ap, ◌∙◌, append_assoc, append-nil, add-zero, zero-add, add-one, arith}
use Rattle.std.specs.List.{slice_get}
use Rattle.costs.specs.declared.pair.Pair.{Pair}
use Rattle.costs.specs.declared.whole.Whole.{Whole}
use Rattle.networks.specs.Net.{Way, ends_of, cost_of}
use Rattle.networks.specs.declared.ends.Ends.{Ends}
use Rattle.jobs.specs.NetText.{way_line, way_lines}

-- a way by its two answers
asked : {C : Type 0} (o : Option (Way C)) (e : Ends) (c : C) → Some e ≡ ends_of o → Some c ≡ cost_of o → o ≡ Some (record { tail = e.tail; head = e.head; limit = e.limit; cost = c })
asked None e c p q = cc
asked (Some w) e c p q =
    let d : record { tail = w.tail; head = w.head; limit = w.limit } ≡ e = cc in
    let b : w.cost ≡ c = cc in
    ap (λ x. Some (record { tail = x.tail; head = x.head; limit = x.limit; cost = w.cost })) d ∙ ap (λ y. Some (record { tail = e.tail; head = e.head; limit = e.limit; cost = y })) b

lines_more : (i k : ℕ) (ws : List (Way (Pair Whole Whole))) (w : Way (Pair Whole Whole)) → slice_get ws k ≡ Some w → way_lines i (take (suc k) ws) ≡ way_lines i (take k ws) ++ way_line (i + k) w
lines_more i k [] w e = cc
lines_more i zero (x ∷ ws) w e =
    let d : x ≡ w = cc in
    append-nil (way_line i x) ∙ ap (way_line i) d ∙ ap (λ j. way_line j w) (sym (add-zero i))
lines_more i (suc k) (x ∷ ws) w e =
    let n : (i + 1) + k ≡ i + suc k = omega arith in
    ap (λ ys. way_line i x ++ ys) (lines_more (i + 1) k ws w e ∙ ap (λ j. way_lines (i + 1) (take k ws) ++ way_line j w) n)
    ∙ sym (append_assoc (way_line i x) (way_lines (i + 1) (take k ws)) (way_line (i + suc k) w))

-- one line more
pub one_way_more : (ws : List (Way (Pair Whole Whole))) (k : ℕ) (e : Ends) (c : Pair Whole Whole) (front text line : List ℕ) → Some e ≡ ends_of (slice_get ws k) → Some c ≡ cost_of (slice_get ws k) →
    text ≡ front ++ way_lines 0 (take k ws) → line ≡ way_line k (record { tail = e.tail; head = e.head; limit = e.limit; cost = c }) →
    text ++ line ≡ front ++ way_lines 0 (take (k + 1) ws)
one_way_more ws k e c front text line p q t l =
    let w : Way (Pair Whole Whole) = record { tail = e.tail; head = e.head; limit = e.limit; cost = c } in
    let m = lines_more 0 k ws w (asked (slice_get ws k) e c p q) ∙ ap (λ j. way_lines 0 (take k ws) ++ way_line j w) (zero-add k) in
    ap (λ ys. ys ++ line) t ∙ append_assoc front (way_lines 0 (take k ws)) line
    ∙ ap (λ ys. front ++ ys) (ap (λ ys. way_lines 0 (take k ws) ++ ys) l ∙ sym m ∙ ap (λ j. way_lines 0 (take j ws)) (sym (add-one k)))
