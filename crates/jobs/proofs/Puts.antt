-- A write to a part of a table puts the bytes there, and leaves the rest.
use Rattle.std.proofs.Common.{◌≡◌, ℕ, ◌+◌, ◌-◌, ◌≤◌, List, [], ◌++◌, length, take, drop, Ok, Err, Result, sym, refl, ap, ◌∙◌, append_assoc, arith, length-append}
use borrow.Rule.Slice.PartMut.{put_mid}
use Rattle.std.specs.Result.{IsOk}
use Rattle.std.proofs.lemmas.List.{drop-drop, take_at, drop_at}
use Rattle.networks.specs.declared.refusal.Refusal.{Refusal}
use Rattle.jobs.specs.Writing.{put_at, Writes}

-- what a write to the part from o to e leaves
pub put_mid_lem : (xs ys bytes : List ℕ) (o e : ℕ) → ys ≡ bytes → e ≡ o + length bytes → put_mid o (e - o) xs ys ≡ put_at xs o bytes
put_mid_lem xs ys bytes o e p q =
    let d = drop-drop (e - o) o xs in
    let n : o + (e - o) ≡ o + length bytes = omega arith in
    ap (λ zs. take o xs ++ (zs ++ drop (e - o) (drop o xs))) p ∙ ap (λ zs. take o xs ++ (bytes ++ zs)) (d ∙ ap (λ m. drop m xs) n)

-- bytes put at the start of a table, and more put after them
pub put_on : (t table xs ys : List ℕ) (o : ℕ) → table ≡ put_at t 0 xs → o ≡ length xs → put_at table o ys ≡ put_at t 0 (xs ++ ys)
put_on t table xs ys o e p =
    let d = drop (0 + length xs) t in
    let front : take o table ≡ xs = ap (λ zs. take o zs) e ∙ take_at xs d o (sym p) in
    let n : (0 + length xs) + length ys ≡ 0 + length (xs ++ ys) = simp length-append (omega arith) in
    let back : drop (o + length ys) table ≡ drop (0 + length (xs ++ ys)) t =
    sym (drop-drop (length ys) o table) ∙ ap (drop (length ys)) (ap (drop o) e ∙ drop_at xs d o (sym p))
    ∙ drop-drop (length ys) (0 + length xs) t ∙ ap (λ m. drop m t) n in
    ap (λ zs. zs ++ (ys ++ drop (o + length ys) table)) front ∙ ap (λ zs. xs ++ (ys ++ zs)) back ∙ sym (append_assoc xs ys _)

-- what fits is written
pub fitting : (bytes table then : List ℕ) (o : ℕ) (r : Result ℕ Refusal) → Writes bytes table o r then → o + length bytes ≤ length table → IsOk r
fitting bytes table then o (Ok end) w l = refl
fitting bytes table then o (Err e) (short, is, same) l = absurd (omega arith)
