-- One record more is one line more.
use Rattle.std.proofs.Common.{◌≡◌, ℕ, ◌+◌, List, [], ◌∷◌, ◌++◌, length, sym, ap, ◌∙◌, append_assoc, append-nil, add-zero, zero-add, arith, length-append}
use Rattle.jobs.specs.declared.entry.Entry.{Entry}
use Rattle.jobs.specs.Entries.{record_of}
use Rattle.jobs.specs.Files.{written}
use Rattle.jobs.specs.Listing.{line_of, lines_of}

lines_push : (i o : ℕ) (es : List Entry) (e : Entry) → lines_of i o (es ++ e ∷ []) ≡ lines_of i o es ++ line_of (i + length es) (o + length (written es)) e
lines_push i o [] e = append-nil (line_of i o e) ∙ ap (λ j. line_of j o e) (sym (add-zero i)) ∙ ap (λ p. line_of (i + 0) p e) (sym (add-zero o))
lines_push i o (x ∷ es) e =
    let j : (i + 1) + length es ≡ i + length (x ∷ es) = omega arith in
    let p : (o + length (record_of x)) + length (written es) ≡ o + length (record_of x ++ written es) = simp length-append (omega arith) in
    ap (λ ys. line_of i o x ++ ys) (lines_push (i + 1) (o + length (record_of x)) es e ∙ ap (λ k. lines_of (i + 1) (o + length (record_of x)) es ++ line_of k ((o + length (record_of x)) + length (written es)) e) j
    ∙ ap (λ q. lines_of (i + 1) (o + length (record_of x)) es ++ line_of (i + length (x ∷ es)) q e) p)
    ∙ sym (append_assoc (line_of i o x) (lines_of (i + 1) (o + length (record_of x)) es) _)

pub one_line_more : (i o : ℕ) (es : List Entry) (e : Entry) (text line : List ℕ) → i ≡ length es → o ≡ length (written es) → text ≡ lines_of 0 0 es → line ≡ line_of i o e →
    text ++ line ≡ lines_of 0 0 (es ++ e ∷ [])
one_line_more i o es e text line p q t l =
    let n : line_of i o e ≡ line_of (0 + length es) (0 + length (written es)) e =
    ap (λ k. line_of k o e) (p ∙ sym (zero-add (length es))) ∙ ap (λ k. line_of (0 + length es) k e) (q ∙ sym (zero-add (length (written es)))) in
    ap (λ ys. ys ++ line) t ∙ ap (λ ys. lines_of 0 0 es ++ ys) (l ∙ n) ∙ sym (lines_push 0 0 es e)
