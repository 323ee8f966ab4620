-- No good file has a fault, and any other has exactly one.
use Rattle.std.proofs.Common.{◌≡◌, ℕ, List, [], ◌∷◌, ◌++◌, length, sym, refl, ap, ◌∙◌, subst, inl, inr, append_assoc, append-nil, arith, length-append}
use Rattle.jobs.specs.declared.entry.Entry.{Entry}
use Rattle.jobs.specs.declared.form.Form.{Form}
use Rattle.networks.specs.declared.refusal.Refusal.{Refusal}
use Rattle.jobs.specs.Kinds.{body_length}
use Rattle.jobs.specs.Entries.{kind_of, body_of, record_of}
use Rattle.jobs.specs.Files.{written, Lawful, Good, InPlace, Wrong, unknown, misplaced, cut, missing, Faulty, too_long, after}
use Rattle.jobs.proofs.Parsed.{one_kind, length_body, one_goes_on}

-- where something is wrong, no record that is in place stands
stuck : (f : Form) (es : List Entry) (xs zs : List ℕ) (r : Refusal) (e : Entry) → Wrong f es xs r → xs ≡ record_of e ++ zs → InPlace f es (kind_of e) → ⊥
stuck f es _ zs _ e (unknown b rest never) q p = never (kind_of e) (cc)
stuck f es _ zs _ e (misplaced k rest never) q p =
    let h = one_kind k (kind_of e) (cc) in
    never (subst (InPlace f es) (sym h) p)
stuck f es _ zs _ e (cut k rest i l) q p =
    let h = one_kind k (kind_of e) (cc) in
    let t : rest ≡ body_of e ++ zs = cc in
    let m = length_body e ∙ ap body_length (sym h) in
    omega (arith, simp length-append at (ap length t))
stuck f es _ zs _ e (missing never) q p = cc

-- and one thing is wrong
one_wrong : (f : Form) (es : List Entry) (xs ys : List ℕ) (r q : Refusal) → Wrong f es xs r → Wrong f es ys q → xs ≡ ys → r ≡ q
one_wrong f es _ _ _ _ (unknown b rest never) (unknown b' rest' never') e = refl
one_wrong f es _ _ _ _ (unknown b rest never) (misplaced k rest' never') e = absurd (never k (cc))
one_wrong f es _ _ _ _ (unknown b rest never) (cut k rest' i l) e = absurd (never k (cc))
one_wrong f es _ _ _ _ (unknown b rest never) (missing never') e = cc
one_wrong f es _ _ _ _ (misplaced k rest never) (unknown b' rest' never') e = absurd (never' k (cc))
one_wrong f es _ _ _ _ (misplaced k rest never) (misplaced k' rest' never') e = refl
one_wrong f es _ _ _ _ (misplaced k rest never) (cut k' rest' i l) e = absurd (never (subst (InPlace f es) (one_kind k' k (cc)) i))
one_wrong f es _ _ _ _ (misplaced k rest never) (missing never') e = cc
one_wrong f es _ _ _ _ (cut k rest i l) (unknown b' rest' never') e = absurd (never' k (cc))
one_wrong f es _ _ _ _ (cut k rest i l) (misplaced k' rest' never') e = absurd (never' (subst (InPlace f es) (one_kind k k' (cc)) i))
one_wrong f es _ _ _ _ (cut k rest i l) (cut k' rest' i' l') e = refl
one_wrong f es _ _ _ _ (cut k rest i l) (missing never') e = refl
one_wrong f es _ _ _ _ (missing never) (unknown b' rest' never') e = cc
one_wrong f es _ _ _ _ (missing never) (misplaced k rest' never') e = cc
one_wrong f es _ _ _ _ (missing never) (cut k rest' i l) e = refl
one_wrong f es _ _ _ _ (missing never) (missing never') e = refl

-- the end of the bytes is no fault of records that make a good file
not_wrong_at_end : (f : Form) (es : List Entry) (xs : List ℕ) (r : Refusal) → Wrong f es xs r → xs ≡ [] → Lawful f es → ⊥
not_wrong_at_end f es _ _ (unknown b rest never) e l = cc
not_wrong_at_end f es _ _ (misplaced k rest never) e l = cc
not_wrong_at_end f es _ _ (cut k rest i m) e l = cc
not_wrong_at_end f es _ _ (missing never) e l = never l

-- the records that follow others are in place there
in_place : (f : Form) (es ds t : List Entry) (e : Entry) → ds ≡ es ++ e ∷ t → Lawful f ds → InPlace f es (kind_of e)
in_place f es ds t e q l = (e, t, refl, subst (Lawful f) q l)

-- the same bytes after a record and the records that follow it
after_record : (e : Entry) (t : List Entry) (xs ys : List ℕ) → xs ≡ written (e ∷ t) ++ ys → xs ≡ record_of e ++ (written t ++ ys)
after_record e t xs ys q = q ∙ append_assoc (record_of e) (written t) ys

pub no_fault : (f : Form) (bytes : List ℕ) (r : Refusal) (o : ℕ) → Faulty f bytes r o → Good f bytes → ⊥
no_fault f bytes _ _ (too_long l) (es, h) = let s = h.short in omega arith
no_fault f bytes _ _ (after ds rest r b w) (es, h) =
    elim (one_goes_on ds es rest [] b.fits h.fits (sym b.spelled ∙ h.spelled ∙ sym (append-nil (written es)))) [
      | inl ([], a, p, q) ↦ not_wrong_at_end f ds rest r w q (subst (Lawful f) (p ∙ append-nil ds) h.lawful)
      | inl (e ∷ t, a, p, q) ↦ stuck f ds rest _ r e w (after_record e t rest [] q) (in_place f ds es t e p h.lawful)
      | inr ([], a, p, q) ↦ not_wrong_at_end f ds rest r w (sym q) (subst (Lawful f) (sym (append-nil es) ∙ sym p) h.lawful)
      | inr (e ∷ t, a, p, q) ↦ cc
    ]

-- two faults of one file are after the same records
meet : (f : Form) (es ds : List Entry) (xs ys : List ℕ) (r q : Refusal) → Wrong f es xs r → Wrong f ds ys q → (more : List Entry) × Lawful f (ds ++ more) →
    (t : List Entry) → ds ≡ es ++ t → xs ≡ written t ++ ys → (r ≡ q) × (es ≡ ds)
meet f es ds xs ys r q w v l [] p e =
    let h : es ≡ ds = sym (p ∙ append-nil es) in
    (one_wrong f ds xs ys r q (subst (λ cs. Wrong f cs xs r) h w) v e, h)
meet f es ds xs ys r q w v (more, l) (x ∷ t) p e =
    absurd (stuck f es xs _ r x w (after_record x t xs ys e) (in_place f es (ds ++ more) (t ++ more) x (ap (λ cs. cs ++ more) p ∙ append_assoc es (x ∷ t) more) l))

pub one_fault : (f : Form) (bytes : List ℕ) (r q : Refusal) (o p : ℕ) → Faulty f bytes r o → Faulty f bytes q p → (r ≡ q) × (o ≡ p)
one_fault f bytes _ _ _ _ (too_long l) (too_long m) = (refl, refl)
one_fault f bytes _ _ _ _ (too_long l) (after es rest r b w) = absurd (let s = b.short in omega arith)
one_fault f bytes _ _ _ _ (after es rest r b w) (too_long l) = absurd (let s = b.short in omega arith)
one_fault f bytes _ _ _ _ (after es xs r b w) (after ds ys q c v) =
    elim (one_goes_on es ds xs ys b.fits c.fits (sym b.spelled ∙ c.spelled)) [
      | inl (t, a, p, e) ↦ let m = meet f es ds xs ys r q w v c.lawful t p e in (m.0, ap (λ cs. length (written cs)) m.1)
      | inr (t, a, p, e) ↦ let m = meet f ds es ys xs q r v w b.lawful t p e in (sym m.0, ap (λ cs. length (written cs)) (sym m.1))
    ]
