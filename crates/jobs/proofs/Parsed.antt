-- A record is told from its bytes: no two entries have the same, and no list of bytes begins with two.
use Rattle.std.proofs.Common.{◌≡◌, ℕ, ◌+◌, ◌*◌, ◌/◌, ◌%◌, ◌^◌, ◌<◌, cond, eqb, ◌⊎◌, List, [], ◌∷◌, ◌++◌, length, ℤ, pos, negsuc, sym, refl, ap, ◌∙◌, inl, inr, append_assoc, arith, w32, to_z}
use lib.Signed.{mag}
use Rattle.std.specs.List.{AllByRecursion}
use Rattle.std.proofs.lemmas.Int.{to_z-of_z}
use Rattle.jobs.specs.declared.entry.Entry.{Entry}
use Rattle.jobs.specs.declared.entry.Entry.TheVariants as entry
use Rattle.jobs.specs.declared.kind.Kind.{Kind}
use Rattle.jobs.specs.declared.kind.Kind.TheVariants as kind
use Rattle.jobs.specs.Bytes.{two_bytes, unsigned}
use Rattle.jobs.specs.Kinds.{kind_byte, body_length}
use Rattle.jobs.specs.Entries.{kind_of, body_of, record_of, Fits, two_at, four_at, signed_at}
use Rattle.jobs.specs.Files.{written}

-- the kind that a byte tells
kind_at : ℕ → Kind
kind_at n =
    cond (eqb n 1) kind.Head (cond (eqb n 2) kind.Way (cond (eqb n 3) kind.Book (cond (eqb n 4) kind.Route (cond (eqb n 5) kind.Settle
    (cond (eqb n 6) kind.Total (cond (eqb n 7) kind.Prices (cond (eqb n 8) kind.Group kind.Last)))))))

kind_at_byte : (k : Kind) → kind_at (kind_byte k) ≡ k
unfolding kind_at
kind_at_byte kind.Head = refl
kind_at_byte kind.Way = refl
kind_at_byte kind.Book = refl
kind_at_byte kind.Route = refl
kind_at_byte kind.Settle = refl
kind_at_byte kind.Total = refl
kind_at_byte kind.Prices = refl
kind_at_byte kind.Group = refl
kind_at_byte kind.Last = refl

pub one_kind : (j k : Kind) → kind_byte j ≡ kind_byte k → j ≡ k
one_kind j k e = sym (kind_at_byte j) ∙ ap kind_at e ∙ kind_at_byte k

pub length_body : (e : Entry) → length (body_of e) ≡ body_length (kind_of e)
length_body (entry.Head places ways) = refl
length_body (entry.Way tail head limit redraws misfit) = refl
length_body (entry.Book from to amount) = refl
length_body entry.Route = refl
length_body (entry.Settle budget) = refl
length_body entry.Total = refl
length_body entry.Prices = refl
length_body (entry.Group length count) = refl
length_body (entry.Last length count) = refl

-- what a body of a kind says
unfoldable pub entry_at : Kind → List ℕ → Entry
entry_at kind.Head bs = entry.Head (two_at bs 0) (two_at bs 2)
entry_at kind.Way bs = entry.Way (two_at bs 0) (two_at bs 2) (four_at bs 4) (signed_at bs 8) (signed_at bs 12)
entry_at kind.Book bs = entry.Book (two_at bs 0) (two_at bs 2) (four_at bs 4)
entry_at kind.Route bs = entry.Route
entry_at kind.Settle bs = entry.Settle (four_at bs 0)
entry_at kind.Total bs = entry.Total
entry_at kind.Prices bs = entry.Prices
entry_at kind.Group bs = entry.Group (two_at bs 0) (four_at bs 2)
entry_at kind.Last bs = entry.Last (two_at bs 0) (four_at bs 2)

two_back : (n : ℕ) → n < 2 ^ 16 → n / 256 % 256 * 256 + n % 256 ≡ n
two_back n l = omega arith

pub two_same : (m n : ℕ) → m < 2 ^ 16 → n < 2 ^ 16 → two_bytes m ≡ two_bytes n → m ≡ n
two_same m n p q e = sym (two_back m p) ∙ ap (λ bs. two_at bs 0) e ∙ two_back n q

four_back : (n : ℕ) → n < 2 ^ 32 → n / 16777216 % 256 * 16777216 + n / 65536 % 256 * 65536 + n / 256 % 256 * 256 + n % 256 ≡ n
four_back n l =
    let d : n / 256 * 256 + n % 256 ≡ n = omega arith in
    let c : n / 65536 * 256 + n / 256 % 256 ≡ n / 256 = omega arith in
    let b : n / 16777216 * 256 + n / 65536 % 256 ≡ n / 65536 = omega arith in
    let a : n / 16777216 % 256 ≡ n / 16777216 = omega arith in
    omega arith

unsigned_fits : (z : ℤ) → mag z < 2 ^ 31 → (unsigned z < 2 ^ 32) × (to_z w32 (unsigned z) ≡ z)
unsigned_fits (pos n) l = (omega arith, to_z-of_z w32 (pos n) (record { sfits = l }))
unsigned_fits (negsuc n) l = (omega arith, to_z-of_z w32 (negsuc n) (record { sfits = l }))

signed_back : (z : ℤ) → mag z < 2 ^ 31 → to_z w32 (unsigned z / 16777216 % 256 * 16777216 + unsigned z / 65536 % 256 * 65536 + unsigned z / 256 % 256 * 256 + unsigned z % 256) ≡ z
signed_back z l = let f = unsigned_fits z l in ap (to_z w32) (four_back (unsigned z) f.0) ∙ f.1

way_same : {t t' h h' l l' : ℕ} {r r' m m' : ℤ} → t ≡ t' → h ≡ h' → l ≡ l' → r ≡ r' → m ≡ m' → entry.Way t h l r m ≡ entry.Way t' h' l' r' m'
way_same p q s u v = cc

pub entry_back : (e : Entry) → Fits e → entry_at (kind_of e) (body_of e) ≡ e
unfolding entry_at
entry_back (entry.Head places ways) (p, w) = (let a = two_back places p in let b = two_back ways w in cc)
entry_back (entry.Way tail head limit redraws misfit) (t, h, l, r, m) =
    way_same (two_back tail t) (two_back head h) (four_back limit l) (signed_back redraws r) (signed_back misfit m)
entry_back (entry.Book from to amount) (f, t, a) = (let x = two_back from f in let y = two_back to t in let z = four_back amount a in cc)
entry_back entry.Route f = refl
entry_back (entry.Settle budget) b = (let x = four_back budget b in cc)
entry_back entry.Total f = refl
entry_back entry.Prices f = refl
entry_back (entry.Group length count) (l, c) = (let x = two_back length l in let y = four_back count c in cc)
entry_back (entry.Last length count) (l, c) = (let x = two_back length l in let y = four_back count c in cc)

same_fronts : {X : Type 0} (us vs xs ys : List X) → length us ≡ length vs → us ++ xs ≡ vs ++ ys → (us ≡ vs) × (xs ≡ ys)
same_fronts [] [] xs ys l e = (refl, e)
same_fronts [] (v ∷ vs) xs ys l e = absurd (omega arith)
same_fronts (u ∷ us) [] xs ys l e = absurd (omega arith)
same_fronts (u ∷ us) (v ∷ vs) xs ys l e =
    let h : u ≡ v = cc in
    let t : us ++ xs ≡ vs ++ ys = cc in
    let r = same_fronts us vs xs ys (omega arith) t in
    let s = r.0 in
    ((cc), r.1)

-- the bytes of a record, and what follows them, tell the record
pub one_record : (e e' : Entry) (xs ys : List ℕ) → Fits e → Fits e' → record_of e ++ xs ≡ record_of e' ++ ys → (e ≡ e') × (xs ≡ ys)
one_record e e' xs ys f f' q =
    let b : kind_byte (kind_of e) ≡ kind_byte (kind_of e') = cc in
    let k = one_kind (kind_of e) (kind_of e') b in
    let t : body_of e ++ xs ≡ body_of e' ++ ys = cc in
    let l : length (body_of e) ≡ length (body_of e') = length_body e ∙ ap body_length k ∙ sym (length_body e') in
    let s = same_fronts (body_of e) (body_of e') xs ys l t in
    (sym (entry_back e f) ∙ ap (λ j. entry_at j (body_of e)) k ∙ ap (entry_at (kind_of e')) s.0 ∙ entry_back e' f', s.1)

-- of two lists of records with which the same bytes begin, one goes on where the other ends
pub one_goes_on : (es ds : List Entry) (xs ys : List ℕ) → AllByRecursion Fits es → AllByRecursion Fits ds → written es ++ xs ≡ written ds ++ ys →
    ((t : List Entry) × AllByRecursion Fits t × (ds ≡ es ++ t) × (xs ≡ written t ++ ys)) ⊎ ((t : List Entry) × AllByRecursion Fits t × (es ≡ ds ++ t) × (ys ≡ written t ++ xs))
one_goes_on [] ds xs ys f g e = inl (ds, g, refl, e)
one_goes_on (x ∷ es) [] xs ys f g e = inr (x ∷ es, f, refl, sym e)
one_goes_on (x ∷ es) (y ∷ ds) xs ys f g e =
    let r = one_record x y (written es ++ xs) (written ds ++ ys) f.0 g.0 (sym (append_assoc (record_of x) (written es) xs) ∙ e ∙ append_assoc (record_of y) (written ds) ys) in
    let h = r.0 in
    elim (one_goes_on es ds xs ys f.1 g.1 r.1) [
      | inl (t, a, p, q) ↦ inl (t, a, (cc), q)
      | inr (t, a, p, q) ↦ inr (t, a, (cc), q)
    ]
