-- A reader's stage tells which records may come next, and whether the file may end.
use Rattle.std.proofs.Common.{◌≡◌, ℕ, zero, suc, ◌+◌, ◌-◌, ◌<◌, ◌≤◌, Bool, true, false, cond, eqb, List, [], ◌∷◌, ◌++◌, length, replicate, pos, sym, refl, ap, ◌∙◌, subst, append_assoc, append-nil, zero-add, arith, length-append}
use lib.ListN.{length-replicate}
use Rattle.std.specs.List.{AllByRecursion}
use Rattle.std.proofs.ByRecursion.{All-append, All-push}
use Rattle.jobs.specs.declared.entry.Entry.{Entry}
use Rattle.jobs.specs.declared.entry.Entry.TheVariants as entry
use Rattle.jobs.specs.declared.form.Form.{Form}
use Rattle.jobs.specs.declared.form.Form.TheVariants as form
use Rattle.jobs.specs.declared.kind.Kind.{Kind}
use Rattle.jobs.specs.declared.kind.Kind.TheVariants as kind
use Rattle.jobs.specs.declared.reader.Stage.{Stage}
use Rattle.jobs.specs.declared.reader.Stage.TheVariants.{Head, Ways, Calls, Sizes}
use Rattle.jobs.specs.declared.section.Section.{Section}
use Rattle.jobs.specs.declared.section.Section.TheVariants as section
use Rattle.jobs.specs.Kinds.{section_of}
use Rattle.jobs.specs.Entries.{kind_of}
use Rattle.jobs.specs.Files.{In, Job, Lawful, InPlace}
use Rattle.jobs.specs.Reading.{ways_told, Listing, Due, due_section, complete, listing, after}

-- an entry of each kind
sample : Kind → Entry
sample kind.Head = entry.Head 0 0
sample kind.Way = entry.Way 0 0 0 (pos 0) (pos 0)
sample kind.Book = entry.Book 0 0 0
sample kind.Route = entry.Route
sample kind.Settle = entry.Settle 0
sample kind.Total = entry.Total
sample kind.Prices = entry.Prices
sample kind.Group = entry.Group 0 0
sample kind.Last = entry.Last 0 0

kind_of_sample : (k : Kind) → kind_of (sample k) ≡ k
unfolding sample
kind_of_sample kind.Head = refl
kind_of_sample kind.Way = refl
kind_of_sample kind.Book = refl
kind_of_sample kind.Route = refl
kind_of_sample kind.Settle = refl
kind_of_sample kind.Total = refl
kind_of_sample kind.Prices = refl
kind_of_sample kind.Group = refl
kind_of_sample kind.Last = refl

in_sample : (k : Kind) (s : Section) → section_of k ≡ s → In s (sample k)
in_sample k s e = ap section_of (kind_of_sample k) ∙ e

-- an entry of the heading is a head
a_head : (e : Entry) → In section.Heading e → (places : ℕ) × (e ≡ entry.Head places (ways_told e))
a_head (entry.Head places ways) i = (places, refl)
a_head (entry.Way tail head limit redraws misfit) i = cc
a_head (entry.Book from to amount) i = cc
a_head entry.Route i = cc
a_head (entry.Settle budget) i = cc
a_head entry.Total i = cc
a_head entry.Prices i = cc
a_head (entry.Group length count) i = cc
a_head (entry.Last length count) i = cc

-- the element between two parts lies in the first or in the second of another two, by its place
pub in_first : {X : Type 0} (P : X → Type 0) (xs us : List X) (x : X) (ys vs : List X) → xs ++ x ∷ ys ≡ us ++ vs → length xs < length us → AllByRecursion P us → P x
in_first P [] [] x ys vs e l a = absurd (omega arith)
in_first P [] (u ∷ us) x ys vs e l a = let h : x ≡ u = cc in subst P (sym h) a.0
in_first P (y ∷ xs) [] x ys vs e l a = absurd (omega arith)
in_first P (y ∷ xs) (u ∷ us) x ys vs e l a = let h : xs ++ x ∷ ys ≡ us ++ vs = cc in in_first P xs us x ys vs h (omega arith) a.1

in_second : {X : Type 0} (P : X → Type 0) (xs us : List X) (x : X) (ys vs : List X) → xs ++ x ∷ ys ≡ us ++ vs → length us ≤ length xs → AllByRecursion P vs → P x
in_second P [] [] x ys [] e l a = cc
in_second P [] [] x ys (v ∷ vs) e l a = let h : x ≡ v = cc in subst P (sym h) a.0
in_second P [] (u ∷ us) x ys vs e l a = absurd (omega arith)
in_second P (y ∷ xs) [] x ys [] e l a = cc
in_second P (y ∷ xs) [] x ys (v ∷ vs) e l a = let h : xs ++ x ∷ ys ≡ vs = cc in in_second P xs [] x ys vs h (omega arith) a.1
in_second P (y ∷ xs) (u ∷ us) x ys vs e l a = let h : xs ++ x ∷ ys ≡ us ++ vs = cc in in_second P xs us x ys vs h (omega arith) a

-- so many ways
ways_due : ℕ → List Entry
ways_due n = replicate n (sample kind.Way)

ways_due_listed : (n : ℕ) → AllByRecursion (In section.Listing) (ways_due n)
unfolding ways_due
ways_due_listed zero = tt
ways_due_listed (suc n) = (in_sample kind.Way section.Listing refl, ways_due_listed n)

length_ways_due : (n : ℕ) → length (ways_due n) ≡ n
unfolding ways_due
length_ways_due n = length-replicate n _

-- a job that was begun so, and is made whole by the ways ws
made_whole : (p n : ℕ) (es xs ys ws : List Entry) → es ≡ entry.Head p n ∷ xs → n ≡ length ws → xs ++ ys ≡ ws → AllByRecursion (In section.Listing) ws → Job (es ++ ys)
made_whole p n es xs ys ws d l w a =
    record { places = p; ways = ws; after = []; whole = (cc (append-nil ws)); listed = a; called = tt }

-- one more call, or one more size
calls_more : (es : List Entry) (e : Entry) → Job es → In section.Calls e → Job (es ++ e ∷ [])
calls_more es e j i =
    record {
      places = j.places;
      ways = j.ways;
      after = j.after ++ e ∷ [];
      whole = (cc (append_assoc j.ways j.after (e ∷ [])));
      listed = j.listed;
      called = All-push _ j.after e j.called i;
    }

-- where left ways are due, a way and as many as are then due
way_more : (left : ℕ) (es : List Entry) (e : Entry) → Listing left es → In section.Listing e → Job (es ++ e ∷ ways_due (left - 1))
way_more left es e d i =
    let ws = d.ways ++ e ∷ ways_due (left - 1) in
    made_whole d.places (length d.ways + left) es d.ways (e ∷ ways_due (left - 1)) ws d.whole
    (simp (length-append, length_ways_due) (omega arith)) refl
    (All-append _ d.ways (e ∷ ways_due (left - 1)) d.listed (i, ways_due_listed (left - 1)))

-- a head with its ways, where nothing stands before
head_first : (p w : ℕ) (es ws : List Entry) (e : Entry) → es ≡ [] → e ≡ entry.Head p w → w ≡ length ws → es ++ e ∷ ws ≡ entry.Head p (length ws) ∷ ws
head_first p w es ws e d h l = ap (λ ys. ys ++ e ∷ ws) d ∙ ap (λ x. x ∷ ws) (h ∙ ap (entry.Head p) l)

head_more : (es : List Entry) (e : Entry) → es ≡ [] → In section.Heading e → Job (es ++ e ∷ ways_due (ways_told e))
head_more es e d i =
    let h = a_head e i in
    record {
      places = h.0;
      ways = ways_due (ways_told e);
      after = [];
      whole =
          head_first h.0 (ways_told e) es (ways_due (ways_told e)) e d h.1 (sym (length_ways_due (ways_told e)))
          ∙ ap (λ ws. entry.Head h.0 (length (ways_due (ways_told e))) ∷ ws) (sym (append-nil (ways_due (ways_told e))));
      listed = ways_due_listed (ways_told e);
      called = tt;
    }

-- what is due may come
pub may_come : (f : Form) (s : Stage) (es : List Entry) (k : Kind) → Due f s es → section_of k ≡ due_section s → InPlace f es k
may_come form.Job Head es k d i =
    (sample k, ways_due (ways_told (sample k)), kind_of_sample k, head_more es (sample k) d (in_sample k section.Heading i))
may_come form.Job (Ways left) es k d i =
    (sample k, ways_due (left - 1), kind_of_sample k, way_more left es (sample k) d (in_sample k section.Listing i))
may_come form.Job Calls es k d i = (sample k, [], kind_of_sample k, calls_more es (sample k) d (in_sample k section.Calls i))
may_come form.Job Sizes es k d i = absurd d
may_come form.Grid Head es k d i = absurd d
may_come form.Grid (Ways left) es k d i = absurd d
may_come form.Grid Calls es k d i = absurd d
may_come form.Grid Sizes es k d i = (sample k, [], kind_of_sample k, All-push _ es (sample k) d (in_sample k section.Sizes i))

-- and nothing else
pub only_due : (f : Form) (s : Stage) (es : List Entry) (k : Kind) → Due f s es → InPlace f es k → section_of k ≡ due_section s
only_due form.Job Head es k d (e, more, q, j) =
    let h : e ≡ entry.Head j.places (length j.ways) = cc (d, j.whole) in
    sym (ap section_of q) ∙ ap (λ x. section_of (kind_of x)) h
only_due form.Job (Ways left) es k d (e, more, q, j) =
    let h : d.ways ++ e ∷ more ≡ j.ways ++ j.after = cc (d.whole, j.whole) in
    let l : length d.ways + left ≡ length j.ways = cc (d.whole, j.whole) in
    let some = d.some in
    sym (ap section_of q) ∙ in_first (In section.Listing) d.ways j.ways e more j.after h (omega arith) j.listed
only_due form.Job Calls es k d (e, more, q, j) =
    let h : (d.ways ++ d.after) ++ e ∷ more ≡ j.ways ++ j.after = cc (d.whole, j.whole) in
    let l : length d.ways ≡ length j.ways = cc (d.whole, j.whole) in
    let m : length j.ways ≤ length (d.ways ++ d.after) = simp length-append (omega arith) in
    sym (ap section_of q) ∙ in_second (In section.Calls) (d.ways ++ d.after) j.ways e more j.after h m j.called
only_due form.Job Sizes es k d i = absurd d
only_due form.Grid Head es k d i = absurd d
only_due form.Grid (Ways left) es k d i = absurd d
only_due form.Grid Calls es k d i = absurd d
only_due form.Grid Sizes es k d (e, more, q, a) =
    sym (ap section_of q) ∙ in_second (In section.Sizes) es [] e more (es ++ e ∷ more) refl (omega arith) a

-- the file may end where nothing is missing
pub may_end : (f : Form) (s : Stage) (es : List Entry) → Due f s es → complete s ≡ true → Lawful f es
may_end form.Job Head es d c = cc
may_end form.Job (Ways left) es d c = cc
may_end form.Job Calls es d c = d
may_end form.Job Sizes es d c = absurd d
may_end form.Grid Head es d c = absurd d
may_end form.Grid (Ways left) es d c = absurd d
may_end form.Grid Calls es d c = absurd d
may_end form.Grid Sizes es d c = d

-- and only there
pub not_yet : (f : Form) (s : Stage) (es : List Entry) → Due f s es → complete s ≡ false → Lawful f es → ⊥
not_yet form.Job Head es d c j = cc (d, j.whole)
not_yet form.Job (Ways left) es d c j =
    let h : d.ways ≡ j.ways ++ j.after = cc (d.whole, j.whole) in
    let l : length d.ways + left ≡ length j.ways = cc (d.whole, j.whole) in
    let some = d.some in
    omega (arith, simp length-append at (ap length h))
not_yet form.Job Calls es d c j = cc
not_yet form.Job Sizes es d c j = d
not_yet form.Grid Head es d c j = d
not_yet form.Grid (Ways left) es d c j = d
not_yet form.Grid Calls es d c j = d
not_yet form.Grid Sizes es d c j = cc

-- a kind that is due
due_kind : Stage → Kind
due_kind Head = kind.Head
due_kind (Ways left) = kind.Way
due_kind Calls = kind.Route
due_kind Sizes = kind.Group

due_kind_due : (s : Stage) → section_of (due_kind s) ≡ due_section s
unfolding due_kind
due_kind_due Head = refl
due_kind_due (Ways left) = refl
due_kind_due Calls = refl
due_kind_due Sizes = refl

-- some good file goes on from here
pub goes_on : (f : Form) (s : Stage) (es : List Entry) → Due f s es → (more : List Entry) × Lawful f (es ++ more)
goes_on f s es d =
    let p = may_come f s es (due_kind s) d (due_kind_due s) in
    (p.0 ∷ p.1, p.3)

listing_due : (left : ℕ) (es : List Entry) → (left ≡ 0 → Job es) → (0 < left → Listing left es) → Due form.Job (listing left) es
listing_due zero es done more = done refl
listing_due (suc n) es done more =
    let t : eqb (suc n) 0 ≡ false = grind arith in
    let P : Bool → Type 0 = λ b. Due form.Job (cond b Calls (Ways (suc n))) es in
    subst P (sym t) (more (omega arith))

-- what is due after a record that was
pub due_after : (f : Form) (s : Stage) (es : List Entry) (e : Entry) → Due f s es → In (due_section s) e → Due f (after s e) (es ++ e ∷ [])
due_after form.Job Head es e d i =
    let h = a_head e i in
    listing_due (ways_told e) (es ++ e ∷ [])
    (λ z. record { places = h.0; ways = []; after = []; whole = head_first h.0 (ways_told e) es [] e d h.1 z; listed = tt; called = tt })
    (λ l. record { places = h.0; ways = []; whole = ap (λ ys. ys ++ e ∷ []) d ∙ ap (λ x. x ∷ []) (h.1 ∙ ap (entry.Head h.0) (sym (zero-add (ways_told e)))); listed = tt; some = l })
due_after form.Job (Ways left) es e d i =
    listing_due (left - 1) (es ++ e ∷ [])
    (λ z. made_whole d.places (length d.ways + left) es d.ways (e ∷ []) (d.ways ++ e ∷ []) d.whole
    (let some = d.some in simp length-append (omega arith)) refl (All-push _ d.ways e d.listed i))
    (λ l. record { places = d.places; ways = d.ways ++ e ∷ []; whole = (let n : length d.ways + left ≡ length (d.ways ++ e ∷ []) + (left - 1) = simp length-append (omega arith) in cc d.whole); listed = All-push _ d.ways e d.listed i; some = l })
due_after form.Job Calls es e d i = calls_more es e d i
due_after form.Job Sizes es e d i = absurd d
due_after form.Grid Head es e d i = absurd d
due_after form.Grid (Ways left) es e d i = absurd d
due_after form.Grid Calls es e d i = absurd d
due_after form.Grid Sizes es e d i = All-push _ es e d i
