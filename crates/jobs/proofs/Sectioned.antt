-- The ways of a good job stand in the file one after the other, from the sixth byte on, and a file section finds them there.
use Rattle.std.proofs.Common.{◌≡◌, ℕ, ◌+◌, ◌-◌, ◌*◌, ◌^◌, ◌<◌, ◌≤◌, List, [], ◌∷◌, ◌++◌, map, length, get_or, take, drop, ℤ, pos, Some, None, sym, refl, ap, ◌∙◌, subst, append_assoc, zero-add, arith, length-append}
use Rattle.std.specs.List.{slice_get, range_with_len, AllByRecursion}
use Rattle.std.proofs.lemmas.List.FromFn.{length-map-range_with_len, get_or-map-range_with_len}
use Rattle.std.proofs.lemmas.Option.{slice_get-get_or, slice_get_past}
use Rattle.std.proofs.lemmas.List.{take_at, drop_at}
use Rattle.costs.specs.declared.pair.Pair.{Pair}
use Rattle.costs.specs.declared.whole.Whole.{Whole}
use Rattle.networks.specs.Net.{Way, Net}
use Rattle.jobs.specs.declared.entry.Entry.{Entry}
use Rattle.jobs.specs.declared.entry.Entry.TheVariants as entry
use Rattle.jobs.specs.declared.form.Form.TheVariants as form
use Rattle.jobs.specs.declared.kind.Kind.TheVariants as kind
use Rattle.jobs.specs.declared.section.Section.TheVariants as section
use Rattle.jobs.specs.Bytes.{two_bytes}
use Rattle.jobs.specs.Entries.{body_of, record_of, Fits, Spells}
use Rattle.jobs.specs.Files.{written, In, Job, Holds}
use Rattle.jobs.specs.Sections.{cost_of, ways_of, places_of, net_of, way_at}
use Rattle.jobs.proofs.Parsed.{entry_at, entry_back, two_same}

-- an entry of the listing is a way
a_way : (P : Entry → Type 0) → ((t h l : ℕ) (r m : ℤ) → P (entry.Way t h l r m)) → (e : Entry) → In section.Listing e → P e
a_way P p (entry.Way tail head limit redraws misfit) i = p tail head limit redraws misfit
a_way P p (entry.Head places ways) i = cc
a_way P p (entry.Book from to amount) i = cc
a_way P p entry.Route i = cc
a_way P p (entry.Settle budget) i = cc
a_way P p entry.Total i = cc
a_way P p entry.Prices i = cc
a_way P p (entry.Group length count) i = cc
a_way P p (entry.Last length count) i = cc

-- a call is no way
not_a_way : (e : Entry) (es : List Entry) → In section.Calls e → ways_of (e ∷ es) ≡ ways_of es
not_a_way (entry.Way tail head limit redraws misfit) es i = cc
not_a_way (entry.Head places ways) es i = refl
not_a_way (entry.Book from to amount) es i = refl
not_a_way entry.Route es i = refl
not_a_way (entry.Settle budget) es i = refl
not_a_way entry.Total es i = refl
not_a_way entry.Prices es i = refl
not_a_way (entry.Group length count) es i = refl
not_a_way (entry.Last length count) es i = refl

no_ways : (es : List Entry) → AllByRecursion (In section.Calls) es → ways_of es ≡ []
no_ways [] a = refl
no_ways (e ∷ es) a = not_a_way e es a.0 ∙ no_ways es a.1

both_ways : (ws cs : List Entry) → AllByRecursion (In section.Calls) cs → ways_of (ws ++ cs) ≡ ways_of ws
both_ways [] cs a = no_ways cs a
both_ways (entry.Way t h l r m ∷ ws) cs a = ap (λ xs. record { tail = t; head = h; limit = l; cost = cost_of r m } ∷ xs) (both_ways ws cs a)
both_ways (entry.Head places ways ∷ ws) cs a = both_ways ws cs a
both_ways (entry.Book from to amount ∷ ws) cs a = both_ways ws cs a
both_ways (entry.Route ∷ ws) cs a = both_ways ws cs a
both_ways (entry.Settle budget ∷ ws) cs a = both_ways ws cs a
both_ways (entry.Total ∷ ws) cs a = both_ways ws cs a
both_ways (entry.Prices ∷ ws) cs a = both_ways ws cs a
both_ways (entry.Group length count ∷ ws) cs a = both_ways ws cs a
both_ways (entry.Last length count ∷ ws) cs a = both_ways ws cs a

all_front : {X : Type 0} (P : X → Type 0) (xs ys : List X) → AllByRecursion P (xs ++ ys) → AllByRecursion P xs
all_front P [] ys a = tt
all_front P (x ∷ xs) ys a = (a.0, all_front P xs ys a.1)

written_append : (xs ys : List Entry) → written (xs ++ ys) ≡ written xs ++ written ys
written_append [] ys = refl
written_append (x ∷ xs) ys = ap (λ bs. record_of x ++ bs) (written_append xs ys) ∙ sym (append_assoc (record_of x) (written xs) (written ys))

-- each way has 17 bytes
length_ways : (ws : List Entry) → AllByRecursion (In section.Listing) ws → length (written ws) ≡ 17 * length ws
length_ways [] a = refl
length_ways (w ∷ ws) a =
    let h : length (record_of w) ≡ 17 = a_way (λ e. length (record_of e) ≡ 17) (λ t h l r m. refl) w a.0 in
    let k = length_ways ws a.1 in
    simp length-append (omega arith)

-- a way as the network has it
as_way : Entry → Way (Pair Whole Whole)
as_way (entry.Way t h l r m) = record { tail = t; head = h; limit = l; cost = cost_of r m }
as_way (entry.Head places ways) = record { tail = 0; head = 0; limit = 0; cost = cost_of (pos 0) (pos 0) }
as_way (entry.Book from to amount) = record { tail = 0; head = 0; limit = 0; cost = cost_of (pos 0) (pos 0) }
as_way entry.Route = record { tail = 0; head = 0; limit = 0; cost = cost_of (pos 0) (pos 0) }
as_way (entry.Settle budget) = record { tail = 0; head = 0; limit = 0; cost = cost_of (pos 0) (pos 0) }
as_way entry.Total = record { tail = 0; head = 0; limit = 0; cost = cost_of (pos 0) (pos 0) }
as_way entry.Prices = record { tail = 0; head = 0; limit = 0; cost = cost_of (pos 0) (pos 0) }
as_way (entry.Group length count) = record { tail = 0; head = 0; limit = 0; cost = cost_of (pos 0) (pos 0) }
as_way (entry.Last length count) = record { tail = 0; head = 0; limit = 0; cost = cost_of (pos 0) (pos 0) }

way_at_is : (bytes : List ℕ) (i : ℕ) → way_at bytes i ≡ as_way (entry_at kind.Way (take 16 (drop (17 * i + 6) bytes)))
unfolding entry_at as_way
way_at_is bytes i = refl

-- the body that stands after front and a kind byte
body_there : (bytes front body rest : List ℕ) (k i : ℕ) → bytes ≡ front ++ (k ∷ (body ++ rest)) → length front ≡ 17 * i + 5 → length body ≡ 16 → take 16 (drop (17 * i + 6) bytes) ≡ body
body_there bytes front body rest k i e n m =
    let l : length (front ++ k ∷ []) ≡ 17 * i + 6 = simp length-append (omega arith) in
    let p : bytes ≡ (front ++ k ∷ []) ++ (body ++ rest) = e ∙ sym (append_assoc front (k ∷ []) (body ++ rest)) in
    ap (take 16) (ap (drop (17 * i + 6)) p ∙ drop_at (front ++ k ∷ []) (body ++ rest) (17 * i + 6) l) ∙ take_at body rest 16 m

-- the way that stands after front
way_here : (bytes front rest : List ℕ) (i : ℕ) (ws : List Entry) (w : Entry) → length front ≡ 17 * i + 5 → In section.Listing w → Fits w → bytes ≡ front ++ (record_of w ++ rest) →
    way_at bytes i ∷ ways_of ws ≡ ways_of (w ∷ ws)
unfolding as_way
way_here bytes front rest i ws w n j =
    a_way (λ e. Fits e → bytes ≡ front ++ (record_of e ++ rest) → way_at bytes i ∷ ways_of ws ≡ ways_of (e ∷ ws))
    (λ t h l r m f e.
    let there = body_there bytes front (body_of (entry.Way t h l r m)) rest 2 i e n refl in
    ap (λ x. x ∷ ways_of ws) (way_at_is bytes i ∙ ap (λ b. as_way (entry_at kind.Way b)) there ∙ ap as_way (entry_back (entry.Way t h l r m) f)))
    w j

found : (bytes front rest : List ℕ) (i : ℕ) (ws : List Entry) → bytes ≡ front ++ (written ws ++ rest) → length front ≡ 17 * i + 5 → AllByRecursion Fits ws → AllByRecursion (In section.Listing) ws →
    map (way_at bytes) (range_with_len i (length ws)) ≡ ways_of ws
found bytes front rest i [] e n f a = refl
found bytes front rest i (w ∷ ws) e n f a =
    let here = way_here bytes front (written ws ++ rest) i ws w n a.0 f.0 (e ∙ ap (λ bs. front ++ bs) (append_assoc (record_of w) (written ws) rest)) in
    let h : length (record_of w) ≡ 17 = a_way (λ x. length (record_of x) ≡ 17) (λ t h l r m. refl) w a.0 in
    let more = found bytes (front ++ record_of w) rest (i + 1) ws
    (e ∙ ap (λ bs. front ++ bs) (append_assoc (record_of w) (written ws) rest) ∙ sym (append_assoc front (record_of w) (written ws ++ rest)))
    (simp length-append (omega arith)) f.1 a.1 in
    ap (λ xs. way_at bytes i ∷ xs) more ∙ here

-- the way that a record says, where it stands
pub way_said : (bytes : List ℕ) (k : ℕ) (e : Entry) (t h l : ℕ) (r m : ℤ) → Spells kind.Way (take 16 (drop (17 * k + 6) bytes)) e → e ≡ entry.Way t h l r m →
    way_at bytes k ≡ record { tail = t; head = h; limit = l; cost = cost_of r m }
unfolding as_way
way_said bytes k e t h l r m s q =
    way_at_is bytes k ∙ ap as_way (sym (ap (entry_at kind.Way) s.numbers) ∙ sym (ap (λ j. entry_at j (body_of e)) s.kind) ∙ entry_back e s.fits ∙ q)

pub way_asked : (bytes : List ℕ) (n k : ℕ) → k < n → slice_get (map (way_at bytes) (range_with_len 0 n)) k ≡ Some (way_at bytes k)
way_asked bytes n k l =
    let m : k < length (map (way_at bytes) (range_with_len 0 n)) = simp length-map-range_with_len l in
    slice_get-get_or (map (way_at bytes) (range_with_len 0 n)) k (way_at bytes k) m ∙ ap (λ w. Some w) (get_or-map-range_with_len (way_at bytes) 0 n k k (way_at bytes k) l (zero-add k))

pub no_way_asked : (bytes : List ℕ) (n k : ℕ) → n ≤ k → slice_get (map (way_at bytes) (range_with_len 0 n)) k ≡ None
no_way_asked bytes n k l = slice_get_past (map (way_at bytes) (range_with_len 0 n)) k (simp length-map-range_with_len l)

module _ (bytes : List ℕ) (es : List Entry) (h : Holds form.Job bytes es) where
  job : Job es
  job = h.lawful

  told : bytes ≡ record_of (entry.Head job.places (length job.ways)) ++ (written job.ways ++ written job.after)
  told = h.spelled ∙ ap written job.whole ∙ ap (λ bs. record_of (entry.Head job.places (length job.ways)) ++ bs) (written_append job.ways job.after)

  fitting : AllByRecursion Fits (entry.Head job.places (length job.ways) ∷ (job.ways ++ job.after))
  fitting = subst (AllByRecursion Fits) job.whole h.fits

  pub places_told : (n : ℕ) → n < 2 ^ 16 → two_bytes n ≡ get_or bytes 1 0 ∷ get_or bytes 2 0 ∷ [] → n ≡ places_of es
  places_told n l e =
      two_same n job.places l fitting.0.0 (e ∙ ap (λ bs. get_or bs 1 0 ∷ get_or bs 2 0 ∷ []) told) ∙ sym (ap places_of job.whole)

  ways_told : (n : ℕ) → n < 2 ^ 16 → two_bytes n ≡ get_or bytes 3 0 ∷ get_or bytes 4 0 ∷ [] → n ≡ length job.ways
  ways_told n l e = two_same n (length job.ways) l fitting.0.1 (e ∙ ap (λ bs. get_or bs 3 0 ∷ get_or bs 4 0 ∷ []) told)

  pub ways_whole : (n : ℕ) → n < 2 ^ 16 → two_bytes n ≡ get_or bytes 3 0 ∷ get_or bytes 4 0 ∷ [] → 17 * n ≤ length bytes - 5
  ways_whole n l e =
      let k = ways_told n l e in
      let w = length_ways job.ways job.listed in
      let b : length bytes ≡ 5 + (length (written job.ways) + length (written job.after)) = ap length told ∙ (simp length-append (omega arith)) in
      omega arith

  pub ways_found : (n : ℕ) → n < 2 ^ 16 → two_bytes n ≡ get_or bytes 3 0 ∷ get_or bytes 4 0 ∷ [] → map (way_at bytes) (range_with_len 0 n) ≡ ways_of es
  ways_found n l e =
      ap (λ m. map (way_at bytes) (range_with_len 0 m)) (ways_told n l e)
      ∙ found bytes (record_of (entry.Head job.places (length job.ways))) (written job.after) 0 job.ways told refl (all_front Fits job.ways job.after fitting.1) job.listed
      ∙ sym (ap ways_of job.whole ∙ both_ways job.ways job.after job.called)

  pub section_told : (m n : ℕ) → m < 2 ^ 16 → n < 2 ^ 16 → two_bytes m ≡ get_or bytes 1 0 ∷ get_or bytes 2 0 ∷ [] → two_bytes n ≡ get_or bytes 3 0 ∷ get_or bytes 4 0 ∷ [] →
      ◌≡◌ {A = Net (Pair Whole Whole)} (record { places = m; ways = map (way_at bytes) (range_with_len 0 n) }) (net_of es)
  section_told m n k l e f =
      ap (λ p. record { places = p; ways = map (way_at bytes) (range_with_len 0 n) }) (places_told m k e) ∙ ap (λ ws. record { places = places_of es; ways = ws }) (ways_found n l f)
