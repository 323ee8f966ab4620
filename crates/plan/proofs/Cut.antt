-- No load takes more out of a set that no open step leaves.
use Rattle.std.proofs.Common.{◌≡◌, ℕ, zero, suc, ◌<◌, ◌≤◌, Bool, true, false, cond, List, get_or, ℤ, pos, ◌+ℤ◌, ◌-ℤ◌, ◌≤ℤ◌, ◌<ℤ◌, sym, refl, ap, ◌∙◌, subst, ap₂, subst₂, ⊎_elim, arith}
use Rattle.std.proofs.lemmas.Int.{ints}
use Rattle.std.proofs.lemmas.Bool.{cases_eq}
use Rattle.costs.specs.Group.{Group}
use Rattle.plan.proofs.Flow.{total, times, Net, Joined, Keeps, Closed, Ahead, Back, way, count, leaving, out, into, over}
use Rattle.costs.specs.Whole.{whole_group}
use Rattle.plan.proofs.Sums.{total_same, total_add}
use Rattle.plan.proofs.Costs.{adds, weigh_all, by_places}

-- 1 in the set, and 0 outside
abbrev mark : Bool → ℤ
mark b = cond b (pos 1) (pos 0)

mark_le : (a b : Bool) → (a ≡ true → b ≡ true) → mark a ≤ℤ mark b
mark_le true b h = subst (λ c. pos 1 ≤ℤ mark c) (sym (h refl)) (omega (arith, ints))
mark_le false true h = omega (arith, ints)
mark_le false false h = omega (arith, ints)

times_mark : (n : ℕ) (b : Bool) → times whole_group n (mark b) ≡ cond b (pos n) (pos 0)
times_mark zero true = refl
times_mark zero false = refl
times_mark (suc n) true = ap (λ z. z +ℤ pos 1) (times_mark n true) ∙ omega (arith, ints)
times_mark (suc n) false = ap (λ z. z +ℤ pos 0) (times_mark n false)

difference : (a c : ℕ) (b : Bool) → cond b (pos a -ℤ pos c) (pos 0) +ℤ cond b (pos c) (pos 0) ≡ cond b (pos a) (pos 0)
difference a c true = omega (arith, ints)
difference a c false = refl

module _ {g : Group} (net : Net g) (R : ℕ → Bool) where
  abbrev outs : List ℕ → ℤ
  outs l = total (pos 0) ◌+ℤ◌ net.places (λ v. times whole_group (out net l v) (mark (R v)))

  abbrev ins : List ℕ → ℤ
  ins l = total (pos 0) ◌+ℤ◌ net.places (λ v. times whole_group (into net l v) (mark (R v)))

  over_is : (l : List ℕ) → over R net.places (leaving net l) +ℤ ins l ≡ outs l
  over_is l =
      sym (total_add (adds whole_group) net.places _ _)
      ∙ total_same (adds whole_group) net.places _ _
      (λ v h. ap (λ z. cond (R v) (leaving net l v) (pos 0) +ℤ z) (times_mark (into net l v) (R v)) ∙ difference (out net l v) (into net l v) (R v) ∙ sym (times_mark (out net l v) (R v)))

cut : (g : Group) (net : Net g) (f f' : List ℕ) (R : ℕ → Bool) → Joined net → Closed net f R → Keeps net f' →
    over R net.places (leaving net f') ≤ℤ over R net.places (leaving net f)
cut g net f f' R joined closed keeps' =
    let m = count net in
    let n = net.places in
    let tail : ℕ → ℕ = λ k. (way net k).tail in
    let head : ℕ → ℕ = λ k. (way net k).head in
    let A : ℕ → ℤ = λ k. mark (R (head k)) in
    let B : ℕ → ℤ = λ k. mark (R (tail k)) in
    let up : (k : ℕ) → k < m → get_or f k 0 < get_or f' k 0 → B k ≤ℤ A k =
    λ k l more. let w : get_or f' k 0 ≤ (way net k).limit = keeps'.within k l in
    mark_le _ _ (closed (Ahead k) (record { real = l; enough = omega arith })) in
    let down : (k : ℕ) → k < m → get_or f' k 0 < get_or f k 0 → A k ≤ℤ B k =
    λ k l less. mark_le _ _ (closed (Back k) (record { real = l; enough = omega arith })) in
    let main = weigh_all whole_group m (λ k. get_or f k 0) (λ k. get_or f' k 0) A B up down in
    let tails : (l : List ℕ) → total (pos 0) ◌+ℤ◌ m (λ k. times whole_group (get_or l k 0) (B k)) ≡ outs net R l =
    λ l. by_places whole_group m n tail (λ k. get_or l k 0) (λ v. mark (R v)) joined.tails in
    let heads : (l : List ℕ) → total (pos 0) ◌+ℤ◌ m (λ k. times whole_group (get_or l k 0) (A k)) ≡ ins net R l =
    λ l. by_places whole_group m n head (λ k. get_or l k 0) (λ v. mark (R v)) joined.heads in
    let main' : (ins net R f +ℤ outs net R f') ≤ℤ (ins net R f' +ℤ outs net R f) =
    subst₂ ◌≤ℤ◌ (ap₂ ◌+ℤ◌ (heads f) (tails f')) (ap₂ ◌+ℤ◌ (heads f') (tails f)) main in
    close (ins net R f) (outs net R f) (ins net R f') (outs net R f') _ _ (over_is net R f) (over_is net R f') main'
  where
    close : (i o i' o' x y : ℤ) → x +ℤ i ≡ o → y +ℤ i' ≡ o' → (i +ℤ o') ≤ℤ (i' +ℤ o) → y ≤ℤ x
    close i o i' o' x y p q h = omega (arith, ints)

no_less : (n : ℕ) (t : ℕ → ℤ) → ((v : ℕ) → v < n → pos 0 ≤ℤ t v) → pos 0 ≤ℤ total (pos 0) ◌+ℤ◌ n t
no_less zero t h = omega (arith, ints)
no_less (suc n) t h =
    let p : pos 0 ≤ℤ total (pos 0) ◌+ℤ◌ n t = no_less n t (λ v l. h v (omega arith)) in
    let q : pos 0 ≤ℤ t n = h n (omega arith) in
    omega (arith, ints)

some_more : (n u : ℕ) (t : ℕ → ℤ) → ((v : ℕ) → v < n → pos 0 ≤ℤ t v) → u < n → pos 0 <ℤ t u → pos 0 <ℤ total (pos 0) ◌+ℤ◌ n t
some_more zero u t h l p = absurd (omega arith)
some_more (suc n) u t h l p =
    ⊎_elim
    (λ e. let q : pos 0 ≤ℤ total (pos 0) ◌+ℤ◌ n t = no_less n t (λ v l. h v (omega arith)) in
    let r : pos 0 <ℤ t n = rw e at p in
    omega (arith, ints))
    (λ ne. let q : pos 0 <ℤ total (pos 0) ◌+ℤ◌ n t = some_more n u t (λ v l. h v (omega arith)) (omega arith) p in
    let r : pos 0 ≤ℤ t n = h n (omega arith) in
    omega (arith, ints))
    (cases_eq u n)

-- so where such a set has a rest to send out, no load meets the bookings b
pub short : (g : Group) (net : Net g) (f f' : List ℕ) (R : ℕ → Bool) (b rest : ℕ → ℤ) (u : ℕ) →
    Joined net → Closed net f R →
    ((v : ℕ) → v < net.places → b v ≡ leaving net f v +ℤ rest v) →
    ((v : ℕ) → v < net.places → R v ≡ true → pos 0 ≤ℤ rest v) →
    u < net.places → R u ≡ true → pos 0 <ℤ rest u →
    Keeps net f' → ((v : ℕ) → v < net.places → leaving net f' v ≡ b v) → ⊥
short g net f f' R b rest u joined closed booked none-short un ru over_zero keeps' meets =
    let n = net.places in
    let most = cut g net f f' R joined closed keeps' in
    let is : over R n (leaving net f') ≡ over R n (leaving net f) +ℤ over R n rest =
    total_same (adds whole_group) n _ _ (λ v l. ap (λ z. cond (R v) z (pos 0)) (meets v l ∙ booked v l) ∙ parted (R v) _ _)
    ∙ total_add (adds whole_group) n _ _ in
    let more : pos 0 <ℤ over R n rest =
    some_more n u _ (λ v l. at_least (R v) (rest v) (none-short v l)) un (rw ru over_zero) in
    clash _ _ _ is more most
  where
    parted : (c : Bool) (x y : ℤ) → cond c (x +ℤ y) (pos 0) ≡ cond c x (pos 0) +ℤ cond c y (pos 0)
    parted true x y = refl
    parted false x y = refl

    at_least : (c : Bool) (x : ℤ) → (c ≡ true → pos 0 ≤ℤ x) → pos 0 ≤ℤ cond c x (pos 0)
    at_least true x h = h refl
    at_least false x h = omega (arith, ints)

    clash : (x y z : ℤ) → x ≡ y +ℤ z → pos 0 <ℤ z → x ≤ℤ y → ⊥
    clash x y z e p q = omega (arith, ints)
