-- A load with a potential is the cheapest of those that let the same leave each place.
use Rattle.std.proofs.Common.{◌≡◌, ℕ, ◌+◌, ◌<◌, ◌≤◌, List, get_or, pos, ◌-ℤ◌, sym, ap, ◌∙◌, subst, ap₂, subst₂, arith}
use Rattle.std.proofs.lemmas.Int.{ints}
use Rattle.costs.specs.Group.{Group}
use Rattle.plan.proofs.Flow.{total, times, unit_of, Net, Joined, Keeps, Potential, Ahead, Back, way, count, cost, leaving, out, into}
use Rattle.plan.proofs.Sums.{left_comm, total_same, total_add}
use Rattle.plan.proofs.Costs.{adds, cancel, times_add, times_plus, weigh_all, by_places}

-- a step back at the opposite cost, said without the opposite
pub taken_back : (g : Group) (x y c : g.Carrier) → g.le x (g.plus y (g.opp c)) → g.le (g.plus x c) y
taken_back g x y c h = subst (g.le (g.plus x c)) (g.assoc _ _ _ ∙ ap (g.plus y) (g.comm _ _ ∙ g.inverse c) ∙ unit_of g y) (g.shift _ _ c h)

crossed : (a b c d : ℕ) → pos a -ℤ pos b ≡ pos c -ℤ pos d → c + b ≡ a + d
crossed a b c d e = omega (arith, ints)

pub optimal : (g : Group) (net : Net g) (f f' : List ℕ) (π : ℕ → g.Carrier) →
    Joined net → Potential net f π → Keeps net f' → ((v : ℕ) → v < net.places → leaving net f' v ≡ leaving net f v) → g.le (cost net f) (cost net f')
optimal g net f f' π joined valid keeps' same =
    let m = count net in
    let n = net.places in
    let tail : ℕ → ℕ = λ k. (way net k).tail in
    let head : ℕ → ℕ = λ k. (way net k).head in
    let A : ℕ → g.Carrier = λ k. g.plus (π (tail k)) (way net k).cost in
    let B : ℕ → g.Carrier = λ k. π (head k) in
    let So : List ℕ → g.Carrier = λ l. total g.zero g.plus n (λ v. times g (out net l v) (π v)) in
    let Si : List ℕ → g.Carrier = λ l. total g.zero g.plus n (λ v. times g (into net l v) (π v)) in
    let up : (k : ℕ) → k < m → get_or f k 0 < get_or f' k 0 → g.le (B k) (A k) =
    λ k l more. let w : get_or f' k 0 ≤ (way net k).limit = keeps'.within k l in
    valid (Ahead k) (record { real = l; enough = omega arith }) in
    let down : (k : ℕ) → k < m → get_or f' k 0 < get_or f k 0 → g.le (A k) (B k) =
    λ k l less. taken_back g _ _ _ (valid (Back k) (record { real = l; enough = omega arith })) in
    let main = weigh_all g m (λ k. get_or f k 0) (λ k. get_or f' k 0) A B up down in
    let tails : (l : List ℕ) → total g.zero g.plus m (λ k. times g (get_or l k 0) (A k)) ≡ g.plus (So l) (cost net l) =
    λ l. total_same (adds g) m _ _ (λ k h. times_plus g (get_or l k 0) (π (tail k)) (way net k).cost)
    ∙ total_add (adds g) m _ _
    ∙ ap (λ w. g.plus w (cost net l)) (by_places g m n tail (λ k. get_or l k 0) π joined.tails) in
    let heads : (l : List ℕ) → total g.zero g.plus m (λ k. times g (get_or l k 0) (B k)) ≡ Si l =
    λ l. by_places g m n head (λ k. get_or l k 0) π joined.heads in
    let level : g.plus (So f') (Si f) ≡ g.plus (So f) (Si f') =
    sym (total_add (adds g) n _ _)
    ∙ total_same (adds g) n _ _ (λ v l. sym (times_add g (out net f' v) (into net f v) (π v)) ∙ ap (λ k. times g k (π v)) (sym (crossed _ _ _ _ (same v l))) ∙ times_add g (out net f v) (into net f' v) (π v))
    ∙ total_add (adds g) n _ _ in
    let aside : (s c i : g.Carrier) → g.plus (g.plus s c) i ≡ g.plus c (g.plus s i) =
    λ s c i. simp (g.assoc, left_comm (adds g)) in
    cancel g (cost net f) (cost net f') (g.plus (So f) (Si f'))
    (subst₂ g.le (ap₂ g.plus (tails f) (heads f') ∙ aside _ _ _) (ap₂ g.plus (tails f') (heads f) ∙ aside _ _ _ ∙ ap (g.plus (cost net f')) level) main)
