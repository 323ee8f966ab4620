-- Following the noted steps back from a place comes to where the search began, along a cheapest route.
use Rattle.std.proofs.Common.{◌≡◌, ℕ, ◌<◌, ◌≤◌, min, true, ◌⊎◌, List, [], ◌∷◌, ◌++◌, reverse, length, get_or, Some, None, sym, refl, ap, ◌∙◌, subst, ⊎_elim, arith}
use lib.ListN.{length-reverse}
use Rattle.std.specs.List.{slice_get, AllByRecursion}
use Rattle.std.proofs.ByRecursion.{All-weaker}
use Rattle.std.proofs.lemmas.List.{reverse-append}
use Rattle.std.proofs.lemmas.Option.{slice_get_read}
use Rattle.costs.specs.Kind.{Kind}
use Rattle.networks.specs.Net.{Net}
use Rattle.plan.specs.declared.note.Note.{Note}
use Rattle.plan.specs.declared.note.Note.TheVariants.{Unseen, Start, Via}
use Rattle.plan.specs.declared.step.Step.{Step}
use Rattle.plan.specs.Entries.{Work, tables, front, entry}
use Rattle.plan.specs.Rounds.{Came}
use Rattle.plan.specs.Searches.{Searched}
use Rattle.plan.specs.Steps.{Gives, Leads, there, then, Route}
use Rattle.plan.specs.Trails.{Ended, Trailed}
use Rattle.plan.proofs.Flow.{unit_of}
use Rattle.plan.proofs.Bridge.{given}
use Rattle.plan.proofs.Walks.{one_step, HasRoom, leads_rooms, rooms_lead, walk_inside, route_short}
use Rattle.plan.proofs.Found.{Distances}
use Rattle.plan.proofs.Rising.{Rising, rising_apart}

-- one step more on a path is the first of the route
path_more : (path : List Step) (s : Step) → reverse (path ++ s ∷ []) ≡ s ∷ reverse path
path_more path s = reverse-append path (s ∷ [])

-- the note that was read
pub note_is : (notes : List Note) (at : ℕ) (n m : Note) → at < length notes → n ≡ get_or notes at n → n ≡ m → slice_get notes at ≡ Some m
note_is notes at n m l e is = slice_get_read notes (length notes) at n refl l e ∙ ap (λ x. Some x) is

module _ {C R : Type 0} (K : Kind C R) (net : Net C) (loads : List ℕ) where
  -- steps ss lead from `at`, whose entry and their cost are y, to `to`, and `left` is the smallest of `amount` and their rooms
  pub record SoFar (t : Work R) (rank : ℕ → ℕ) (to amount : ℕ) (y : K.group.Carrier) (ss : List Step) (at left : ℕ) : Type 0 where
    pub met : List ℕ
    pub value : K.group.Carrier
    pub cost : K.group.Carrier
    pub is : entry K t at ≡ Some value
    pub leads : Leads K net loads 1 at ss met to cost
    pub sum : K.group.plus value cost ≡ y
    pub rises : Rising rank at met
    pub rooms : AllByRecursion (HasRoom K net loads left) ss
    pub asked : left ≤ amount
    pub positive : 1 ≤ amount → 1 ≤ left
    pub most : (z : ℕ) → z ≤ amount → AllByRecursion (HasRoom K net loads z) ss → z ≤ left

  module _ {u : ℕ} {t : Work R} (searched : Searched K net loads (λ v. v ≡ u) t true) where
    -- the entries of a search from u that ended
    pub distances_by : Distances K net loads u (λ v x. entry K t v ≡ Some x)
    distances_by = record {
      entries = record {
        one = λ v x z p q. let s : Some x ≡ Some z = sym p ∙ q in cc;
        closed = λ s a b r c x g i. let m = searched.closed refl s a b c x r g i in (m.value, m.is, m.most);
      };
      start = let m = searched.begun u refl in (m.value, m.is, m.most);
      walked = λ v y i.
          let r = searched.reached v y i in
          (r.steps, r.met, subst (λ p. Leads K net loads 1 p r.steps r.met v y) r.begins r.leads);
    }

  module _ (notes : List Note) (rows : List R) (from to amount : ℕ) (y : K.group.Carrier) (e : Ended K net loads from to (tables rows notes) y) where
    abbrev t : Work R
    t = front net.places (tables rows notes)

    abbrev rank : ℕ → ℕ
    rank = e.searched.traced.rank

    found : Distances K net loads from (λ v x. entry K t v ≡ Some x)
    found = distances_by e.searched

    abbrev Far : List Step → ℕ → ℕ → Type 0
    Far ss at left = SoFar t rank to amount y ss at left

    begins_inside : from < net.places
    begins_inside =
        let r = e.searched.reached to y e.is in
        let same : r.place ≡ from = r.begins in
        omega (arith, r.inside)

    entry_inside : (v : ℕ) (x : K.group.Carrier) → entry K t v ≡ Some x → v < net.places
    entry_inside v x i = walk_inside K net loads e.inside begins_inside (found.walked v x i).2

    pub far_start : Far [] to amount
    far_start = record {
      met = [];
      value = y;
      cost = K.group.zero;
      is = e.is;
      leads = there to;
      sum = unit_of K.group y;
      rises = tt;
      rooms = tt;
      asked = omega arith;
      positive = λ l. l;
      most = λ z l h. l;
    }

    module _ (ss : List Step) (at left : ℕ) (far : Far ss at left) where
      -- there is a note where it has come to: of the start, or of a step
      noted : ((at ≡ from) × (far.value ≡ K.group.zero) × (slice_get notes at ≡ Some Start)) ⊎ Came K net loads t rank at far.value
      noted = e.searched.traced.each at far.value far.is

      pub far_noted : slice_get notes at ≡ None → ⊥
      far_noted none = ⊎_elim (λ s. let q = s.2 in unlike q none) (λ k. let q = k.note in unlike q none) noted
        where
          unlike : {n : Note} → slice_get notes at ≡ Some n → slice_get notes at ≡ None → ⊥
          unlike p q = cc

      pub far_seen : slice_get notes at ≡ Some Unseen → ⊥
      far_seen unseen = ⊎_elim (λ s. let q = s.2 in cc) (λ k. let q = k.note in cc) noted

      pub far_begins : slice_get notes at ≡ Some Start → (at ≡ from) × (far.value ≡ K.group.zero)
      far_begins start = ⊎_elim (λ s. (s.0, s.1)) (λ k. let q = k.note in cc) noted

      module _ (s : Step) (note : slice_get notes at ≡ Some (Via s)) where
        came : Came K net loads t rank at far.value
        came = ⊎_elim (λ p. let q = p.2 in cc) (λ k. k) noted

        came_step : came.step ≡ s
        came_step = let n = came.note in cc

        came_gives : Gives K net loads s came.from at came.cost came.room
        came_gives = subst (λ x. Gives K net loads x came.from at came.cost came.room) came_step came.gives

        pub far_open : ((u v : ℕ) (c : K.group.Carrier) (r : ℕ) → Gives K net loads s u v c r → ⊥) → ⊥
        far_open shut = shut _ _ _ _ came_gives

        far_more : (u r v : ℕ) (c : K.group.Carrier) → Gives K net loads s u v c r → Far (s ∷ ss) u (min left r)
        far_more u r v c g =
            let G = K.group in
            let same = one_step K net loads g came_gives in
            let m = found.entries.closed s came.from at came.room came.cost came.value came_gives came.is in
            let low : G.le far.value (G.plus came.value came.cost) = subst (λ z. G.le z (G.plus came.value came.cost)) (found.entries.one at m.0 far.value m.1 far.is) m.2 in
            let tight : G.plus came.value came.cost ≡ far.value = G.antisym _ _ came.above low in
            let some : 1 ≤ came.room = (given K net loads came_gives).some in
            let room : r ≡ came.room = same.3 in
            let P : ℕ → Type 0 = λ p. SoFar t rank to amount y (s ∷ ss) p (min left r) in
            subst P (sym same.0) (record {
              met = at ∷ far.met;
              value = came.value;
              cost = G.plus came.cost far.cost;
              is = came.is;
              leads = then came.from at to s ss far.met came.cost far.cost came.room came_gives some far.leads;
              sum = sym (G.assoc _ _ _) ∙ ap (λ z. G.plus z far.cost) tight ∙ far.sum;
              rises = (came.falls tight, far.rises);
              rooms = (
                λ u' v' r' c' g'. let q : r ≡ r' = (one_step K net loads g g').3 in omega arith,
                All-weaker (HasRoom K net loads left) (HasRoom K net loads (min left r)) (λ x h u' v' r' c' g'. let q = h u' v' r' c' g' in omega arith) ss far.rooms,
              );
              asked = let q = far.asked in omega arith;
              positive = λ l. let q = far.positive l in omega arith;
              most = λ z l h. let a = far.most z l h.1 in let b = h.0 u v r c g in omega arith;
            })

    module _ (path : List Step) (at left : ℕ) (far : Far (reverse path) at left) where
      -- one turn more
      pub far_turn : (path' : List Step) (s : Step) → path' ≡ path ++ s ∷ [] → slice_get notes at ≡ Some (Via s) → (u r m v : ℕ) (c : K.group.Carrier) →
          Gives K net loads s u v c r → m ≡ min left r → Far (reverse path') u m
      far_turn path' s longer note u r v' v c g is =
          subst (λ n. Far (reverse path') u n) (sym is)
          (subst (λ ss. Far ss u (min left r)) (sym (ap reverse longer ∙ path_more path s)) (far_more (reverse path) at left far s note u r v c g))

      pub far_ends : slice_get notes at ≡ Some Start → Trailed K net loads from to amount path y left
      far_ends start =
          let G = K.group in
          let b = far_begins (reverse path) at left far start in
          let is = b.0 in
          let nothing = b.1 in
          let cost : far.cost ≡ y = sym (G.unit far.cost) ∙ ap (λ z. G.plus z far.cost) (sym nothing) ∙ far.sum in
          let leads : Leads K net loads 1 from (reverse path) far.met to y =
          subst (λ u. Leads K net loads 1 u (reverse path) far.met to y) is (subst (Leads K net loads 1 at (reverse path) far.met to) cost far.leads) in
          let up : Rising rank from far.met = subst (λ u. Rising rank u far.met) is far.rises in
          record {
            route = record { met = far.met; leads = rooms_lead K net loads far.rooms leads; apart = rising_apart rank from far.met up };
            asked = far.asked;
            positive = far.positive;
            most = λ z b r. far.most z b (leads_rooms K net loads r.leads);
          }

      -- the steps are fewer than the places
      pub far_short : net.places ≤ length path → ⊥
      far_short full =
          let one : Route K net loads 1 at (reverse path) to far.cost = record { met = far.met; leads = far.leads; apart = rising_apart rank at far.met far.rises } in
          let short = route_short K net loads e.inside (entry_inside at far.value far.is) one in
          omega (arith, length-reverse path)

  -- so far, after any search that left those notes
  abbrev pub SoFarBy : List Note → ℕ → ℕ → List Step → ℕ → ℕ → Type 0
  SoFarBy notes to amount ss at left =
      (rows : List R) (from : ℕ) (y : K.group.Carrier) (e : Ended K net loads from to (tables rows notes) y) →
      SoFar (front net.places (tables rows notes)) e.searched.traced.rank to amount y ss at left
