-- What a layer answers about a way, from what the network below answers.
use Rattle.std.proofs.Common.{◌≡◌, ℕ, Bool, List, Some, None, Option, refl, sym, ap, ◌∙◌}
use Rattle.std.specs.List.{slice_get}
use Rattle.std.specs.Option.{option_map}
use Rattle.networks.specs.Net.{Way, ends_of, cost_of}
use Rattle.networks.specs.Changes.{has, changed}
use Rattle.networks.specs.Layers.{each_from}
use Rattle.networks.specs.declared.ends.Ends.{Ends}
use Rattle.networks.proofs.Looked.{nth_each}

module _ {C D : Type 0} (limits : Bool → ℕ → ℕ) (costs : Bool → C → D) (changes : List ℕ → ℕ → Way C → Way D) (by : (ks : List ℕ) (k : ℕ) (w : Way C) → changes ks k w ≡ changed limits costs ks k w)
    (ks : List ℕ) (ws : List (Way C)) (k : ℕ)
  where
    abbrev above : List (Way D)
    above = each_from 0 (changes ks) ws

    ends_above : Ends → Ends
    ends_above e = record { tail = e.tail; head = e.head; limit = limits (has ks k) e.limit }

    each_ends : (o : Option (Way C)) → option_map ends_above (ends_of o) ≡ ends_of (option_map (changes ks k) o)
    unfolding ends_above
    each_ends None = refl
    each_ends (Some w) = ap (λ v. ends_of (Some v)) (sym (by ks k w))

    ends_at : (r : Option Ends) → r ≡ ends_of (slice_get ws k) → option_map ends_above r ≡ ends_of (slice_get above k)
    ends_at r e = ap (option_map ends_above) e ∙ each_ends (slice_get ws k) ∙ ap ends_of (sym (nth_each (changes ks) ws k))

    pub no_ends : None ≡ ends_of (slice_get ws k) → None ≡ ends_of (slice_get above k)
    no_ends e = ends_at None e

    pub some_ends : (e : Ends) (n : ℕ) → Some e ≡ ends_of (slice_get ws k) → n ≡ limits (has ks k) e.limit →
        Some (record { tail = e.tail; head = e.head; limit = n }) ≡ ends_of (slice_get above k)
    unfolding ends_above
    some_ends e n p q = ap (λ m. Some (record { tail = e.tail; head = e.head; limit = m })) q ∙ ends_at (Some e) p

    each_cost : (o : Option (Way C)) → option_map (costs (has ks k)) (cost_of o) ≡ cost_of (option_map (changes ks k) o)
    each_cost None = refl
    each_cost (Some w) = ap (λ v. cost_of (Some v)) (sym (by ks k w))

    cost_at : (r : Option C) → r ≡ cost_of (slice_get ws k) → option_map (costs (has ks k)) r ≡ cost_of (slice_get above k)
    cost_at r e = ap (option_map (costs (has ks k))) e ∙ each_cost (slice_get ws k) ∙ ap cost_of (sym (nth_each (changes ks) ws k))

    pub no_cost : None ≡ cost_of (slice_get ws k) → None ≡ cost_of (slice_get above k)
    no_cost e = cost_at None e

    pub some_cost : (c : C) (d : D) → Some c ≡ cost_of (slice_get ws k) → d ≡ costs (has ks k) c → Some d ≡ cost_of (slice_get above k)
    some_cost c d p q = ap (λ x. Some x) q ∙ cost_at (Some c) p
