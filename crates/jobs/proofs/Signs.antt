-- The signed numbers of a way, as they are stored.
use Rattle.std.proofs.Common.{◌≡◌, ℕ, List, ◌++◌, ℤ, refl, w32, SFits, to_z, of_z}
use Rattle.std.proofs.lemmas.Int.{to_z-of_z}
use Rattle.jobs.specs.declared.kind.Kind.TheVariants as kind
use Rattle.jobs.specs.declared.entry.Entry.TheVariants.{Way}
use Rattle.jobs.specs.Bytes.{two_bytes, four_bytes, unsigned}
use Rattle.jobs.specs.Entries.{Fits, Spells}

-- a way from the bytes of its five numbers
pub way_spelled : (t h l : ℕ) (r m : ℤ) {a b c d e bytes : List ℕ} → two_bytes t ≡ a → two_bytes h ≡ b → four_bytes l ≡ c → four_bytes (unsigned r) ≡ d → four_bytes (unsigned m) ≡ e
    → a ++ b ++ c ++ d ++ e ≡ bytes → Fits (Way t h l r m) → Spells kind.Way bytes (Way t h l (to_z w32 (of_z w32 r)) (to_z w32 (of_z w32 m)))
way_spelled t h l r m p q s u v w f =
    let fr : SFits w32 r = record { sfits = f.3 } in
    let fm : SFits w32 m = record { sfits = f.4 } in
    simp (to_z-of_z w32 r fr, to_z-of_z w32 m fm) (record { kind = refl; numbers = (cc); fits = f })
