-- An ordered commutative group: what costs stand for.
use Rattle.std.specs.Prelude.{◌≡◌, ℕ, zero, suc, ◌⊎◌, ◌≢◌}

pub record Group : Type 1 where
  pub Carrier : Type 0
  pub zero : Carrier
  pub plus : Carrier → Carrier → Carrier
  pub opp : Carrier → Carrier
  pub le : Carrier → Carrier → Type 0
  pub assoc : (x y z : Carrier) → plus (plus x y) z ≡ plus x (plus y z)
  pub comm : (x y : Carrier) → plus x y ≡ plus y x
  pub unit : (x : Carrier) → plus zero x ≡ x
  pub inverse : (x : Carrier) → plus x (opp x) ≡ zero
  pub refl_le : (x : Carrier) → le x x
  pub antisym : (x y : Carrier) → le x y → le y x → x ≡ y
  pub trans : (x y z : Carrier) → le x y → le y z → le x z
  pub total : (x y : Carrier) → le x y ⊎ le y x
  pub shift : (x y z : Carrier) → le x y → le (plus x z) (plus y z)

-- x is strictly less than y
abbrev pub Below : (g : Group) → g.Carrier → g.Carrier → Type 0
Below g x y = g.le x y × (x ≢ y)

-- zero with x added n times
abbrev pub times : (g : Group) → ℕ → g.Carrier → g.Carrier
times g zero x = g.zero
times g (suc n) x = g.plus (times g n x) x
