-- Signed numbers of 64 bits: what their bits are compared with, and what their order tells.
use Prim.Native.Nat.{ℕ, zero, suc, ◌+◌, ◌-◌, ◌^◌, ◌≤◌, ◌<◌}
use mathlib.Core.Bool.{Bool, true, false, ◌&&◌}
use mathlib.Core.Path.{◌≡◌, refl, ap}
use native.Mathlib.Omega.{arith}
use lib.Dec.{eqb, ltb}
use lib.IntN.{ℤ, pos, negsuc, nat_abs, ◌-ℤ◌}
use lib.Signed.{le_z, lt_z}
use mir.Syntax.{w64}
use mir.Val.{SFits, of_z, to_z}
use mir.ValLaws.{to_z_pos}
use borrow.Author.Tests.{lt-ltb, le-ltb, le-leb, ne_eqb, eq-eqb, ltb-true, ltb-false, eqb-true}
use Rattle.common.proofs.TestLaws.{alike}
use Rattle.reader.specs.Records.{signed}
use Rattle.reader.specs.Sizes.{ids}
use Rattle.reader.specs.Steps.{is_version, is_id, id_of, is_memory}

-- what a number of 64 bits is read as
pub signed_low : (x : ℕ) → x < 2 ^ 63 → to_z w64 x ≡ signed x
unfolding signed
signed_low x h = rw (lt-ltb x (2 ^ 63) h)

less_one : (m : ℕ) → negsuc 0 -ℤ pos m ≡ negsuc m
less_one zero = refl
less_one (suc m) = let e : suc (0 + m) ≡ suc m = omega arith in ap negsuc e

-- -1 less what is missing to the largest number
pub signed_high : (x : ℕ) → 2 ^ 63 ≤ x → x < 2 ^ 64 → negsuc 0 -ℤ to_z w64 (2 ^ 64 - 1 - x) ≡ signed x
unfolding signed
signed_high x h l =
    rw (le-ltb x (2 ^ 63) h, to_z_pos w64 (2 ^ 64 - 1 - x) (omega arith)) (less_one (2 ^ 64 - 1 - x))

pub signed_fits : (x : ℕ) → x < 2 ^ 64 → SFits w64 (signed x)
unfolding signed
signed_fits x h = by (ltb x (2 ^ 63)) refl
  where
    by : (t : Bool) → ltb x (2 ^ 63) ≡ t → SFits w64 (signed x)
    by true e = rw e (record { sfits = ltb-true x (2 ^ 63) e })
    by false e = let l = ltb-false x (2 ^ 63) e in rw e (record { sfits = omega arith })

-- the tests of the code, on the bits
pub version_bits : (z : ℤ) → SFits w64 z → eqb (of_z w64 z) 0 ≡ is_version z
unfolding is_version
version_bits (pos n) f = refl
version_bits (negsuc n) f = let l : n < 2 ^ 63 = f.sfits in ne_eqb (2 ^ 64 - suc n) 0 (λ e. omega arith)

pub memory_bits : (z : ℤ) → SFits w64 z → eqb (of_z w64 z) (2 ^ 64 - 1) ≡ is_memory z
unfolding is_memory
memory_bits (pos n) f = let l : n < 2 ^ 63 = f.sfits in ne_eqb n (2 ^ 64 - 1) (λ e. omega arith)
memory_bits (negsuc n) f =
    let l : n < 2 ^ 63 = f.sfits in
    alike (eqb (2 ^ 64 - suc n) (2 ^ 64 - 1)) (eqb n 0)
    (λ e. let q = eqb-true (2 ^ 64 - suc n) (2 ^ 64 - 1) e in eq-eqb n 0 (omega arith))
    (λ e. let q = eqb-true n 0 e in eq-eqb (2 ^ 64 - suc n) (2 ^ 64 - 1) (omega arith))

-- ids: from 0 on, and below their number
pub id_order : (z : ℤ) → le_z (pos 0) z && lt_z z (pos ids) ≡ is_id z
unfolding is_id
id_order (pos n) = rw (le-leb 0 n (omega arith))
id_order (negsuc n) = refl

-- an id is the number's magnitude
pub record IdNumber (z : ℤ) : Type 0 where
  pub is : nat_abs z ≡ id_of z
  pub below : nat_abs z < ids

pub id_number : (z : ℤ) → is_id z ≡ true → IdNumber z
unfolding is_id id_of
id_number (pos n) e = record { is = refl; below = ltb-true n ids e }
id_number (negsuc n) e = let z : ◌≡◌ {A = ℕ} 0 1 = cc in absurd (omega arith)
