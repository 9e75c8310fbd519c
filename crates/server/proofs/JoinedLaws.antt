-- Ids as the bits of a number: what joining and leaving change, and what they leave.
use Prim.Native.Nat.{ℕ, zero, suc, ◌+◌, ◌-◌, ◌*◌, ◌/◌, ◌%◌, ◌^◌, ◌≤◌, ◌<◌}
use mathlib.Core.Bool.{true, false}
use mathlib.Core.Path.{◌≡◌, refl, sym, ap, ◌∙◌}
use native.Mathlib.Nat.{pow-suc, zero-div}
use native.Mathlib.Omega.{arith}
use lib.Dec.{eqb, ltb}
use lib.Pow.{pow-lt, shr-shr}
use borrow.Author.Tests.{eqb-true, eqb-false, eq-eqb, ne_eqb, lt-ltb, ltb-true, le-ltb}
use Rattle.common.specs.Bytes.{bit}
use Rattle.common.proofs.TestLaws.{and_left, and_false, by_equal}
use Rattle.reader.proofs.ReadLaws.{by_bool}
use Rattle.reader.specs.Sizes.{ids}
use Rattle.server.specs.Clients.{is_joined, joined_with, joined_without, JoiningAddsOne, LeavingRemovesOne}

-- the lowest bit, and each other one by the half
bit_zero : (x : ℕ) → bit 0 x ≡ eqb (x % 2) 1
bit_zero x = let e : x / 2 ^ 0 ≡ x = omega arith in rw e

bit_suc : (k x : ℕ) → bit (suc k) x ≡ bit k (x / 2)
bit_suc k x =
    let n : 1 + k ≡ suc k = omega arith in
    ap (λ (q : ℕ). eqb (q % 2) 1) (rw n at (sym (shr-shr x 1 k)))

even : (x : ℕ) → bit 0 x ≡ false → x % 2 ≡ 0
even x e = let o : x % 2 ≡ 1 → ⊥ = eqb-false (x % 2) 1 (sym (bit_zero x) ∙ e) in omega arith

odd : (x : ℕ) → bit 0 x ≡ true → x % 2 ≡ 1
odd x e = eqb-true (x % 2) 1 (sym (bit_zero x) ∙ e)

twice : (k : ℕ) → 2 ^ suc k ≡ 2 ^ k * 2
twice k = pow-suc 2 k

-- a bit that is 0, made 1
set_same : (i x : ℕ) → bit i x ≡ false → bit i (x + 2 ^ i) ≡ true
set_same zero x e = bit_zero (x + 2 ^ 0) ∙ eq-eqb ((x + 2 ^ 0) % 2) 1 (omega (arith, even x e))
set_same (suc i) x e =
    let h : (x + 2 ^ suc i) / 2 ≡ x / 2 + 2 ^ i = omega (arith, twice i) in
    bit_suc i (x + 2 ^ suc i) ∙ rw h (set_same i (x / 2) (sym (bit_suc i x) ∙ e))

set_other : (i j x : ℕ) → (j ≡ i → ⊥) → bit i x ≡ false → bit j (x + 2 ^ i) ≡ bit j x
set_other zero zero x n e = absurd (n refl)
set_other zero (suc j) x n e =
    let h : (x + 2 ^ 0) / 2 ≡ x / 2 = omega (arith, even x e) in
    bit_suc j (x + 2 ^ 0) ∙ rw h (sym (bit_suc j x))
set_other (suc i) zero x n e =
    let h : (x + 2 ^ suc i) % 2 ≡ x % 2 = omega (arith, twice i) in
    bit_zero (x + 2 ^ suc i) ∙ rw h (sym (bit_zero x))
set_other (suc i) (suc j) x n e =
    let h : (x + 2 ^ suc i) / 2 ≡ x / 2 + 2 ^ i = omega (arith, twice i) in
    bit_suc j (x + 2 ^ suc i) ∙ rw h (set_other i j (x / 2) (λ s. n (ap suc s)) (sym (bit_suc i x) ∙ e) ∙ sym (bit_suc j x))

-- it still fits
set_fits : (k i x : ℕ) → i < k → x < 2 ^ k → bit i x ≡ false → x + 2 ^ i < 2 ^ k
set_fits zero i x l f e = absurd (omega arith)
set_fits (suc k) zero x l f e = omega (arith, twice k, even x e)
set_fits (suc k) (suc i) x l f e =
    let s = set_fits k i (x / 2) (omega arith) (omega (arith, twice k)) (sym (bit_suc i x) ∙ e) in
    omega (arith, twice k, twice i)

-- a bit that is 1 is in the number, and can be made 0
bit_le : (i x : ℕ) → bit i x ≡ true → 2 ^ i ≤ x
bit_le zero x e = omega (arith, odd x e)
bit_le (suc i) x e = let l = bit_le i (x / 2) (sym (bit_suc i x) ∙ e) in omega (arith, twice i)

clear_same : (i x : ℕ) → bit i x ≡ true → bit i (x - 2 ^ i) ≡ false
clear_same zero x e = bit_zero (x - 2 ^ 0) ∙ ne_eqb ((x - 2 ^ 0) % 2) 1 (omega (arith, odd x e))
clear_same (suc i) x e =
    let l = bit_le i (x / 2) (sym (bit_suc i x) ∙ e) in
    let h : (x - 2 ^ suc i) / 2 ≡ x / 2 - 2 ^ i = omega (arith, twice i) in
    bit_suc i (x - 2 ^ suc i) ∙ rw h (clear_same i (x / 2) (sym (bit_suc i x) ∙ e))

clear_other : (i j x : ℕ) → (j ≡ i → ⊥) → bit i x ≡ true → bit j (x - 2 ^ i) ≡ bit j x
clear_other i j x n e =
    let l = bit_le i x e in
    let back : x - 2 ^ i + 2 ^ i ≡ x = omega arith in
    sym (set_other i j (x - 2 ^ i) n (clear_same i x e)) ∙ rw back

-- a number is told by its bits
bits_same : (k x y : ℕ) → x < 2 ^ k → y < 2 ^ k → ((j : ℕ) → j < k → bit j x ≡ bit j y) → x ≡ y
bits_same zero x y f g same = omega arith
bits_same (suc k) x y f g same =
    let halves : x / 2 ≡ y / 2 =
    bits_same k (x / 2) (y / 2) (omega (arith, twice k)) (omega (arith, twice k))
    (λ j l. sym (bit_suc j x) ∙ same (suc j) (omega arith) ∙ bit_suc j y) in
    let ends : x % 2 ≡ y % 2 =
    by_bool (bit 0 x) (λ e. odd x e ∙ sym (odd y (sym (same 0 (omega arith)) ∙ e)))
    (λ e. even x e ∙ sym (even y (sym (same 0 (omega arith)) ∙ e))) in
    omega arith

-- an id that is joined is one of those there are
pub joined_below_lem : (x i : ℕ) → is_joined x i ≡ true → i < ids
unfolding is_joined
joined_below_lem x i e = ltb-true i ids (and_left (ltb i ids) (bit i x) e)

pub joined_beyond : (x i : ℕ) → ids ≤ i → is_joined x i ≡ false
unfolding is_joined
joined_beyond x i h = rw (le-ltb i ids h)

pub is_bit : (x i : ℕ) → i < ids → is_joined x i ≡ bit i x
unfolding is_joined
is_bit x i h = rw (lt-ltb i ids h)

pub same_bits : (x y : ℕ) → x < 2 ^ 64 → y < 2 ^ 64 → ((i : ℕ) → is_joined x i ≡ is_joined y i) → x ≡ y
unfolding ids
same_bits x y f g same = bits_same 64 x y f g (λ i l. sym (is_bit x i l) ∙ same i ∙ is_bit y i l)

-- above all bits of a number
pub bits_gone : (x i j : ℕ) → i ≤ j → x / 2 ^ i ≡ 0 → is_joined x j ≡ false
unfolding is_joined
bits_gone x i j l e =
    let n : i + (j - i) ≡ j = omega arith in
    let q : x / 2 ^ i / 2 ^ (j - i) ≡ 0 = rw e (zero-div (2 ^ (j - i))) in
    let z : x / 2 ^ j ≡ 0 = rw n at (sym (shr-shr x i (j - i)) ∙ q) in
    and_false (ltb j ids) (bit j x) (rw z)

-- an id joins
module _ (x i : ℕ) (h : i < ids) (e : is_joined x i ≡ false) where
  free_bit : bit i x ≡ false
  free_bit = sym (is_bit x i h) ∙ e

  pub with_same : is_joined (joined_with x i) i ≡ true
  with_same = is_bit _ i h ∙ set_same i x free_bit

  pub with_other : (j : ℕ) → (j ≡ i → ⊥) → is_joined (joined_with x i) j ≡ is_joined x j
  unfolding is_joined
  with_other j n = rw (set_other i j x n free_bit)

  pub with_fits : x < 2 ^ 64 → x + 2 ^ i < 2 ^ 64
  unfolding ids
  with_fits f = set_fits 64 i x h f free_bit

-- an id leaves
module _ (x i : ℕ) (e : is_joined x i ≡ true) where
  joined_bit : bit i x ≡ true
  joined_bit = sym (is_bit x i (joined_below_lem x i e)) ∙ e

  pub joined_le : 2 ^ i ≤ x
  joined_le = bit_le i x joined_bit

  pub without_same : is_joined (joined_without x i) i ≡ false
  without_same = is_bit _ i (joined_below_lem x i e) ∙ clear_same i x joined_bit

  pub without_other : (j : ℕ) → (j ≡ i → ⊥) → is_joined (joined_without x i) j ≡ is_joined x j
  unfolding is_joined
  without_other j n = rw (clear_other i j x n joined_bit)

-- nobody is joined at the start
no_bit : (i : ℕ) → bit i 0 ≡ false
no_bit zero = refl
no_bit (suc i) = bit_suc i 0 ∙ no_bit i

pub none_joined : (i : ℕ) → is_joined 0 i ≡ false
unfolding is_joined
none_joined i = and_false (ltb i ids) (bit i 0) (no_bit i)

-- one shifted to a bit that there is
pub one_shifted : (i : ℕ) → i < ids → 1 * 2 ^ i % 2 ^ 64 ≡ 2 ^ i
unfolding ids
one_shifted i h = let l : 2 ^ i < 2 ^ 64 = pow-lt h in omega arith

-- one id, and no other
pub joining_adds_one : JoiningAddsOne
joining_adds_one x i h e j =
    by_equal j i (λ same. rw (same, eq-eqb i i refl) (with_same x i h e)) (λ o. rw (ne_eqb j i o) (with_other x i h e j o))

pub leaving_removes_one : LeavingRemovesOne
leaving_removes_one x i e j =
    by_equal j i (λ same. rw (same, eq-eqb i i refl) (without_same x i e)) (λ o. rw (ne_eqb j i o) (without_other x i e j o))
