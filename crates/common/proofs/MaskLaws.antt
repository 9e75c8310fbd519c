-- Laws of `only` and `merge`: a number under a mask keeps to the mask, byte by byte too, and so does a byte that a write merges.
use Prim.Native.Nat.{ℕ, zero, suc, ◌+◌, ◌-◌, ◌*◌, ◌/◌, ◌%◌, ◌^◌, ◌<◌, min, max}
use mathlib.Core.Bool.{true, ◌&&◌}
use mathlib.Core.Path.{◌≡◌, sym, ap, ◌∙◌}
use native.Mathlib.Omega.{arith}
use borrow.Author.Tests.{eqb-true, eq-eqb}
use lib.Arith.{bin_ind}
use lib.Bits.{bit_and, bit_or, bit_xor, and_step, or_step, and_zero_l, and_zero_r, or_zero_l}
use lib.Bits.{or_comm, xor_self, xor_add_and, and_block, and_le_l, and_le_r, and_mod}
use lib.Dec.{eqb}
use Rattle.common.specs.Bytes.{bit, only, merge}
use Rattle.common.proofs.TestLaws.{and_left, and_right, alike}

-- a number under a mask, once more under it
and_again : (a m : ℕ) → bit_and (bit_and a m) m ≡ bit_and a m
and_again a = bin_ind (λ n. (m : ℕ) → bit_and (bit_and n m) m ≡ bit_and n m) nothing more a
  where
    nothing : (m : ℕ) → bit_and (bit_and 0 m) m ≡ bit_and 0 m
    nothing m = rw (and_zero_l m) (and_zero_l m)

    more : (n : ℕ) → ((m : ℕ) → bit_and (bit_and (n / 2) m) m ≡ bit_and (n / 2) m) → (m : ℕ) → bit_and (bit_and n m) m ≡ bit_and n m
    more n ih m =
        let half : bit_and n m / 2 ≡ bit_and (n / 2) (m / 2) = omega (arith, and_step n m) in
        let odd : bit_and n m % 2 ≡ min (n % 2) (m % 2) = omega (arith, and_step n m) in
        and_step (bit_and n m) m ∙ rw (half, odd, ih (m / 2)) (omega (arith, and_step n m))

pub only_and : (m x : ℕ) → only m (bit_and x m) ≡ true
only_and m x = eq-eqb _ _ (and_again x m)

digit_apart : (a c : ℕ) → a < 2 → c < 2 → min a c ≡ a → 0 * 2 + min a (1 - c) ≡ 0
digit_apart a c ha hc e = omega arith

-- a number that keeps to a mask has no bit of the mask's complement
apart : (k m x : ℕ) → m < 2 ^ k → bit_and x m ≡ x → bit_and x (2 ^ k - 1 - m) ≡ 0
apart zero m x h e =
    let none : 2 ^ 0 - 1 - m ≡ 0 = omega arith in
    rw none (and_zero_r x)
apart (suc k) m x h e =
    let half : (2 ^ suc k - 1 - m) / 2 ≡ 2 ^ k - 1 - m / 2 = omega arith in
    let odd : (2 ^ suc k - 1 - m) % 2 ≡ 1 - m % 2 = omega arith in
    let here : bit_and (x / 2) (m / 2) ≡ x / 2 = omega (arith, and_step x m) in
    let low : min (x % 2) (m % 2) ≡ x % 2 = omega (arith, and_step x m) in
    and_step x (2 ^ suc k - 1 - m) ∙ rw (half, odd, apart k (m / 2) (x / 2) (omega arith) here) (digit_apart (x % 2) (m % 2) (omega arith) (omega arith) low)

-- a byte that keeps to its mask still does after a write
pub only_merge : (m old new : ℕ) → m < 256 → only m old ≡ true → only m (merge m old new) ≡ true
only_merge m old new h e = rw (apart 8 m old h (eqb-true _ _ e), or_zero_l (bit_and new m)) (only_and m new)

-- a mask of several bytes, from its lowest byte
only_first : (m r x : ℕ) → m < 256 → bit_and x (m + 256 * r) ≡ bit_and (x / 256) r * 256 + bit_and (x % 256) m
only_first m r x h =
    let a : x ≡ x / 256 * 2 ^ 8 + x % 256 = omega arith in
    let b : m + 256 * r ≡ r * 2 ^ 8 + m = omega arith in
    ap (λ (y : ℕ). bit_and x y) b ∙ ap (λ (y : ℕ). bit_and y (r * 2 ^ 8 + m)) a ∙ and_block 8 (x / 256) r (x % 256) m (omega arith) h

pub only_split : (m r x : ℕ) → m < 256 → only (m + 256 * r) x ≡ true → (only m (x % 256) ≡ true) × (only r (x / 256) ≡ true)
only_split m r x h e =
    let f : bit_and (x / 256) r * 256 + bit_and (x % 256) m ≡ x = sym (only_first m r x h) ∙ eqb-true _ _ e in
    let low : bit_and (x % 256) m ≡ x % 256 = omega (arith, and_le_r (x % 256) m) in
    let high : bit_and (x / 256) r ≡ x / 256 = omega (arith, and_le_r (x % 256) m) in
    (eq-eqb _ _ low, eq-eqb _ _ high)

pub only_join : (m r b x : ℕ) → m < 256 → b < 256 → only m b ≡ true → only r x ≡ true → only (m + 256 * r) (b + 256 * x) ≡ true
only_join m r b x hm hb e f =
    let low : (b + 256 * x) % 256 ≡ b = omega arith in
    let high : (b + 256 * x) / 256 ≡ x = omega arith in
    eq-eqb _ _ (only_first m r (b + 256 * x) hm ∙ rw (low, high, eqb-true (bit_and b m) b e, eqb-true (bit_and x r) x f) (omega arith))

-- bit 1 of a byte that a write merges under a mask with that bit is the written byte's
pub bit_merge : (m old new : ℕ) → m / 2 % 2 ≡ 1 → (255 - m) / 2 % 2 ≡ 0 → bit 1 (merge m old new) ≡ bit 1 new
bit_merge m old new h k =
    let a : bit_and old (255 - m) / 2 % 2 ≡ 0 = omega (arith, and_step old (255 - m), and_step (old / 2) ((255 - m) / 2)) in
    let b : bit_and new m / 2 % 2 ≡ new / 2 % 2 = omega (arith, and_step new m, and_step (new / 2) (m / 2)) in
    let c : merge m old new / 2 % 2 ≡ new / 2 % 2 =
    omega (arith, or_step (bit_and old (255 - m)) (bit_and new m), or_step (bit_and old (255 - m) / 2) (bit_and new m / 2)) in
    ap (λ (x : ℕ). eqb x 1) c

-- of the numbers that are merged only the low bytes count
and_low : (x b : ℕ) → b < 256 → bit_and (x % 256) b ≡ bit_and x b
and_low x b h =
    let e : b % 2 ^ 8 ≡ b = omega arith in
    let f : bit_and x b % 2 ^ 8 ≡ bit_and x b = omega (arith, and_le_r x b) in
    sym (rw (f, e) at (and_mod x b 8))

pub merge_old : (m old new : ℕ) → merge m (old % 256) new ≡ merge m old new
merge_old m old new = rw (and_low old (255 - m) (omega arith))

pub merge_new : (m old new : ℕ) → m < 256 → merge m old (new % 256) ≡ merge m old new
merge_new m old new h = rw (and_low new m h)

-- a number whose bits are some of another's keeps to a mask that the other keeps to
or_part : (a b m : ℕ) → bit_and (bit_or a b) m ≡ bit_or a b → bit_and a m ≡ a
or_part a = bin_ind (λ n. (b m : ℕ) → bit_and (bit_or n b) m ≡ bit_or n b → bit_and n m ≡ n) (λ b m e. and_zero_l m) more a
  where
    more : (n : ℕ) → ((b m : ℕ) → bit_and (bit_or (n / 2) b) m ≡ bit_or (n / 2) b → bit_and (n / 2) m ≡ n / 2)
        → (b m : ℕ) → bit_and (bit_or n b) m ≡ bit_or n b → bit_and n m ≡ n
    more n ih b m e =
        let half : bit_or n b / 2 ≡ bit_or (n / 2) (b / 2) = omega (arith, or_step n b) in
        let odd : bit_or n b % 2 ≡ max (n % 2) (b % 2) = omega (arith, or_step n b) in
        let s : bit_and (bit_or n b) m ≡ bit_and (bit_or (n / 2) (b / 2)) (m / 2) * 2 + min (max (n % 2) (b % 2)) (m % 2) =
        and_step (bit_or n b) m ∙ rw (half, odd) in
        let rest : bit_and (bit_or (n / 2) (b / 2)) (m / 2) ≡ bit_or (n / 2) (b / 2) = omega (arith, or_step n b) in
        let digit : min (n % 2) (m % 2) ≡ n % 2 = omega (arith, or_step n b) in
        and_step n m ∙ rw (ih (b / 2) (m / 2) rest, digit) (omega arith)

-- two numbers that keep to a mask do so together
or_both : (a b m : ℕ) → bit_and a m ≡ a → bit_and b m ≡ b → bit_and (bit_or a b) m ≡ bit_or a b
or_both a = bin_ind (λ n. (b m : ℕ) → bit_and n m ≡ n → bit_and b m ≡ b → bit_and (bit_or n b) m ≡ bit_or n b) (λ b m e f. f) more a
  where
    more : (n : ℕ) → ((b m : ℕ) → bit_and (n / 2) m ≡ n / 2 → bit_and b m ≡ b → bit_and (bit_or (n / 2) b) m ≡ bit_or (n / 2) b)
        → (b m : ℕ) → bit_and n m ≡ n → bit_and b m ≡ b → bit_and (bit_or n b) m ≡ bit_or n b
    more n ih b m e f =
        let half : bit_or n b / 2 ≡ bit_or (n / 2) (b / 2) = omega (arith, or_step n b) in
        let odd : bit_or n b % 2 ≡ max (n % 2) (b % 2) = omega (arith, or_step n b) in
        let first : bit_and (n / 2) (m / 2) ≡ n / 2 = omega (arith, and_step n m) in
        let second : bit_and (b / 2) (m / 2) ≡ b / 2 = omega (arith, and_step b m) in
        let digit : min (max (n % 2) (b % 2)) (m % 2) ≡ max (n % 2) (b % 2) = omega (arith, and_step n m, and_step b m) in
        and_step (bit_or n b) m ∙ rw (half, odd, ih (b / 2) (m / 2) first second, digit) (omega (arith, or_step n b))

-- words collected by or keep to a mask exactly where each does
pub only_or : (m a b : ℕ) → only m (bit_or a b) ≡ (only m a && only m b)
only_or m a b =
    alike (only m (bit_or a b)) (only m a && only m b)
    (λ e.
    let whole : bit_and (bit_or a b) m ≡ bit_or a b = eqb-true _ _ e in
    rw (eq-eqb _ _ (or_part a b m whole)) (eq-eqb _ _ (or_part b a m (rw (or_comm b a) whole))))
    (λ e. eq-eqb _ _ (or_both a b m (eqb-true _ _ (and_left (only m a) (only m b) e)) (eqb-true _ _ (and_right (only m a) (only m b) e))))

-- a number is 0 exactly where it keeps to the empty mask
pub only_none : (x : ℕ) → only 0 x ≡ eqb x 0
only_none x = rw (and_zero_r x) (alike (eqb 0 x) (eqb x 0) (λ e. eq-eqb x 0 (sym (eqb-true 0 x e))) (λ e. eq-eqb 0 x (sym (eqb-true x 0 e))))

-- two numbers differ in no bit exactly where they are equal
pub xor_none : (a b : ℕ) → eqb (bit_xor a b) 0 ≡ eqb a b
xor_none a b =
    alike (eqb (bit_xor a b) 0) (eqb a b)
    (λ e.
    let z : bit_xor a b ≡ 0 = eqb-true _ _ e in
    eq-eqb a b (omega (arith, xor_add_and a b, and_le_l a b, and_le_r a b)))
    (λ e. eq-eqb (bit_xor a b) 0 (rw (eqb-true a b e) (xor_self b)))

pub or_none : (a b : ℕ) → eqb (bit_or a b) 0 ≡ (eqb a 0 && eqb b 0)
or_none a b = sym (only_none (bit_or a b)) ∙ only_or 0 a b ∙ rw (only_none a, only_none b)
