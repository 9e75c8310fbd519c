-- The lanes of an access, byte by byte, and what is written in them.
use Prim.Native.Nat.{ℕ, ◌+◌, ◌-◌, ◌*◌, ◌%◌, ◌^◌, ◌<◌, ◌≤◌}
use mathlib.Core.Bool.{Bool, true, false, cond}
use mathlib.Core.Path.{◌≡◌, refl, ◌∙◌}
use native.Mathlib.Nat.{lt_of_lt_of_le}
use native.Mathlib.Omega.{arith}
use borrow.Author.Tests.{eqb-true}
use lib.Bits.{bit_and, and_comm, and_mask, and_zero_l}
use lib.Dec.{eqb}
use lib.Pow.{shl_lt, ones_lt, pow_mono}
use Rattle.common.specs.Bytes.{byte, merge}
use Rattle.common.specs.Tests.{below}
use Rattle.common.proofs.ByteLaws.{merge_zero}
use Rattle.common.proofs.TestLaws.{below_true}
use Rattle.common.proofs.WordLaws.{byte_and, byte_or, byte_not, byte_mod, byte_shifted}
use Rattle.device.specs.Configuration.{within}
use Rattle.configuration.specs.Parts.{lanes, merge_word}

-- which bytes of a word the lanes are, for every place and width
table : below 4 (λ k. below 5 (λ w. below 4 (λ j. eqb (byte j (lanes k w)) (cond (within k w j) 255 0)))) ≡ true
unfolding below
table = refl

pub byte_lanes : (k w j : ℕ) → k < 4 → w < 5 → j < 4 → byte j (lanes k w) ≡ cond (within k w j) 255 0
byte_lanes k w j hk hw hj = eqb-true _ _ (below_true 4 _ (below_true 5 _ (below_true 4 _ table k hk) w hw) j hj)

pub lanes_small : (k w : ℕ) → k + w ≤ 4 → lanes k w < 2 ^ 32
lanes_small k w h =
    let e : 8 * w + 8 * k ≤ 32 = omega arith in
    lt_of_lt_of_le (shl_lt (8 * w) (8 * k) (ones_lt (8 * w))) (pow_mono e)

-- a value shifted to its place in a word
pub byte_placed : (j k x : ℕ) → k ≤ j → j < 8 → byte j (x * 2 ^ (8 * k) % 2 ^ 64) ≡ byte (j - k) x
byte_placed j k x l h =
    let e : j - k + k ≡ j = omega arith in
    byte_mod j 8 (x * 2 ^ (8 * k)) h ∙ rw e at (byte_shifted (j - k) k x)

-- a word merged under a mask is merged byte by byte
pub byte_merge : (m old new j : ℕ) → m < 2 ^ 32 → j < 4 → byte j (merge_word m old new) ≡ merge (byte j m) (byte j old) (byte j new)
byte_merge m old new j h k =
    rw (byte_or j (bit_and old (2 ^ 32 - 1 - m)) (bit_and new m), byte_and j old (2 ^ 32 - 1 - m), byte_and j new m, byte_not m h j k)

-- a byte is written where its lane is enabled, and there the value's byte counts
pub merge_lane : (t : Bool) (m old new b : ℕ) → m < 256 → old < 256 → (t ≡ true → new ≡ b)
    → merge (bit_and (cond t 255 0) m) old new ≡ cond t (merge m old b) old
merge_lane true m old new b hm ho e =
    let all : bit_and 255 m ≡ m = and_comm 255 m ∙ and_mask m 8 ∙ omega arith in
    rw (all, e refl)
merge_lane false m old new b hm ho e = rw (and_zero_l m) (merge_zero old new ho)
