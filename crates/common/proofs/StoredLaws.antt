-- What the library's copies and bytes of numbers leave, in the words of specs/.
use Prim.Native.Nat.{ℕ, ◌+◌, ◌/◌, ◌≤◌}
use mathlib.Core.List.{List, append_assoc}
use mathlib.Core.Path.{◌≡◌, sym, ◌∙◌}
use native.Mathlib.Omega.{arith}
use lib.ListN.{length, take}
use lib.Seq.{sets, sets-eq, drop-drop}
use borrow.Rule.Slice.PartMut.{put_mid}
use Rattle.std.specs.Int.{w32, w64, to_le_bytes}
use Rattle.common.specs.Bytes.{bytes}

-- a part of a list that was lent and comes back with other elements
pub part_back : (xs ys : List ℕ) (a n : ℕ) → length ys ≡ n → a + n ≤ length xs → put_mid a n xs ys ≡ sets xs a ys
part_back xs ys a n e h =
    let fits : a + length ys ≤ length xs = omega arith in
    rw (drop-drop n a xs, ← e) (sym (append_assoc (take a xs) ys _) ∙ sym (sets-eq ys xs a fits))

pub four_bytes : (x : ℕ) → to_le_bytes w32 x ≡ bytes 4 x
unfolding bytes
four_bytes x =
    let e2 : x / 65536 ≡ x / 256 / 256 = omega arith in
    let e3 : x / 16777216 ≡ x / 256 / 256 / 256 = omega arith in
    rw (e2, e3)

pub eight_bytes : (x : ℕ) → to_le_bytes w64 x ≡ bytes 8 x
unfolding bytes
eight_bytes x =
    let e2 : x / 65536 ≡ x / 256 / 256 = omega arith in
    let e3 : x / 16777216 ≡ x / 256 / 256 / 256 = omega arith in
    let e4 : x / 4294967296 ≡ x / 256 / 256 / 256 / 256 = omega arith in
    let e5 : x / 1099511627776 ≡ x / 256 / 256 / 256 / 256 / 256 = omega arith in
    let e6 : x / 281474976710656 ≡ x / 256 / 256 / 256 / 256 / 256 / 256 = omega arith in
    let e7 : x / 72057594037927936 ≡ x / 256 / 256 / 256 / 256 / 256 / 256 / 256 = omega arith in
    rw (e2, e3, e4, e5, e6, e7)
