-- The aligned words of configuration space, as the table's fields give them.
use Prim.Native.Nat.{ℕ, suc, ◌+◌, ◌-◌, ◌*◌, ◌%◌, ◌<◌, ◌≤◌}
use mathlib.Core.Bool.{Bool, true, false, ◌&&◌, ◌||◌}
use mathlib.Core.List.{List, [], ◌∷◌}
use mathlib.Core.Path.{◌≡◌, refl}
use native.Mathlib.Omega.{arith}
use borrow.Author.Tests.{ne_eqb}
use lib.Dec.{eqb}
use Rattle.common.specs.Bytes.{byte}
use Rattle.common.specs.Tests.{below}
use Rattle.common.proofs.TestLaws.{and_left, and_right, below_true}
use Rattle.common.proofs.WordLaws.{part, low_half}
use Rattle.device.specs.Configuration.{Field, fields, field_byte, configuration_byte, configuration_read}
use Rattle.device.specs.declared.Peer.{Peer}
use Rattle.device.specs.declared.Settings.{Settings}
use Rattle.device.proofs.ConfigurationLaws.{within_false}

-- a word of two registers of two bytes
pub two_halves : (x y : ℕ) → x % 65536 + 65536 * (y % 65536) ≡ byte 0 x + 256 * (byte 1 x + 256 * part 2 0 y)
two_halves x y = rw (low_half x, low_half y) (join (byte 0 x) (byte 1 x) (part 2 0 y))
  where
    join : (a b c : ℕ) → a + 256 * (b + 256 * 0) + 65536 * c ≡ a + 256 * (b + 256 * c)
    join a b c = omega arith

-- A word that no field meets.

-- what a `match` on an offset leaves to its last arm: the offset is none of its keys, of which the last stands first here
abbrev pub NoneOf : ℕ → List ℕ → Type 0
NoneOf at [] = Unit {0}
NoneOf at (k ∷ ks) = NoneOf at ks × (at ≡ k → ⊥)

abbrev one_of : ℕ → List ℕ → Bool
one_of at [] = false
one_of at (k ∷ ks) = eqb at k || one_of at ks

none_of : (at : ℕ) (ks : List ℕ) → NoneOf at ks → one_of at ks ≡ false
none_of at [] n = refl
none_of at (k ∷ ks) n = rw (ne_eqb at k n.1) (none_of at ks n.0)

-- every byte of a field is in one of the words, and so for every field
abbrev in_words : List ℕ → Field → Bool
in_words ks f = below f.size (λ i. one_of (f.start + i - (f.start + i) % 4) ks)

abbrev all_in : List ℕ → List Field → Bool
all_in ks [] = true
all_in ks (f ∷ fs) = in_words ks f && all_in ks fs

no_field : (ks : List ℕ) (o : ℕ) (fs : List Field) → all_in ks fs ≡ true → one_of (o - o % 4) ks ≡ false → field_byte o fs ≡ 0
unfolding field_byte
no_field ks o [] e n = refl
no_field ks o (f ∷ fs) e n =
    let not-here : f.start ≤ o → o < f.start + f.size → ⊥ =
    λ l h.
    let i : f.start + (o - f.start) ≡ o = omega arith in
    let here : one_of (o - o % 4) ks ≡ true = rw i at (below_true f.size _ (and_left (in_words ks f) (all_in ks fs) e) (o - f.start) (omega arith)) in
    let z : ◌≡◌ {A = ℕ} 0 1 = cc in
    omega arith in
    rw (within_false f.start f.size o not-here) (no_field ks o fs (and_right (in_words ks f) (all_in ks fs) e) n)

pub no_word : (s : Settings) (p : Peer) (ks : List ℕ) (at : ℕ) → all_in ks (fields s p) ≡ true → NoneOf at ks → at % 4 ≡ 0
    → configuration_read s p at 4 ≡ 0
unfolding configuration_read configuration_byte
no_word s p ks at e n a =
    rw (empty at (omega arith), empty (suc at) (omega arith), empty (suc (suc at)) (omega arith), empty (suc (suc (suc at))) (omega arith))
  where
    empty : (o : ℕ) → o - o % 4 ≡ at → field_byte o (fields s p) ≡ 0
    empty o same = no_field ks o (fields s p) e (rw same (none_of at ks n))
