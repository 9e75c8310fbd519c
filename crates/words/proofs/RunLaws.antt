-- Laws of specs/Runs.antt: words collected one by one, and a run's words as the entries of its peers.
use Prim.Native.Nat.{ℕ, ◌+◌, ◌-◌, ◌*◌, ◌^◌, ◌≤◌, ◌<◌}
use mathlib.Core.Bool.{Bool, true, false, ◌&&◌}
use mathlib.Core.List.{List}
use mathlib.Core.Path.{◌≡◌, refl, ap, ◌∙◌}
use native.Mathlib.Nat.{add-mul, mul-le-mul, mul-le-mul_right}
use native.Mathlib.Omega.{arith}
use lib.Bits.{bit_or, bit_xor}
use lib.Dec.{eqb}
use Rattle.common.proofs.MaskLaws.{only_or, or_none, xor_none}
use Rattle.common.proofs.TestLaws.{and_swap, below_rows, below_ext}
use Rattle.common.specs.Bytes.{only}
use Rattle.common.specs.Tests.{every, below}
use Rattle.device.specs.declared.Entry.{Entry}
use Rattle.device.specs.Sound.{entry_reset}
use Rattle.device.specs.World.{slot_at, entry_at}
use Rattle.words.specs.declared.columns.Places.{Places}
use Rattle.words.specs.Layout.{hub_words, word, entry_start, hub_of, Known}
use Rattle.words.specs.Parts.{entry_from}
use Rattle.words.specs.Runs.{Run, Stands, run_of}
use Rattle.words.proofs.LayoutLaws.{Sized, known_sized, known_inside, peers_at_lem, vectors_at, entry_read}

-- one word more in each of two columns, under its mask
pub only_more : (low control a b x y : ℕ)
    → (only low (bit_or a x) && only control (bit_or b y)) ≡ ((only low a && only control b) && (only low x && only control y))
only_more low control a b x y = rw (only_or low a x, only_or control b y) (and_swap (only low a) (only low x) (only control b) (only control y))

-- one entry more at its reset values
pub reset_more : (faults : ℕ) (e : Entry)
    → eqb (bit_or (bit_or (bit_or (bit_or faults e.low) e.high) e.payload) (bit_xor e.control 1)) 0 ≡ (eqb faults 0 && entry_reset e)
unfolding entry_reset every
reset_more faults e = simp (or_none, xor_none) (regroup (eqb faults 0) (eqb e.low 0) (eqb e.high 0) (eqb e.payload 0) (eqb e.control 1))
  where
    regroup : (f a b c d : Bool) → ((((f && a) && b) && c) && d) ≡ (f && (((a && b) && c) && d))
    regroup true a b c d = refl
    regroup false a b c d = refl

-- a run of peers is one of words that fit
pub run_known : (ws : List ℕ) (from to : ℕ) → Run ws from to → Known ws from
run_known ws from to r = omega (arith, r.some, r.known)

module _ (ws : List ℕ) (from to : ℕ) (r : Run ws from to) where
  sized : Sized ws (word ws 0) (word ws 1)
  sized = known_sized ws from (run_known ws from to r)

  run_below : to ≤ word ws 0
  run_below = rw (peers_at_lem sized) at r.known

  -- its rows are few, and lie inside the hub
  pub run_rows : (to - from) * word ws 1 ≤ 2 ^ 24
  run_rows =
      let i = known_inside ws from (run_known ws from to r) in
      let few : to - from ≤ 2 ^ 16 = omega (arith, i.peers, run_below) in
      mul-le-mul few i.vectors

  pub run_stands : (p : Places) → p.start ≡ entry_start (word ws 0) (word ws 1) 0 from 0 → p.size ≡ (to - from) * word ws 1
      → p.column ≡ word ws 0 * word ws 1 → Stands ws from to p
  unfolding hub_words
  run_stands p start size column =
      let n : ℕ = word ws 0 in
      let m : ℕ = word ws 1 in
      let rows : (from + (to - from)) * m ≡ from * m + (to - from) * m = add-mul from (to - from) m in
      let most : (from + (to - from)) * m ≤ n * m = mul-le-mul_right m (omega (arith, run_below, r.some)) in
      record { start = start; size = size; column = column; inside = rw (start, size, column) (omega (arith, sized.size)) }

  -- a test of each word of the run is a test of each entry
  pub run_is : (p : Places) (t : Entry → Bool) → Stands ws from to p →
      below p.size (λ k. t (entry_from ws (p.start + k) p.column)) ≡ run_of (hub_of ws) from to t
  unfolding run_of
  run_is p t s =
      let n : ℕ = word ws 0 in
      let m : ℕ = word ws 1 in
      rw (s.size, s.start, s.column, vectors_at sized)
      (below_rows (to - from) m (λ k. t (entry_from ws (entry_start n m 0 from 0 + k) (n * m)))
      ∙ below_ext (to - from) _ _ (λ i hi. below_ext m _ _ (λ v hv. ap t (at i v hi hv))))
    where
      at : (i v : ℕ) → i < to - from → v < word ws 1
          → entry_from ws (entry_start (word ws 0) (word ws 1) 0 from 0 + (i * word ws 1 + v)) (word ws 0 * word ws 1)
          ≡ entry_at (slot_at (hub_of ws) (from + i)) v
      at i v hi hv =
          let n : ℕ = word ws 0 in
          let m : ℕ = word ws 1 in
          let rows : (from + i) * m ≡ from * m + i * m = add-mul from i m in
          let place : entry_start n m 0 from 0 + (i * m + v) ≡ entry_start n m 0 (from + i) v = omega arith in
          let near : from + i < n = omega (arith, run_below) in
          rw place (entry_read sized (from + i) v near hv)
