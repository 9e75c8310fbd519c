-- The lent table while the records are written: the first i of them, and then what the table had.
use Prim.Native.Nat.{ℕ, suc, ◌+◌, ◌≤◌, ◌<◌}
use mathlib.Core.List.{List, ◌++◌}
use mathlib.Core.Path.{◌≡◌, sym, ap, ◌∙◌}
use native.Mathlib.Numerals.{add-one}
use native.Mathlib.Omega.{arith}
use lib.ListN.{length, get_or, take, drop, set, length-append, length-drop, get_or-map}
use lib.Seq.{length-take-le, take-length, take-suc, drop-cons, set_at, append_snoc, get_or-take}
use Rattle.device.specs.declared.Delivery.{Delivery}
use Rattle.device.specs.World.{Hub}
use Rattle.gate.specs.RingOutcome.{sent_at}
use Rattle.deliveries.specs.declared.Deliveries.{Deliveries}
use Rattle.deliveries.specs.Listed.{listed, handed_out}
use Rattle.deliveries.proofs.ListedLaws.{counted}

abbrev pub filled : Hub → Deliveries → List Delivery → ℕ → List Delivery
filled hub d table i = take i (listed hub d) ++ drop i table

-- the record at an index, and one to stand beyond the end of a list
abbrev record_at : Hub → Deliveries → ℕ → Delivery
record_at hub d i = sent_at hub d.vector (get_or d.targets i 0)

abbrev beyond : Hub → Deliveries → Delivery
beyond hub d = sent_at hub d.vector 0

-- what a list that can be handed out has: no count beyond its targets, and room in the table
pub record Fits (d : Deliveries) (table : List Delivery) : Type 0 where
  pub few : d.count ≤ length d.targets
  pub room : d.count ≤ length table

module _ (hub : Hub) (d : Deliveries) (table : List Delivery) (ok : Fits d table) where
  record_at_lem : (i : ℕ) → i < d.count → get_or (listed hub d) i (beyond hub d) ≡ record_at hub d i
  unfolding listed
  record_at_lem i l =
      get_or-map (sent_at hub d.vector) (take d.count d.targets) i 0
      ∙ ap (sent_at hub d.vector) (get_or-take d.count d.targets i 0 l)

  taken_length : (i : ℕ) → i ≤ d.count → length (take i (listed hub d)) ≡ i
  taken_length i l = length-take-le i (listed hub d) (omega (arith, counted hub d ok.few))

  pub length_filled : (i : ℕ) → i ≤ d.count → length (filled hub d table i) ≡ length table
  length_filled i l =
      let r = ok.room in
      length-append (take i (listed hub d)) (drop i table) ∙ rw (taken_length i l, length-drop) (omega arith)

  pub filled_next : (i : ℕ) → i < d.count → set (filled hub d table i) i (record_at hub d i) ≡ filled hub d table (i + 1)
  filled_next i l =
      let r = ok.room in
      let c = counted hub d ok.few in
      ap (λ (rest : List Delivery). set (take i (listed hub d) ++ rest) i (record_at hub d i)) (drop-cons table i (beyond hub d) (omega arith))
      ∙ set_at (take i (listed hub d)) (get_or table i (beyond hub d)) (drop (suc i) table) (record_at hub d i) i (taken_length i (omega arith))
      ∙ sym (append_snoc (take i (listed hub d)) (record_at hub d i) (drop (suc i) table))
      ∙ rw (← (record_at_lem i l), add-one, take-suc (listed hub d) i (beyond hub d) (omega arith))

  pub filled_all : filled hub d table d.count ≡ handed_out (listed hub d) table
  unfolding handed_out
  filled_all =
      ap (λ (n : ℕ). take n (listed hub d) ++ drop n table) (counted hub d ok.few) ∙ rw take-length
