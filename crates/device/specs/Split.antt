-- C-14 over whole calls: which number an access to configuration space has, and that it is the accesses of one byte at its offsets,
-- from the lowest on. A host may split one in any world. Only an access that is refused with 6 or 7 is not its bytes: its width is
-- not allowed or its offset not a multiple of it, and each byte alone may be accepted.
use Rattle.std.specs.Prelude.{ℕ, suc, ◌+◌, ◌%◌, ◌<◌, Bool, true, not, ◌||◌, List, [], ◌∷◌, ◌≡◌, eqb, leb, ltb}
use Rattle.common.specs.Bytes.{byte}
use Rattle.common.specs.Bytes
use Rattle.common.specs.Lists.{tabulate}
use Rattle.common.specs.Tests.{Row, row, first}
use Rattle.device.specs.Call.{Call, call}
use Rattle.device.specs.Call.Act.{configuration_read, configuration_write}
use Rattle.device.specs.History.{after}
use Rattle.device.specs.Refusal.{is_connected}
use Rattle.device.specs.Sections.{no_section}
use Rattle.device.specs.Sound.{sound}
use Rattle.device.specs.Step.{Outcome, step}
use Rattle.device.specs.World.{World}

abbrev pub read_call : (who at width : ℕ) → Call
read_call who at width = call who (configuration_read at width)

abbrev pub write_call : (who at width value : ℕ) → Call
write_call who at width value = call who (configuration_write at width value)

-- The number of an access: 10, 3 and 4 by the hub and the id, then 6, 7 and 8 by offset and width alone, in plain arithmetic.
abbrev pub any_width : ℕ → Bool
any_width width = eqb width 1 || eqb width 2 || eqb width 4

abbrev pub configuration_rows : (at width : ℕ) → List Row
configuration_rows at width =
    row 6 (not (any_width width)) ∷ row 7 (not (eqb (at % width) 0)) ∷ row 8 (ltb 256 (at + width)) ∷ []

abbrev pub access_number : World → (who at width : ℕ) → ℕ
access_number w who at width =
    first
    (row 10 (not (sound w.hub))
    ∷ row 3 (leb w.hub.settings.peers who)
    ∷ row 4 (not (is_connected w who))
    ∷ configuration_rows at width)

abbrev pub AccessNumbers : Type 0
AccessNumbers =
    (w : World) (who at width value : ℕ)
    → ((step w (read_call who at width)).number ≡ access_number w who at width)
    × ((step w (write_call who at width value)).number ≡ access_number w who at width)

-- the numbers of the accesses that may be split: 0, which is accepted, and the refusals 10, 3, 4 and 8
abbrev pub Splittable : ℕ → Type 0
Splittable number = (number ≡ 6 → ⊥) × (number ≡ 7 → ⊥)

-- An access of 1, 2 or 4 bytes at a multiple of its width is never refused with 6 or 7: so a host knows before the call what it may
-- split.
abbrev pub AlignedSplits : Type 0
AlignedSplits =
    (w : World) (who at width value : ℕ)
    → any_width width ≡ true
    → at % width ≡ 0
    → Splittable (step w (read_call who at width)).number × Splittable (step w (write_call who at width value)).number

-- what an access gives: a number, a value and the world afterwards, and no delivery
abbrev pub gives : (number value : ℕ) → World → Outcome
gives number value w =
    record { number = number; value = value; answer = no_section; loaded = []; deliveries = []; world = w }

-- A read, with the outcome o: each read of one byte has the number of the whole and gives a byte of its value, and that value is
-- theirs, little-endian.
pub record ReadSplit (w : World) (who at width : ℕ) (o : Outcome) : Type 0 where
  pub each : (j : ℕ) → j < width → step w (read_call who (at + j) 1) ≡ gives o.number (byte j o.value) w
  pub whole : o ≡ gives o.number (Bytes.number (tabulate width (λ j. (step w (read_call who (at + j) 1)).value))) w

abbrev pub ReadSplits : Type 0
ReadSplits =
    (w : World) (who at width : ℕ)
    → Splittable (step w (read_call who at width)).number
    → ReadSplit w who at width (step w (read_call who at width))

-- the write of byte j of a value, and the world that the first n of these writes leave
abbrev pub byte_write : (who at value j : ℕ) → Call
byte_write who at value j = write_call who (at + j) 1 (byte j value)

abbrev pub after_bytes : World → (who at value n : ℕ) → World
after_bytes w who at value n = after w (tabulate n (λ j. byte_write who at value j))

-- A write, with the outcome o: each write of one byte, one after the other, has the number of the whole, and together they leave the
-- world that it leaves.
pub record WriteSplit (w : World) (who at width value : ℕ) (o : Outcome) : Type 0 where
  pub each : (j : ℕ) → j < width
      → step (after_bytes w who at value j) (byte_write who at value j) ≡ gives o.number 0 (after_bytes w who at value (suc j))
  pub whole : o ≡ gives o.number 0 (after_bytes w who at value width)

abbrev pub WriteSplits : Type 0
WriteSplits =
    (w : World) (who at width value : ℕ)
    → Splittable (step w (write_call who at width value)).number
    → WriteSplit w who at width value (step w (write_call who at width value))
