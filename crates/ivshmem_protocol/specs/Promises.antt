-- What the exported call promises: the parts of `read`, its message in numbers (R91).
use Rattle.std.specs.Prelude.{ℕ, List, ◌≡◌}
use Rattle.reader.specs.declared.Message.{Message}
use Rattle.reader.specs.declared.Message.TheVariants.{More, Version, Id, Memory, Vector, Extra, Disconnected, Closed}
use Rattle.reader.specs.declared.Progress.{Progress}
use Rattle.reader.specs.Reading.{Read, state, read}
use Rattle.ivshmem_protocol.specs.declared.MessageNumbers.{MessageNumbers}
use Rattle.ivshmem_protocol.specs.declared.ReadNumbers.{ReadNumbers}

-- R91: the numbers that stand for a message: its own, the id that it names, and the vectors that this id has then; 0 where the
-- message names none
abbrev pub numbers_of : Message → MessageNumbers
numbers_of More = record { message = 0; id = 0; count = 0 }
numbers_of Version = record { message = 1; id = 0; count = 0 }
numbers_of (Id id) = record { message = 2; id = id; count = 0 }
numbers_of Memory = record { message = 3; id = 0; count = 0 }
numbers_of (Vector id count) = record { message = 4; id = id; count = count }
numbers_of (Extra id count) = record { message = 5; id = id; count = count }
numbers_of (Disconnected id) = record { message = 6; id = id; count = 0 }
numbers_of Closed = record { message = 7; id = 0; count = 0 }

-- a call's answer in numbers, with the progress
abbrev pub in_numbers : Read → ReadNumbers
in_numbers r =
    record {
      number = r.number;
      message = (numbers_of r.message).message;
      id = (numbers_of r.message).id;
      count = (numbers_of r.message).count;
      taken = r.taken;
      progress = r.state.progress;
    }

-- Answer, progress and counts are those of the definition, for every input.
pub record ReadsInNumbers (vectors : ℕ) (p : Progress) (counts after input : List ℕ) (r : ReadNumbers) : Type 0 where
  pub answer : r ≡ in_numbers (read vectors (state p counts) input)
  pub left : after ≡ (read vectors (state p counts) input).state.counts
