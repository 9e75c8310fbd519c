-- `memory::copy` meets its contract. The loop's invariant: the bytes passed stand at the front, and then what the part had.
use mathlib.Core.Path.{◌≡◌}
use lib.Seq.{paste}
use Rattle.memory.proofs.copy.Given as goal

abbrev pub invariant-loop-k : goal.invariant-loop-k
invariant-loop-k l = l.part ≡ paste l.initial.part 0 l.bytes l.k
