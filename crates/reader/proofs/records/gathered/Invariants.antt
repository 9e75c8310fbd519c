-- `reader::records::gathered` meets its contract: the places passed hold what they should.
use Prim.Native.Nat.{ℕ, ◌<◌}
use mathlib.Core.Path.{◌≡◌}
use lib.ListN.{length, get_or}
use Rattle.reader.specs.Parts.{placed}
use Rattle.reader.proofs.records.gathered.Given as goal

abbrev pub invariant-loop-k : goal.invariant-loop-k
invariant-loop-k l = (length l.gathered ≡ 8) × ((j : ℕ) → j < l.k → get_or l.gathered j 0 ≡ placed l.bytes l.held l.input j)
