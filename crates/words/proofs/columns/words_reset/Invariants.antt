-- `words::columns::words_reset` meets its contract. The loop's invariant: no fault is collected where the words passed hold reset values.
use Prim.Native.Nat.{◌+◌}
use mathlib.Core.Path.{◌≡◌}
use lib.Dec.{eqb}
use Rattle.common.specs.Tests.{below}
use Rattle.device.specs.Sound.{entry_reset}
use Rattle.words.specs.Parts.{entry_from}
use Rattle.words.proofs.columns.words_reset.Given as goal

abbrev pub invariant-loop-k : goal.invariant-loop-k
invariant-loop-k l = eqb l.faults 0 ≡ below l.k (λ j. entry_reset (entry_from l.hub (l.at.start + j) l.at.column))
