-- `words::columns::words_only` meets its contract. The loop's invariant: what is collected keeps to the masks where the words passed do.
use Prim.Native.Nat.{◌+◌, ◌*◌}
use mathlib.Core.Bool.{◌&&◌}
use mathlib.Core.Path.{◌≡◌}
use Rattle.common.specs.Bytes.{only}
use Rattle.common.specs.Tests.{below}
use Rattle.words.specs.Layout.{word}
use Rattle.words.proofs.columns.words_only.Given as goal

abbrev pub invariant-loop-k : goal.invariant-loop-k
invariant-loop-k l =
    (only l.low l.lows && only l.control l.controls)
    ≡ below l.k (λ j. only l.low (word l.hub (l.at.start + j)) && only l.control (word l.hub (l.at.start + j + 3 * l.at.column)))
