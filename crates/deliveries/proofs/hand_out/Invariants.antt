-- `deliveries::hand_out` meets its contract. The loop's invariant: the records so far stand at the front, and then what the table had.
use mathlib.Core.Path.{◌≡◌}
use Rattle.words.specs.Layout.{hub_of}
use Rattle.deliveries.proofs.HandedOut.{filled}
use Rattle.deliveries.proofs.hand_out.Given as goal

abbrev pub invariant-loop-i : goal.invariant-loop-i
invariant-loop-i l = l.table ≡ filled (hub_of l.hub) l.fn.list l.initial.table l.i
