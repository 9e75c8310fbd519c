-- `playback::answers::put_deliveries` meets its contract. The loop's invariant: the records of the ids passed stand at the front.
use mathlib.Core.Path.{◌≡◌}
use Rattle.common.specs.Lists.{over}
use Rattle.words.specs.Layout.{hub_of}
use Rattle.playback.proofs.DeliveryLaws.{first_of}
use Rattle.playback.specs.Answers.{all_delivered}
use Rattle.playback.proofs.answers.put_deliveries.Given as goal

abbrev pub invariant-loop-i : goal.invariant-loop-i
invariant-loop-i l = l.out ≡ over (all_delivered (first_of (hub_of l.hub) l.v l.ids l.i)) l.initial.out
