use mathlib.Core.Path.{refl, sym, ◌∙◌}
use native.Mathlib.Omega.{arith}
use Rattle.common.specs.Tests.{below}
use Rattle.soundness.proofs.AbsentLaws.{passed_next, gap_passed}
use Rattle.soundness.proofs.ScanLaws.{below_stops}
use Rattle.soundness.proofs.slots.Slots.absent_sound.Goals as goal

pub loop-next-init : goal.loop-next-init
unfolding below
loop-next-init c = passed_next _ 0 _ _ (omega arith) c.next_absent-next.ensures refl

pub returns-then-not-gap_reset : goal.returns-then-not-gap_reset
returns-then-not-gap_reset c =
    let gap = c.gap_from-gap.ensures in
    let here = rw c.in-Some.is at c.loop-next.invariant in
    sym (below_stops _ _ _ gap.run.most (gap_passed _ _ _ _ gap.start gap.run here.1 ∙ sym c.gap_reset.ensures ∙ c.if-not-gap_reset.true))

pub loop-next-preserved : goal.loop-next-preserved
loop-next-preserved c =
    let gap = c.gap_from-gap.ensures in
    let here = rw c.in-Some.is at c.loop-next.invariant in
    passed_next _ _ _ _ gap.run.most c.next_absent-next-in-Some.ensures
    (gap_passed _ _ _ _ gap.start gap.run here.1 ∙ sym c.gap_reset.ensures ∙ c.if-not-gap_reset.false)
