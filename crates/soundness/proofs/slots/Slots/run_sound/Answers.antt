-- `Slots::run_sound` meets its contract: the peers of the run are alike, so one test serves all their entries.
use mathlib.Core.Path.{refl, ◌∙◌}
use Rattle.soundness.proofs.ScanLaws.{empty_run, uniform_run}
use Rattle.soundness.proofs.slots.Slots.run_sound.Goals as goal

pub returns-then-to-from : goal.returns-then-to-from
returns-then-to-from c = empty_run _ _ _ c.if-to-from.true

pub returns-in-Connected : goal.returns-in-Connected
returns-in-Connected c = c.entries_fixed.ensures ∙ uniform_run _ _ _ _ _ (rw c.in-Connected.is at c.requires) (λ e. refl)

pub returns-in-Absent : goal.returns-in-Absent
returns-in-Absent c = c.entries_reset.ensures ∙ uniform_run _ _ _ _ _ (rw c.in-Absent.is at c.requires) (λ e. refl)
