-- `playback::calls::configuration_read` meets its contract.
use Rattle.std.proofs.lemmas.Result.{err_from_is_err_and}
use Rattle.device.specs.Call.{Act, call}
use Rattle.playback.proofs.CallLaws.{reads_answer}
use Rattle.playback.proofs.calls.configuration_read.Goals as goal
use Rattle.device.proofs.StepLaws.{reads_only}
use mathlib.Core.Path.{refl}

pub returns-in_err-value : goal.returns-in_err-value
unfolding reads_only
returns-in_err-value c =
    let p = err_from_is_err_and c.from_residual.result c.from_residual.ensures.1 in
    λ region. rw (p.1, p.2, ← c.id.ensures, ← c.offset.ensures, ← c.width.ensures)
    (rw c.in_err-value.was at (reads_answer c.args.hub.now region (call c.id.result (Act.configuration_read c.offset.result c.width.result)) _ refl c.configuration_read.ensures))

pub returns : goal.returns
unfolding reads_only
returns c =
    λ region. rw (← c.id.ensures, ← c.offset.ensures, ← c.width.ensures)
    (rw c.in_ok-value.was at (reads_answer c.args.hub.now region (call c.id.result (Act.configuration_read c.offset.result c.width.result)) _ refl c.configuration_read.ensures))
