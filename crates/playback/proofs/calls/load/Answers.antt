-- `playback::calls::load` meets its contract.
use Rattle.std.proofs.lemmas.Result.{err_from_is_err_and}
use Rattle.device.specs.Call.{Act, call}
use Rattle.playback.proofs.CallLaws.{loads_answer}
use Rattle.playback.proofs.calls.load.Goals as goal
use Rattle.device.proofs.StepLaws.{reads_only}
use mathlib.Core.Path.{◌≡◌, refl}
use lib.ListN.{get_or, length}

pub returns-in_err-load : goal.returns-in_err-load
unfolding reads_only
returns-in_err-load c =
    let p = err_from_is_err_and c.from_residual.result c.from_residual.ensures.1 in
    let buffer = c.load.new.buffer in
    let one : length buffer ≡ 1 = c.load.auto.buffer in
    rw (p.1, p.2, ← c.id.ensures, ← c.shared_offset.ensures)
    (rw c.in_err-load.was at (loads_answer c.args.hub.now c.args.region.now (call c.id.result (Act.load c.shared_offset.result 1)) _ buffer _ (get_or buffer 0 0) refl one refl c.load.ensures))

pub returns : goal.returns
unfolding reads_only
returns c =
    let buffer = c.load.new.buffer in
    let one : length buffer ≡ 1 = c.load.auto.buffer in
    rw (← c.id.ensures, ← c.shared_offset.ensures)
    (rw c.in_ok-load.was at (loads_answer c.args.hub.now c.args.region.now (call c.id.result (Act.load c.shared_offset.result 1)) _ buffer _ c.from.result refl one c.from.ensures c.load.ensures))
