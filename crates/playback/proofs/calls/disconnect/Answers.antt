-- `playback::calls::disconnect` meets its contract.
use Rattle.std.proofs.lemmas.Result.{err_from_is_err_and}
use Rattle.device.specs.Call.{Act, call}
use Rattle.playback.proofs.CallLaws.{served_answer}
use Rattle.playback.proofs.calls.disconnect.Goals as goal

pub returns-in_err-list : goal.returns-in_err-list
returns-in_err-list c =
    let p = err_from_is_err_and c.from_residual.result c.from_residual.ensures.1 in
    rw (p.1, p.2, ← c.id.ensures, ← c.max_peers.ensures)
    (rw c.in_err-list.was at (served_answer c.args.hub.now c.args.region.now (call c.id.result (Act.disconnect c.max_peers.result)) _ _ _ c.disconnect.ensures))

pub returns : goal.returns
returns c =
    rw (← c.id.ensures, ← c.max_peers.ensures)
    (rw c.in_ok-list.was at (served_answer c.args.hub.now c.args.region.now (call c.id.result (Act.disconnect c.max_peers.result)) _ _ _ c.disconnect.ensures))
