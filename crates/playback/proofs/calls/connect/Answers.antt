-- `playback::calls::connect` meets its contract.
use Rattle.std.proofs.lemmas.Result.{err_from_is_err_and}
use Rattle.device.specs.Call.{Act, call}
use Rattle.playback.proofs.CallLaws.{changes_answer}
use Rattle.playback.proofs.calls.connect.Goals as goal
use Rattle.device.proofs.QuietLaws.{may_ring}
use Rattle.device.specs.Refusal.{lent_to}
use mathlib.Core.Path.{refl}

pub returns-in_err-connect : goal.returns-in_err-connect
unfolding lent_to may_ring
returns-in_err-connect c =
    let p = err_from_is_err_and c.from_residual.result c.from_residual.ensures.1 in
    λ region. rw (p.1, p.2, ← c.id.ensures)
    (rw c.in_err-connect.was at (changes_answer c.args.hub.now region (call c.id.result (Act.connect)) _ _ refl refl c.connect.ensures))

pub returns : goal.returns
unfolding lent_to may_ring
returns c =
    λ region. rw (← c.id.ensures)
    (rw c.in_ok-connect.was at (changes_answer c.args.hub.now region (call c.id.result (Act.connect)) _ _ refl refl c.connect.ensures))
