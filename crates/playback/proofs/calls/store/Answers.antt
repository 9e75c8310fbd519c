-- `playback::calls::store` meets its contract.
use Rattle.std.proofs.lemmas.Result.{err_from_is_err_and}
use Rattle.device.specs.Call.{Act, call}
use Rattle.playback.proofs.CallLaws.{stores_answer}
use Rattle.playback.proofs.calls.store.Goals as goal
use Rattle.device.proofs.QuietLaws.{may_ring}
use Prim.Native.Nat.{◌-◌}
use mathlib.Core.List.{[], ◌∷◌}
use mathlib.Core.Path.{◌≡◌, refl}
use native.Mathlib.Omega.{arith}
use lib.ListN.{take, drop}
use Rattle.playback.proofs.FieldLaws.{one_part}
use Rattle.playback.specs.Log.{field}

pub returns-in_err-store : goal.returns-in_err-store
unfolding may_ring
returns-in_err-store c =
    let p = err_from_is_err_and c.from_residual.result c.from_residual.ensures.1 in
    let bytes = c.args.fields.bytes.now in
    let one : take (8 - 7) (drop 7 bytes) ≡ field 7 1 bytes ∷ [] = one_part 7 bytes (omega arith) in
    rw (p.1, p.2, ← c.id.ensures, ← c.shared_offset.ensures, ← one)
    (rw c.in_err-store.was at (stores_answer c.args.hub.now c.args.region.now (call c.id.result (Act.store c.shared_offset.result _)) _ _ refl c.store.ensures))

pub returns : goal.returns
unfolding may_ring
returns c =
    let bytes = c.args.fields.bytes.now in
    let one : take (8 - 7) (drop 7 bytes) ≡ field 7 1 bytes ∷ [] = one_part 7 bytes (omega arith) in
    rw (← c.id.ensures, ← c.shared_offset.ensures, ← one)
    (rw c.in_ok-store.was at (stores_answer c.args.hub.now c.args.region.now (call c.id.result (Act.store c.shared_offset.result _)) _ _ refl c.store.ensures))
