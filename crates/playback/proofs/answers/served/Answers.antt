-- `playback::answers::served` meets its contract: the deliveries stand behind the first byte.
use Prim.Native.Nat.{◌-◌, suc, ◌+◌, ◌*◌, ◌≤◌}
use mathlib.Core.List.{[], ◌∷◌, map}
use mathlib.Core.Path.{◌≡◌, refl}
use native.Mathlib.Omega.{arith}
use lib.ListN.{length, length-drop, length-map, length-take}
use Rattle.deliveries.specs.Listed.{listed}
use Rattle.gate.specs.RingOutcome.{sent_at}
use Rattle.words.specs.Layout.{hub_of}
use Rattle.playback.proofs.DeliveryLaws.{length_all}
use Rattle.playback.proofs.OverLaws.{over_then}
use Rattle.playback.specs.Answers.{all_delivered}
use Rattle.playback.proofs.answers.served.Goals as goal

pub put_deliveries-requires : goal.put_deliveries-requires
put_deliveries-requires c =
    let few : length c.delivered-ids.result.now ≤ 64 = rw c.delivered-ids.ensures (simp length-take (omega arith)) in
    simp (length-take, length-drop) (omega arith)

pub returns : goal.returns
unfolding listed
returns c =
    let a = c.args in
    let ids = c.delivered-ids.result.now in
    let few : length ids ≤ 64 = rw c.delivered-ids.ensures (simp length-take (omega arith)) in
    let ds = map (sent_at (hub_of a.hub.now) a.list.vector) ids in
    let room : length c.put.new.out - 1 ≡ 1088 = omega arith in
    let some : 1 ≤ length a.out.now = omega arith in
    let all = rw room at (over_then 1 (0x81 ∷ []) a.out.now refl some _ (all_delivered ds) c.put_deliveries.new.out c.put.ensures
    (rw room c.put_deliveries.ensures)) in
    let n : 1 + 17 * length ids ≡ suc (length (all_delivered ds)) = rw (length_all ds, length-map ids (sent_at (hub_of a.hub.now) a.list.vector)) (omega arith) in
    rw (← c.delivered-ids.ensures) (record { bytes = all; count = n; fits = omega arith })
