-- `playback::answers::put_deliveries` meets its contract.
use Prim.Native.Nat.{ℕ, ◌-◌, ◌*◌}
use mathlib.Core.List.{List}
use mathlib.Core.Path.{◌≡◌, refl, ap, ◌∙◌}
use native.Mathlib.Omega.{arith}
use lib.ListN.{length, get_or, take, drop}
use lib.Seq.{take-length}
use Rattle.common.specs.Lists.{over}
use Rattle.gate.specs.RingOutcome.{sent_at}
use Rattle.words.specs.Layout.{hub_of}
use Rattle.playback.proofs.DeliveryLaws.{first_of, length_first, first_more}
use Rattle.playback.proofs.OverLaws.{over_then}
use Rattle.playback.specs.Answers.{delivered, all_delivered}
use Rattle.playback.proofs.answers.put_deliveries.Goals as goal

pub loop-i-init : goal.loop-i-init
unfolding over all_delivered
loop-i-init c = refl

pub loop-i-preserved : goal.loop-i-preserved
loop-i-preserved c =
    let l = c.loop-i in
    let out₀ = c.args.out.now in
    let ids = c.args.ids.now in
    let v = c.args.v in
    let hub = hub_of c.args.hub.now in
    let n = length_first hub v ids l.i (omega arith) in
    let part = take (length l.out - 17 * l.i) (drop (17 * l.i) l.out) in
    let rest : c.put_delivery.new.out ≡ over (delivered (sent_at hub v (get_or ids l.i 0))) part =
    rw (← c.sent.ensures) c.put_delivery.ensures in
    over_then (17 * l.i) (all_delivered (first_of hub v ids l.i)) out₀ n (omega arith) l.out _ _ l.invariant rest
    ∙ ap (λ (x : List ℕ). over x out₀) (first_more hub v ids l.i (omega arith))

pub returns : goal.returns
returns c =
    let e : c.loop-i.i ≡ length c.args.ids.now = omega arith in
    c.loop-i.invariant ∙ rw (e, take-length c.args.ids.now)
