use mathlib.Core.Path.{refl, sym, ap, ◌∙◌}
use native.Mathlib.Omega.{arith}
use lib.ListN.{length}
use Rattle.device.proofs.SetUpLaws.{accepted_facts}
use Rattle.device.proofs.SizeLaws.{max_peers_byte}
use Rattle.device.specs.Sizes.{max_peers}
use Rattle.device.specs.World.{Hub}
use Rattle.device.specs.declared.Settings.{Settings}
use Rattle.gate.proofs.RingLaws.{peer_below, usable_fits, usable_kept}
use Rattle.words.specs.Layout.{hub_of}
use Rattle.deliveries.proofs.ListedLaws.{id_fits, counted, of_zero, More, more_lost, more_delivered, but_kept, rest_first, rest_more, rest_last}
use Rattle.deliveries.proofs.ring_others.Goals as goal
use Rattle.deliveries.proofs.ring_others.Goals.{then-ring_other, else-ring_other}

pub settings-peers-requires : goal.settings-peers-requires
settings-peers-requires c = usable_fits _ c.requires

pub overflow_cast-i-end : goal.overflow_cast-i-end
overflow_cast-i-end c =
    rw c.settings-peers.ensures (omega (arith, max_peers_byte, (accepted_facts _ c.requires.numbers).peers))

pub loop-i-init : goal.loop-i-init
unfolding max_peers
loop-i-init c =
    let peers = ap (λ (s : Settings). s.peers) c.settings-peers.ensures in
    record { usable = c.requires; kept = refl; same = peers; few = omega arith; room = refl; rest = rest_first _ _ _ _ peers refl }

pub ring_other-requires : goal.ring_other-requires
ring_other-requires c = record { usable = c.loop-i.invariant.usable; known = omega (arith, c.loop-i.invariant.same) }

pub overflow_cast-targets : goal.overflow_cast-targets
overflow_cast-targets c =
    let inv = c.loop-i.invariant in
    omega (arith, id_fits _ (peer_below c.loop-i.hub c.loop-i.i inv.usable (omega (arith, inv.same))))

pub bounds-targets-count : goal.bounds-targets-count
unfolding max_peers
bounds-targets-count c =
    let inv = c.loop-i.invariant in
    omega (arith, inv.few, peer_below c.loop-i.hub c.loop-i.i inv.usable (omega (arith, inv.same)))

pub loop-i-preserved : goal.loop-i-preserved
loop-i-preserved c =
    let inv = c.loop-i.invariant in
    let s = ap (λ (h : Hub). h.settings) c.ring_other.ensures.hub ∙ (but_kept _ _ _).settings in
    let id = peer_below c.loop-i.hub c.loop-i.i inv.usable (omega (arith, inv.same)) in
    let more : More (hub_of c.loop-i.hub) c.loop-i.i (of_zero c.loop-i.count c.loop-i.targets) c.ring_other.result
    (of_zero c.if-ring_other.count c.if-ring_other.targets) =
    elim c.if-ring_other.branch [
      | then-ring_other w ↦ rw (w.count-is, w.targets-is, w.if-ring_other.true)
          (more_delivered _ _ _ _ (rw inv.room (omega (arith, inv.few))))
      | else-ring_other w ↦ rw (w.count-is, w.targets-is, w.if-ring_other.false) (more_lost _ _ _)
    ] in
    record {
      usable = usable_kept _ _ inv.usable s;
      kept = c.ring_other.auto.hub ∙ inv.kept;
      same = inv.same ∙ ap (λ (s : Settings). s.peers) (sym s);
      few = omega (arith, more.few, inv.few);
      room = more.room ∙ inv.room;
      rest = rest_more _ _ _ _ _ _ _ _ _ c.loop-i-test.true c.ring_other.ensures.hub
          c.ring_other.ensures.deliveries more inv.rest;
    }

pub shape_of-hub : goal.shape_of-hub
shape_of-hub c = c.loop-i.invariant.kept

pub returns : goal.returns
returns c =
    let inv = c.loop-i.invariant in
    let r = rest_last _ _ _ _ _ _ (omega arith) inv.rest in
    let few = counted (hub_of c.loop-i.hub) (of_zero c.loop-i.count c.loop-i.targets)
    (omega (arith, inv, (accepted_facts _ inv.usable.numbers).peers)) in
    record { hub = r.0; deliveries = record { deliveries = r.1; count = few ∙ ap length r.1 } }
