-- `deliveries::ring_one` meets its contract: what the ring gave is what is listed.
use Rattle.device.specs.Sizes.{max_peers}
use Rattle.gate.proofs.RingLaws.{peer_below, reached}
use Rattle.deliveries.proofs.ListedLaws.{id_byte, ring_listed}
use Rattle.deliveries.proofs.ring_one.Goals as goal

pub returns : goal.returns
unfolding max_peers
returns c =
    let r = c.ring-delivered in
    let a = c.args in
    record {
      hub = r.ensures.hub;
      deliveries =
          ring_listed _ _ _ _ _ r.ensures.hub r.ensures.deliveries _ _ c.from.ensures
          (λ is. id_byte _ (peer_below a.hub.now _ c.requires (reached _ a.t a.v (rw is at r.ensures.deliveries))));
    }
