use mathlib.Core.Path.{◌≡◌, refl, ap, ◌∙◌}
use native.Mathlib.Omega.{arith}
use Rattle.device.specs.World.{Hub}
use Rattle.words.proofs.LayoutLaws.{known_fits}
use Rattle.words.proofs.SlotLaws.{slot_kept, cleared_more, cleared_all}
use Rattle.words.proofs.slots.put_reset.Goals as goal

pub stored-counts-requires : goal.stored-counts-requires
stored-counts-requires c = known_fits c.put_peer.new.hub c.args.i (rw c.put_peer.ensures c.requires)

pub loop-v-init : goal.loop-v-init
loop-v-init c =
    record {
      known = rw c.put_peer.ensures c.requires;
      peers = c.stored-counts.ensures.0;
      vectors = c.stored-counts.ensures.1;
      kept = refl;
      reset = slot_kept _ _;
    }

pub put_entry_in-requires : goal.put_entry_in-requires
put_entry_in-requires c =
    let inv = c.loop-v.invariant in record {
      peers = rw inv.reset inv.peers;
      vectors = rw inv.reset inv.vectors;
      known = rw inv.reset inv.known;
      vector = rw inv.reset (rw inv.vectors at c.loop-v-test.true);
    }

pub loop-v-preserved : goal.loop-v-preserved
loop-v-preserved c =
    let inv = c.loop-v.invariant in
    record {
      known = inv.known;
      peers = inv.peers;
      vectors = inv.vectors;
      kept = c.put_entry_in.auto.hub ∙ inv.kept;
      reset =
          cleared_more _ _ _ _ inv.known _ (rw inv.vectors at c.loop-v-test.true) inv.reset
          (rw c.reset-in-loop-v.ensures at c.put_entry_in.ensures);
    }

pub shape_of-hub : goal.shape_of-hub
shape_of-hub c = c.loop-v.invariant.kept ∙ c.put_peer.auto.hub

pub returns : goal.returns
returns c =
    let inv = c.loop-v.invariant in
    let e : c.loop-v.v ≡ c.stored-counts.result.vectors = omega arith in
    let last = e ∙ inv.vectors ∙ ap (λ (h : Hub). h.settings.vectors) c.put_peer.ensures in
    cleared_all _ _ _ _ c.requires _ (rw c.reset.ensures at c.put_peer.ensures) (rw last at inv.reset)
