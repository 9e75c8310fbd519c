-- `words::peers::put_peer` meets its contract: eight words inside the hub are stored.
use Prim.Native.Nat.{ℕ, ◌+◌, ◌-◌, ◌*◌}
use mathlib.Core.Path.{◌≡◌, refl}
use native.Mathlib.Omega.{arith}
use Rattle.words.proofs.LayoutLaws.{known_inside, peer_words, peer_put}
use Rattle.words.proofs.PartLaws.{copied_part, part_length}
use Rattle.words.proofs.peers.put_peer.Goals as goal

pub overflow_mul-start : goal.overflow_mul-start
overflow_mul-start c = omega (arith, known_inside _ _ c.requires)

pub overflow_add-start : goal.overflow_add-start
overflow_add-start c = omega (arith, known_inside _ _ c.requires)

pub overflow_add-start-2 : goal.overflow_add-start-2
overflow_add-start-2 c = omega (arith, known_inside _ _ c.requires)

pub offset_bounds-hub-start : goal.offset_bounds-hub-start
offset_bounds-hub-start c = omega (arith, known_inside _ _ c.requires)

pub slice_bounds-copy_from_slice-end : goal.slice_bounds-copy_from_slice-end
slice_bounds-copy_from_slice-end c = omega (arith, known_inside _ _ c.requires)

pub returns : goal.returns
returns c =
    let i = known_inside _ _ c.requires in
    let at : ℕ = 10 + 8 * c.args.i in
    let size : at + 8 - at ≡ 8 = omega arith in
    rw (c.copy_from_slice.ensures.after, size)
    (peer_put _ _ i.sized (part_length c.args.hub.now (peer_words c.args.p) at 8 (omega (arith, i)) refl) _ _ i.below
    (copied_part _ (peer_words c.args.p) at 8 (omega (arith, i)) refl))
