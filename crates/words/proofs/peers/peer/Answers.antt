-- `words::peers::peer` meets its contract: the eight words are inside the hub.
use mathlib.Core.Path.{◌∙◌}
use native.Mathlib.Omega.{arith}
use Rattle.words.proofs.LayoutLaws.{known_inside, peer_read}
use Rattle.words.proofs.peers.peer.Goals as goal

pub overflow_mul-i : goal.overflow_mul-i
overflow_mul-i c = omega (arith, known_inside _ _ c.requires)

pub overflow_add-i : goal.overflow_add-i
overflow_add-i c = omega (arith, known_inside _ _ c.requires)

pub peer_from-requires : goal.peer_from-requires
peer_from-requires c = omega (arith, known_inside _ _ c.requires)

pub returns : goal.returns
returns c = let i = known_inside _ _ c.requires in c.peer_from.ensures ∙ peer_read i.sized _ i.below
