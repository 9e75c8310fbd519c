-- `words::entries::put_entry_in` meets its contract: four words inside the hub, a column apart, are stored.
use native.Mathlib.Omega.{arith}
use Rattle.words.proofs.IndexLaws.{row_below, entry_below}
use Rattle.words.proofs.LayoutLaws.{known_inside, peers_at_lem, vectors_at, entry_put}
use Rattle.words.proofs.entries.put_entry_in.Goals as goal

pub put_entry-requires : goal.put_entry-requires
put_entry-requires c =
    let r = c.requires in
    let i = known_inside _ _ r.known in
    let v = rw (vectors_at i.sized) at r.vector in
    rw (c.entry_start.ensures, c.column.ensures, r.peers, r.vectors, peers_at_lem i.sized, vectors_at i.sized)
    record { apart = omega (arith, row_below _ _ i.below v); inside = omega (arith, entry_below _ _ 3 _ _ (omega arith) i.below v, i.sized.size) }

pub returns : goal.returns
returns c =
    let r = c.requires in
    let i = known_inside _ _ r.known in
    entry_put _ _ i.sized c.put_entry.auto.hub _ _ _ i.below (rw (vectors_at i.sized) at r.vector)
    (rw (c.entry_start.ensures, c.column.ensures, r.peers, r.vectors, peers_at_lem i.sized, vectors_at i.sized)
    at c.put_entry.ensures)
