-- `words::entries::Entries::known` meets its contract: the four places are those of the entry's columns.
use native.Mathlib.Omega.{arith}
use Rattle.words.proofs.IndexLaws.{entry_below}
use Rattle.words.proofs.LayoutLaws.{known_inside, peers_at_lem, vectors_at, entry_read}
use Rattle.words.proofs.entries.Entries.known.Goals as goal

pub entry_start-at-requires : goal.entry_start-at-requires
entry_start-at-requires c =
    let s = c.args.self.now in
    rw (s.peers, s.vectors) (omega (arith, c.requires.known), omega (arith, c.requires.vector))

pub entry_from-requires : goal.entry_from-requires
entry_from-requires c =
    let s = c.args.self.now in
    let i = known_inside _ _ c.requires.known in
    let v = rw (vectors_at i.sized) at c.requires.vector in
    rw (c.entry_start-at.ensures, c.column.ensures, s.peers, s.vectors, peers_at_lem i.sized, vectors_at i.sized)
    (omega (arith, entry_below _ _ 3 _ _ (omega arith) i.below v, i.sized.size))

pub returns : goal.returns
returns c =
    let s = c.args.self.now in
    let i = known_inside _ _ c.requires.known in
    rw (
      c.entry_from.ensures,
      c.entry_start-at.ensures,
      c.column.ensures,
      s.peers,
      s.vectors,
      peers_at_lem i.sized,
      vectors_at i.sized,
    )
    (entry_read i.sized _ _ i.below (rw (vectors_at i.sized) at c.requires.vector))
