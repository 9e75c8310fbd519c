-- `gate::rings::target` meets its contract: the code's tests are the definition's, one by one.
use borrow.Author.Tests.{le-ltb, ne_eqb}
use Rattle.gate.proofs.RingLaws.{nobody, live, usable_fits}
use Rattle.gate.proofs.rings.target.Goals as goal

pub settings-s-requires : goal.settings-s-requires
settings-s-requires c = usable_fits _ c.requires

pub returns-then-s-from : goal.returns-then-s-from
returns-then-s-from c = nobody _ _ _ 0 (le-ltb _ _ (rw (c.settings-s.ensures, c.from.ensures) at c.if-s-from.true))

pub peer-p-requires : goal.peer-p-requires
peer-p-requires c = rw c.from-2.ensures (rw (c.settings-s.ensures, c.from.ensures) at c.if-s-from.false)

pub returns-then-p-ne1 : goal.returns-then-p-ne1
returns-then-p-ne1 c = nobody _ _ _ 1 (ne_eqb _ _ (rw (c.peer-p.ensures, c.from-2.ensures) at c.if-p-ne1.true))

pub returns-then-s-from-2 : goal.returns-then-s-from-2
returns-then-s-from-2 c = nobody _ _ _ 2 (le-ltb _ _ (rw (c.settings-s.ensures, c.from-3.ensures) at c.if-s-from-2.true))

pub entry_of-requires : goal.entry_of-requires
entry_of-requires c = ((rw (c.settings-s.ensures, c.from.ensures) at c.if-s-from.false), (rw (c.settings-s.ensures, c.from-3.ensures) at c.if-s-from-2.false))

pub returns : goal.returns
returns c =
    rw (c.gate_of.ensures, c.entry_of.ensures, c.peer-p.ensures, c.from-2.ensures)
    (live _ _ _ (rw (c.settings-s.ensures, c.from.ensures) at c.if-s-from.false) (rw (c.peer-p.ensures, c.from-2.ensures) at c.if-p-ne1.false)
    (rw (c.settings-s.ensures, c.from-3.ensures) at c.if-s-from-2.false))
