-- `reader::steps::Known::add` meets its contract.
use mathlib.Core.Path.{refl}
use native.Mathlib.Omega.{arith}
use borrow.Author.Tests.{lt-ltb, le-ltb}
use Rattle.reader.proofs.SizeLaws.{most_vectors_byte}
use Rattle.reader.specs.Steps.{adds}
use Rattle.reader.proofs.steps.Known.add.Goals as goal

pub overflow_add-self : goal.overflow_add-self
overflow_add-self c = omega (arith, most_vectors_byte)

pub overflow_add-result : goal.overflow_add-result
overflow_add-result c = omega (arith, most_vectors_byte)

pub returns-then-from-self : goal.returns-then-from-self
unfolding adds
returns-then-from-self c =
    let l = rw (c.from.ensures, c.from-at.ensures) at c.if-from-self.true in
    record { is = rw (c.from-at.ensures, lt-ltb _ _ l); counts = refl; vectors = refl }

pub returns : goal.returns
unfolding adds
returns c =
    let l = rw (c.from.ensures, c.from-at.ensures) at c.if-from-self.false in
    record { is = rw (c.from-at.ensures, le-ltb _ _ l); counts = refl; vectors = refl }
