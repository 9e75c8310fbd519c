-- `reader::records::place` meets its contract.
use Prim.Native.Nat.{ℕ, ◌-◌}
use mathlib.Core.Path.{ap, ◌∙◌}
use native.Mathlib.Omega.{arith}
use lib.ListN.{get_or}
use borrow.Author.Tests.{lt-ltb, le-ltb}
use Rattle.std.specs.Prelude.{Option, unwrap_or}
use Rattle.reader.proofs.PlaceLaws.{get_or_cond}
use Rattle.reader.specs.Parts.{placed}
use Rattle.reader.proofs.records.place.Goals as goal

pub returns-then-k-held : goal.returns-then-k-held
unfolding placed
returns-then-k-held c = rw (lt-ltb _ _ c.if-k-held.true)

pub returns : goal.returns
unfolding placed
returns c =
    let a = c.args in
    let old = get_or a.bytes a.k 0 in
    rw (le-ltb _ _ c.if-k-held.false)
    (c.unwrap_or.ensures
    ∙ ap (λ (o : Option ℕ). unwrap_or o old) c.copied.ensures
    ∙ c.get.ensures.lookup.4 (omega arith) old
    ∙ get_or_cond a.input.now (a.k - a.held) old)
