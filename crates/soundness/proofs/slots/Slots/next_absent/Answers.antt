-- `Slots::next_absent` meets its contract: `find` passes the connected peers.
use mathlib.Core.Bool.{true, false}
use mathlib.Core.Path.{◌≡◌}
use Prim.Native.Nat.{ℕ}
use Rattle.std.proofs.Common.{rules}
use borrow.Author.Tests.{tests}
use Rattle.std.proofs.lemmas.Iterator.{first_from_Range}
use Rattle.soundness.specs.Scanned.{joined}
use Rattle.soundness.proofs.AbsentLaws.{next_told}
use Rattle.soundness.proofs.slots.Slots.next_absent.Goals as goal

pub returns : goal.returns
returns c =
    let ws = c.args.self.now.hub.now in
    next_told ws c.args.from c.args.self.now.settings.peers c.find.result
    (rw c.peers.ensures.value at (first_from_Range _ _ _ _ (λ (i : ℕ). joined ws i ≡ false) (λ (i : ℕ). joined ws i ≡ true) c.find.ensures.ran (λ x q k. search (rules, tests)) (λ x q k. search (rules, tests))))
