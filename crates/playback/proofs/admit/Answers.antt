-- `playback::admit` meets its contract.
use Prim.Native.Nat.{◌≤◌}
use mathlib.Core.Bool.{true}
use mathlib.Core.Path.{◌≡◌, sym, ◌∙◌}
use lib.Dec.{ltb}
use borrow.Author.Tests.{lt-ltb, le-ltb}
use Rattle.playback.proofs.LentLaws.{lent_facts, not_lent, no_room, no_refusal}
use Rattle.playback.specs.Answers.{longest}
use Rattle.playback.specs.Promises.{is_lent}
use Rattle.playback.proofs.admit.Goals as goal

pub returns-then-not-lent-clause-is : goal.returns-then-not-lent-clause-is
returns-then-not-lent-clause-is c =
    let a = c.args in
    not_lent a.hub.now a.region.now a.held.now a.p a.room (sym c.lent.ensures ∙ c.if-not-lent.true)

pub returns-then-room-longest_answer-clause-is : goal.returns-then-room-longest_answer-clause-is
returns-then-room-longest_answer-clause-is c =
    let a = c.args in
    let l : ltb a.room longest ≡ true = lt-ltb _ _ (rw c.longest_answer.ensures at c.if-room-longest_answer.true) in
    no_room a.hub.now a.region.now a.held.now a.p a.room (sym c.lent.ensures ∙ c.if-not-lent.false) l

pub returns : goal.returns
returns c =
    let a = c.args in
    let e : is_lent a.hub.now a.region.now a.held.now a.p ≡ true = sym c.lent.ensures ∙ c.if-not-lent.false in
    let l : longest ≤ a.room = rw c.longest_answer.ensures at c.if-room-longest_answer.false in
    record {
      is = no_refusal a.hub.now a.region.now a.held.now a.p a.room e (le-ltb _ _ l);
      facts = (lent_facts a.hub.now a.region.now a.held.now a.p e, l);
    }
