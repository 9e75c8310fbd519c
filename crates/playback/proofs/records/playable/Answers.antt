-- `playback::records::playable` meets its contract.
use mathlib.Core.Bool.{false}
use mathlib.Core.Path.{◌≡◌, refl, sym, ◌∙◌}
use lib.Dec.{leb}
use borrow.Author.Tests.{lt-leb}
use Rattle.device.proofs.SetUpLaws.{accepted_facts}
use Rattle.device.specs.SetUp.{total}
use Rattle.playback.proofs.SetUpLaws.{not_accepted, too_large}
use Rattle.playback.specs.Answers.{max_total}
use Rattle.playback.proofs.records.playable.Goals as goal

pub returns-then-not-accepted : goal.returns-then-not-accepted
returns-then-not-accepted c = (refl, not_accepted c.args.s (sym c.accepted.ensures ∙ c.if-not-accepted.true))

pub returns-then-total : goal.returns-then-total
returns-then-total c =
    let e : leb (total c.args.s) max_total ≡ false = rw (← c.total-total.ensures) (lt-leb _ _ c.if-total.true) in
    (refl, too_large c.args.s e)

pub hub_words-requires : goal.hub_words-requires
hub_words-requires c =
    let f = accepted_facts c.args.s (sym c.accepted.ensures ∙ c.if-not-accepted.false) in
    (f.peers, f.vectors)
