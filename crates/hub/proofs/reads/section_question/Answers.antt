-- `hub::reads::section_question` meets its contract: a refusal is the table's, and an accepted question is its effect.
use mathlib.Core.Path.{sym, ◌∙◌}
use Rattle.device.specs.Effect.{effect}
use Rattle.words.specs.Layout.{hub_of}
use Rattle.hub.proofs.RefusalLaws.{question_refusal}
use Rattle.hub.proofs.ReplyLaws.{question_accepted}
use Rattle.hub.proofs.reads.section_question.Goals as goal

pub returns : goal.returns
unfolding effect
returns c =
    let a = c.args in
    λ region.
    rw (c.answer.ensures, c.in_ok-kind.ensures.section)
    (question_accepted _ _ (question_refusal (hub_of a.hub.now) region a.id a.offset a.length ∙ sym c.in_ok-kind.ensures.is))
