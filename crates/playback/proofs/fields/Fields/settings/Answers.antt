-- `playback::fields::Fields::settings` meets its contract: each field is the number of its bytes. No place is named here, so that a
-- place which is wrong in the definition and in the code alike is for the case to refuse.
use mathlib.Core.Path.{ap, ◌∙◌}
use native.Mathlib.Omega.{arith}
use Rattle.common.specs.Bytes.{number}
use Rattle.playback.proofs.FieldLaws.{two_worth, four_worth, eight_worth}
use Rattle.playback.specs.Log.{field}
use Rattle.playback.proofs.fields.Fields.settings.Goals as goal

pub returns : goal.returns
unfolding field
returns c =
    rw (
      c.from.ensures ∙ c.from_le_bytes.ensures ∙ two_worth c.part.result (omega arith) ∙ ap number c.part.ensures,
      c.from-2.ensures ∙ c.from_le_bytes-2.ensures ∙ two_worth c.part-2.result (omega arith) ∙ ap number c.part-2.ensures,
      c.from-3.ensures ∙ c.from_le_bytes-3.ensures ∙ four_worth c.part-3.result (omega arith) ∙ ap number c.part-3.ensures,
      c.from_le_bytes-4.ensures ∙ eight_worth c.part-4.result (omega arith) ∙ ap number c.part-4.ensures,
      c.from_le_bytes-5.ensures ∙ eight_worth c.part-5.result (omega arith) ∙ ap number c.part-5.ensures,
      c.from_le_bytes-6.ensures ∙ eight_worth c.part-6.result (omega arith) ∙ ap number c.part-6.ensures,
      c.from-4.ensures ∙ c.from_le_bytes-7.ensures ∙ two_worth c.part-7.result (omega arith) ∙ ap number c.part-7.ensures,
      c.from-5.ensures ∙ c.from_le_bytes-8.ensures ∙ two_worth c.part-8.result (omega arith) ∙ ap number c.part-8.ensures,
      c.from-6.ensures ∙ c.from_le_bytes-9.ensures ∙ two_worth c.part-9.result (omega arith) ∙ ap number c.part-9.ensures,
    )
