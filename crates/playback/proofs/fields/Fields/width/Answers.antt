-- `playback::fields::Fields::width` meets its contract: the field is the number of its bytes.
use mathlib.Core.Path.{◌∙◌}
use native.Mathlib.Omega.{arith}
use Rattle.playback.proofs.FieldLaws.{one_number}
use Rattle.playback.proofs.fields.Fields.width.Goals as goal

pub returns : goal.returns
returns c = c.from.ensures ∙ c.from_le_bytes.ensures ∙ one_number 5 c.args.self.bytes.now _ c.part.ensures (omega arith)
