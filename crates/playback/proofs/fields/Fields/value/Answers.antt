-- `playback::fields::Fields::value` meets its contract: the field is the number of its bytes.
use mathlib.Core.Path.{◌∙◌}
use native.Mathlib.Omega.{arith}
use Rattle.playback.proofs.FieldLaws.{four_number}
use Rattle.playback.proofs.fields.Fields.value.Goals as goal

pub returns : goal.returns
returns c = c.from_le_bytes.ensures ∙ four_number c.args.at c.args.self.bytes.now _ c.part.ensures (omega arith)
