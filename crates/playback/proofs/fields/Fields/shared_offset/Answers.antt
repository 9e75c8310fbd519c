-- `playback::fields::Fields::shared_offset` meets its contract: the field is the number of its bytes.
use mathlib.Core.Path.{◌∙◌}
use native.Mathlib.Omega.{arith}
use Rattle.playback.proofs.FieldLaws.{four_number}
use Rattle.playback.proofs.fields.Fields.shared_offset.Goals as goal

pub returns : goal.returns
returns c = c.from.ensures ∙ c.from_le_bytes.ensures ∙ four_number 3 c.args.self.bytes.now _ c.part.ensures (omega arith)
