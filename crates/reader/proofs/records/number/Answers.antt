-- `reader::records::number` meets its contract.
use mathlib.Core.Path.{◌∙◌, ap}
use native.Mathlib.Omega.{arith}
use mir.Facts.{to_z-of_z}
use mir.Syntax.{w64}
use mir.Val.{SFits}
use borrow.Author.Rules.{sfits_of}
use Rattle.common.specs.Bytes.{number}
use Rattle.reader.specs.Records.{signed}
use Rattle.reader.proofs.records.number.Goals as goal

pub returns : goal.returns
unfolding number
returns c = let f : SFits w64 c.as_signed.result = sfits_of c.as_signed.type_inv in to_z-of_z f ∙ c.as_signed.ensures ∙ ap signed (omega arith)
