-- What a record leaves, by what it comes to.
use mathlib.Core.Path.{◌≡◌, ◌∙◌}
use Rattle.reader.specs.declared.Message.{Message}
use Rattle.reader.specs.declared.steps.Known.{Known}
use Rattle.reader.specs.Parts.{Leaves}
use Rattle.reader.specs.Steps.{Result}

pub leaves_same : {before after : Known} {m : Message} {r s : Result} → Leaves before after m r → r ≡ s → Leaves before after m s
leaves_same l e = record { is = l.is ∙ e; counts = l.counts; vectors = l.vectors }
