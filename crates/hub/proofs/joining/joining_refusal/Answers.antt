-- `hub::joining::joining_refusal` meets its contract: what is known of a peer that may connect.
use mathlib.Core.Path.{sym, ◌∙◌}
use Rattle.hub.proofs.RefusalLaws.{known_caller}
use Rattle.hub.proofs.joining.joining_refusal.Goals as goal

pub returns-clause-facts : goal.returns-clause-facts
returns-clause-facts c =
    known_caller _ _ _ (sym c.sound.ensures ∙ c.if-not-sound.false) tt (rw c.settings-s.ensures at c.if-s-id.false)
