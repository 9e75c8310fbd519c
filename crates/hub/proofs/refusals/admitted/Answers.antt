-- `hub::refusals::admitted` meets its contract: what is known of a caller that is let pass.
use mathlib.Core.Path.{sym, ◌∙◌}
use Rattle.hub.proofs.RefusalLaws.{known_caller, same_length}
use Rattle.hub.proofs.refusals.admitted.Goals as goal

pub returns-clause-found : goal.returns-clause-found
returns-clause-found c =
    let same = rw (c.has_other_length.ensures, c.total.ensures, c.settings-settings.ensures) at c.if-has_other_length.false in
    record {
      admitted = known_caller _ _ _ (sym c.sound.ensures ∙ c.if-not-sound.false) (same_length _ _ same)
          (rw c.settings-settings.ensures at c.if-settings-id.false);
      settings = c.settings-settings.ensures;
      peer = c.peer-peer.ensures;
    }
