-- `hub::joining::set_up_refusal` meets its contract: accepted numbers are small enough to count the words.
use mathlib.Core.Path.{sym, ◌∙◌}
use Rattle.device.proofs.SetUpLaws.{accepted_facts}
use Rattle.hub.proofs.joining.set_up_refusal.Goals as goal

pub hub_words-requires : goal.hub_words-requires
hub_words-requires c =
    let f = accepted_facts _ (sym c.accepted.ensures ∙ c.if-not-accepted.false) in
    (f.peers, f.vectors)
