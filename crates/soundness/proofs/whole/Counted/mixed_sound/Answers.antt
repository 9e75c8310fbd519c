-- `Counted::mixed_sound` meets its contract: either way the tests are those of every slot.
use Rattle.device.specs.Sound.{entry_fixed}
use Rattle.soundness.proofs.WholeLaws.{whole_run, few_absent, many_absent}
use Rattle.soundness.proofs.whole.Counted.mixed_sound.Goals as goal

pub returns-then-peers-self : goal.returns-then-peers-self
returns-then-peers-self c =
    let s = c.args.self.now.slots in
    rw (
      c.peer_fixed-fixed.ensures s.settings,
      c.args.self.now.seen.fixed,
      c.entries_fixed-entries.ensures,
      c.peers-peers.ensures.value,
      whole_run _ _ s.same _ entry_fixed,
      c.absent_sound-absent.ensures,
    )
    (few_absent _ _ s.same)

pub returns : goal.returns
returns c =
    let s = c.args.self.now.slots in
    rw (c.peer_fixed-fixed.ensures s.settings, c.args.self.now.seen.fixed, c.runs_sound-runs.ensures) (many_absent _ _ s.same)
