-- `Counted::sound` meets its contract: all peers are connected, or none, or some.
use mathlib.Core.Path.{ap, ◌∙◌}
use native.Mathlib.Omega.{arith}
use Rattle.device.specs.declared.Settings.{Settings}
use Rattle.soundness.proofs.ScanLaws.{one_run}
use Rattle.soundness.proofs.WholeLaws.{all_joined, none_joined}
use Rattle.soundness.proofs.whole.Counted.sound.Goals as goal

pub run_sound-requires : goal.run_sound-requires
run_sound-requires c =
    record {
      order = omega arith;
      known = omega (arith, c.peers-peers.ensures.value, ap (λ (s : Settings). s.peers) c.args.self.now.slots.same);
      alike = λ k l h. c.args.self.now.seen.all (c.if-connected-peers.true ∙ c.peers-peers.ensures.value) k (omega (arith, c.peers-peers.ensures.value));
    }

pub returns-then-connected-peers : goal.returns-then-connected-peers
returns-then-connected-peers c =
    let s = c.args.self.now.slots in
    rw (c.peer_fixed-fixed.ensures s.settings, c.args.self.now.seen.fixed, c.run_sound.ensures, c.peers-peers.ensures.value, one_run)
    (all_joined _ _ s.same (c.args.self.now.seen.all (c.if-connected-peers.true ∙ c.peers-peers.ensures.value)))

pub run_sound-requires-then-connected-eq0 : goal.run_sound-requires-then-connected-eq0
run_sound-requires-then-connected-eq0 c =
    record {
      order = omega arith;
      known = omega (arith, c.peers-peers.ensures.value, ap (λ (s : Settings). s.peers) c.args.self.now.slots.same);
      alike = λ k l h. c.args.self.now.seen.none c.if-connected-eq0.true k (omega (arith, c.peers-peers.ensures.value));
    }

pub returns-then-connected-eq0 : goal.returns-then-connected-eq0
returns-then-connected-eq0 c =
    let s = c.args.self.now.slots in
    rw (c.peer_reset-reset.ensures, c.args.self.now.seen.reset, c.run_sound-then-connected-eq0.ensures, c.peers-peers.ensures.value, one_run)
    (none_joined _ _ s.same (c.args.self.now.seen.none c.if-connected-eq0.true))
