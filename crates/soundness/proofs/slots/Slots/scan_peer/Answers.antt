-- `Slots::scan_peer` meets its contract: the run goes on, or ends and another begins.
use denote.Enum.Bare.{same_true}
use mathlib.Core.Path.{sym, ap, ◌∙◌}
use Rattle.std.proofs.Common.{rules}
use Rattle.soundness.specs.contracts.runs.Standing.{the_type}
use Rattle.soundness.specs.Scanned.{stands}
use Rattle.soundness.proofs.ScanLaws.{known_id, registers_fail, scan_same, scan_ended}
use Rattle.soundness.proofs.slots.Slots.scan_peer.Goals as goal

pub returns-then-not-ok : goal.returns-then-not-ok
returns-then-not-ok c = registers_fail _ _ (rw (c.connected-used.ensures, c.peer_reset-reset.ensures, c.peer-p.ensures) at c.if-not-ok.true)

pub returns-then-eq : goal.returns-then-eq
returns-then-eq c =
    scan_same _ _ _ (known_id _ _ _ c.args.self.now.same c.requires.known) c.requires.passed
    (rw (c.connected-used.ensures, c.peer_reset-reset.ensures, c.peer-p.ensures) at c.if-not-ok.false)
    (sym (rw c.peer-p.ensures at c.of-standing.ensures) ∙ ap stands (same_true the_type (search rules) _ _ (sym c.if-eq.ensures)))

pub returns : goal.returns
returns c =
    rw c.then_some.ensures
    (scan_ended _ _ _ (known_id _ _ _ c.args.self.now.same c.requires.known) c.requires.passed
    (rw (c.connected-used.ensures, c.peer_reset-reset.ensures, c.peer-p.ensures) at c.if-not-ok.false) _ c.run_sound-run.ensures _ (rw c.peer-p.ensures at (sym c.of-standing.ensures)))
