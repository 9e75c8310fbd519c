-- `playback::finish` meets its contract.
use Prim.Native.Nat.{◌≤◌}
use mathlib.Core.Bool.{true, false}
use mathlib.Core.Path.{◌≡◌, refl, sym, ◌∙◌}
use native.Mathlib.Omega.{arith}
use lib.ListN.{length}
use Rattle.playback.proofs.LentLaws.{inside_is, not_inside}
use Rattle.playback.proofs.OverLaws.{nothing_over, one_over}
use Rattle.playback.specs.Player.{inside}
use Rattle.playback.specs.Promises.{player_in}
use Rattle.playback.proofs.finish.Goals as goal

pub returns-then-progress : goal.returns-then-progress
returns-then-progress c =
    let a = c.args in
    let e : inside (player_in a.hub.now a.region.now a.held.now a.progress) ≡ false =
    inside_is a.hub.now a.region.now a.held.now a.progress c.in_ok-admit.ensures.facts.0 ∙ not_inside _ _ true c.if-progress.true in
    record {
      number = c.in_ok-admit.ensures.is;
      written = rw e (record { bytes = sym (nothing_over _); count = refl; fits = omega arith });
    }

pub returns : goal.returns
returns c =
    let a = c.args in
    let some : 1 ≤ length a.out.now = omega (arith, c.in_ok-admit.ensures.facts.1) in
    let e : inside (player_in a.hub.now a.region.now a.held.now a.progress) ≡ true =
    inside_is a.hub.now a.region.now a.held.now a.progress c.in_ok-admit.ensures.facts.0 ∙ not_inside _ _ false c.if-progress.false in
    record {
      number = c.in_ok-admit.ensures.is;
      written = rw e (record { bytes = one_over a.out.now 0x84 some; count = refl; fits = some });
    }
