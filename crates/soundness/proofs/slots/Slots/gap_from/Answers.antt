use mathlib.Core.Path.{refl, sym, ◌∙◌}
use native.Mathlib.Omega.{arith}
use Rattle.soundness.proofs.AbsentLaws.{gap_first, gap_more}
use Rattle.soundness.proofs.slots.Slots.gap_from.Goals as goal

pub loop-i-init : goal.loop-i-init
loop-i-init c = record { start = refl; end = refl; run = rw c.peer.ensures (gap_first _ _ _ c.requires) }

pub loop-i-preserved : goal.loop-i-preserved
loop-i-preserved c =
    let i = c.loop-i.invariant in
    record {
      start = i.start;
      end = refl;
      run =
          rw (c.together-gap.ensures, c.peer-p.ensures, ← i.end)
          (gap_more _ _ _ i.run (omega (arith, c.peers-peers.ensures.value)) (rw (← i.end) at (sym c.connected.ensures ∙ c.if-connected.false)));
    }
