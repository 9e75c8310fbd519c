use Prim.Native.Nat.{ℕ}
use mathlib.Core.Path.{◌≡◌, refl, sym, ap, ◌∙◌}
use native.Mathlib.Omega.{arith}
use lib.ListN.{length, replicate}
use Rattle.common.proofs.ListLaws.{filled_more, filled_all}
use Rattle.words.proofs.parts.fill.Goals as goal

pub loop-word-init : goal.loop-word-init
loop-word-init c = refl

pub loop-word-preserved : goal.loop-word-preserved
loop-word-preserved c = rw c.loop-word.invariant (filled_more c.loop-word.word-index c.args.value c.args.part.now (omega arith))

pub returns : goal.returns
returns c =
    let e : c.loop-word.word-index ≡ length c.args.part.now = omega arith in
    c.loop-word.invariant
    ∙ filled_all c.loop-word.word-index c.args.value c.args.part.now (sym e)
    ∙ ap (λ (n : ℕ). replicate n c.args.value) e
