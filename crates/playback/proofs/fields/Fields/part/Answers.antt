-- `playback::fields::Fields::part` meets its contract.
use Prim.Native.Nat.{◌+◌, ◌-◌}
use mathlib.Core.Path.{◌≡◌, ◌∙◌}
use native.Mathlib.Omega.{arith}
use Rattle.playback.proofs.fields.Fields.part.Goals as goal

pub returns : goal.returns
returns g c =
    let e = rw c.unwrap.ensures at c.as_array.ensures.cases in
    let n : c.args.at + g.row.N - c.args.at ≡ g.row.N = omega arith in
    e.same ∙ rw n
