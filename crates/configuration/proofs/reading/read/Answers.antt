-- `configuration::reading::read` meets its contract: the bytes asked for are the word's, from their place on and cut to their number.
use Prim.Native.Nat.{◌+◌, ◌-◌, ◌*◌, ◌/◌, ◌%◌, ◌<◌, ◌≤◌, ◌^◌}
use mathlib.Core.Path.{◌≡◌, sym}
use native.Mathlib.Nat.{lt_of_lt_of_le}
use native.Mathlib.Omega.{arith}
use lib.Bits.{bit_and, and_mask}
use lib.Pow.{pow_mono}
use Rattle.device.specs.Configuration.{configuration_read}
use Rattle.device.proofs.ConfigurationLaws.{read_small, read_within}
use Rattle.configuration.specs.Parts.{lanes}
use Rattle.configuration.proofs.reading.read.Goals as goal

pub returns : goal.returns
returns c =
    let a = c.args in
    let k = a.at % 4 in
    let base : a.at - k + k ≡ a.at = omega arith in
    let ones : lanes 0 a.width ≡ 2 ^ (8 * a.width) - 1 = omega arith in
    let e : bit_and (c.word-whole.result / 2 ^ (8 * k)) (lanes 0 a.width) ≡ configuration_read a.s a.p a.at a.width =
    rw (c.word-whole.ensures, ones, and_mask) (rw base at (sym (read_within a.s a.p (a.at - k) k a.width 4 (omega arith)))) in
    let width : 8 * a.width ≤ 32 = omega arith in
    let small : configuration_read a.s a.p a.at a.width < 2 ^ 32 =
    lt_of_lt_of_le (read_small a.s a.p a.at a.width) (pow_mono width) in
    rw c.enabled.ensures record { is = e; fits = rw e small }
