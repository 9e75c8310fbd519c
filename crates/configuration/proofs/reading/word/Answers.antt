-- `configuration::reading::word` meets its contract: at each key the table's bytes make the word, and no field meets any other word.
use Prim.Native.Nat.{ℕ}
use mathlib.Core.List.{List, [], ◌∷◌}
use mathlib.Core.Path.{refl, sym}
use native.Mathlib.Omega.{arith}
use borrow.Author.Rules.{rules}
use Rattle.common.specs.Tests.{below}
use Rattle.common.proofs.WordLaws.{low_word, high_word, whole_word}
use Rattle.device.specs.Configuration.{fields, field_byte, configuration_byte, configuration_read}
use Rattle.configuration.proofs.ReadLaws.{NoneOf, two_halves, no_word}
use Rattle.configuration.proofs.reading.word.Goals as goal

-- the words that fields meet, the last first
abbrev keys : List ℕ
keys = 0x68 ∷ 0x64 ∷ 0x60 ∷ 0x5C ∷ 0x58 ∷ 0x54 ∷ 0x50 ∷ 0x4C ∷ 0x48 ∷ 0x44 ∷ 0x40 ∷ 0x34 ∷ 0x2C ∷ 0x14 ∷ 0x10 ∷ 0x08 ∷ 0x04 ∷ 0x00 ∷ []

pub returns-in-0 : goal.returns-in-0
unfolding configuration_read configuration_byte field_byte fields
returns-in-0 c = rw c.in-0.is

pub returns-in-4 : goal.returns-in-4
unfolding configuration_read configuration_byte field_byte fields
returns-in-4 c = rw (c.halves.ensures, c.from.ensures, c.in-4.is) (two_halves _ 0x0010)

pub returns-in-8 : goal.returns-in-8
unfolding configuration_read configuration_byte field_byte fields
returns-in-8 c = rw c.in-8.is (omega arith)

pub returns-in-16 : goal.returns-in-16
unfolding configuration_read configuration_byte field_byte fields
returns-in-16 c = rw (c.from-in-16.ensures, c.in-16.is) (whole_word c.args.p.bar0 (omega arith))

pub returns-in-20 : goal.returns-in-20
unfolding configuration_read configuration_byte field_byte fields
returns-in-20 c = rw (c.from-in-20.ensures, c.in-20.is) (whole_word c.args.p.bar1 (omega arith))

pub returns-in-44 : goal.returns-in-44
unfolding configuration_read configuration_byte field_byte fields
returns-in-44 c = rw (c.halves-in-44.ensures, c.in-44.is) (two_halves _ _)

pub returns-in-52 : goal.returns-in-52
unfolding configuration_read configuration_byte field_byte fields
returns-in-52 c = rw c.in-52.is

pub returns-in-64 : goal.returns-in-64
unfolding configuration_read configuration_byte field_byte fields
returns-in-64 c = rw c.in-64.is (omega arith)

pub returns-in-68 : goal.returns-in-68
unfolding configuration_read configuration_byte field_byte fields
returns-in-68 c = rw c.in-68.is (low_word c.args.s.table)

pub returns-in-72 : goal.returns-in-72
unfolding configuration_read configuration_byte field_byte fields
returns-in-72 c = rw c.in-72.is (low_word c.args.s.common)

pub returns-in-76 : goal.returns-in-76
unfolding configuration_read configuration_byte field_byte fields
returns-in-76 c = rw c.in-76.is (high_word c.args.s.common (omega arith))

pub returns-in-80 : goal.returns-in-80
unfolding configuration_read configuration_byte field_byte fields
returns-in-80 c = rw c.in-80.is (low_word c.args.s.output)

pub returns-in-84 : goal.returns-in-84
unfolding configuration_read configuration_byte field_byte fields
returns-in-84 c = rw c.in-84.is (high_word c.args.s.output (omega arith))

pub returns-in-88 : goal.returns-in-88
unfolding configuration_read configuration_byte field_byte fields
returns-in-88 c = rw c.in-88.is (low_word c.args.s.base)

pub returns-in-92 : goal.returns-in-92
unfolding configuration_read configuration_byte field_byte fields
returns-in-92 c = rw c.in-92.is (high_word c.args.s.base (omega arith))

pub returns-in-96 : goal.returns-in-96
unfolding configuration_read configuration_byte field_byte fields
returns-in-96 c = rw c.in-96.is (omega arith)

pub returns-in-100 : goal.returns-in-100
unfolding configuration_read configuration_byte field_byte fields
returns-in-100 c = rw c.in-100.is

pub returns-in-104 : goal.returns-in-104
unfolding configuration_read configuration_byte field_byte fields
returns-in-104 c = rw c.in-104.is

pub returns-in_default : goal.returns-in_default
unfolding fields below
returns-in_default c =
    let a = c.args in
    let none : NoneOf a.at keys = search rules in
    sym (no_word a.s a.p keys a.at refl none (omega arith))
