-- `sections::owner_of` meets its contract: each way out is a law of the search through the output sections.
use Prim.Native.Nat.{◌-◌, ◌+◌, ◌*◌, ◌/◌, ◌≤◌, ◌<◌}
use mathlib.Core.Path.{◌≡◌, ◌∙◌}
use native.Mathlib.Nat.{mul-le-mul_right}
use native.Mathlib.Omega.{arith}
use Rattle.device.proofs.SetUpLaws.{accepted_facts, table_small, common_small}
use Rattle.device.proofs.SizeLaws.{max_peers_small}
use Rattle.device.specs.SetUp.{total}
use Rattle.sections.proofs.OutputLaws.{none_before, none_empty, none_past, none_cut, found}
use Rattle.sections.proofs.owner_of.Goals as goal

pub overflow_add-first : goal.overflow_add-first
overflow_add-first c =
    let f = accepted_facts c.args.s c.requires.numbers in
    record { fits = omega (arith, table_small _ f, common_small _ f) }

pub returns-in_err-past : goal.returns-in_err-past
returns-in_err-past c =
    let a = c.args in
    let past : a.s.table + a.s.common ≤ a.offset → ⊥ = c.in_err-past.ensures in
    rw c.from_residual.ensures (none_before a.s a.offset a.length c.requires.range.0 (omega arith))

pub returns-in_err-i : goal.returns-in_err-i
returns-in_err-i c =
    let a = c.args in
    let some : 0 < a.s.output → ⊥ = c.in_err-i.ensures in
    rw c.from_residual-in_err-i.ensures (none_empty a.s a.offset a.length c.requires.range.0 (omega arith))

pub returns-then-s-i : goal.returns-then-s-i
returns-then-s-i c =
    let a = c.args in
    let e : c.in_ok-i.i ≡ (a.offset - (a.s.table + a.s.common)) / a.s.output = c.in_ok-i.ensures.1 ∙ rw c.in_ok-past.ensures.1 in
    none_past a.s a.offset a.length c.requires.range.0 (omega arith)

pub overflow_add-first-3 : goal.overflow_add-first-3
unfolding total
overflow_add-first-3 c =
    let a = c.args in
    let f = accepted_facts a.s c.requires.numbers in
    let within : (c.in_ok-i.i + 1) * a.s.output ≤ a.s.peers * a.s.output = mul-le-mul_right a.s.output (omega arith) in
    record { fits = omega (arith, f.whole) }

pub overflow_cast-result : goal.overflow_cast-result
overflow_cast-result c =
    let f = accepted_facts c.args.s c.requires.numbers in
    record { fits = omega (arith, f.peers, max_peers_small) }

pub returns-then-first-i : goal.returns-then-first-i
returns-then-first-i c =
    let a = c.args in
    let e : c.in_ok-i.i ≡ (a.offset - (a.s.table + a.s.common)) / a.s.output = c.in_ok-i.ensures.1 ∙ rw c.in_ok-past.ensures.1 in
    none_cut a.s a.offset a.length c.requires.range.0 (rw e at c.if-first-i.true)

pub returns : goal.returns
returns c =
    let a = c.args in
    let e : c.in_ok-i.i ≡ (a.offset - (a.s.table + a.s.common)) / a.s.output = c.in_ok-i.ensures.1 ∙ rw c.in_ok-past.ensures.1 in
    rw e
    (found a.s a.offset a.length c.requires.range.0 c.in_ok-past.ensures.0 (omega arith) (rw e at c.if-first-i.false))
