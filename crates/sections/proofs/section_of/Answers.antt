-- `sections::section_of` meets its contract: nothing lies beyond the whole, and the tests are those of the search.
use Prim.Native.Nat.{◌+◌, ◌^◌, ◌≤◌, ◌<◌}
use mathlib.Core.Path.{◌≡◌, sym, ◌∙◌}
use native.Mathlib.Omega.{arith}
use Rattle.device.proofs.SetUpLaws.{accepted_facts, table_small, common_small}
use Rattle.sections.proofs.OutputLaws.{beyond, in_table_lem, in_common, in_outputs}
use Rattle.sections.proofs.section_of.Goals as goal
use Rattle.sections.proofs.section_of.Goals.{else-s-offset-via-then-s-offset+else-end-s-2, else-s-offset-via-else-s-offset}

pub returns-then-offset-gt-MOST_BYTES : goal.returns-then-offset-gt-MOST_BYTES
returns-then-offset-gt-MOST_BYTES c =
    let a = c.args in
    let f = accepted_facts a.s c.requires.numbers in
    let g = f.whole in
    sym (beyond a.s a.offset a.length (omega arith))

pub returns-in_default : goal.returns-in_default
returns-in_default c =
    let a = c.args in
    let f = accepted_facts a.s c.requires.numbers in
    let past : a.offset + a.length < 2 ^ 64 → ⊥ = c.in_default.ensures in
    sym (beyond a.s a.offset a.length (omega (arith, f.whole)))

pub returns-then-end-s : goal.returns-then-end-s
returns-then-end-s c =
    let a = c.args in
    let end : c.in-Some.end ≡ a.offset + a.length = c.in-Some.ensures.1 in
    sym (in_table_lem a.s a.offset a.length (omega arith))

pub overflow_add-s : goal.overflow_add-s
overflow_add-s c =
    let f = accepted_facts c.args.s c.requires.numbers in
    record { fits = omega (arith, table_small _ f, common_small _ f) }

pub returns-then-end-s-2 : goal.returns-then-end-s-2
returns-then-end-s-2 c =
    let a = c.args in
    let end : c.in-Some.end ≡ a.offset + a.length = c.in-Some.ensures.1 in
    sym (in_common a.s a.offset a.length (omega arith) (omega arith) (omega arith))

pub returns-in-Some-owner_of : goal.returns-in-Some-owner_of
returns-in-Some-owner_of c =
    let a = c.args in
    let end : c.in-Some.end ≡ a.offset + a.length = c.in-Some.ensures.1 in
    let past : a.s.table ≤ a.offset → a.s.table + a.s.common < a.offset + a.length =
    elim c.else-s-offset.branch [
      | else-s-offset-via-then-s-offset+else-end-s-2 w ↦ λ _. let h = w.if-end-s-2.false in omega arith
      | else-s-offset-via-else-s-offset w ↦ λ l. let h = w.if-s-offset.false in omega arith
    ] in
    sym (in_outputs a.s a.offset a.length (omega arith) past ∙ c.in-Some-owner_of.ensures)

pub returns-in-None : goal.returns-in-None
returns-in-None c =
    let a = c.args in
    let end : c.in-Some.end ≡ a.offset + a.length = c.in-Some.ensures.1 in
    let past : a.s.table ≤ a.offset → a.s.table + a.s.common < a.offset + a.length =
    elim c.else-s-offset.branch [
      | else-s-offset-via-then-s-offset+else-end-s-2 w ↦ λ _. let h = w.if-end-s-2.false in omega arith
      | else-s-offset-via-else-s-offset w ↦ λ l. let h = w.if-s-offset.false in omega arith
    ] in
    sym (in_outputs a.s a.offset a.length (omega arith) past ∙ c.in-None.ensures)
