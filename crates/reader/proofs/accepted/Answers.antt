-- `reader::accepted` meets its contract.
use mathlib.Core.Path.{◌≡◌, ap, ◌∙◌, sym}
use Prim.Native.Nat.{◌-◌, ◌≤◌}
use mathlib.Core.List.{◌++◌}
use native.Mathlib.Omega.{arith}
use lib.ListN.{take, length}
use borrow.Author.Rules.{rules}
use borrow.Author.Tests.{lt-ltb, le-ltb}
use Rattle.reader.proofs.GoodLaws.{good_facts}
use Rattle.reader.proofs.PlaceLaws.{all_held, record_whole}
use Rattle.reader.specs.Parts.{told}
use Rattle.reader.specs.Reading.{state, gives, emptied, accepted, answered_by}
use Rattle.reader.specs.Records.{record_in}
use Rattle.reader.specs.Steps.{Result, result_with, known, read_record}
use Rattle.common.specs.Lists.{tabulate}
use Rattle.reader.proofs.accepted.Goals as goal

pub overflow_sub-wanted : goal.overflow_sub-wanted
overflow_sub-wanted c =
    let g = good_facts c.args.vectors (state c.args.progress c.args.counts.now) c.requires.good in
    omega arith

pub returns-then-input-wanted : goal.returns-then-input-wanted
unfolding accepted
returns-then-input-wanted c =
    let a = c.args in
    let g = good_facts a.vectors (state a.progress a.counts.now) c.requires.good in
    let eight : length a.progress.bytes ≡ 8 = search rules in
    rw (
      lt-ltb _ _ c.if-input-wanted.true,
      c.gathered-bytes.ensures,
      all_held a.progress.bytes a.input.now a.progress.held eight (omega arith),
    )

pub overflow_sub-wanted-2 : goal.overflow_sub-wanted-2
overflow_sub-wanted-2 c =
    let g = good_facts c.args.vectors (state c.args.progress c.args.counts.now) c.requires.good in
    omega arith

pub bounds-input-wanted : goal.bounds-input-wanted
bounds-input-wanted c =
    let g = good_facts c.args.vectors (state c.args.progress c.args.counts.now) c.requires.good in
    omega arith

pub invariant_of-known : goal.invariant_of-known
invariant_of-known c =
    let g = good_facts c.args.vectors (state c.args.progress c.args.counts.now) c.requires.good in
    record { counts_of_ids = g.size; vectors_in_range = g.most }

pub returns : goal.returns
unfolding accepted tabulate
returns c =
    let eight : length c.args.progress.bytes ≡ 8 = search rules in
    let a = c.args in
    let g = good_facts a.vectors (state a.progress a.counts.now) c.requires.good in
    let held = a.progress.held in
    let whole : 9 - held ≤ length a.input.now = c.if-input-wanted.false in
    let last : 9 - held - 1 ≡ 8 - held = omega arith in
    let is : told c.whole-heard.result ≡ record_in (take held a.progress.bytes ++ a.input.now) =
    c.whole-heard.ensures ∙ rw (c.gathered-bytes.ensures, last) (sym (record_whole a.progress.bytes a.input.now held eight g.held whole)) in
    let m = c.read_record-message in
    let same : result_with m.result (known c.number.result m.new.self.own m.new.self.counts.now)
    ≡ read_record a.vectors (known a.progress.due a.progress.own a.counts.now) (record_in (take held a.progress.bytes ++ a.input.now)) =
    rw (c.number.ensures, c.requires.due, ← is) m.ensures.is in
    let there : gives m.result (9 - held) (emptied (known c.number.result m.new.self.own m.new.self.counts.now))
    ≡ accepted a.vectors (state a.progress a.counts.now) a.input.now =
    rw (le-ltb _ _ whole) (ap (λ (h : Result). answered_by (9 - held) h) same) in
    grind arith
