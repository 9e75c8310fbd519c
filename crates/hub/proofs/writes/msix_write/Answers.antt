-- `hub::writes::msix_write` meets its contract: a refusal is the table's, and an accepted write is its effect, in three cases.
use Prim.Native.Nat.{◌/◌, ◌<◌}
use mathlib.Core.Path.{refl}
use native.Mathlib.Omega.{arith}
use borrow.Author.Tests.{ltb-true}
use Rattle.device.specs.Call.{Act}
use Rattle.device.specs.Effect.{effect}
use Rattle.device.specs.Msix.{msix_written, in_table}
use Rattle.device.specs.Refusal.{lent_to, access_of}
use Rattle.device.specs.Step.{run, run_all}
use Rattle.words.proofs.SlotLaws.{slot_kept}
use Rattle.words.specs.Layout.{hub_of}
use Rattle.hub.proofs.RefusalLaws.{region_checked}
use Rattle.hub.proofs.ReplyLaws.{changes_accepted, changes_refused}
use Rattle.std.proofs.lemmas.Result.{err_from_is_err_and}
use Rattle.hub.proofs.writes.msix_write.Goals as goal

pub returns-in_err-caller : goal.returns-in_err-caller
unfolding lent_to access_of
returns-in_err-caller c =
    let a = c.args in
    let p = err_from_is_err_and c.from_residual.result c.from_residual.ensures.1 in
    rw (p.1, p.2)
    (changes_refused a.hub.now _ _
    (region_checked a.hub.now a.id (Act.msix_write a.offset a.width a.value) a.offset a.width _ refl refl c.in_err-caller.ensures.is))

pub returns-then-not-memory_on : goal.returns-then-not-memory_on
unfolding lent_to access_of effect run_all run
returns-then-not-memory_on c =
    let a = c.args in
    let off = rw (c.memory_on.ensures, c.in_ok-caller.ensures.found.peer) at c.if-not-memory_on.true in
    changes_accepted a.hub.now _ _
    (region_checked a.hub.now a.id (Act.msix_write a.offset a.width a.value) a.offset a.width _ refl refl c.in_ok-caller.ensures.is)
    (λ region. refl) (λ region. rw off)

pub returns-then-not-in_table : goal.returns-then-not-in_table
unfolding lent_to access_of effect run_all run msix_written
returns-then-not-in_table c =
    let a = c.args in
    let f = c.in_ok-caller.ensures.found in
    let on = rw (c.memory_on.ensures, f.peer) at c.if-not-memory_on.false in
    let out = rw (c.in_table.ensures, f.settings) at c.if-not-in_table.true in
    changes_accepted a.hub.now _ _
    (region_checked a.hub.now a.id (Act.msix_write a.offset a.width a.value) a.offset a.width _ refl refl c.in_ok-caller.ensures.is)
    (λ region. refl) (λ region. rw (on, out) (slot_kept (hub_of a.hub.now) a.id))

pub entry-e-requires-clause-vector : goal.entry-e-requires-clause-vector
unfolding in_table
entry-e-requires-clause-vector c =
    let a = c.args in
    let inside = rw (c.in_table.ensures, c.in_ok-caller.ensures.found.settings) at c.if-not-in_table.false in
    let v : a.offset / 16 < (hub_of a.hub.now).settings.vectors = ltb-true _ _ inside in
    omega arith

pub put_entry-requires-clause-vector : goal.put_entry-requires-clause-vector
unfolding in_table
put_entry-requires-clause-vector c =
    let a = c.args in
    let inside = rw (c.in_table.ensures, c.in_ok-caller.ensures.found.settings) at c.if-not-in_table.false in
    let v : a.offset / 16 < (hub_of a.hub.now).settings.vectors = ltb-true _ _ inside in
    omega arith

pub returns : goal.returns
unfolding lent_to access_of effect run_all run msix_written
returns c =
    let a = c.args in
    let f = c.in_ok-caller.ensures.found in
    let on = rw (c.memory_on.ensures, f.peer) at c.if-not-memory_on.false in
    let inside = rw (c.in_table.ensures, f.settings) at c.if-not-in_table.false in
    changes_accepted a.hub.now _ _
    (region_checked a.hub.now a.id (Act.msix_write a.offset a.width a.value) a.offset a.width _ refl refl c.in_ok-caller.ensures.is)
    (λ region. refl) (λ region. rw (on, inside, c.put_entry.ensures, c.with_word.ensures, c.entry-e.ensures))
