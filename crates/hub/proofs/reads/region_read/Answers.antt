-- `hub::reads::region_read` meets its contract: a refusal is the table's, and an accepted read is its effect, in four cases.
use native.Mathlib.Omega.{arith}
use Rattle.device.specs.World.{world}
use Rattle.device.proofs.SetUpLaws.{accepted_facts}
use Rattle.device.proofs.SizeLaws.{max_peers_small}
use Rattle.words.specs.Layout.{hub_of}
use Rattle.hub.proofs.ReadLaws.{region_read_checked, unmapped_read}
use Rattle.hub.proofs.ReplyLaws.{answers_accepted}
use Rattle.hub.proofs.reads.region_read.Goals as goal

pub returns-then-not-memory_on : goal.returns-then-not-memory_on
returns-then-not-memory_on c =
    let a = c.args in
    let off = rw (c.memory_on.ensures, c.in_ok-caller.ensures.found.peer) at c.if-not-memory_on.true in
    answers_accepted a.hub.now _ 0xFFFFFFFF
    (region_read_checked a.hub.now a.id a.region a.access.offset a.access.size _ c.in_ok-caller.ensures.is)
    (λ region. unmapped_read (world (hub_of a.hub.now) region) a.id a.region a.access.offset a.access.size off)

pub read-value-requires : goal.read-value-requires
read-value-requires c =
    let f = c.in_ok-caller.ensures.found in
    let g = accepted_facts _ f.admitted.numbers in
    rw f.settings (omega (arith, f.admitted.known, g.peers, max_peers_small))
