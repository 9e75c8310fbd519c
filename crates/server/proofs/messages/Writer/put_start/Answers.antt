use mathlib.Core.List.{[], ◌∷◌}
use mathlib.Core.Path.{◌≡◌}
use native.Mathlib.Omega.{arith}
use lib.ListN.{take, get_or}
use Rattle.std.proofs.lemmas.List.{length-take-le}
use Rattle.server.specs.Messages.{each_of}
use Rattle.server.specs.declared.messages.Said.TheVariants.{Version, Id, Memory}
use Rattle.server.specs.Parts.{message_of, written_to, start_bytes}
use Rattle.server.proofs.ListLaws.{each_length, each_next}
use Rattle.server.proofs.MessageLaws.{written_ten}
use Rattle.server.proofs.RoomLaws.{start_length}
use Rattle.server.proofs.WriteLaws.{writes_none, writes_then, room_next}
use Rattle.server.proofs.messages.Writer.put_start.Goals as goal

pub loop-said-init : goal.loop-said-init
unfolding each_of
loop-said-init c = writes_none c.args.self.now

pub put-requires : goal.put-requires
put-requires c =
    let id = c.args.id in
    let i = c.loop-said.said-index in
    let all = Version ∷ Id id ∷ Memory ∷ [] in
    room_next (start_bytes id) _ c.requires
    (omega (
      arith,
      each_length (written_to id) 10 (λ said. written_ten _) (take i all),
      length-take-le i all (omega arith),
      written_ten (message_of id (get_or all i Version)),
      start_length id,
    ))
    c.loop-said.invariant

pub loop-said-preserved : goal.loop-said-preserved
loop-said-preserved c =
    let l = c.loop-said in
    rw (each_next (written_to c.args.id) (Version ∷ Id c.args.id ∷ Memory ∷ []) l.said-index Version c.loop-said-test.true)
    (writes_then l.invariant c.put.ensures)

pub returns : goal.returns
returns c =
    let end : c.loop-said.said-index ≡ 3 = omega arith in
    rw end at c.loop-said.invariant
