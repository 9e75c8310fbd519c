-- `server::messages::Writer::put_notice` meets its contract.
use mathlib.Core.Bool.{true}
use mathlib.Core.Path.{◌≡◌, sym, ◌∙◌}
use native.Mathlib.Omega.{arith}
use Rattle.reader.proofs.SizeLaws.{ids_byte}
use Rattle.server.proofs.RoomLaws.{notice_one, notice_none}
use Rattle.server.proofs.WriteLaws.{writes_none}
use Rattle.server.specs.Clients.{is_joined}
use Rattle.server.proofs.messages.Writer.put_notice.Goals as goal

pub overflow_cast-client : goal.overflow_cast-client
overflow_cast-client c = record { fits = omega (arith, ids_byte) }

pub put_times-requires : goal.put_times-requires
put_times-requires c =
    let a = c.args in
    let e : is_joined a.joined.0 a.client ≡ true = sym c.contains.ensures ∙ c.if-contains.true in
    rw (c.message.ensures, c.times.ensures, ← notice_one a.notice a.joined.0 a.client e) c.requires.room

pub returns-then-contains : goal.returns-then-contains
returns-then-contains c =
    let a = c.args in
    let e : is_joined a.joined.0 a.client ≡ true = sym c.contains.ensures ∙ c.if-contains.true in
    rw (notice_one a.notice a.joined.0 a.client e, ← c.message.ensures, ← c.times.ensures) c.put_times.ensures

pub returns-else-contains : goal.returns-else-contains
returns-else-contains c =
    let a = c.args in
    rw (notice_none a.notice a.joined.0 a.client (sym c.contains.ensures ∙ c.if-contains.false)) (writes_none a.self.now)
