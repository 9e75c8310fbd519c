-- `server::clients::Clients::with` meets its contract.
use Prim.Native.Nat.{◌+◌, ◌^◌, ◌<◌}
use native.Mathlib.Omega.{arith}
use Rattle.reader.specs.Sizes.{ids}
use Rattle.server.proofs.JoinedLaws.{with_fits, one_shifted}
use Rattle.server.proofs.clients.Clients.with.Goals as goal

pub overflow_shl-result : goal.overflow_shl-result
unfolding ids
overflow_shl-result c = omega arith

pub overflow_add-result : goal.overflow_add-result
overflow_add-result c =
    let joined = c.args.self.0 in
    let l : joined + 2 ^ c.args.id < 2 ^ 64 = with_fits joined c.args.id c.requires.0 c.requires.1 (omega arith) in
    rw (one_shifted _ c.requires.0) (omega arith)

pub returns : goal.returns
returns c = rw (one_shifted _ c.requires.0)
