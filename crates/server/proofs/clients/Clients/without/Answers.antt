-- `server::clients::Clients::without` meets its contract.
use Rattle.reader.specs.Sizes.{ids}
use Rattle.server.proofs.JoinedLaws.{joined_below_lem, joined_le, one_shifted}
use Rattle.server.proofs.clients.Clients.without.Goals as goal

pub overflow_shl-result : goal.overflow_shl-result
unfolding ids
overflow_shl-result c = joined_below_lem _ _ c.requires

pub overflow_sub-result : goal.overflow_sub-result
overflow_sub-result c = rw (one_shifted _ (joined_below_lem _ _ c.requires)) (joined_le _ _ c.requires)

pub returns : goal.returns
returns c = rw (one_shifted _ (joined_below_lem _ _ c.requires))
