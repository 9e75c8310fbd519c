-- `playback::kinds::Kind::record_length` meets its contract: each length is the definition's.
use Rattle.playback.specs.Log.{record_length}
use Rattle.playback.proofs.kinds.Kind.record_length.Goals as goal

pub returns-in-SetUp : goal.returns-in-SetUp
unfolding record_length
returns-in-SetUp c = rw c.in-SetUp.is

pub returns-in-Connect : goal.returns-in-Connect
unfolding record_length
returns-in-Connect c = rw c.in-Connect.is

pub returns-in-Disconnect : goal.returns-in-Disconnect
unfolding record_length
returns-in-Disconnect c = rw c.in-Disconnect.is

pub returns-in-Reset : goal.returns-in-Reset
unfolding record_length
returns-in-Reset c = rw c.in-Reset.is

pub returns-in-ConfigurationRead : goal.returns-in-ConfigurationRead
unfolding record_length
returns-in-ConfigurationRead c = rw c.in-ConfigurationRead.is

pub returns-in-ConfigurationWrite : goal.returns-in-ConfigurationWrite
unfolding record_length
returns-in-ConfigurationWrite c = rw c.in-ConfigurationWrite.is

pub returns-in-RegisterRead : goal.returns-in-RegisterRead
unfolding record_length
returns-in-RegisterRead c = rw c.in-RegisterRead.is

pub returns-in-RegisterWrite : goal.returns-in-RegisterWrite
unfolding record_length
returns-in-RegisterWrite c = rw c.in-RegisterWrite.is

pub returns-in-MsixRead : goal.returns-in-MsixRead
unfolding record_length
returns-in-MsixRead c = rw c.in-MsixRead.is

pub returns-in-MsixWrite : goal.returns-in-MsixWrite
unfolding record_length
returns-in-MsixWrite c = rw c.in-MsixWrite.is

pub returns-in-Load : goal.returns-in-Load
unfolding record_length
returns-in-Load c = rw c.in-Load.is

pub returns-in-Store : goal.returns-in-Store
unfolding record_length
returns-in-Store c = rw c.in-Store.is
