-- `playback::records::call` meets its contract, arm by arm.
use native.Mathlib.Omega.{arith}
use Rattle.playback.specs.Log.{request_of}
use Rattle.playback.proofs.records.call.Goals as goal

pub unreachable-requires : goal.unreachable-requires
unreachable-requires c = let some = rw c.in-SetUp.is at c.requires in omega arith

pub returns-in-Connect : goal.returns-in-Connect
unfolding request_of
returns-in-Connect c = rw c.in-Connect.is (c.connect.ensures c.args.region.now)

pub returns-in-Disconnect : goal.returns-in-Disconnect
unfolding request_of
returns-in-Disconnect c = rw c.in-Disconnect.is c.disconnect.ensures

pub returns-in-Reset : goal.returns-in-Reset
unfolding request_of
returns-in-Reset c = rw c.in-Reset.is c.reset.ensures

pub returns-in-ConfigurationRead : goal.returns-in-ConfigurationRead
unfolding request_of
returns-in-ConfigurationRead c = rw c.in-ConfigurationRead.is (c.configuration_read.ensures c.args.region.now)

pub returns-in-ConfigurationWrite : goal.returns-in-ConfigurationWrite
unfolding request_of
returns-in-ConfigurationWrite c = rw c.in-ConfigurationWrite.is (c.configuration_write.ensures c.args.region.now)

pub returns-in-RegisterRead : goal.returns-in-RegisterRead
unfolding request_of
returns-in-RegisterRead c = rw c.in-RegisterRead.is (c.register_read.ensures c.args.region.now)

pub returns-in-RegisterWrite : goal.returns-in-RegisterWrite
unfolding request_of
returns-in-RegisterWrite c = rw c.in-RegisterWrite.is c.register_write.ensures

pub returns-in-MsixRead : goal.returns-in-MsixRead
unfolding request_of
returns-in-MsixRead c = rw c.in-MsixRead.is (c.msix_read.ensures c.args.region.now)

pub returns-in-MsixWrite : goal.returns-in-MsixWrite
unfolding request_of
returns-in-MsixWrite c = rw c.in-MsixWrite.is (c.msix_write.ensures c.args.region.now)

pub returns-in-Load : goal.returns-in-Load
unfolding request_of
returns-in-Load c = rw c.in-Load.is c.load.ensures

pub returns-in-Store : goal.returns-in-Store
unfolding request_of
returns-in-Store c = rw c.in-Store.is c.store.ensures
