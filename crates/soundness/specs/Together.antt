-- The registers of several peers collected by or, so that one test of the collected serves all.
use Rattle.std.specs.Int.Bits.{bit_or}
use Rattle.device.specs.declared.Peer.{Peer}

abbrev pub together : Peer → Peer → Peer
together a b =
    record {
      connected = bit_or a.connected b.connected;
      command = bit_or a.command b.command;
      bar0 = bit_or a.bar0 b.bar0;
      bar1 = bit_or a.bar1 b.bar1;
      privileged = bit_or a.privileged b.privileged;
      message = bit_or a.message b.message;
      interrupt = bit_or a.interrupt b.interrupt;
      state = bit_or a.state b.state;
    }
