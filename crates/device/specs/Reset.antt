-- Reset values (R38, R45, R49): everything 0 but the mask bit of an MSI-X entry.
use Rattle.std.specs.Prelude.{ℕ}
use Rattle.device.specs.declared.Entry.{Entry}
use Rattle.device.specs.declared.Peer.{Peer}

-- the registers of a peer at reset; whether it is connected is no register, and is said beside
abbrev pub reset_peer : ℕ → Peer
reset_peer connected =
    record {
      connected = connected;
      command = 0;
      bar0 = 0;
      bar1 = 0;
      privileged = 0;
      message = 0;
      interrupt = 0;
      state = 0;
    }

-- R49: 0, 0, 0, 1
abbrev pub reset_entry : Entry
reset_entry = record { low = 0; high = 0; payload = 0; control = 1 }
