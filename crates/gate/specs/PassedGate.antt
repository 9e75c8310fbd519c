-- The gate that one ring leaves.
use Rattle.std.specs.Prelude.{◌&&◌, not}
use Rattle.device.specs.declared.Gate.{Gate}
use Rattle.device.specs.Ring.{opens}

-- the interrupt is cleared where the ring is delivered and one-shot is on
unfoldable pub passed_gate : Gate → Gate
passed_gate g =
    record {
      master = g.master;
      enabled = g.enabled;
      masked = g.masked;
      silenced = g.silenced;
      interrupt = g.interrupt && not (opens g && g.oneshot);
      oneshot = g.oneshot;
    }
