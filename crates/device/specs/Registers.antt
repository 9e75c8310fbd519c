-- The register region, 4096 bytes (R45, R46).
use Rattle.std.specs.Prelude.{ℕ, Bool, cond, eqb}
use Rattle.common.specs.Bytes.{bit}
use Rattle.device.specs.declared.Peer.{Peer}
use Rattle.device.specs.declared.Settings.{Settings}

pub data Register : Type 0 where
  identity maximum_peers interrupt_control doorbell state none : Register

unfoldable pub register_at : ℕ → Register
register_at at =
    cond (eqb at 0x00) identity
    (cond (eqb at 0x04) maximum_peers
    (cond (eqb at 0x08) interrupt_control (cond (eqb at 0x0C) doorbell (cond (eqb at 0x10) state none))))

-- Command bit 1, Memory Space: the register region and the MSI-X region answer
unfoldable pub memory_on : Peer → Bool
memory_on p = bit 1 p.command

-- what both regions read while it is off
abbrev pub unmapped : ℕ
unmapped = 0xFFFFFFFF

-- R45: where no register is, 0 is read, and so it is at the Doorbell
unfoldable pub register_value : Settings → ℕ → Peer → Register → ℕ
register_value s who p identity = who
register_value s who p maximum_peers = s.peers
register_value s who p interrupt_control = p.interrupt
register_value s who p doorbell = 0
register_value s who p state = p.state
register_value s who p none = 0

unfoldable pub register_read : Settings → ℕ → Peer → ℕ → ℕ
register_read s who p at = cond (memory_on p) (register_value s who p (register_at at)) unmapped
