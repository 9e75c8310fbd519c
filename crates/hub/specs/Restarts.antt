-- Reset and disconnect, which differ in whether the peer stays.
use Rattle.std.specs.Prelude.{ℕ}
use Rattle.device.specs.Call.{Act}
use Rattle.hub.specs.declared.announcing.Restart.{Restart}
use Rattle.hub.specs.declared.announcing.Restart.TheVariants.{Reset, Disconnect}

abbrev pub restarted : Restart → ℕ → Act
restarted Reset records = Act.reset records
restarted Disconnect records = Act.disconnect records

-- its word afterwards: 1, it is connected
abbrev pub connected : Restart → ℕ
connected Reset = 1
connected Disconnect = 0
