-- The two regions of 4096 bytes, whose reads have the same checks.
use Rattle.std.specs.Prelude.{ℕ}
use Rattle.device.specs.Call.{Act}
use Rattle.hub.specs.declared.reads.Region.{Region}
use Rattle.hub.specs.declared.reads.Region.TheVariants.{Registers, Msix}

-- a read of the register region or of the MSI-X region
abbrev pub region_read : Region → ℕ → ℕ → Act
region_read Registers at width = Act.register_read at width
region_read Msix at width = Act.msix_read at width
