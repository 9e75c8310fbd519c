-- The kinds of records and their bytes.
use Rattle.std.specs.Prelude.{ℕ, ◌≡◌, ◌≤◌, Result, MatchResult}
use Rattle.playback.specs.declared.kinds.Kind.{Kind}
use Rattle.playback.specs.declared.kinds.Kind.TheVariants.{SetUp, Connect, Disconnect, Reset, ConfigurationRead, ConfigurationWrite}
use Rattle.playback.specs.declared.kinds.Kind.TheVariants.{RegisterRead, RegisterWrite, MsixRead, MsixWrite, Load, Store}
use Rattle.playback.specs.declared.kinds.UnknownKind.{UnknownKind}

abbrev pub kind_number : Kind → ℕ
kind_number SetUp = 0x00
kind_number Connect = 0x01
kind_number Disconnect = 0x02
kind_number Reset = 0x03
kind_number ConfigurationRead = 0x04
kind_number ConfigurationWrite = 0x05
kind_number RegisterRead = 0x06
kind_number RegisterWrite = 0x07
kind_number MsixRead = 0x08
kind_number MsixWrite = 0x09
kind_number Load = 0x0A
kind_number Store = 0x0B

-- the kind of a byte, or an error where the byte is above the last
abbrev pub Decodes : ℕ → Result Kind UnknownKind → Type 0
Decodes byte r = MatchResult r (λ k. kind_number k ≡ byte) (λ e. 12 ≤ byte)
