-- The checks of R19 to R30 in the parts that the code makes: those of the hub, of what is lent and of the id, and
-- those of an access. proofs/RefusalLaws.antt shows that together they are the table.
use Rattle.std.specs.Prelude.{ℕ, ◌+◌, ◌*◌, ◌%◌, ◌<◌, ◌≤◌, Bool, true, false, not, ◌||◌, List, [], ◌∷◌, ◌≡◌, eqb, leb, ltb, length, Option, Some, None, IfSome}
use Rattle.common.specs.Tests.{Row, row}
use Rattle.device.specs.declared.Settings.{Settings}
use Rattle.device.specs.Sections.{section_of, somewhere, may_store}
use Rattle.device.specs.SetUp.{accepted, total}
use Rattle.device.specs.Sound.{sound}
use Rattle.device.specs.World.{Hub, slot_at}
use Rattle.words.specs.Layout.{hub_words, fits, hub_of, Known}
use Rattle.gate.specs.RingOutcome.{Usable}
use Rattle.hub.specs.declared.refusals.Caller.{Caller}
use Rattle.hub.specs.declared.refusals.Lending.{Lending}
use Rattle.hub.specs.declared.refusals.Space.{Space}
use Rattle.hub.specs.declared.refusals.Space.TheVariants.{Configuration, Registers}

-- what is lent, as the code passes it: the region's length, and the records of a delivery table
abbrev pub nothing_lent : Lending
nothing_lent = record { region = None; records = None }

abbrev pub region_lent : ℕ → Lending
region_lent region = record { region = Some region; records = None }

abbrev pub both_lent : ℕ → ℕ → Lending
both_lent region records = record { region = Some region; records = Some records }

-- what is lent is another length, or fewer records
abbrev pub other_length : Option ℕ → ℕ → Bool
other_length None bytes = false
other_length (Some region) bytes = not (eqb region bytes)

abbrev pub fewer_records : Option ℕ → ℕ → Bool
fewer_records None peers = false
fewer_records (Some records) peers = ltb records peers

abbrev pub admission : Hub → Lending → ℕ → List Row
admission hub lent who =
    row 10 (not (sound hub))
    ∷ row 2 (other_length lent.region (total hub.settings))
    ∷ row 11 (fewer_records lent.records hub.settings.peers)
    ∷ row 3 (leb hub.settings.peers who)
    ∷ row 4 (not (eqb (slot_at hub who).peer.connected 1))
    ∷ []

-- connect: 5 in the place of 4
abbrev pub joining_rows : Hub → ℕ → List Row
joining_rows hub who =
    row 10 (not (sound hub))
    ∷ row 3 (leb hub.settings.peers who)
    ∷ row 5 (eqb (slot_at hub who).peer.connected 1)
    ∷ []

-- an access to a space of `size` bytes, of a width that is allowed there or not
abbrev pub space_rows : ℕ → Bool → ℕ → ℕ → List Row
space_rows size allowed offset width =
    row 6 (not allowed) ∷ row 7 (not (eqb (offset % width) 0)) ∷ row 8 (ltb size (offset + width)) ∷ []

abbrev pub any_width : ℕ → Bool
any_width width = eqb width 1 || eqb width 2 || eqb width 4

-- the bytes of a space, and the widths that are allowed there
abbrev pub size_of : Space → ℕ
size_of Configuration = 256
size_of Registers = 4096

abbrev pub allows : Space → ℕ → Bool
allows Configuration width = any_width width
allows Registers width = eqb width 4

-- a range of the shared region
abbrev pub range_rows : Settings → ℕ → ℕ → List Row
range_rows s offset size = row 6 (eqb size 0) ∷ row 8 (not (somewhere (section_of s offset size))) ∷ []

-- a range that is to be stored to
abbrev pub store_rows : Settings → ℕ → ℕ → ℕ → List Row
store_rows s who offset size = row 9 (not (may_store who (section_of s offset size))) ∷ []

-- what is known of a caller that these checks let pass, and of its access to a space
pub record Admitted (ws : List ℕ) (lent : Lending) (id : ℕ) : Type 0 where
  pub room : fits ws ≡ true
  pub numbers : accepted (hub_of ws).settings ≡ true
  pub known : Known ws id
  pub region : IfSome lent.region (λ n. n ≡ total (hub_of ws).settings)

-- the same of one that is found in the words
pub record Found (ws : List ℕ) (lent : Lending) (id : ℕ) (caller : Caller) : Type 0 where
  pub admitted : Admitted ws lent id
  pub settings : caller.settings ≡ (hub_of ws).settings
  pub peer : caller.peer ≡ (slot_at (hub_of ws) id).peer

pub record Inside (size : ℕ) (allowed : Bool) (at w : ℕ) : Type 0 where
  pub width : allowed ≡ true
  pub aligned : at % w ≡ 0
  pub fits : at + w ≤ size

pub record InSection (s : Settings) (offset size : ℕ) : Type 0 where
  pub some : 0 < size
  pub fits : offset + size ≤ total s

-- what is known of a set-up that is accepted
pub record SetUpFacts (words : ℕ) (s : Settings) : Type 0 where
  pub numbers : accepted s ≡ true
  pub room : words ≡ hub_words s.peers s.vectors

-- a hub and a region on which a peer's call can be carried out
pub record Ready (ws region : List ℕ) (id : ℕ) : Type 0 where
  pub usable : Usable ws
  pub known : Known ws id
  pub state : 4 * id + 4 ≤ length region
