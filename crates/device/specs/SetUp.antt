-- Set-up (R10 to R18): the numbers that it accepts, and what it leaves.
use Rattle.std.specs.Prelude.{ℕ, ◌+◌, ◌*◌, ◌%◌, ◌^◌, Bool, not, cond, List, [], ◌∷◌, eqb, leb, ltb, length, replicate}
use Rattle.common.specs.Tests.{row, first, every}
use Rattle.device.specs.declared.Settings.{Settings}
use Rattle.device.specs.Sizes.{max_peers, max_vectors}
use Rattle.device.specs.World.{Hub, zero_hub, reset_slot}

-- the page that sizes and addresses are multiples of
abbrev pub paged : ℕ → Bool
paged x = eqb (x % 4096) 0

-- R12 (C-16): a base below it is refused, 100000h itself is taken
abbrev pub min_base : ℕ
min_base = 0x100000

abbrev pub sixteen_bits : ℕ → Bool
sixteen_bits x = ltb x (2 ^ 16)

-- T, the region's length
unfoldable pub total : Settings → ℕ
total s = s.table + s.common + s.peers * s.output

unfoldable pub accepted : Settings → Bool
accepted s =
    every
    (leb 2 s.peers
    ∷ leb s.peers max_peers
    ∷ leb 1 s.vectors
    ∷ leb s.vectors max_vectors
    ∷ not (eqb s.table 0)
    ∷ paged s.table
    ∷ leb (4 * s.peers) s.table
    ∷ paged s.common
    ∷ paged s.output
    ∷ leb (total s) (2 ^ 30)
    ∷ paged s.base
    ∷ leb min_base s.base
    ∷ leb (s.base + total s) (2 ^ 64)
    ∷ sixteen_bits s.protocol
    ∷ sixteen_bits s.vendor
    ∷ sixteen_bits s.subsystem
    ∷ [])

-- The refusals of a set-up. A set-up is handed no hub but the memory for one, as large as its numbers ask for. Numbers that are
-- not accepted ask for none, so they are refused first; then memory of another size, with 10, since no sound hub can stand there.
unfoldable pub set_up_refusal : Bool → Settings → List ℕ → ℕ
set_up_refusal roomy s region =
    first (row 1 (not (accepted s)) ∷ row 10 (not roomy) ∷ row 2 (not (eqb (length region) (total s))) ∷ [])

-- nobody connected, everything at reset
unfoldable pub fresh_hub : Settings → Hub
fresh_hub s = record { settings = s; slots = replicate s.peers (reset_slot s.vectors 0) }

-- R17: an accepted set-up leaves nobody connected and the whole region zero. R18: a refused one leaves the all-zero hub.
abbrev pub hub_after_set_up : ℕ → Settings → Hub
hub_after_set_up number s = cond (eqb number 0) (fresh_hub s) zero_hub

abbrev pub region_after_set_up : ℕ → List ℕ → List ℕ
region_after_set_up number region = cond (eqb number 0) (replicate (length region) 0) region
