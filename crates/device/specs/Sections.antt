-- Sections (R61 to R65): where they lie, and who may store to them.
use Rattle.std.specs.Prelude.{ℕ, zero, suc, ◌+◌, ◌*◌, Bool, true, false, cond, ◌&&◌, List, [], ◌∷◌, eqb, leb}
use Rattle.device.specs.declared.SectionAnswer.{SectionAnswer}
use Rattle.device.specs.declared.SectionKind.{SectionKind}
use Rattle.device.specs.declared.SectionKind.TheVariants.{Nothing, StateTable, ReadWrite, Output}
use Rattle.device.specs.declared.Settings.{Settings}
use Rattle.device.specs.Ring.{peer_id}

pub record Section : Type 0 where
  pub kind : SectionKind
  pub start : ℕ
  pub size : ℕ

abbrev pub section : SectionKind → ℕ → ℕ → Section
section kind start size = record { kind = kind; start = start; size = size }

-- R61: the output section of peer i at S + R + i * O, for n peers from i
unfoldable pub outputs : Settings → ℕ → ℕ → List Section
outputs s i zero = []
outputs s i (suc n) = section (Output (peer_id i)) (s.table + s.common + i * s.output) s.output ∷ outputs s (suc i) n

unfoldable pub sections : Settings → List Section
sections s = section StateTable 0 s.table ∷ section ReadWrite s.table s.common ∷ outputs s 0 s.peers

-- R62: a section holds all bytes of a range
abbrev pub holds : ℕ → ℕ → Section → Bool
holds offset length x = leb x.start offset && leb (offset + length) (x.start + x.size)

unfoldable pub section_in : ℕ → ℕ → List Section → SectionKind
section_in offset length [] = Nothing
section_in offset length (x ∷ xs) = cond (holds offset length x) x.kind (section_in offset length xs)

unfoldable pub section_of : Settings → ℕ → ℕ → SectionKind
section_of s offset length = section_in offset length (sections s)

-- the numbers that stand for a section at the library's boundary: its kind, and its owner where it has one
unfoldable pub kind_number : SectionKind → ℕ
kind_number Nothing = 0
kind_number StateTable = 1
kind_number ReadWrite = 2
kind_number (Output owner) = 3

unfoldable pub owner_number : SectionKind → ℕ
owner_number Nothing = 0
owner_number StateTable = 0
owner_number ReadWrite = 0
owner_number (Output owner) = owner.0

unfoldable pub somewhere : SectionKind → Bool
somewhere Nothing = false
somewhere StateTable = true
somewhere ReadWrite = true
somewhere (Output owner) = true

-- R63: it may store to the read/write section and to its own output section
unfoldable pub may_store : ℕ → SectionKind → Bool
may_store who Nothing = false
may_store who StateTable = false
may_store who ReadWrite = true
may_store who (Output owner) = eqb owner.0 who

-- R31: no section, and no right to store
abbrev pub no_section : SectionAnswer
no_section = record { kind = Nothing; store = false }

unfoldable pub answer_of : ℕ → SectionKind → SectionAnswer
answer_of who kind = record { kind = kind; store = may_store who kind }
