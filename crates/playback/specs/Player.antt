-- C-13: the player, byte by byte, and what it writes for a whole log.
use Rattle.std.specs.Prelude.{ℕ, Bool, false, cond, not, ◌&&◌, List, [], ◌∷◌, ◌++◌, eqb, length}
use Rattle.common.specs.Streams.{Fed, fed_to, fed_all}
use Rattle.device.specs.World.{World}
use Rattle.playback.specs.Answers.{Answer, answer, nowhere}
use Rattle.playback.specs.Log.{kind_of, request_of, whole}

pub record Player : Type 0 where
  pub world : World
  -- the bytes of a record that is not whole yet
  pub held : List ℕ
  -- an unknown kind has come
  pub stopped : Bool

abbrev pub player : World → List ℕ → Bool → Player
player w held stopped = record { world = w; held = held; stopped = stopped }

-- what an answer leaves: nothing is held
abbrev pub after : Answer → Fed Player
after a = fed_to (player a.world [] a.stops) a.written

-- a record as far as it has come: a whole one is answered, another is held
unfoldable pub come : World → List ℕ → Fed Player
come w r = cond (whole r) (after (answer w (request_of (kind_of r) r))) (fed_to (player w r false) [])

-- one byte; after an unknown kind nothing is read (R77)
unfoldable pub fed : Player → ℕ → Fed Player
fed p byte = cond p.stopped (fed_to p []) (come p.world (p.held ++ (byte ∷ [])))

-- R77: 84h where the log ends inside a record
unfoldable pub inside : Player → Bool
inside p = not p.stopped && not (eqb (length p.held) 0)

abbrev pub ending : Player → List ℕ
ending p = cond (inside p) (0x84 ∷ []) []

-- before the first byte
abbrev pub fresh : Player
fresh = player nowhere [] false

-- what is written for a log, up to its end and then there
unfoldable pub answers : List ℕ → List ℕ
answers log = (fed_all fed fresh log).written

unfoldable pub played : List ℕ → List ℕ
played log = answers log ++ ending (fed_all fed fresh log).machine
