-- C-18: the states that are not refused with 10 are those that histories leave, and the number of vectors is fixed at the start (R97,
-- R102).
use Rattle.std.specs.Prelude.{ℕ, ◌<◌, ◌^◌, List, [], ◌∷◌, ◌≡◌}
use Rattle.server.specs.declared.Server.{Server}
use Rattle.server.specs.Histories.{Act, outcome}
use Rattle.server.specs.Messages.{buffer_bytes}
use Rattle.server.specs.Serving.{started, refusal}

-- call after call
unfoldable pub after : Server → List Act → Server
after s [] = s
after s (a ∷ later) = after (outcome a s).server later

-- an accepted start, and calls that leave this state
pub record Reaches (s : Server) : Type 0 where
  pub vectors : ℕ
  pub accepted : (started vectors).number ≡ 0
  pub history : List Act
  pub left : after (started vectors).server history ≡ s

-- Every state that is not refused, in a buffer with room, is reached, whatever its 64 bits are;
abbrev pub EveryStateIsReached : Type 0
EveryStateIsReached = (s : Server) → refusal s buffer_bytes ≡ 0 → s.joined < 2 ^ 64 → Reaches s

-- and what is reached is not refused, and has 64 bits.
abbrev pub ReachedIsAccepted : Type 0
ReachedIsAccepted = (s : Server) → Reaches s → (refusal s buffer_bytes ≡ 0) × (s.joined < 2 ^ 64)

-- No call changes the number of vectors.
abbrev pub VectorsAreFixed : Type 0
VectorsAreFixed = (s : Server) (history : List Act) → (after s history).vectors ≡ s.vectors
