-- What the player's functions promise: the memory that they are lent, with the progress, is a player, and goes on as the definition
-- of one byte says.
use Rattle.std.specs.Prelude.{ℕ, suc, ◌-◌, ◌≤◌, ◌<◌, Bool, false, cond, not, List, [], ◌∷◌, ◌≡◌, eqb, leb, ltb, length, take, Result, Ok, Err, MatchResult}
use Rattle.common.specs.Lists.{over}
use Rattle.common.specs.Streams.{Fed, fed_all}
use Rattle.common.specs.Tests.{every, row, first}
use Rattle.device.specs.Sizes.{max_peers, max_vectors}
use Rattle.device.specs.World.{World, world}
use Rattle.playback.specs.declared.Progress.{Progress}
use Rattle.playback.specs.declared.Refusal.{Refusal}
use Rattle.playback.specs.declared.Refusal.TheVariants.{OtherMemory, ShortBuffer}
use Rattle.playback.specs.declared.Report.{Report}
use Rattle.playback.specs.Answers.{Outcome, answer, longest, max_total, outcome_bytes}
use Rattle.playback.specs.Log.{Request, longest_record}
use Rattle.playback.specs.Player.{Player, player, fed, ending}
use Rattle.words.specs.Layout.{hub_words, hub_of}

-- The world in the first words and bytes of the lent memory.
abbrev pub world_in : (hub region : List ℕ) → (words bytes : ℕ) → World
world_in hub region words bytes = world (hub_of (take words hub)) (take bytes region)

-- The player that lent memory and progress are. What lies behind the parts in use is free, and so is the number of words that are
-- no hub.
abbrev pub player_in : (hub region held : List ℕ) → Progress → Player
player_in hub region held p = player (world_in hub region p.words p.bytes) (take p.held held) p.stopped

-- Memory of the lengths that the largest hub, region and record need, and a progress that lies within it.
pub record Lent (hub region held : List ℕ) (p : Progress) : Type 0 where
  pub hub_length : length hub ≡ hub_words max_peers max_vectors
  pub region_length : length region ≡ max_total
  pub held_length : length held ≡ longest_record
  pub words : p.words ≤ length hub
  pub bytes : p.bytes ≤ length region
  pub few : p.held < length held

-- no hub, and nothing held
abbrev pub anew : Progress
anew = record { words = 0; bytes = 0; held = 0; stopped = false }

-- the same as tests
abbrev pub lent_tests : (hub region held : List ℕ) → Progress → List Bool
lent_tests hub region held p =
    eqb (length hub) (hub_words max_peers max_vectors)
    ∷ eqb (length region) max_total
    ∷ eqb (length held) longest_record
    ∷ leb p.words (length hub)
    ∷ leb p.bytes (length region)
    ∷ ltb p.held (length held)
    ∷ []

unfoldable pub is_lent : (hub region held : List ℕ) → Progress → Bool
is_lent hub region held p = every (lent_tests hub region held p)

-- Bytes written to the front of a buffer, which has room for them, and their number.
pub record Writes (before after written : List ℕ) (n : ℕ) : Type 0 where
  pub bytes : after ≡ over written before
  pub count : n ≡ length written
  pub fits : n ≤ length before

-- A call, on the hub and the region in use: what it leaves, and what is to be written for it.
pub record Answers (hub after region region_after : List ℕ) (q : Request) (r : Outcome) : Type 0 where
  pub left : world (hub_of after) region_after ≡ (answer (world (hub_of hub) region) q).world
  pub written : outcome_bytes (hub_of after) r ≡ (answer (world (hub_of hub) region) q).written

-- What is fed leaves this player and is answered by these bytes; the memory is still lent with the new progress.
pub record Goes (hub region held out out_after : List ℕ) (p : Progress) (n : ℕ) (f : Fed Player) : Type 0 where
  pub player : player_in hub region held p ≡ f.machine
  pub written : Writes out out_after f.written n
  pub lent : Lent hub region held p

-- How many bytes of a piece are taken: all, or as many as come before the buffer has no room left for the longest answer.
unfoldable pub taken_within : (room : ℕ) → Player → List ℕ → ℕ
taken_within room p [] = 0
taken_within room p (b ∷ bs) =
    cond (ltb room longest) 0 (suc (taken_within (room - length (fed p b).written) (fed p b).machine bs))

-- A piece fed to a player, as far as it is taken.
pub record Feeds (p : Player) (hub region held piece out out_after : List ℕ) (r : Report) : Type 0 where
  pub taken : r.taken ≡ taken_within (length out) p piece
  pub goes : Goes hub region held out out_after r.progress r.written (fed_all fed p (take r.taken piece))

-- 10 for memory of other lengths, or a progress that does not lie within it; then 11 for a buffer without room for the longest
-- answer, in which no byte would be taken
unfoldable pub refusal_of : (hub region held : List ℕ) → Progress → (room : ℕ) → ℕ
refusal_of hub region held p room =
    first (row 10 (not (is_lent hub region held p)) ∷ row 11 (ltb room longest) ∷ [])

-- a refusal's number
abbrev pub refusal_number : Refusal → ℕ
refusal_number OtherMemory = 10
refusal_number ShortBuffer = 11

-- the number that a call is refused by; 0 where it is not
abbrev pub refusal_in : {T : Type 0} → Result T Refusal → ℕ
refusal_in (Ok x) = 0
refusal_in (Err e) = refusal_number e

-- A refused piece changes nothing.
pub record Refuses (hub after region region_after held held_after out out_after : List ℕ) : Type 0 where
  pub hub_kept : after ≡ hub
  pub region_kept : region_after ≡ region
  pub held_kept : held_after ≡ held
  pub out_kept : out_after ≡ out

-- The end of the input: how many bytes a player writes there, and nothing where it is refused.
pub record Ends (hub region held out out_after : List ℕ) (p : Progress) (r : Result ℕ Refusal) : Type 0 where
  pub number : refusal_in r ≡ refusal_of hub region held p (length out)
  pub written : MatchResult r (Writes out out_after (ending (player_in hub region held p))) (λ e. out_after ≡ out)
