-- R80: cutting a log into pieces changes nothing of what is written; and what the byte-by-byte definition says of whole records.
use Rattle.std.specs.Prelude.{ℕ, ◌<◌, false, true, List, [], ◌∷◌, ◌++◌, ◌≡◌, length, take, Ok}
use Rattle.common.specs.Streams.{fed_to, fed_all, fed_pieces, joined}
use Rattle.device.specs.World.{World}
use Rattle.playback.specs.declared.Progress.{Progress}
use Rattle.playback.specs.declared.Report.{Report}
use Rattle.playback.specs.Answers.{answer}
use Rattle.playback.specs.Log.{kind_of, record_length, request_of}
use Rattle.playback.specs.Player.{Player, player, after, fed, fresh, ending, played}
use Rattle.playback.specs.Promises.{Ends, Feeds, player_in}

-- A log in pieces, each fed where the one before left the player, writes what it writes in one piece.
unfoldable pub played_in_pieces : List (List ℕ) → List ℕ
played_in_pieces pieces = (fed_pieces fed fresh pieces).written ++ ending (fed_pieces fed fresh pieces).machine

abbrev pub CuttingChangesNothing : Type 0
CuttingChangesNothing = (pieces : List (List ℕ)) → played_in_pieces pieces ≡ played (joined pieces)

-- Calls of `feed`, one after the other: of any pieces, with any buffers, of which as much is taken as there is room for. `bytes` is
-- all that was taken, `written` all that was written to the front of the buffers.
pub data Calls : (before : Player) (bytes written : List ℕ) (now : Player) → Type 0 where
  none : {p : Player} → Calls p [] [] p
  more : {p now : Player} {hub region held piece out out_after bytes written : List ℕ} {r : Report}
      → Feeds p hub region held piece out out_after r
      → Calls (player_in hub region held r.progress) bytes written now
      → Calls p (take r.taken piece ++ bytes) (take r.written out_after ++ written) now

-- What they write depends on the bytes alone: it is what the definition gives for them, and so is where the player stands.
abbrev pub CallsAreFeeding : Type 0
CallsAreFeeding = (p now : Player) (bytes written : List ℕ) → Calls p bytes written now → fed_all fed p bytes ≡ fed_to now written

-- From the start to the end of the input: what calls of `feed` wrote, with what `finish` writes, is what the log is played as.
abbrev pub CallsPlay : Type 0
CallsPlay =
    (log written hub region held out out_after : List ℕ) (p : Progress) (n : ℕ) → Calls fresh log written (player_in hub region held p)
    → Ends hub region held out out_after p (Ok n) → written ++ take n out_after ≡ played log

-- A whole record, fed where none has begun, is answered.
abbrev pub RecordsAreAnswered : Type 0
RecordsAreAnswered =
    (w : World) (r : List ℕ) → length r ≡ record_length (kind_of r) → fed_all fed (player w [] false) r ≡ after (answer w (request_of (kind_of r) r))

-- Of one that is not whole nothing is written, and 84 at the end of the input.
abbrev pub PartsAreHeld : Type 0
PartsAreHeld =
    (w : World) (r : List ℕ) → 0 < length r → length r < record_length (kind_of r)
    → (fed_all fed (player w [] false) r ≡ fed_to (player w r false) []) × (ending (player w r false) ≡ 0x84 ∷ [])

-- 84 comes nowhere else: not where no record has begun, and not after an unknown kind, where nothing further is written.
abbrev pub NothingElse : Type 0
NothingElse =
    (w : World) (held bytes : List ℕ)
    → (ending (player w [] false) ≡ []) × (ending (player w held true) ≡ []) × (fed_all fed (player w held true) bytes ≡ fed_to (player w held true) [])
