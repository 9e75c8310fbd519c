-- One byte more: what is held with it, and what the player does.
use Prim.Native.Nat.{ℕ, ◌+◌, ◌≤◌, ◌<◌}
use mathlib.Core.Bool.{false}
use mathlib.Core.List.{List, [], ◌∷◌, ◌++◌}
use mathlib.Core.Path.{◌≡◌, sym}
use native.Mathlib.Numerals.{add-one}
use native.Mathlib.Omega.{arith}
use lib.ListN.{length, take, get_or, set, length-set}
use lib.Seq.{take-suc-set, length-take-le, get_or-take}
use borrow.Author.Tests.{le-leb, lt-leb}
use Rattle.common.specs.Streams.{fed_to}
use Rattle.device.specs.World.{World}
use Rattle.playback.specs.Answers.{answer}
use Rattle.playback.proofs.RecordLaws.{request_front}
use Rattle.playback.specs.Log.{kind_of, record_length, request_of, whole}
use Rattle.playback.specs.Player.{player, after, come, fed}

module _ (w : World) (held : List ℕ) (at byte : ℕ) (h : at < length held) where
  -- the bytes held, with the new one
  abbrev pub now : List ℕ
  now = take (at + 1) (set held at byte)

  joined : take at held ++ (byte ∷ []) ≡ now
  joined = sym (rw (add-one at) (take-suc-set held at byte h))

  long : length now ≡ at + 1
  long = length-take-le (at + 1) (set held at byte) (simp length-set (omega arith))

  kind : kind_of now ≡ get_or (set held at byte) 0 0
  unfolding kind_of
  kind = get_or-take (at + 1) (set held at byte) 0 0 (omega arith)

  pub byte_held : at + 1 < record_length (get_or (set held at byte) 0 0) → fed (player w (take at held) false) byte ≡ fed_to (player w now false) []
  unfolding fed come whole
  byte_held l = rw (joined, kind, long, lt-leb _ _ l)

  pub byte_answered : record_length (get_or (set held at byte) 0 0) ≤ at + 1
      → fed (player w (take at held) false) byte ≡ after (answer w (request_of (kind_of (set held at byte)) (set held at byte)))
  unfolding fed come whole kind_of
  byte_answered l =
      rw joined (rw (kind, long, le-leb _ _ l, request_front (at + 1) (set held at byte) (get_or (set held at byte) 0 0) l))
