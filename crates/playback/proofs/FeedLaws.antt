-- A piece, byte by byte: how far it has been fed, one byte more, and where it ends.
use Prim.Native.Nat.{ℕ, suc, ◌+◌, ◌-◌, ◌≤◌, ◌<◌}
use mathlib.Core.List.{List, [], ◌∷◌, ◌++◌, append-nil}
use mathlib.Core.Path.{◌≡◌, refl, sym, ap, ◌∙◌}
use native.Mathlib.Numerals.{add-one}
use native.Mathlib.Omega.{arith}
use lib.ListN.{length, take, drop, get_or, length-append, length-take, length-drop, drop_of_length-le}
use lib.Seq.{take-suc, drop-cons}
use borrow.Author.Tests.{lt-ltb, le-ltb}
use borrow.Rule.Slice.PartMut.{put_mid}
use Rattle.common.specs.Streams.{fed_to, fed_all}
use Rattle.playback.proofs.OverLaws.{length_over, nothing_over, over_then}
use Rattle.common.proofs.StreamLaws.{fed_append}
use Rattle.playback.specs.declared.Progress.{Progress}
use Rattle.playback.specs.Answers.{longest}
use Rattle.playback.specs.Player.{Player, fed}
use Rattle.playback.specs.Promises.{Goes, Lent, player_in, taken_within}

-- i bytes of a piece are fed, and at bytes are written
pub record FedSoFar (p₀ : Player) (hub region held piece out₀ out : List ℕ) (p : Progress) (i at : ℕ) : Type 0 where
  pub within : i ≤ length piece
  pub goes : Goes hub region held out₀ out p at (fed_all fed p₀ (take i piece))
  pub left : taken_within (length out₀) p₀ piece ≡ i + taken_within (length out₀ - at) (player_in hub region held p) (drop i piece)

pub fed_none : (hub region held piece out : List ℕ) (p : Progress) → Lent hub region held p
    → FedSoFar (player_in hub region held p) hub region held piece out out p 0 0
unfolding fed_all
fed_none hub region held piece out p lent =
    let n : length out - 0 ≡ length out = omega arith in
    record {
      within = omega arith;
      goes = record { player = refl; written = record { bytes = sym (nothing_over out); count = refl; fits = omega arith }; lent = lent };
      left = rw n (omega arith);
    }

-- feeding one byte after others
fed_one : (p : Player) (bs : List ℕ) (b : ℕ)
    → fed_all fed p (bs ++ (b ∷ [])) ≡ fed_to (fed (fed_all fed p bs).machine b).machine ((fed_all fed p bs).written ++ (fed (fed_all fed p bs).machine b).written)
unfolding fed_all
fed_one p bs b = fed_append fed p bs (b ∷ []) ∙ rw append-nil

taken_one : (room : ℕ) (p : Player) (b : ℕ) (bs : List ℕ) → longest ≤ room
    → taken_within room p (b ∷ bs) ≡ suc (taken_within (room - length (fed p b).written) (fed p b).machine bs)
unfolding taken_within
taken_one room p b bs h = rw (le-ltb room longest h)

taken_none : (room : ℕ) (p : Player) → taken_within room p [] ≡ 0
unfolding taken_within
taken_none room p = refl

taken_full : (room : ℕ) (p : Player) (bs : List ℕ) → room < longest → taken_within room p bs ≡ 0
unfolding taken_within
taken_full room p [] h = refl
taken_full room p (b ∷ bs) h = rw (lt-ltb room longest h)

module _ (p₀ : Player) (hub region held piece out₀ out : List ℕ) (p : Progress) (i at : ℕ) (s : FedSoFar p₀ hub region held piece out₀ out p i at) where
  pub same_room : length out ≡ length out₀
  same_room = ap length s.goes.written.bytes ∙ length_over _ out₀ (rw (← s.goes.written.count) s.goes.written.fits)

  pub fed_more : (hub_after region_after held_after rest : List ℕ) (next : Progress) (n : ℕ) → i < length piece → longest ≤ length out₀ - at
      → Goes hub_after region_after held_after (take (length out - at) (drop at out)) rest next n (fed (player_in hub region held p) (get_or piece i 0))
      → FedSoFar p₀ hub_after region_after held_after piece out₀ (put_mid at (length out - at) out rest) next (i + 1) (at + n)
  fed_more hub_after region_after held_after rest next n l room g =
      let f = fed_all fed p₀ (take i piece) in
      let b = get_or piece i 0 in
      let q = player_in hub region held p in
      let w = s.goes.written in
      let same : q ≡ f.machine = s.goes.player in
      let all : fed_all fed p₀ (take (i + 1) piece) ≡ fed_to (fed q b).machine (f.written ++ (fed q b).written) =
      rw (add-one i, take-suc piece i 0 l, fed_one p₀ (take i piece) b, same) in
      let atlong : length f.written ≡ at = sym w.count in
      let put = over_then at f.written out₀ atlong w.fits out (fed q b).written rest w.bytes g.written.bytes in
      let part : length (take (length out - at) (drop at out)) ≡ length out₀ - at = simp (length-take, length-drop) (omega (arith, same_room)) in
      let rest-room : length out₀ - at - length (fed q b).written ≡ length out₀ - (at + n) = omega (arith, g.written.count) in
      let more : taken_within (length out₀ - at) q (drop i piece)
      ≡ suc (taken_within (length out₀ - (at + n)) (player_in hub_after region_after held_after next) (drop (i + 1) piece)) =
      rw (drop-cons piece i 0 l, taken_one (length out₀ - at) q b (drop (suc i) piece) room, rest-room, ← g.player, ← (add-one i)) in
      record {
        within = omega arith;
        goes =
            record {
              player = rw all g.player;
              written =
                  record {
                    bytes = rw all put;
                    count = rw (all, length-append) (omega (arith, atlong, g.written.count));
                    fits = omega (arith, part, g.written.fits, w.fits);
                  };
              lent = g.lent;
            };
        left = s.left ∙ rw more (omega arith);
      }

  -- no room is left for the longest answer
  pub fed_full : length out₀ - longest < at → i ≡ taken_within (length out₀) p₀ piece
  fed_full late =
      sym (
      s.left
      ∙ rw (taken_full (length out₀ - at) (player_in hub region held p) (drop i piece) (omega (arith, s.goes.written.fits))) (omega arith)
      )

  -- the whole piece is fed
  pub fed_whole : length piece ≡ i → length piece ≡ taken_within (length out₀) p₀ piece
  fed_whole e =
      let none : drop i piece ≡ [] = drop_of_length-le piece {i = i} (omega arith) in
      sym (s.left ∙ rw (none, taken_none (length out₀ - at) (player_in hub region held p)) (omega arith))
