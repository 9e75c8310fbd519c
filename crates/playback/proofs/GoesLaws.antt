-- From one request on the part of the memory in use to the player that the whole memory is afterwards.
use Prim.Native.Nat.{ℕ, ◌+◌, ◌≤◌, ◌<◌}
use mathlib.Core.Bool.{Bool, true, false}
use mathlib.Core.List.{List, [], ◌∷◌, ◌++◌}
use mathlib.Core.Path.{◌≡◌, refl, sym, ap, ◌∙◌}
use native.Mathlib.Omega.{arith}
use lib.ListN.{length, take, drop, get_or, set, length-set}
use lib.Seq.{length-take-le, take_at}
use Rattle.device.specs.World.{World}
use Rattle.playback.proofs.HeldLaws.{byte_held, byte_answered}
use Rattle.playback.proofs.LentLaws.{lent_back}
use Rattle.playback.proofs.OverLaws.{nothing_over, over_front}
use Rattle.playback.proofs.RecordLaws.{record_short}
use Rattle.playback.specs.declared.Progress.{Progress}
use Rattle.playback.specs.Answers.{Outcome, answer, outcome_bytes}
use Rattle.playback.specs.Log.{Request, kind_of, record_length, request_of}
use Rattle.common.specs.Streams.{Fed}
use Rattle.playback.specs.Player.{Player, player, after, fed}
use Rattle.playback.specs.Promises.{Answers, Goes, Lent, Writes, world_in, player_in}
use Rattle.words.specs.Layout.{hub_of}

-- nothing is held
abbrev pub in_use : (words bytes : ℕ) → Bool → Progress
in_use words bytes stopped = record { words = words; bytes = bytes; held = 0; stopped = stopped }

module _ (hub region held out out_after : List ℕ) (words bytes n : ℕ) where
  pub unknown_goes : Lent hub region held (in_use words bytes true) → Writes out out_after (0x85 ∷ []) n
      → Goes hub region held out out_after (in_use words bytes true) n (after (answer (world_in hub region words bytes) Request.unknown))
  unfolding answer
  unknown_goes lent w = record { player = refl; written = w; lent = lent }

  -- the parts in use were lent to a call, and came back
  pub call_goes : (hub_after region_after : List ℕ) (q : Request) (o : Outcome) → (answer (world_in hub region words bytes) q).stops ≡ false
      → Lent hub region held (in_use words bytes false) → length hub_after ≡ words → length region_after ≡ bytes
      → Answers (take words hub) hub_after (take bytes region) region_after q o
      → Writes out out_after (outcome_bytes (hub_of (take words (hub_after ++ drop words hub))) o) n
      → Goes (hub_after ++ drop words hub) (region_after ++ drop bytes region) held out out_after (in_use words bytes false) n
      (after (answer (world_in hub region words bytes) q))
  call_goes hub_after region_after q o on lent nh nr a w =
      let same = take_at hub_after (drop words hub) words nh in
      record {
        player = rw (same, take_at region_after (drop bytes region) bytes nr, on)
            (ap (λ (w : World). player w [] false) a.left);
        written = rw (same, a.written) at w;
        lent = lent_back hub region held _ hub_after region_after nh nr lent;
      }

-- one byte: of a stopped player, of a record that is not whole with it, and of one that is
module _ (hub region held out : List ℕ) (p : Progress) (byte : ℕ) (lent : Lent hub region held p) where
  pub ignored_goes : p.stopped ≡ true → Goes hub region held out out p 0 (fed (player_in hub region held p) byte)
  unfolding fed
  ignored_goes e =
      record {
        player = rw e;
        written = record { bytes = rw e (sym (nothing_over out)); count = rw e; fits = omega arith };
        lent = lent;
      }

  abbrev pub more : List ℕ
  more = set held p.held byte

  abbrev pub longer : Progress
  longer = record { words = p.words; bytes = p.bytes; held = p.held + 1; stopped = p.stopped }

  pub held_goes : p.stopped ≡ false → p.held + 1 < record_length (get_or more 0 0) → Goes hub region more out out longer 0
      (fed (player_in hub region held p) byte)
  held_goes e l =
      let b = byte_held (world_in hub region p.words p.bytes) held p.held byte lent.few l in
      let few : p.held + 1 < length held = omega (arith, record_short (get_or more 0 0), lent.held_length) in
      record {
        player = rw (e, b);
        written = record { bytes = rw (e, b) (sym (nothing_over out)); count = rw (e, b); fits = omega arith };
        lent =
            record {
              hub_length = lent.hub_length;
              region_length = lent.region_length;
              held_length = simp length-set lent.held_length;
              words = lent.words;
              bytes = lent.bytes;
              few = simp length-set few;
            };
      }

  pub answered_goes : (hub_after region_after out_after : List ℕ) (next : Progress) (n : ℕ) → p.stopped ≡ false → record_length (get_or more 0 0) ≤ p.held + 1
      → Goes hub_after region_after more out out_after next n (after (answer (world_in hub region p.words p.bytes) (request_of (kind_of more) more)))
      → Goes hub_after region_after more out out_after next n (fed (player_in hub region held p) byte)
  answered_goes hub_after region_after out_after next n e l g =
      rw (e, byte_answered (world_in hub region p.words p.bytes) held p.held byte lent.few l) g

-- a part of a buffer, its first places, was written over, and came back
pub goes_front : {hub region held out room room_after : List ℕ} {p : Progress} {n : ℕ} {f : Fed Player} (k : ℕ) → k ≤ length out → room ≡ take k out
    → Goes hub region held room room_after p n f → Goes hub region held out (room_after ++ drop k out) p n f
goes_front {out = out} {room = room} {n = n} {f = f} k h e g =
    let w = g.written in
    let long : length room ≡ k = ap length e ∙ length-take-le k out h in
    let few : length f.written ≤ k = omega (arith, w.count, w.fits) in
    record {
      player = g.player;
      written = record { bytes = rw (w.bytes, e) (over_front f.written out k few); count = w.count; fits = omega (arith, w.fits) };
      lent = g.lent;
    }
