-- Words of 32 bits are a hub of the shape that specs/Reached of crate device speaks of. So refusal 10 is exact for lent words too: words
-- are answered 10 unless they are a hub that some history leaves.
use Prim.Native.Nat.{ℕ, ◌^◌, ◌<◌}
use mathlib.Core.Bool.{Bool, true, false}
use mathlib.Core.List.{List}
use mathlib.Core.Path.{◌≡◌, refl}
use native.Mathlib.Omega.{arith}
use borrow.Author.Tests.{ltb-true, ltb-false}
use lib.Dec.{ltb}
use Rattle.device.proofs.Reached.{sound_is_reached}
use Rattle.device.specs.declared.Entry.{Entry}
use Rattle.device.specs.Reached.{Reached, Shaped}
use Rattle.device.specs.Sound.{sound}
use Rattle.device.specs.World.{slot_at, entry_at}
use Rattle.words.specs.Layout.{word, entry_of, peer_of, slot_of, hub_of, Known, KnownVector}
use Rattle.words.proofs.LayoutLaws.{known_inside, vectors_at, slot_at_lem, entry_at_lem, slots_length, entries_length, no_entry}

module _ (ws : List ℕ) (small : (k : ℕ) → word ws k < 2 ^ 32) where
  -- what holds of the entry made of any four words, and of one of zeros, holds of every entry
  each_entry : (P : Entry → Type 0) → ((n m i v : ℕ) → P (entry_of n m ws i v)) → P (record { low = 0; high = 0; payload = 0; control = 0 })
      → (i : ℕ) → Known ws i → (v : ℕ) → P (entry_at (slot_at (hub_of ws) i) v)
  each_entry P there beyond i known v = go (ltb v (hub_of ws).settings.vectors) refl
    where
      go : (t : Bool) → ltb v (hub_of ws).settings.vectors ≡ t → P (entry_at (slot_at (hub_of ws) i) v)
      go true e =
          let x = known_inside ws i known in
          let l : KnownVector ws v = ltb-true _ _ e in
          rw (slot_at_lem x.sized i x.below, entry_at_lem (word ws 0) (word ws 1) ws i v (rw (vectors_at x.sized) at l)) (there (word ws 0) (word ws 1) i v)
      go false e = rw (← (no_entry ws i v (λ k l. omega (arith, ltb-false v (hub_of ws).settings.vectors e)))) beyond

  pub hub_shaped : Shaped (hub_of ws)
  unfolding slot_of peer_of entry_of
  hub_shaped =
      record {
        slots = slots_length ws;
        each = λ i known.
            record {
              entries = entries_length ws i known;
              state = let x = known_inside ws i known in rw (slot_at_lem x.sized i x.below) (small _);
              high = each_entry (λ e. e.high < 2 ^ 32) (λ n m i v. small _) (omega arith) i known;
              payload = each_entry (λ e. e.payload < 2 ^ 32) (λ n m i v. small _) (omega arith) i known;
            };
      }

  pub sound_words : (sound (hub_of ws) ≡ true → Reached (hub_of ws)) × (Reached (hub_of ws) → sound (hub_of ws) ≡ true)
  sound_words = sound_is_reached (hub_of ws) hub_shaped
