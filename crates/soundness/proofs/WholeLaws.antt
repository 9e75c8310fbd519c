-- What a sound hub is known to satisfy, and the ways to test that all slots are sound.
use Prim.Native.Nat.{ℕ, ◌-◌, ◌<◌}
use mathlib.Core.Bool.{Bool, true, false, cond, ◌&&◌, ◌||◌}
use mathlib.Core.List.{List}
use mathlib.Core.Path.{◌≡◌, refl, sym, ap, ◌∙◌}
use native.Mathlib.Nat.{zero-add}
use native.Mathlib.Omega.{arith}
use Rattle.common.proofs.TestLaws.{and_left, and_right, and_true, and_assoc, below_true, true_below, below_ext, below_both}
use Rattle.common.specs.Tests.{below}
use Rattle.device.specs.declared.Entry.{Entry}
use Rattle.device.specs.declared.Peer.{Peer}
use Rattle.device.specs.declared.Settings.{Settings}
use Rattle.device.specs.SetUp.{accepted}
use Rattle.device.specs.Sound.{peer_fixed, peer_reset, entry_fixed, entry_reset, peer_sound, entry_sound, slot_sound, sound}
use Rattle.device.specs.World.{Hub, slot_at, entry_at}
use Rattle.words.specs.Layout.{fits, hub_of}
use Rattle.words.specs.Runs.{run_of}
use Rattle.words.proofs.LayoutLaws.{accepted_fits}
use Rattle.soundness.specs.Absent.{absent_slot}
use Rattle.soundness.specs.Scanned.{joined, absent_registers, entries_sound}
use Rattle.soundness.proofs.TogetherLaws.{reset_fixed, entry_reset_fixed}

pub sound_numbers : (h : Hub) → sound h ≡ true → accepted h.settings ≡ true
unfolding sound
sound_numbers h e = and_left (accepted h.settings) _ e

-- the words of a sound hub are as many as it asks for
pub sound_room : (ws : List ℕ) → sound (hub_of ws) ≡ true → fits ws ≡ true
sound_room ws e = accepted_fits ws (sound_numbers (hub_of ws) e)

-- a test that follows from another adds nothing to it
absorbed : (a b : Bool) → (b ≡ true → a ≡ true) → (a && b) ≡ b
absorbed a true h = rw (h refl)
absorbed true false h = refl
absorbed false false h = refl

-- One slot: reset values pass the test for fixed bits, so that one may stand for all slots.
module _ (s : Settings) (p : Peer) (n : ℕ) (entry : ℕ → Entry) where
  fixed_and_absent : (t : Bool) → (peer_fixed s p && (below n (λ v. entry_fixed (entry v)) && (t || (peer_reset p && below n (λ v. entry_reset (entry v))))))
      ≡ (cond t (peer_fixed s p) (peer_reset p) && below n (λ v. cond t (entry_fixed (entry v)) (entry_reset (entry v))))
  fixed_and_absent true = rw (and_true (below n (λ v. entry_fixed (entry v))))
  fixed_and_absent false =
      ap (λ (b : Bool). peer_fixed s p && b)
      (absorbed _ _
      (λ e. true_below n _ (λ v h. entry_reset_fixed (entry v) (below_true n _ (and_right (peer_reset p) (below n (λ v. entry_reset (entry v))) e) v h))))
      ∙ absorbed _ _ (λ e. reset_fixed s p (and_left (peer_reset p) (below n (λ v. entry_reset (entry v))) e))

  fixed_and_registers : (t : Bool) → (peer_fixed s p && ((t || peer_reset p) && below n (λ v. cond t (entry_fixed (entry v)) (entry_reset (entry v)))))
      ≡ (cond t (peer_fixed s p) (peer_reset p) && below n (λ v. cond t (entry_fixed (entry v)) (entry_reset (entry v))))
  fixed_and_registers true = refl
  fixed_and_registers false = absorbed _ _ (λ e. reset_fixed s p (and_left (peer_reset p) _ e))

-- All slots.
module _ (ws : List ℕ) (s : Settings) (e : s ≡ (hub_of ws).settings) where
  slots_by : (a b : ℕ → Bool) → ((k : ℕ) → k < s.peers → (a k && b k) ≡ (peer_sound s (slot_at (hub_of ws) k).peer && entries_sound (hub_of ws) k))
      → (below s.peers a && below s.peers b) ≡ below s.peers (λ i. slot_sound s (slot_at (hub_of ws) i))
  unfolding slot_sound
  slots_by a b same =
      sym (below_both s.peers a b)
      ∙ below_ext s.peers _ _ same
      ∙ ap (λ (r : Settings). below s.peers (λ k. peer_sound s (slot_at (hub_of ws) k).peer && below r.vectors
      (λ v. entry_sound (slot_at (hub_of ws) k).peer (entry_at (slot_at (hub_of ws) k) v)))) (sym e)

  pub all_joined : ((k : ℕ) → k < s.peers → joined ws k ≡ true)
      → (below s.peers (λ k. peer_fixed s (slot_at (hub_of ws) k).peer) && below s.peers (entries_sound (hub_of ws)))
      ≡ below s.peers (λ i. slot_sound s (slot_at (hub_of ws) i))
  unfolding peer_sound
  all_joined here = slots_by _ _ (λ k h. rw (here k h))

  pub none_joined : ((k : ℕ) → k < s.peers → joined ws k ≡ false)
      → (below s.peers (λ k. peer_reset (slot_at (hub_of ws) k).peer) && below s.peers (entries_sound (hub_of ws)))
      ≡ below s.peers (λ i. slot_sound s (slot_at (hub_of ws) i))
  unfolding peer_sound
  none_joined here = slots_by _ _ (λ k h. rw (here k h))

  -- the run of all peers
  pub whole_run : (n : ℕ) (t : Entry → Bool)
      → run_of (hub_of ws) 0 n t ≡ below n (λ k. below (hub_of ws).settings.vectors (λ v. t (entry_at (slot_at (hub_of ws) k) v)))
  unfolding run_of
  whole_run n t = let z : n - 0 ≡ n = omega arith in rw z (below_ext n _ _ (λ k h. rw (zero-add k)))

  -- fixed bits everywhere, and reset values where a peer is absent
  pub few_absent :
      ((below s.peers (λ k. peer_fixed s (slot_at (hub_of ws) k).peer)
      && below s.peers (λ k. below (hub_of ws).settings.vectors (λ v. entry_fixed (entry_at (slot_at (hub_of ws) k) v))))
      && below s.peers (absent_slot ws))
      ≡ below s.peers (λ i. slot_sound s (slot_at (hub_of ws) i))
  unfolding peer_sound entry_sound
  few_absent =
      and_assoc (below s.peers (λ k. peer_fixed s (slot_at (hub_of ws) k).peer)) _ (below s.peers (absent_slot ws))
      ∙ ap (λ (b : Bool). below s.peers (λ k. peer_fixed s (slot_at (hub_of ws) k).peer) && b) (sym (below_both s.peers _ (absent_slot ws)))
      ∙ slots_by _ _
      (λ k h. fixed_and_absent s (slot_at (hub_of ws) k).peer (hub_of ws).settings.vectors (entry_at (slot_at (hub_of ws) k)) (joined ws k))

  -- fixed bits in all registers, reset values in those of absent peers, and the entries run by run
  pub many_absent :
      (below s.peers (λ k. peer_fixed s (slot_at (hub_of ws) k).peer)
      && (below s.peers (absent_registers ws) && below s.peers (entries_sound (hub_of ws))))
      ≡ below s.peers (λ i. slot_sound s (slot_at (hub_of ws) i))
  unfolding peer_sound entry_sound
  many_absent =
      ap (λ (b : Bool). below s.peers (λ k. peer_fixed s (slot_at (hub_of ws) k).peer) && b) (sym (below_both s.peers (absent_registers ws) _))
      ∙ slots_by _ _
      (λ k h. fixed_and_registers s (slot_at (hub_of ws) k).peer (hub_of ws).settings.vectors (entry_at (slot_at (hub_of ws) k)) (joined ws k))
