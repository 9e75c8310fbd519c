-- Each change that a call makes to a slot leaves it sound: a reset, a delivery's clearing of Interrupt Control, and the stores of
-- a connected peer to its own configuration space, registers and MSI-X table.
use Prim.Native.Nat.{ℕ, ◌<◌}
use mathlib.Core.Bool.{Bool, true, false, cond, ◌&&◌}
use mathlib.Core.List.{[], ◌∷◌}
use mathlib.Core.Path.{◌≡◌, refl, sym, ap₂, subst, ◌∙◌}
use borrow.Author.Tests.{eqb-true, ltb-true, eq-eqb}
use lib.Bits.{bit_and}
use lib.Dec.{eqb}
use lib.ListN.{get_or-replicate}
use Rattle.common.specs.Bytes.{only}
use Rattle.common.specs.Tests.{every, below}
use Rattle.common.proofs.ListLaws.{get_d_set}
use Rattle.common.proofs.MaskLaws.{only_and}
use Rattle.common.proofs.TestLaws.{and_left, and_right, every_true, below_true, true_below}
use Rattle.device.specs.declared.Entry.{Entry}
use Rattle.device.specs.declared.Gate.{Gate}
use Rattle.device.specs.declared.Peer.{Peer}
use Rattle.device.specs.declared.Settings.{Settings}
use Rattle.device.specs.Configuration.{masks, mask_in, mask_at, mask_of}
use Rattle.device.specs.Msix.{address_mask, control_mask, in_table, vector_at, word_at, with_word, msix_written}
use Rattle.device.specs.Reset.{reset_peer, reset_entry}
use Rattle.device.specs.Ring.{with_interrupt, after_delivery}
use Rattle.device.specs.Sound.{peer_fixed, peer_reset, entry_fixed, entry_reset, peer_sound, entry_sound, slot_sound}
use Rattle.device.specs.World.{Slot, zero_entry, reset_slot, entry_at, with_peer, with_entry}
use Rattle.device.proofs.FixedLaws.{Fixed, fixed_facts, facts_fixed}

-- A connected slot: its registers and its entries.

pub record Used (s : Settings) (slot : Slot) : Type 0 where
  pub fixed : Fixed s slot.peer
  pub entries : (v : ℕ) → v < s.vectors → entry_fixed (entry_at slot v) ≡ true

abbrev entries_fixed : Settings → Slot → Bool
entries_fixed s slot = below s.vectors (λ v. entry_fixed (entry_at slot v))

-- soundness of a connected slot is soundness of these
used_test : (s : Settings) (slot : Slot) → slot.peer.connected ≡ 1 → slot_sound s slot ≡ (peer_fixed s slot.peer && entries_fixed s slot)
unfolding slot_sound peer_sound entry_sound
used_test s slot c = rw (eq-eqb slot.peer.connected 1 c)

pub used : (s : Settings) (slot : Slot) → slot.peer.connected ≡ 1 → slot_sound s slot ≡ true → Used s slot
used s slot c e =
    let both = sym (used_test s slot c) ∙ e in
    record {
      fixed = fixed_facts s slot.peer (and_left (peer_fixed s slot.peer) (entries_fixed s slot) both);
      entries = below_true s.vectors (λ v. entry_fixed (entry_at slot v)) (and_right (peer_fixed s slot.peer) (entries_fixed s slot) both);
    }

pub used_sound : (s : Settings) (slot : Slot) → slot.peer.connected ≡ 1 → Used s slot → slot_sound s slot ≡ true
used_sound s slot c u =
    used_test s slot c
    ∙ ap₂ (λ (a b : Bool). a && b) (facts_fixed s slot.peer u.fixed) (true_below s.vectors _ u.entries)

-- A slot that is not connected holds reset values.
pub absent_reset : (s : Settings) (slot : Slot) → slot_sound s slot ≡ true → eqb slot.peer.connected 1 ≡ false → peer_reset slot.peer ≡ true
unfolding slot_sound peer_sound
absent_reset s slot e d = rw d at (and_left (peer_sound s slot.peer) _ e)

-- Reset values are sound, connected or not.

reset_sound : (s : Settings) (c : ℕ) → cond (eqb c 1) true (eqb c 0) ≡ true → slot_sound s (reset_slot s.vectors c) ≡ true
unfolding slot_sound reset_slot peer_sound entry_sound peer_fixed peer_reset entry_fixed entry_reset every masks mask_in mask_at mask_of
reset_sound s c e =
    ap₂ (λ (a b : Bool). a && b) (registers (eqb c 1) e)
    (true_below s.vectors _ (λ v h. rw (get_or-replicate s.vectors v reset_entry zero_entry h) (entry (eqb c 1))))
  where
    registers : (t : Bool) → cond t true (eqb c 0) ≡ true → cond t (peer_fixed s (reset_peer c)) (peer_reset (reset_peer c)) ≡ true
    registers true f = refl
    registers false f = rw f

    entry : (t : Bool) → cond t (entry_fixed reset_entry) (entry_reset reset_entry) ≡ true
    entry true = refl
    entry false = refl

pub absent_sound : (s : Settings) → slot_sound s (reset_slot s.vectors 0) ≡ true
absent_sound s = reset_sound s 0 refl

pub present_sound : (s : Settings) → slot_sound s (reset_slot s.vectors 1) ≡ true
present_sound s = reset_sound s 1 refl

-- A delivery.

quiet_peer : (s : Settings) (p : Peer) → peer_sound s p ≡ true → peer_sound s (with_interrupt p 0) ≡ true
unfolding peer_sound peer_reset
quiet_peer s p e = go (eqb p.connected 1) e
  where
    go : (t : Bool) → cond t (peer_fixed s p) (peer_reset p) ≡ true → cond t (peer_fixed s (with_interrupt p 0)) (peer_reset (with_interrupt p 0)) ≡ true
    go true f =
        let old = fixed_facts s p f in
        facts_fixed s (with_interrupt p 0)
        (record { command = old.command; bar0 = old.bar0; bar1 = old.bar1; privileged = old.privileged; message = old.message; interrupt = refl })
    go false f = subst (λ (n : ℕ). peer_reset (with_interrupt p n) ≡ true) (eqb-true p.interrupt 0 (every_true _ f 6)) f

pub delivery_sound : (s : Settings) (g : Gate) (slot : Slot) → slot_sound s slot ≡ true → slot_sound s (after_delivery g slot) ≡ true
unfolding after_delivery slot_sound entry_sound
delivery_sound s g slot e = go g.oneshot
  where
    go : (t : Bool) → slot_sound s (cond t (with_peer slot (with_interrupt slot.peer 0)) slot) ≡ true
    go true = ap₂ (λ (a b : Bool). a && b) (quiet_peer s slot.peer (and_left (peer_sound s slot.peer) _ e)) (and_right (peer_sound s slot.peer) _ e)
    go false = e

-- A peer's own stores.

pub peer_sound_lem : (s : Settings) (slot : Slot) (p : Peer) → p.connected ≡ 1 → Used s slot → Fixed s p → slot_sound s (with_peer slot p) ≡ true
peer_sound_lem s slot p c u f = used_sound s (with_peer slot p) c (record { fixed = f; entries = u.entries })

masked : (m x y : ℕ) (t : Bool) → only m y ≡ true → only m (cond t (bit_and x m) y) ≡ true
masked m x y true e = only_and m x
masked m x y false e = e

word_fixed : (e : Entry) (k x : ℕ) → entry_fixed e ≡ true → entry_fixed (with_word e k x) ≡ true
unfolding entry_fixed with_word every
word_fixed e k x f =
    rw (
      masked address_mask x e.low (eqb k 0) (every_true (only address_mask e.low ∷ only control_mask e.control ∷ []) f 0),
      masked control_mask x e.control (eqb k 3) (every_true (only address_mask e.low ∷ only control_mask e.control ∷ []) f 1),
    )

pub msix_sound : (s : Settings) (slot : Slot) (at x : ℕ) → slot.peer.connected ≡ 1 → Used s slot → slot_sound s (msix_written s slot at x) ≡ true
unfolding msix_written in_table
msix_sound s slot at x c u = go (in_table s at) refl
  where
    v : ℕ
    v = vector_at at

    new : Entry
    new = with_word (entry_at slot v) (word_at at) x

    put : v < s.vectors → (j : ℕ) → j < s.vectors → entry_fixed (entry_at (with_entry slot v new) j) ≡ true
    put hv j hj =
        get_d_set (λ (e : Entry). entry_fixed e ≡ true) slot.entries v j new zero_entry
        (λ (q : j ≡ v). word_fixed (entry_at slot v) (word_at at) x (u.entries v hv)) (u.entries j hj)

    go : (t : Bool) → in_table s at ≡ t → slot_sound s (cond t (with_entry slot v new) slot) ≡ true
    go true e = used_sound s (with_entry slot v new) c (record { fixed = u.fixed; entries = put (ltb-true v s.vectors e) })
    go false e = used_sound s slot c u
