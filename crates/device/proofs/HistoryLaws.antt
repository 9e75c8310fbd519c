-- What holds in every world of a history: the settings and sizes of the start, every slot sound, and of each connected peer that
-- Command bit 1 is what its accepted configuration writes put there.
use Prim.Native.Nat.{ℕ, ◌-◌, ◌/◌, ◌%◌, ◌^◌, ◌<◌}
use mathlib.Core.Bool.{Bool, true, false, cond, ◌&&◌}
use mathlib.Core.List.{List, [], ◌∷◌}
use mathlib.Core.Path.{◌≡◌, refl, sym, ap, ap₂, subst, ◌∙◌}
use native.Mathlib.Omega.{arith}
use borrow.Author.Tests.{eqb-true, eq-eqb, ne_eqb, leb-false, not-false}
use lib.Bits.{bit_and}
use lib.Dec.{eqb}
use lib.ListN.{get_or-replicate, length-replicate}
use Rattle.common.specs.Bytes.{bit, byte, merge}
use Rattle.common.proofs.MaskLaws.{only_and, bit_merge}
use Rattle.common.proofs.TestLaws.{true_below, first_zero, by_equal}
use Rattle.device.specs.declared.Entry.{Entry}
use Rattle.device.specs.declared.Gate.{Gate}
use Rattle.device.specs.declared.Peer.{Peer}
use Rattle.device.specs.declared.Settings.{Settings}
use Rattle.device.specs.Call.{Act, Call}
use Rattle.device.specs.Call.Act.{connect, disconnect, reset, configuration_read, configuration_write}
use Rattle.device.specs.Call.Act.{register_read, register_write, msix_read, msix_write, question, load, store}
use Rattle.device.specs.Configuration.{within, fields, field_byte, configuration_byte, masks, mask_in, mask_at, configuration_written}
use Rattle.device.specs.Effect.{Operation, effect, register_stored, state_value, with_state}
use Rattle.device.specs.History.{start}
use Rattle.device.specs.Msix.{msix_written, in_table}
use Rattle.device.specs.Refusal.{access_of, missing, present, forbidden, is_connected, refusal}
use Rattle.device.specs.Registers.{Register, register_at, memory_on}
use Rattle.device.specs.Ring.{with_interrupt, after_delivery}
use Rattle.device.specs.SetUp.{accepted, total, fresh_hub}
use Rattle.device.specs.Sound.{slot_sound, sound}
use Rattle.device.specs.Step.{Outcome, run_all, effect_in, step}
use Rattle.device.specs.Window.{memory_after, memory_bit, is_accepted}
use Rattle.device.specs.World.{Slot, World, zero_slot, reset_slot, slot_at, with_peer}
use Rattle.device.proofs.ConfigurationLaws.{written_reads}
use Rattle.device.proofs.FixedLaws.{written_fixed, written_connected}
use Rattle.device.proofs.KeepingLaws.{Frame, frame, Every, Leaves, announces_leaves, run_all_frame, run_all_keeps}
use Rattle.device.proofs.SoundLaws.{used, absent_sound, present_sound, delivery_sound, peer_sound_lem, msix_sound}
use Rattle.device.proofs.StepLaws.{accepted_effect, refused_changes_nothing}

-- What an accepted call tells of the caller.
pub record Taken (w : World) (c : Call) : Type 0 where
  pub small : c.who < w.hub.settings.peers
  pub there : missing (is_connected w c.who) (access_of c.act) ≡ false
  pub absent : present (is_connected w c.who) (access_of c.act) ≡ false
  pub permitted : forbidden w.hub.settings c.who (access_of c.act) ≡ false

pub taken : (w : World) (c : Call) → refusal w c ≡ 0 → Taken w c
unfolding refusal
taken w c e =
    let r10 = first_zero 9 _ _ e in
    let r2 = first_zero 1 _ _ r10.1 in
    let r11 = first_zero 10 _ _ r2.1 in
    let r3 = first_zero 2 _ _ r11.1 in
    let r4 = first_zero 3 _ _ r3.1 in
    let r5 = first_zero 4 _ _ r4.1 in
    let r6 = first_zero 5 _ _ r5.1 in
    let r7 = first_zero 6 _ _ r6.1 in
    let r8 = first_zero 7 _ _ r7.1 in
    let r9 = first_zero 8 _ _ r8.1 in
    record { small = leb-false _ _ r3.0; there = r4.0; absent = r5.0; permitted = r9.0 }

-- What a call leaves in the caller's slot is sound.

abbrev pub Sound : Settings → ℕ → Slot → Type 0
Sound s i slot = slot_sound s slot ≡ true

stored_sound : (s : Settings) (who : ℕ) (slot : Slot) (r : Register) (x : ℕ) → slot.peer.connected ≡ 1 → Sound s who slot
    → Leaves (Sound s who) slot (register_stored who slot r x)
unfolding register_stored
stored_sound s who slot Register.identity x c e = e
stored_sound s who slot Register.maximum_peers x c e = e
stored_sound s who slot Register.interrupt_control x c e =
    let u = used s slot c e in
    let f = u.fixed in
    peer_sound_lem s slot (with_interrupt slot.peer (bit_and x 1)) c u
    (record { command = f.command; bar0 = f.bar0; bar1 = f.bar1; privileged = f.privileged; message = f.message; interrupt = only_and 1 x })
stored_sound s who slot Register.doorbell x c e = (e, λ later f. f)
stored_sound s who slot Register.state x c e =
    let u = used s slot c e in
    let f = u.fixed in
    announces_leaves (Sound s who) who slot slot _
    (peer_sound_lem s slot (with_state slot.peer (state_value x)) c u
    (record { command = f.command; bar0 = f.bar0; bar1 = f.bar1; privileged = f.privileged; message = f.message; interrupt = f.interrupt }))
stored_sound s who slot Register.none x c e = e

pub effect_sound : (s : Settings) (who : ℕ) (slot : Slot) (region : List ℕ) (a : Act)
    → missing (eqb slot.peer.connected 1) (access_of a) ≡ false → Sound s who slot
    → Leaves (Sound s who) slot (effect s who slot region a).operations
unfolding effect access_of missing
effect_sound s who slot region connect m e = present_sound s
effect_sound s who slot region (disconnect n) m e = announces_leaves (Sound s who) who slot slot _ (absent_sound s)
effect_sound s who slot region (reset n) m e = announces_leaves (Sound s who) who slot slot _ (present_sound s)
effect_sound s who slot region (configuration_read at w) m e = e
effect_sound s who slot region (configuration_write at w x) m e =
    let c : slot.peer.connected ≡ 1 = eqb-true _ _ (not-false _ m) in
    let u = used s slot c e in
    peer_sound_lem s slot (configuration_written s slot.peer at w x) (written_connected s slot.peer at w x ∙ c) u
    (written_fixed s slot.peer at w x u.fixed)
effect_sound s who slot region (register_read at w) m e = e
effect_sound s who slot region (register_write n at w x) m e = go (memory_on slot.peer)
  where
    go : (t : Bool) → Leaves (Sound s who) slot (cond t (register_stored who slot (register_at at) x) [])
    go true = stored_sound s who slot (register_at at) x (eqb-true _ _ (not-false _ m)) e
    go false = e
effect_sound s who slot region (msix_read at w) m e = e
effect_sound s who slot region (msix_write at w x) m e = go (memory_on slot.peer)
  where
    c : slot.peer.connected ≡ 1
    c = eqb-true _ _ (not-false _ m)

    go : (t : Bool) → Leaves (Sound s who) slot (cond t (Operation.own (msix_written s slot at x) ∷ []) [])
    go true = msix_sound s slot at x c (used s slot c e)
    go false = e
effect_sound s who slot region (question at n) m e = e
effect_sound s who slot region (load at n) m e = e
effect_sound s who slot region (store at bs) m e = e

-- Command bit 1: what a call leaves in the caller's slot is what the accepted calls say.

abbrev pub Tracks : Bool → Slot → Type 0
Tracks on slot = slot.peer.connected ≡ 1 → memory_on slot.peer ≡ on

memory_byte : (s : Settings) (p : Peer) → memory_on p ≡ bit 1 (configuration_byte s p 0x04)
unfolding memory_on configuration_byte field_byte fields
memory_byte s p =
    let e : p.command / 2 ^ 1 % 2 ≡ byte 0 p.command / 2 ^ 1 % 2 = omega arith in
    ap (λ (n : ℕ). eqb n 1) e

merged_bit : (s : Settings) (old new : ℕ) → bit 1 (merge (mask_at s 0x04) old new) ≡ bit 1 new
unfolding mask_at masks mask_in
merged_bit s old new = bit_merge 0x06 old new refl refl

written_memory : (s : Settings) (p : Peer) (at w x : ℕ)
    → memory_on (configuration_written s p at w x) ≡ cond (within at w 0x04) (bit 1 (byte (0x04 - at) x)) (memory_on p)
written_memory s p at w x =
    memory_byte s (configuration_written s p at w x)
    ∙ ap (λ (b : ℕ). bit 1 b) (written_reads s p at w x 0x04)
    ∙ go (within at w 0x04)
  where
    go : (t : Bool)
        → bit 1 (cond t (merge (mask_at s 0x04) (configuration_byte s p 0x04) (byte (0x04 - at) x)) (configuration_byte s p 0x04))
        ≡ cond t (bit 1 (byte (0x04 - at) x)) (memory_on p)
    go true = merged_bit s (configuration_byte s p 0x04) (byte (0x04 - at) x)
    go false = sym (memory_byte s p)

stored_memory : (who : ℕ) (slot : Slot) (r : Register) (x : ℕ) (on : Bool) → Tracks on slot → Leaves (Tracks on) slot (register_stored who slot r x)
unfolding register_stored memory_on
stored_memory who slot Register.identity x on e = e
stored_memory who slot Register.maximum_peers x on e = e
stored_memory who slot Register.interrupt_control x on e = e
stored_memory who slot Register.doorbell x on e = (e, λ later f. f)
stored_memory who slot Register.state x on e = announces_leaves (Tracks on) who slot slot _ e
stored_memory who slot Register.none x on e = e

effect_memory : (s : Settings) (who : ℕ) (slot : Slot) (region : List ℕ) (a : Act) (on : Bool) → Tracks on slot
    → Leaves (Tracks (memory_after a on)) slot (effect s who slot region a).operations
unfolding effect memory_after reset_slot memory_on msix_written
effect_memory s who slot region connect on e = λ c. refl
effect_memory s who slot region (disconnect n) on e = announces_leaves (Tracks on) who slot slot _ (λ c. absurd (omega (arith, c)))
effect_memory s who slot region (reset n) on e = announces_leaves (Tracks false) who slot slot _ (λ c. refl)
effect_memory s who slot region (configuration_read at w) on e = e
effect_memory s who slot region (configuration_write at w x) on e =
    λ c. written_memory s slot.peer at w x ∙ ap (λ (t : Bool). cond (within at w 0x04) (bit 1 (byte (0x04 - at) x)) t)
    (e (sym (written_connected s slot.peer at w x) ∙ c))
effect_memory s who slot region (register_read at w) on e = e
effect_memory s who slot region (register_write n at w x) on e = go (memory_on slot.peer)
  where
    go : (t : Bool) → Leaves (Tracks on) slot (cond t (register_stored who slot (register_at at) x) [])
    go true = stored_memory who slot (register_at at) x on e
    go false = e
effect_memory s who slot region (msix_read at w) on e = e
effect_memory s who slot region (msix_write at w x) on e = go (memory_on slot.peer)
  where
    put : (t : Bool) (new : List Entry) → Tracks on (cond t (record { peer = slot.peer; entries = new }) slot)
    put true new = e
    put false new = e

    go : (t : Bool) → Leaves (Tracks on) slot (cond t (Operation.own (msix_written s slot at x) ∷ []) [])
    go true = put (in_table s at) _
    go false = e
effect_memory s who slot region (question at n) on e = e
effect_memory s who slot region (load at n) on e = e
effect_memory s who slot region (store at bs) on e = e

delivery_memory : (on : Bool) (g : Gate) (slot : Slot) → Tracks on slot → Tracks on (after_delivery g slot)
unfolding after_delivery memory_on
delivery_memory on g slot e = go g.oneshot
  where
    go : (t : Bool) → Tracks on (cond t (with_peer slot (with_interrupt slot.peer 0)) slot)
    go true = e
    go false = e

memory_own : (c : Call) (past : List Call) → memory_bit c.who (c ∷ past) ≡ memory_after c.act (memory_bit c.who past)
unfolding memory_bit
memory_own c past = rw (eq-eqb c.who c.who refl)

memory_other : (i : ℕ) (c : Call) (past : List Call) → (i ≡ c.who → ⊥) → memory_bit i (c ∷ past) ≡ memory_bit i past
unfolding memory_bit
memory_other i c past d = rw (ne_eqb c.who i (λ e. d (sym e)))

-- The worlds of a history.

abbrev pub framed : Settings → Frame
framed s = record { settings = s; slots = s.peers; room = total s }

pub record Fit (s : Settings) (w : World) : Type 0 where
  pub fixed : frame w ≡ framed s
  pub slots : Every (Sound s) s.peers w.hub

-- Command bit 1 of every slot, after the accepted calls so far
abbrev pub Remembered : Settings → List Call → World → Type 0
Remembered s past w = Every (λ i slot. Tracks (memory_bit i past) slot) s.peers w.hub

pub fit_sound : (s : Settings) (w : World) → accepted s ≡ true → Fit s w → sound w.hub ≡ true
unfolding sound
fit_sound s w a f =
    let e : w.hub.settings ≡ s = ap (λ (x : Frame). x.settings) f.fixed in
    rw e (ap₂ (λ (x y : Bool). x && y) a (true_below s.peers (λ i. slot_sound s (slot_at w.hub i)) f.slots))

pub start_fit : (s : Settings) → Fit s (start s)
unfolding start fresh_hub
start_fit s =
    record {
      fixed = λ i. record { settings = s; slots = length-replicate s.peers (reset_slot s.vectors 0) i; room = length-replicate {A = ℕ} (total s) 0 i };
      slots = λ i h. rw (get_or-replicate s.peers i (reset_slot s.vectors 0) zero_slot h) (absent_sound s);
    }

pub start_remembered : (s : Settings) → Remembered s [] (start s)
unfolding start fresh_hub memory_bit memory_on reset_slot
start_remembered s i h = rw (get_or-replicate s.peers i (reset_slot s.vectors 0) zero_slot h) (λ c. refl)

-- an accepted call, and what it keeps of every slot
pub taken_world : (w : World) (c : Call) → refusal w c ≡ 0 → (step w c).world ≡ (run_all c.who w (effect_in w c).operations).world
taken_world w c e = ap (λ (o : Outcome). o.world) (accepted_effect w c e)

pub refused_world : (w : World) (c : Call) → (refusal w c ≡ 0 → ⊥) → (step w c).world ≡ w
refused_world w c n = ap (λ (o : Outcome). o.world) (refused_changes_nothing w c n)

module _ (s : Settings) (w : World) (c : Call) (a : accepted s ≡ true) (f : Fit s w) where
  pub same : w.hub.settings ≡ s
  same = ap (λ (x : Frame). x.settings) f.fixed

  pub small : refusal w c ≡ 0 → c.who < s.peers
  small e = rw same at (taken w c e).small

  pub slots_keep : (P : ℕ → Slot → Type 0) → ((i : ℕ) (g : Gate) (slot : Slot) → P i slot → P i (after_delivery g slot)) → refusal w c ≡ 0
      → ((i : ℕ) → i < s.peers → (i ≡ c.who → ⊥) → P i (slot_at w.hub i))
      → Leaves (P c.who) (slot_at w.hub c.who) (effect_in w c).operations → Every P s.peers (step w c).world.hub
  slots_keep P keeps e others leaves =
      rw (taken_world w c e)
      (run_all_keeps P keeps s.peers c.who (small e) w (effect_in w c).operations
      (ap (λ (x : Frame). x.slots) f.fixed) others leaves)

  taken_fit : refusal w c ≡ 0 → Fit s (step w c).world
  unfolding is_connected
  taken_fit e =
      record {
        fixed = ap (λ (x : World). frame x) (taken_world w c e) ∙ run_all_frame c.who w (effect_in w c).operations ∙ f.fixed;
        slots =
            slots_keep (Sound s) (λ i. delivery_sound s) e (λ i h d. f.slots i h)
            (subst (λ (x : Settings). Leaves (Sound s c.who) (slot_at w.hub c.who)
            (effect x c.who (slot_at w.hub c.who) w.region c.act).operations) (sym same)
            (effect_sound s c.who (slot_at w.hub c.who) w.region c.act (taken w c e).there
            (f.slots c.who (small e))));
      }

  pub step_fit : Fit s (step w c).world
  step_fit = by_equal (refusal w c) 0 taken_fit (λ n. subst (Fit s) (sym (refused_world w c n)) f)

  taken_remembered : (past : List Call) → Remembered s past w → refusal w c ≡ 0 → Remembered s (c ∷ past) (step w c).world
  taken_remembered past m e =
      slots_keep (λ i slot. Tracks (memory_bit i (c ∷ past)) slot) (λ i g slot h. delivery_memory (memory_bit i (c ∷ past)) g slot h) e
      (λ i h d. rw (memory_other i c past d) (m i h))
      (rw (memory_own c past)
      (effect_memory w.hub.settings c.who (slot_at w.hub c.who) w.region c.act (memory_bit c.who past)
      (m c.who (small e))))

  pub step_remembered : (past : List Call) → Remembered s past w → Remembered s (cond (is_accepted w c) (c ∷ past) past) (step w c).world
  step_remembered past m =
      by_equal (refusal w c) 0
      (λ (e : refusal w c ≡ 0). rw (eq-eqb (refusal w c) 0 e) (taken_remembered past m e))
      (λ n. rw (ne_eqb (refusal w c) 0 n, refused_world w c n) m)
