-- The number of an access to configuration space, exactly; and that one which is not refused with 6 or 7 is the accesses of its bytes:
-- they have its number, a read gives their values and a write leaves what they leave one after the other. Shown once over the width.
use Prim.Native.Nat.{ℕ, zero, suc, ◌+◌, ◌%◌, ◌<◌, ◌≤◌}
use mathlib.Core.Bool.{Bool, true, false, cond}
use mathlib.Core.List.{List, ◌∷◌}
use mathlib.Core.Path.{◌≡◌, refl, sym, ap, subst, ◌∙◌}
use native.Mathlib.Nat.{zero-div}
use native.Mathlib.Omega.{arith}
use borrow.Author.Tests.{eqb-true, eqb-false, eq-eqb, leb-false, ltb-true, lt-ltb, not-false}
use lib.Dec.{eqb, leb, ltb}
use lib.ListN.{length}
use lib.Seq.{get_or-set_same, set-get_or, set-set}
use Rattle.common.specs.Bytes.{byte, number}
use Rattle.common.specs.Lists.{tabulate}
use Rattle.common.specs.Tests.{row, first}
use Rattle.common.proofs.ByteLaws.{number_tabulate}
use Rattle.common.proofs.ListLaws.{tabulate_ext, get_d_set}
use Rattle.common.proofs.TestLaws.{and_left, and_right, below_true, true_below, first_zero, alike}
use Rattle.device.specs.declared.Peer.{Peer}
use Rattle.device.specs.declared.Settings.{Settings}
use Rattle.device.specs.Call.Act.{configuration_write}
use Rattle.device.specs.Configuration.{configuration_read, configuration_written}
use Rattle.device.specs.Effect.{effect}
use Rattle.device.specs.History.{after}
use Rattle.device.specs.Refusal.{lent_to, access_of, wrong_region, short_table, missing, present}
use Rattle.device.specs.Refusal.{wrong_width, misaligned, outside, forbidden, is_connected, refusal}
use Rattle.device.specs.SetUp.{accepted}
use Rattle.device.specs.Sound.{slot_sound, sound}
use Rattle.device.specs.Split.{read_call, write_call, any_width, configuration_rows, access_number, AccessNumbers, Splittable, gives}
use Rattle.device.specs.Split.{ReadSplit, ReadSplits, byte_write, after_bytes, WriteSplit, WriteSplits, AlignedSplits}
use Rattle.device.specs.Step.{Outcome, run, run_all, step_by, step}
use Rattle.device.specs.World.{Slot, World, world, zero_slot, slot_at, with_slot, with_peer}
use Rattle.device.proofs.ConfigurationLaws.{in_one_word, read_by_bytes, read_within, written_last}
use Rattle.device.proofs.FixedLaws.{written_connected}
use Rattle.device.proofs.HistoryLaws.{effect_sound}
use Rattle.device.proofs.OneShot.{has_slot}
use Rattle.device.proofs.Reached.{after_one}
use Rattle.device.proofs.StepLaws.{step_number}

-- The number of an access: of the table's rows those that can apply to configuration space.

read_number : (w : World) (who at width : ℕ) → refusal w (read_call who at width) ≡ access_number w who at width
unfolding refusal first lent_to access_of wrong_region short_table missing present wrong_width misaligned outside forbidden
read_number w who at width = refl

write_number : (w : World) (who at width value : ℕ) → refusal w (write_call who at width value) ≡ access_number w who at width
unfolding refusal first lent_to access_of wrong_region short_table missing present wrong_width misaligned outside forbidden
write_number w who at width value = refl

pub access_numbers : AccessNumbers
access_numbers w who at width value = (
  step_number w (read_call who at width) ∙ read_number w who at width,
  step_number w (write_call who at width value) ∙ write_number w who at width value,
)

-- by what checks 10, 3 and 4 find
abbrev number_by : (unsound unknown absent : Bool) → (at width : ℕ) → ℕ
number_by unsound unknown absent at width = first (row 10 unsound ∷ row 3 unknown ∷ row 4 absent ∷ configuration_rows at width)

-- Where the width is 1, 2 or 4 and the offset a multiple of it, neither 6 nor 7 is given.

neither : (n : ℕ) → eqb n 6 ≡ false → eqb n 7 ≡ false → Splittable n
neither n e f = (eqb-false n 6 e, eqb-false n 7 f)

aligned_number : (unsound unknown absent : Bool) (at width : ℕ) → any_width width ≡ true → at % width ≡ 0
    → Splittable (number_by unsound unknown absent at width)
unfolding first
aligned_number true unknown absent at width e a = neither 10 refl refl
aligned_number false true absent at width e a = neither 3 refl refl
aligned_number false false true at width e a = neither 4 refl refl
aligned_number false false false at width e a = rw (e, eq-eqb (at % width) 0 a) (end (ltb 256 (at + width)))
  where
    end : (t : Bool) → Splittable (cond t 8 0)
    end true = neither 8 refl refl
    end false = neither 0 refl refl

pub aligned_splits : AlignedSplits
aligned_splits w who at width value e a =
    let n : Splittable (access_number w who at width) = aligned_number _ _ _ at width e a in (
      subst Splittable (sym (access_numbers w who at width value).0) n,
      subst Splittable (sym (access_numbers w who at width value).1) n,
    )

-- An access and its bytes.

-- a space that ends where a word does: an access that lies in a word is outside with each of its bytes
same_end : (at width j size : ℕ) → at % 4 + width ≤ 4 → j < width → size % 4 ≡ 0 → ltb size (at + j + 1) ≡ ltb size (at + width)
same_end at width j size h l e =
    alike _ _
    (λ f. lt-ltb size (at + width) (omega (arith, ltb-true size (at + j + 1) f)))
    (λ f. lt-ltb size (at + j + 1) (omega (arith, ltb-true size (at + width) f)))

byte_rows : (at width j : ℕ) → j < width → Splittable (first (configuration_rows at width)) →
    first (configuration_rows (at + j) 1) ≡ first (configuration_rows at width)
unfolding first
byte_rows at width j h ok = go (any_width width) refl (eqb (at % width) 0) refl
  where
    go : (t : Bool) → any_width width ≡ t → (u : Bool) → eqb (at % width) 0 ≡ u → first (configuration_rows (at + j) 1) ≡ first (configuration_rows at width)
    go false e u f = absurd (ok.0 (rw e))
    go true e false f = absurd (ok.1 (rw (e, f)))
    go true e true f =
        let in-word : at % 4 + width ≤ 4 = in_one_word at width e (eqb-true (at % width) 0 f) in
        rw (e, f, eq-eqb ((at + j) % 1) 0 (omega arith), same_end at width j 256 in-word h refl)

byte_number : (unsound unknown absent : Bool) (at width j : ℕ) → j < width
    → Splittable (number_by unsound unknown absent at width) → number_by unsound unknown absent (at + j) 1 ≡ number_by unsound unknown absent at width
unfolding first
byte_number true unknown absent at width j h ok = refl
byte_number false true absent at width j h ok = refl
byte_number false false true at width j h ok = refl
byte_number false false false at width j h ok = byte_rows at width j h ok

-- by the number of an access: the first where it is accepted, else the second
abbrev if_accepted {ℓ} : {A : Type ℓ} → (number : ℕ) → A → A → A
if_accepted zero x y = x
if_accepted (suc n) x y = y

-- Reads.

read_by : (n : ℕ) (w : World) (who at width : ℕ)
    → step_by n w (read_call who at width) ≡ gives n (if_accepted n (configuration_read w.hub.settings (slot_at w.hub who).peer at width) 0) w
unfolding step_by effect run_all
read_by zero w who at width = refl
read_by (suc n) w who at width = refl

number_zeros : (n : ℕ) → number (tabulate n (λ j. 0)) ≡ 0
unfolding number tabulate
number_zeros zero = refl
number_zeros (suc n) = number_tabulate n (λ j. 0) ∙ rw (number_zeros n)

module _ (w : World) (who at width : ℕ) (ok : Splittable (step w (read_call who at width)).number) where
  abbrev read_refusal : ℕ
  read_refusal = refusal w (read_call who at width)

  abbrev read : (at width : ℕ) → ℕ
  read at width = configuration_read w.hub.settings (slot_at w.hub who).peer at width

  read_outcome : step w (read_call who at width) ≡ gives read_refusal (if_accepted read_refusal (read at width) 0) w
  unfolding step
  read_outcome = read_by read_refusal w who at width

  byte_outcome : (j : ℕ) → j < width → step w (read_call who (at + j) 1) ≡ gives read_refusal (if_accepted read_refusal (read (at + j) 1) 0) w
  unfolding step
  byte_outcome j h =
      let may_split : Splittable read_refusal = subst Splittable (step_number w (read_call who at width)) ok in
      let same : refusal w (read_call who (at + j) 1) ≡ read_refusal =
      read_number w who (at + j) 1
      ∙ byte_number _ _ _ at width j h (subst Splittable (read_number w who at width) may_split)
      ∙ sym (read_number w who at width) in
      ap (λ (m : ℕ). step_by m w (read_call who (at + j) 1)) same ∙ read_by read_refusal w who (at + j) 1

  byte_value : (m j : ℕ) → j < width → if_accepted m (read (at + j) 1) 0 ≡ byte j (if_accepted m (read at width) 0)
  byte_value zero j h = read_within w.hub.settings (slot_at w.hub who).peer at j 1 width (omega arith)
  byte_value (suc m) j h = sym (ap (λ (q : ℕ). q % 256) (zero-div _))

  all_values : (m : ℕ) → if_accepted m (read at width) 0 ≡ number (tabulate width (λ j. if_accepted m (read (at + j) 1) 0))
  all_values zero = read_by_bytes w.hub.settings (slot_at w.hub who).peer at width
  all_values (suc m) = sym (number_zeros width)

  read_is_split : ReadSplit w who at width (step w (read_call who at width))
  read_is_split =
      rw read_outcome
      (record {
        each = λ j h. byte_outcome j h ∙ ap (λ (v : ℕ). gives read_refusal v w) (byte_value read_refusal j h);
        whole =
            ap (λ (v : ℕ). gives read_refusal v w)
            (all_values read_refusal
            ∙ ap (λ (l : List ℕ). number l) (tabulate_ext width _ _ (λ j h. sym (ap (λ (o : Outcome). o.value) (byte_outcome j h)))));
      })

pub read_splits : ReadSplits
read_splits = read_is_split

-- Writes.

-- the world with a peer's registers replaced
abbrev with_registers : World → ℕ → Peer → World
with_registers w who p = world (with_slot w.hub who (with_peer (slot_at w.hub who) p)) w.region

write_by : (n : ℕ) (w : World) (who at width value : ℕ)
    → step_by n w (write_call who at width value)
    ≡ gives n 0 (if_accepted n (with_registers w who (configuration_written w.hub.settings (slot_at w.hub who).peer at width value)) w)
unfolding step_by effect run_all run
write_by zero w who at width value = refl
write_by (suc n) w who at width value = refl

-- what checks 10, 3 and 4 ask for; a write keeps it
record Caller (w : World) (who : ℕ) : Type 0 where
  sound_hub : sound w.hub ≡ true
  known : leb w.hub.settings.peers who ≡ false
  connected : is_connected w who ≡ true

caller_number : (w : World) (who at width value : ℕ) → Caller w who → refusal w (write_call who at width value) ≡ first (configuration_rows at width)
unfolding first
caller_number w who at width value r = write_number w who at width value ∙ rw (r.sound_hub, r.known, r.connected)

accepted_caller : (w : World) (who at width value : ℕ) → refusal w (write_call who at width value) ≡ 0 → Caller w who
accepted_caller w who at width value e =
    let r10 = first_zero 9 _ _ (sym (write_number w who at width value) ∙ e) in
    let r3 = first_zero 2 _ _ r10.1 in
    let r4 = first_zero 3 _ _ r3.1 in
    record { sound_hub = not-false _ r10.0; known = r3.0; connected = not-false _ r4.0 }

module _ (w : World) (who at width value : ℕ) (r : Caller w who) where
  abbrev s : Settings
  s = w.hub.settings

  abbrev slot : Slot
  slot = slot_at w.hub who

  abbrev new : Slot
  new = with_peer slot (configuration_written s slot.peer at width value)

  new_sound : slot_sound s new ≡ true
  unfolding sound effect access_of missing is_connected
  new_sound =
      effect_sound s who slot w.region (configuration_write at width value) (rw r.connected)
      (below_true s.peers _ (and_right (accepted s) _ r.sound_hub) who (leb-false _ _ r.known))

  caller_stays : Caller (with_registers w who new.peer) who
  unfolding sound is_connected
  caller_stays =
      record {
        sound_hub =
            rw (and_left (accepted s) _ r.sound_hub)
            (true_below s.peers _
            (λ i h.
            get_d_set (λ (x : Slot). slot_sound s x ≡ true) w.hub.slots who i new zero_slot (λ e. new_sound)
            (below_true s.peers _ (and_right (accepted s) _ r.sound_hub) i h)));
        known = r.known;
        connected =
            rw (get_or-set_same w.hub.slots who new zero_slot (has_slot w who r.connected), written_connected s slot.peer at width value)
            r.connected;
      }

registers_twice : (w : World) (who : ℕ) (p q : Peer) → who < length w.hub.slots → with_registers (with_registers w who p) who q ≡ with_registers w who q
registers_twice w who p q h =
    rw (get_or-set_same w.hub.slots who (with_peer (slot_at w.hub who) p) zero_slot h, set-set w.hub.slots who)

registers_kept : (w : World) (who : ℕ) → with_registers w who (slot_at w.hub who).peer ≡ w
registers_kept w who = λ i. world (record { settings = w.hub.settings; slots = set-get_or w.hub.slots who zero_slot i }) w.region

module _ (w : World) (who at width value : ℕ) (ok : Splittable (step w (write_call who at width value)).number) where
  abbrev write_refusal : ℕ
  write_refusal = refusal w (write_call who at width value)

  abbrev written : ℕ → Peer
  written k = configuration_written w.hub.settings (slot_at w.hub who).peer at k value

  -- what the first k writes leave, by the number of the whole
  abbrev left : (m k : ℕ) → World
  left m k = if_accepted m (with_registers w who (written k)) w

  may_split : Splittable write_refusal
  may_split = subst Splittable (step_number w (write_call who at width value)) ok

  one_write : (m : ℕ) → write_refusal ≡ m → (k : ℕ) → k < width → step (left m k) (byte_write who at value k) ≡ gives m 0 (left m (suc k))
  unfolding step
  one_write zero e k h =
      let r : Caller w who = accepted_caller w who at width value e in
      let u : World = with_registers w who (written k) in
      let same : refusal u (byte_write who at value k) ≡ 0 =
      caller_number u who (at + k) 1 (byte k value) (caller_stays w who at k value r)
      ∙ byte_rows at width k h (subst Splittable (caller_number w who at width value r) may_split)
      ∙ sym (caller_number w who at width value r)
      ∙ e in
      let near : who < length w.hub.slots = has_slot w who r.connected in
      let here : (slot_at u.hub who).peer ≡ written k = ap (λ (x : Slot). x.peer) (get_or-set_same w.hub.slots who _ zero_slot near) in
      let next : Peer = configuration_written w.hub.settings (written k) (at + k) 1 (byte k value) in
      ap (λ (m : ℕ). step_by m u (byte_write who at value k)) same
      ∙ write_by 0 u who (at + k) 1 (byte k value)
      ∙ ap (λ (x : World). gives 0 0 x)
      (rw (here, registers_twice w who (written k) next near, written_last w.hub.settings (slot_at w.hub who).peer at k value))
  one_write (suc m) e k h =
      let same : refusal w (byte_write who at value k) ≡ suc m =
      write_number w who (at + k) 1 (byte k value)
      ∙ byte_number _ _ _ at width k h (subst Splittable (write_number w who at width value) may_split)
      ∙ sym (write_number w who at width value)
      ∙ e in
      ap (λ (m : ℕ). step_by m w (byte_write who at value k)) same ∙ write_by (suc m) w who (at + k) 1 (byte k value)

  left_none : (m : ℕ) → w ≡ left m 0
  unfolding configuration_written
  left_none zero = sym (registers_kept w who)
  left_none (suc m) = refl

  all_left : (k : ℕ) → k ≤ width → after_bytes w who at value k ≡ left write_refusal k
  unfolding after tabulate
  all_left zero h = left_none write_refusal
  all_left (suc k) h =
      after_one w (tabulate k (λ j. byte_write who at value j)) (byte_write who at value k)
      ∙ ap (λ (u : World). (step u (byte_write who at value k)).world) (all_left k (omega arith))
      ∙ ap (λ (o : Outcome). o.world) (one_write write_refusal refl k h)

  write_outcome : step w (write_call who at width value) ≡ gives write_refusal 0 (left write_refusal width)
  unfolding step
  write_outcome = write_by write_refusal w who at width value

  write_is_split : WriteSplit w who at width value (step w (write_call who at width value))
  write_is_split =
      rw write_outcome
      (record {
        each = λ j h. rw (all_left j (omega arith), all_left (suc j) (omega arith)) (one_write write_refusal refl j h);
        whole = rw (all_left width (omega arith));
      })

pub write_splits : WriteSplits
write_splits = write_is_split
