-- What is left by writing the numbers of a wanted slot: configuration space byte by byte, an entry word by word, a list element by
-- element. A sound slot that is not connected leaves nothing to write.
use Prim.Native.Nat.{ℕ, zero, suc, ◌+◌, ◌-◌, ◌*◌, ◌/◌, ◌%◌, ◌^◌, ◌<◌, ◌≤◌}
use mathlib.Core.Bool.{true, false, cond}
use mathlib.Core.List.{List}
use mathlib.Core.Path.{◌≡◌, refl, sym, ap, subst, ◌∙◌}
use native.Mathlib.Nat.{add-zero}
use native.Mathlib.Omega.{arith}
use borrow.Author.Tests.{eqb-true, ltb-true, le-leb, lt-ltb, le-ltb}
use lib.Bits.{bit_and, and_le_r, and_mask, and_shr, and_mod}
use lib.Dec.{eqb, ltb}
use lib.ListN.{length, get_or, set, replicate, length-replicate, get_or-replicate}
use lib.Pow.{shr-shr}
use lib.Seq.{ext_get_or}
use Rattle.common.specs.Bytes.{byte, only, merge}
use Rattle.common.specs.Lists.{tabulate}
use Rattle.common.proofs.ByteLaws.{byte_suc}
use Rattle.common.proofs.ListLaws.{length_tabulate, get_d_tabulate, tabulate_ext, set_tabulate}
use Rattle.common.proofs.TestLaws.{and_right, every_true, below_true, alike}
use Rattle.device.specs.declared.Entry.{Entry}
use Rattle.device.specs.declared.Peer.{Peer}
use Rattle.device.specs.declared.Settings.{Settings}
use Rattle.device.specs.Configuration.{fields, field_byte, configuration_byte, configuration_read, masks, mask_in}
use Rattle.device.specs.Configuration.{mask_at, mask_of, with_byte, written_byte, configuration_written}
use Rattle.device.specs.Msix.{address_mask, word_mask, control_mask, with_word}
use Rattle.device.specs.Reset.{reset_entry}
use Rattle.device.specs.Sound.{peer_reset, entry_fixed, entry_reset, peer_sound, entry_sound, slot_sound}
use Rattle.device.specs.World.{Slot, zero_entry, reset_slot, entry_at}
use Rattle.device.proofs.ConfigurationLaws.{byte_small, written_reads}
use Rattle.device.proofs.FixedLaws.{Fixed, written_fixed}
use Rattle.device.proofs.SoundLaws.{absent_reset}

-- Numbers under masks.

-- a number that keeps to a mask is no larger, and each of its bytes keeps to the mask's
bounded : (m x : ℕ) → only m x ≡ true → x ≤ m
bounded m x e =
    let f : bit_and x m ≡ x = eqb-true _ _ e in
    omega (arith, and_le_r x m)

same_byte : (k m x : ℕ) → only m x ≡ true → bit_and (byte k x) (byte k m) ≡ byte k x
same_byte k m x e =
    sym (ap (λ (y : ℕ). y % 2 ^ 8) (and_shr x m (8 * k)) ∙ and_mod (x / 2 ^ (8 * k)) (m / 2 ^ (8 * k)) 8)
    ∙ ap (λ (y : ℕ). byte k y) (eqb-true _ _ e)

-- a word is made of its bytes, so two words under one mask are equal if their bytes are
spelled : (x : ℕ) → x < 2 ^ 32 → x ≡ byte 0 x + 256 * byte 1 x + 2 ^ 16 * byte 2 x + 2 ^ 24 * byte 3 x
spelled x h =
    let low : x / 2 ^ 8 ≡ byte 1 x + 256 * (x / 2 ^ 16) = omega (arith, shr-shr x 8 8) in
    let middle : x / 2 ^ 16 ≡ byte 2 x + 256 * (x / 2 ^ 24) = omega (arith, shr-shr x 16 8) in
    let high : x / 2 ^ 24 ≡ byte 3 x = omega arith in
    omega arith

word_same : (m x y : ℕ) → m < 2 ^ 32 → only m x ≡ true → only m y ≡ true
    → byte 0 x ≡ byte 0 y → byte 1 x ≡ byte 1 y → byte 2 x ≡ byte 2 y → byte 3 x ≡ byte 3 y → x ≡ y
word_same m x y h e f b0 b1 b2 b3 =
    spelled x (omega (arith, bounded m x e)) ∙ rw (b0, b1, b2, b3) (sym (spelled y (omega (arith, bounded m y f))))

pub whole_word : (x : ℕ) → x < 2 ^ 32 → bit_and x word_mask ≡ x
whole_word x h = and_mask x 32 ∙ omega arith

-- Configuration space.

-- A connected peer's registers at reset but for Command bit 1, which the regions need, Interrupt Control and State.
abbrev pub opened : (interrupt state : ℕ) → Peer
opened interrupt state =
    record {
      connected = 1;
      command = 2;
      bar0 = 0;
      bar1 = 0;
      privileged = 0;
      message = 0;
      interrupt = interrupt;
      state = state;
    }

module _ (s : Settings) (q : Peer) where
  -- a read of some bytes holds each of them
  read_byte : (w at o : ℕ) → o < w → byte o (configuration_read s q at w) ≡ configuration_byte s q (at + o)
  unfolding configuration_read
  read_byte zero at o h = absurd (omega arith)
  read_byte (suc w) at zero h = rw add-zero (omega (arith, byte_small s q at))
  read_byte (suc w) at (suc o) h =
      let x : ℕ = configuration_byte s q at + 256 * configuration_read s q (suc at) w in
      let rest : x / 256 ≡ configuration_read s q (suc at) w = omega (arith, byte_small s q at) in
      let next : suc at + o ≡ at + suc o = omega arith in
      byte_suc o x ∙ rw (rest, ← next) (read_byte w (suc at) o (omega arith))

  -- the whole of configuration space written as the wanted one reads
  abbrev pub copied : Peer → Peer
  copied p = configuration_written s p 0 256 (configuration_read s q 0 256)

  copied_reads : (p : Peer) (o : ℕ) → o < 256
      → configuration_byte s (copied p) o ≡ merge (mask_at s o) (configuration_byte s p o) (configuration_byte s q o)
  copied_reads p o h =
      let d : o - 0 ≡ o = omega arith in
      let z : 0 + o ≡ o = omega arith in
      written_reads s p 0 256 (configuration_read s q 0 256) o
      ∙ rw (le-leb 0 o (omega arith), lt-ltb o 256 h, d, read_byte 256 0 o h, z)

  -- what is no part of configuration space
  abbrev beside : Peer → ℕ × ℕ × ℕ
  beside p = (p.connected, p.interrupt, p.state)

  written_beside : (p : Peer) (at w x : ℕ) → beside (configuration_written s p at w x) ≡ beside p
  unfolding configuration_written written_byte with_byte
  written_beside p at zero x = refl
  written_beside p at (suc w) x = written_beside (written_byte s p at (x % 256)) (suc at) w (x / 256)

  -- written over those registers, the registers are the wanted ones: every byte of the wanted ones keeps to its mask
  pub copied_all : q.connected ≡ 1 → Fixed s q → copied (opened q.interrupt q.state) ≡ q
  unfolding configuration_byte field_byte fields mask_of mask_at masks mask_in
  copied_all c f =
      let p : Peer = opened q.interrupt q.state in
      let r : Peer = copied p in
      let g : Fixed s r =
      written_fixed s p 0 256 (configuration_read s q 0 256)
      (record { command = refl; bar0 = refl; bar1 = refl; privileged = refl; message = refl; interrupt = f.interrupt }) in
      let b04 : byte 0 r.command ≡ byte 0 q.command = copied_reads p 0x04 (omega arith) ∙ same_byte 0 (mask_of s 0x04 2) q.command f.command in
      let b05 : byte 1 r.command ≡ byte 1 q.command = copied_reads p 0x05 (omega arith) ∙ same_byte 1 (mask_of s 0x04 2) q.command f.command in
      let command : r.command ≡ q.command = omega (
        arith,
        bounded (mask_of s 0x04 2) r.command g.command,
        bounded (mask_of s 0x04 2) q.command f.command,
      ) in
      let b10 : byte 0 r.bar0 ≡ byte 0 q.bar0 = copied_reads p 0x10 (omega arith) ∙ same_byte 0 (mask_of s 0x10 4) q.bar0 f.bar0 in
      let b11 : byte 1 r.bar0 ≡ byte 1 q.bar0 = copied_reads p 0x11 (omega arith) ∙ same_byte 1 (mask_of s 0x10 4) q.bar0 f.bar0 in
      let b12 : byte 2 r.bar0 ≡ byte 2 q.bar0 = copied_reads p 0x12 (omega arith) ∙ same_byte 2 (mask_of s 0x10 4) q.bar0 f.bar0 in
      let b13 : byte 3 r.bar0 ≡ byte 3 q.bar0 = copied_reads p 0x13 (omega arith) ∙ same_byte 3 (mask_of s 0x10 4) q.bar0 f.bar0 in
      let bar0 : r.bar0 ≡ q.bar0 = word_same (mask_of s 0x10 4) r.bar0 q.bar0 (omega arith) g.bar0 f.bar0 b10 b11 b12 b13 in
      let b14 : byte 0 r.bar1 ≡ byte 0 q.bar1 = copied_reads p 0x14 (omega arith) ∙ same_byte 0 (mask_of s 0x14 4) q.bar1 f.bar1 in
      let b15 : byte 1 r.bar1 ≡ byte 1 q.bar1 = copied_reads p 0x15 (omega arith) ∙ same_byte 1 (mask_of s 0x14 4) q.bar1 f.bar1 in
      let b16 : byte 2 r.bar1 ≡ byte 2 q.bar1 = copied_reads p 0x16 (omega arith) ∙ same_byte 2 (mask_of s 0x14 4) q.bar1 f.bar1 in
      let b17 : byte 3 r.bar1 ≡ byte 3 q.bar1 = copied_reads p 0x17 (omega arith) ∙ same_byte 3 (mask_of s 0x14 4) q.bar1 f.bar1 in
      let bar1 : r.bar1 ≡ q.bar1 = word_same (mask_of s 0x14 4) r.bar1 q.bar1 (omega arith) g.bar1 f.bar1 b14 b15 b16 b17 in
      let b43 : byte 0 r.privileged ≡ byte 0 q.privileged = copied_reads p 0x43 (omega arith)
      ∙ same_byte 0 (mask_of s 0x43 1) q.privileged f.privileged in
      let privileged : r.privileged ≡ q.privileged = omega (
        arith,
        bounded (mask_of s 0x43 1) r.privileged g.privileged,
        bounded (mask_of s 0x43 1) q.privileged f.privileged,
      ) in
      let b63 : byte 0 r.message ≡ byte 0 q.message = copied_reads p 0x63 (omega arith) ∙ same_byte 0 (mask_of s 0x63 1) q.message f.message in
      let message : r.message ≡ q.message = omega (
        arith,
        bounded (mask_of s 0x63 1) r.message g.message,
        bounded (mask_of s 0x63 1) q.message f.message,
      ) in
      let others : beside r ≡ beside p = written_beside p 0 256 (configuration_read s q 0 256) in
      λ i. record {
        connected = (ap (λ (x : ℕ × ℕ × ℕ). x.0) others ∙ sym c) i;
        command = command i;
        bar0 = bar0 i;
        bar1 = bar1 i;
        privileged = privileged i;
        message = message i;
        interrupt = (others i).1;
        state = (others i).2;
      }

-- An entry, word by word.
pub entry_copied : (from e : Entry) → entry_fixed e ≡ true → e.high < 2 ^ 32 → e.payload < 2 ^ 32
    → with_word (with_word (with_word (with_word from 0 e.low) 1 e.high) 2 e.payload) 3 e.control ≡ e
unfolding with_word entry_fixed
entry_copied from e f h k =
    λ i. record {
      low = eqb-true (bit_and e.low address_mask) e.low (every_true _ f 0) i;
      high = whole_word e.high h i;
      payload = whole_word e.payload k i;
      control = eqb-true (bit_and e.control control_mask) e.control (every_true _ f 1) i;
    }

-- A slot that is not connected.

entry_reset_lem : (e : Entry) → entry_reset e ≡ true → e ≡ reset_entry
unfolding entry_reset
entry_reset_lem e r =
    λ i. record {
      low = eqb-true e.low 0 (every_true _ r 0) i;
      high = eqb-true e.high 0 (every_true _ r 1) i;
      payload = eqb-true e.payload 0 (every_true _ r 2) i;
      control = eqb-true e.control 1 (every_true _ r 3) i;
    }

pub absent_slot_lem : (s : Settings) (slot : Slot) → slot_sound s slot ≡ true → eqb slot.peer.connected 1 ≡ false
    → length slot.entries ≡ s.vectors → slot ≡ reset_slot s.vectors 0
unfolding slot_sound peer_reset entry_sound reset_slot
absent_slot_lem s slot e d n =
    let r : peer_reset slot.peer ≡ true = absent_reset s slot e d in
    let each = below_true s.vectors _ (and_right (peer_sound s slot.peer) _ e) in
    let entries : slot.entries ≡ replicate s.vectors reset_entry =
    ext_get_or zero_entry _ _ (n ∙ sym (length-replicate s.vectors reset_entry))
    (λ v h. entry_reset_lem (entry_at slot v) (rw d at (each v (rw n at h))) ∙ sym (get_or-replicate s.vectors v reset_entry zero_entry (rw n at h))) in
    λ i. record {
      peer =
          record {
            connected = eqb-true slot.peer.connected 0 (every_true _ r 0) i;
            command = eqb-true slot.peer.command 0 (every_true _ r 1) i;
            bar0 = eqb-true slot.peer.bar0 0 (every_true _ r 2) i;
            bar1 = eqb-true slot.peer.bar1 0 (every_true _ r 3) i;
            privileged = eqb-true slot.peer.privileged 0 (every_true _ r 4) i;
            message = eqb-true slot.peer.message 0 (every_true _ r 5) i;
            interrupt = eqb-true slot.peer.interrupt 0 (every_true _ r 6) i;
            state = eqb-true slot.peer.state 0 (every_true _ r 7) i;
          };
      entries = entries i;
    }

-- A list, element by element: what each replacement keeps holds of the list with all of them replaced.
module _ {A : Type 0} (R : List A → Type 0) (d : A) (n : ℕ) (f g : ℕ → A)
    (one : (k : ℕ) (zs : List A) → k < n → length zs ≡ n → get_or zs k d ≡ f k → R zs → R (set zs k (g k))) where
  -- the first k replaced
  up_to : ℕ → ℕ → A
  up_to k j = cond (ltb j k) (g j) (f j)

  replaced : (k : ℕ) → k ≤ n → R (tabulate n f) → R (tabulate n (up_to k))
  unfolding up_to
  replaced zero h r = subst R (tabulate_ext n f (up_to zero) (λ j l. rw (le-ltb j 0 (omega arith)))) r
  replaced (suc k) h r =
      subst R
      (sym
      (set_tabulate n (up_to k) (up_to (suc k)) k (g k) h (rw (lt-ltb k (suc k) (omega arith)))
      (λ j l e. rw (alike (ltb j (suc k)) (ltb j k) (λ t. lt-ltb j k (omega (arith, ltb-true j (suc k) t)))
      (λ t. lt-ltb j (suc k) (omega (arith, ltb-true j k t)))))))
      (one k (tabulate n (up_to k)) h (length_tabulate n (up_to k)) (get_d_tabulate n (up_to k) k d h ∙ rw (le-ltb k k (omega arith))) (replaced k (omega arith) r))

  pub sweep : R (tabulate n f) → R (tabulate n g)
  unfolding up_to
  sweep r = subst R (tabulate_ext n (up_to n) g (λ j l. rw (lt-ltb j n l))) (replaced n (omega arith) r)

-- a list is the table of its elements
pub tabled : {A : Type 0} (d : A) (n : ℕ) (l : List A) → length l ≡ n → tabulate n (λ i. get_or l i d) ≡ l
tabled d n l e =
    ext_get_or d _ l (length_tabulate n (λ i. get_or l i d) ∙ sym e) (λ i h. get_d_tabulate n (λ j. get_or l j d) i d (rw length_tabulate at h))
