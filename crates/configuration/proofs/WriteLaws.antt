-- A write of some bytes of one word is the write of that word in the lanes of those bytes.
use Prim.Native.Nat.{ℕ, ◌+◌, ◌-◌, ◌*◌, ◌/◌, ◌%◌, ◌^◌, ◌<◌, ◌≤◌}
use mathlib.Core.Bool.{Bool, true, false, cond}
use mathlib.Core.Path.{◌≡◌, refl, sym, ap, ◌∙◌}
use native.Mathlib.Nat.{lt_of_le_of_lt}
use native.Mathlib.Omega.{arith}
use borrow.Author.Tests.{eq-eqb, ne_eqb, lt-ltb, le-ltb}
use lib.Bits.{bit_and, and_le_l, and_le_r, or_lt}
use lib.Dec.{eqb}
use Rattle.common.specs.Bytes.{byte, set_byte, merge}
use Rattle.common.proofs.ByteLaws.{byte_zero, byte_set_byte_other, merge_small, merge_zero}
use Rattle.common.proofs.MaskLaws.{merge_old, merge_new}
use Rattle.common.proofs.TestLaws.{by_equal}
use Rattle.common.proofs.WordLaws.{byte_and, each_byte, same_word, set_byte_small}
use Rattle.device.specs.Configuration.{within, fields, field_byte, configuration_byte, masks, mask_in, mask_at, mask_of, with_byte, written_byte, configuration_written}
use Rattle.device.specs.declared.Peer.{Peer}
use Rattle.device.specs.declared.Settings.{Settings}
use Rattle.device.proofs.ConfigurationLaws.{within_true, within_false, in_range_lem, out_of_range, mask_small}
use Rattle.device.proofs.ConfigurationLaws.{byte_mask, written_keeps, written_part, written_reads}
use Rattle.configuration.specs.Parts.{lanes, merge_word, merge_last, word_written}
use Rattle.configuration.proofs.LaneLaws.{byte_lanes, lanes_small, byte_placed, byte_merge, merge_lane}

-- An access, and a word at an offset `start` that it meets or not.
module _ (s : Settings) (at w value : ℕ) (inside : at % 4 + w ≤ 4) (start : ℕ) (aligned : start % 4 ≡ 0) where
  abbrev bits : ℕ
  bits = lanes (at % 4) w

  abbrev replaced : ℕ
  replaced = bit_and bits (mask_of s start 4)

  abbrev new : ℕ
  new = value * 2 ^ (8 * (at % 4)) % 2 ^ 64

  -- in the access's own word: the lane and the value's byte at each place
  lane : (j : ℕ) → at - at % 4 ≡ start → j < 4 → byte j bits ≡ cond (within at w (start + j)) 255 0
  lane j e h =
      byte_lanes (at % 4) w j (omega arith) (omega arith) h
      ∙ ap (λ (t : Bool). cond t 255 0) (sym (go (within (at % 4) w j) refl))
    where
      go : (t : Bool) → within (at % 4) w j ≡ t → within at w (start + j) ≡ t
      go true f = let i = in_range_lem (at % 4) w j f in within_true at w (start + j) (omega arith) (omega arith)
      go false f = within_false at w (start + j) (λ l k. out_of_range (at % 4) w j f (omega arith) (omega arith))

  placed : (j : ℕ) → at - at % 4 ≡ start → j < 4 → within at w (start + j) ≡ true → byte j new ≡ byte (start + j - at) value
  placed j e h f =
      let i = in_range_lem at w (start + j) f in
      let d : start + j - at ≡ j - at % 4 = omega arith in
      rw d (byte_placed j (at % 4) value (omega arith) (omega arith))

  -- in another word nothing is written
  missed : (j : ℕ) → (at - at % 4 ≡ start → ⊥) → j < 4 → within at w (start + j) ≡ false
  missed j n h = within_false at w (start + j) (λ l k. n (omega arith))

  -- a byte of the word, x before, after the write
  abbrev written : ℕ → ℕ → ℕ
  written j x =
      cond (within at w (start + j)) (merge (mask_at s (start + j)) (byte j x) (byte (start + j - at) value)) (byte j x)

  small : replaced < 2 ^ 32
  small = lt_of_le_of_lt (and_le_l bits (mask_of s start 4)) (lanes_small (at % 4) w inside)

  merged : (x j : ℕ) → at - at % 4 ≡ start → j < 4 → byte j (merge_word replaced x new) ≡ written j x
  merged x j e h =
      let m = mask_at s (start + j) in
      rw (byte_merge replaced x new j small h, byte_and j bits (mask_of s start 4), byte_mask s start 4 j h, lane j e h)
      (merge_lane (within at w (start + j)) m (byte j x) (byte j new) (byte (start + j - at) value) (mask_small s (start + j)) (omega arith) (placed j e h))

  -- a register that fills the word, or its first bytes, from x to y
  pub word : (x y : ℕ) → x < 2 ^ 32 → y < 2 ^ 32 → ((j : ℕ) → j < 4 → byte j y ≡ written j x)
      → y ≡ cond (eqb (at - at % 4) start) (merge_word replaced x new) x
  word x y hx hy r =
      by_equal (at - at % 4) start
      (λ e.
      rw (eq-eqb (at - at % 4) start e)
      (same_word y (merge_word replaced x new) hy fits (λ j h. r j h ∙ sym (merged x j e h))))
      (λ n. rw (ne_eqb (at - at % 4) start n) (same_word y x hy hx (λ j h. r j h ∙ rw (missed j n h))))
    where
      fits : merge_word replaced x new < 2 ^ 32
      fits = or_lt 32 _ _ (lt_of_le_of_lt (and_le_l x _) hx) (lt_of_le_of_lt (and_le_r new _) small)

  -- a register that is the last byte of the word, from x to y
  pub last : (m x y : ℕ) → m < 256 → y ≡ cond (within at w (start + 3)) (merge m x (byte (start + 3 - at) value)) x
      → y ≡ cond (eqb (at - at % 4) start) (merge_last bits m x new) x
  last m x y h r =
      by_equal (at - at % 4) start
      (λ e. r ∙ rw (eq-eqb (at - at % 4) start e) (reached e (within at w (start + 3)) refl))
      (λ n. r ∙ rw (ne_eqb (at - at % 4) start n, missed 3 n (omega arith)))
    where
      reached : at - at % 4 ≡ start → (t : Bool) → within at w (start + 3) ≡ t
          → cond t (merge m x (byte (start + 3 - at) value)) x ≡ merge_last bits m x new
      reached e true f =
          let on : byte 3 bits ≡ 255 = rw f at (lane 3 e (omega arith)) in
          let far : 2 ^ 24 ≤ bits = omega arith in
          rw (le-ltb bits (2 ^ 24) far, ← placed 3 e (omega arith) f) (merge_new m x (new / 2 ^ 24) h)
      reached e false f =
          let off : byte 3 bits ≡ 0 = rw f at (lane 3 e (omega arith)) in
          let near : bits < 2 ^ 24 = omega (arith, lanes_small (at % 4) w inside) in
          rw (lt-ltb bits (2 ^ 24) near)

-- What a write leaves as it was, and the registers that stay words. Command has two bytes in the space; none above them is written.
record Kept (p q : Peer) : Type 0 where
  connected : q.connected ≡ p.connected
  command : q.command < 2 ^ 32
  third : byte 2 q.command ≡ byte 2 p.command
  fourth : byte 3 q.command ≡ byte 3 p.command
  bar0 : q.bar0 < 2 ^ 32
  bar1 : q.bar1 < 2 ^ 32
  interrupt : q.interrupt ≡ p.interrupt
  state : q.state ≡ p.state

stays_word : (t : Bool) (k b x : ℕ) → b < 256 → x < 2 ^ 32 → cond t (set_byte k b x) x < 2 ^ 32
stays_word true k b x hb hx = set_byte_small k b x hb
stays_word false k b x hb hx = hx

stays_above : (j at b x : ℕ) → 2 ≤ j → j < 4 → b < 256 → byte j (cond (within 0x04 2 at) (set_byte (at - 0x04) b x) x) ≡ byte j x
stays_above j at b x l u hb = go (within 0x04 2 at) refl
  where
    go : (t : Bool) → within 0x04 2 at ≡ t → byte j (cond t (set_byte (at - 0x04) b x) x) ≡ byte j x
    go true f = let i = in_range_lem 0x04 2 at f in byte_set_byte_other (at - 0x04) j b x (omega arith) u hb
    go false f = refl

byte_kept : (s : Settings) (p q : Peer) (at b : ℕ) → Kept p q → Kept p (written_byte s q at b)
unfolding written_byte with_byte
byte_kept s p q at b k =
    let c = merge (mask_at s at) (configuration_byte s q at) b in
    let h : c < 256 = merge_small (mask_at s at) (configuration_byte s q at) b (mask_small s at) in
    record {
      connected = k.connected;
      command = stays_word (within 0x04 2 at) (at - 0x04) c q.command h k.command;
      third = stays_above 2 at c q.command (omega arith) (omega arith) h ∙ k.third;
      fourth = stays_above 3 at c q.command (omega arith) (omega arith) h ∙ k.fourth;
      bar0 = stays_word (within 0x10 4 at) (at - 0x10) c q.bar0 h k.bar0;
      bar1 = stays_word (within 0x14 4 at) (at - 0x14) c q.bar1 h k.bar1;
      interrupt = k.interrupt;
      state = k.state;
    }

-- a register of one byte, after a write of one byte
single : (s : Settings) (p : Peer) (k x at b : ℕ) → configuration_byte s p k ≡ byte 0 x
    → cond (eqb at k) (merge (mask_at s at) (configuration_byte s p at) b) x ≡ cond (eqb k at) (merge (mask_at s k) x b) x
single s p k x at b e =
    by_equal at k
    (λ (q : at ≡ k). rw (q, eq-eqb k k refl, e, byte_zero x) (merge_old (mask_at s k) x b))
    (λ n. rw (ne_eqb at k n, ne_eqb k at (λ i. n (sym i))))

module _ (s : Settings) (p : Peer) (at w value : ℕ) (inside : at % 4 + w ≤ 4)
    (command : p.command < 2 ^ 32) (bar0 : p.bar0 < 2 ^ 32) (bar1 : p.bar1 < 2 ^ 32) where
  abbrev after : Peer
  after = configuration_written s p at w value

  kept : Kept p after
  kept =
      written_keeps s (Kept p) (λ q k b h e. byte_kept s p q k b e) p at w value
      (record { connected = refl; command = command; third = refl; fourth = refl; bar0 = bar0; bar1 = bar1; interrupt = refl; state = refl })

  -- a byte of the Command register that the space does not have
  above : (j : ℕ) → j < 4 → mask_at s (0x04 + j) ≡ 0 → byte j after.command ≡ byte j p.command
      → byte j after.command ≡ written s at w value inside 0x04 refl j p.command
  above j h m e = rw (m, merge_zero (byte j p.command) (byte (0x04 + j - at) value) (omega arith)) (go (within at w (0x04 + j)))
    where
      go : (t : Bool) → byte j after.command ≡ cond t (byte j p.command) (byte j p.command)
      go true = e
      go false = e

  privileged : after.privileged ≡ cond (within at w 0x43) (merge (mask_at s 0x43) p.privileged (byte (0x43 - at) value)) p.privileged
  unfolding written_byte with_byte configuration_byte field_byte fields
  privileged =
      written_part s (λ q. q.privileged) 0x43 (mask_at s 0x43) (λ q k b h. single s q 0x43 q.privileged k b refl) p at w value

  message : after.message ≡ cond (within at w 0x63) (merge (mask_at s 0x63) p.message (byte (0x63 - at) value)) p.message
  unfolding written_byte with_byte configuration_byte field_byte fields
  message =
      written_part s (λ q. q.message) 0x63 (mask_at s 0x63) (λ q k b h. single s q 0x63 q.message k b refl) p at w value

  pub written_word : after ≡ word_written s p (at - at % 4) (lanes (at % 4) w) (value * 2 ^ (8 * (at % 4)) % 2 ^ 64)
  unfolding word_written configuration_byte field_byte fields mask_at mask_in masks
  written_word =
      let r = written_reads s p at w value in
      λ t. record {
        connected = kept.connected t;
        command =
            word s at w value inside 0x04 refl p.command _ command kept.command
            (each_byte _ (r 0x04) (r 0x05) (above 2 (omega arith) refl kept.third) (above 3 (omega arith) refl kept.fourth)) t;
        bar0 = word s at w value inside 0x10 refl p.bar0 _ bar0 kept.bar0 (each_byte _ (r 0x10) (r 0x11) (r 0x12) (r 0x13)) t;
        bar1 = word s at w value inside 0x14 refl p.bar1 _ bar1 kept.bar1 (each_byte _ (r 0x14) (r 0x15) (r 0x16) (r 0x17)) t;
        privileged = last s at w value inside 0x40 refl (mask_at s 0x43) p.privileged _ (mask_small s 0x43) privileged t;
        message = last s at w value inside 0x60 refl (mask_at s 0x63) p.message _ (mask_small s 0x63) message t;
        interrupt = kept.interrupt t;
        state = kept.state t;
      }
