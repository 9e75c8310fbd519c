-- A write to configuration space leaves every fixed bit of a peer's registers at 0: each byte is merged under its mask. Shown once
-- over the byte and once over the width.
use Prim.Native.Nat.{ℕ, zero, suc, ◌+◌, ◌-◌, ◌/◌, ◌%◌, ◌<◌, ◌≤◌}
use mathlib.Core.Bool.{Bool, true, false, cond}
use mathlib.Core.Path.{◌≡◌, refl}
use native.Mathlib.Nat.{add-zero}
use native.Mathlib.Omega.{arith}
use borrow.Author.Tests.{eqb-true}
use lib.Dec.{eqb}
use lib.ListN.{set}
use Rattle.common.specs.Bytes.{byte, bytes, number, set_byte, only, merge}
use Rattle.common.specs.Tests.{every}
use Rattle.common.proofs.ByteLaws.{byte_suc, byte_zero, merge_small}
use Rattle.common.proofs.MaskLaws.{only_merge, only_split, only_join}
use Rattle.common.proofs.TestLaws.{every_true, by_equal}
use Rattle.device.specs.declared.Peer.{Peer}
use Rattle.device.specs.declared.Settings.{Settings}
use Rattle.device.specs.Configuration.{within, fields, field_byte, configuration_byte, masks, mask_in, mask_at}
use Rattle.device.specs.Configuration.{mask_of, with_byte, written_byte, configuration_written}
use Rattle.device.specs.Sound.{peer_fixed}
use Rattle.device.proofs.ConfigurationLaws.{in_range_lem, mask_small, written_keeps}

-- no bit of a register is set but those that a write can set
pub record Fixed (s : Settings) (p : Peer) : Type 0 where
  pub command : only (mask_of s 0x04 2) p.command ≡ true
  pub bar0 : only (mask_of s 0x10 4) p.bar0 ≡ true
  pub bar1 : only (mask_of s 0x14 4) p.bar1 ≡ true
  pub privileged : only (mask_of s 0x43 1) p.privileged ≡ true
  pub message : only (mask_of s 0x63 1) p.message ≡ true
  pub interrupt : only 1 p.interrupt ≡ true

pub fixed_facts : (s : Settings) (p : Peer) → peer_fixed s p ≡ true → Fixed s p
unfolding peer_fixed
fixed_facts s p e =
    record {
      command = every_true _ e 0;
      bar0 = every_true _ e 1;
      bar1 = every_true _ e 2;
      privileged = every_true _ e 3;
      message = every_true _ e 4;
      interrupt = every_true _ e 5;
    }

pub facts_fixed : (s : Settings) (p : Peer) → Fixed s p → peer_fixed s p ≡ true
unfolding peer_fixed every
facts_fixed s p f = rw (f.command, f.bar0, f.bar1, f.privileged, f.message, f.interrupt)

-- A register of several bytes, under the masks of its bytes.

-- one byte of it keeps to its own mask
byte_only : (s : Settings) (at n x k : ℕ) → k < n → only (mask_of s at n) x ≡ true → only (mask_at s (at + k)) (byte k x) ≡ true
unfolding mask_of
byte_only s at zero x k h e = absurd (omega arith)
byte_only s at (suc n) x zero h e = rw (add-zero at, byte_zero x) (only_split (mask_at s at) (mask_of s (suc at) n) x (mask_small s at) e).0
byte_only s at (suc n) x (suc k) h e =
    let next : at + suc k ≡ suc at + k = omega arith in
    rw (next, byte_suc k x) (byte_only s (suc at) n (x / 256) k (omega arith) (only_split (mask_at s at) (mask_of s (suc at) n) x (mask_small s at) e).1)

-- its lowest bytes alone keep to the mask
bytes_only : (s : Settings) (at n x : ℕ) → only (mask_of s at n) x ≡ true → only (mask_of s at n) (number (bytes n x)) ≡ true
unfolding mask_of number bytes
bytes_only s at zero x e = refl
bytes_only s at (suc n) x e =
    let both = only_split (mask_at s at) (mask_of s (suc at) n) x (mask_small s at) e in
    only_join (mask_at s at) (mask_of s (suc at) n) (x % 256) (number (bytes n (x / 256))) (mask_small s at) (omega arith)
    both.0 (bytes_only s (suc at) n (x / 256) both.1)

-- it still does with one byte replaced by one that keeps to its mask
set_only : (s : Settings) (at n x k b : ℕ) → b < 256 → only (mask_of s at n) x ≡ true → only (mask_at s (at + k)) b ≡ true
    → only (mask_of s at n) (number (set (bytes n x) k b)) ≡ true
unfolding mask_of number bytes
set_only s at zero x k b h e f = refl
set_only s at (suc n) x zero b h e f =
    let both = only_split (mask_at s at) (mask_of s (suc at) n) x (mask_small s at) e in
    only_join (mask_at s at) (mask_of s (suc at) n) b (number (bytes n (x / 256))) (mask_small s at) h (rw add-zero at f)
    (bytes_only s (suc at) n (x / 256) both.1)
set_only s at (suc n) x (suc k) b h e f =
    let next : at + suc k ≡ suc at + k = omega arith in
    let both = only_split (mask_at s at) (mask_of s (suc at) n) x (mask_small s at) e in
    only_join (mask_at s at) (mask_of s (suc at) n) (x % 256) (number (set (bytes n (x / 256)) k b)) (mask_small s at) (omega arith) both.0
    (set_only s (suc at) n (x / 256) k b h both.1 (rw next at f))

-- a statement about each of `size` offsets from `start`
abbrev From : (ℕ → Type 0) → ℕ → ℕ → Type 0
From P start zero = Unit {0}
From P start (suc size) = P start × From P (suc start) size

each_of : (P : ℕ → Type 0) (start size : ℕ) → From P start size → (at : ℕ) → start ≤ at → at < start + size → P at
each_of P start zero h at l u = absurd (omega arith)
each_of P start (suc size) h at l u =
    by_equal at start (λ (e : at ≡ start). rw e h.0) (λ d. each_of P (suc start) size h.1 at (omega arith) (omega arith))

-- `size` offsets from `start` read the bytes of x
abbrev Holds : Settings → Peer → ℕ → ℕ → ℕ → Type 0
Holds s p start size x = From (λ o. configuration_byte s p o ≡ byte (o - start) x) start size

-- the byte that a write of one byte puts at an offset keeps to the mask, if the register held there does
new_only : (s : Settings) (p : Peer) (start size at new x : ℕ) → Holds s p start size x → only (mask_of s start size) x ≡ true
    → start ≤ at → at < start + size → only (mask_at s at) (merge (mask_at s at) (configuration_byte s p at) new) ≡ true
new_only s p start size at new x r e l u =
    let place : start + (at - start) ≡ at = omega arith in
    let old : only (mask_at s at) (byte (at - start) x) ≡ true = rw place at (byte_only s start size x (at - start) (omega arith) e) in
    only_merge (mask_at s at) (configuration_byte s p at) new (mask_small s at)
    (rw (each_of (λ o. configuration_byte s p o ≡ byte (o - start) x) start size r at l u) old)

-- a register of several bytes, and one of a single byte, as a write of one byte leaves them
word_only : (s : Settings) (p : Peer) (start size at new x : ℕ) → size ≤ 4 → mask_of s start 4 ≡ mask_of s start size
    → Holds s p start size x → only (mask_of s start size) x ≡ true
    → only (mask_of s start size) (cond (within start size at) (set_byte (at - start) (merge (mask_at s at) (configuration_byte s p at) new) x) x) ≡ true
unfolding set_byte
word_only s p start size at new x h m r e = go (within start size at) refl
  where
    go : (t : Bool) → within start size at ≡ t
        → only (mask_of s start size) (cond t (set_byte (at - start) (merge (mask_at s at) (configuration_byte s p at) new) x) x) ≡ true
    go false w = e
    go true w =
        let inside = in_range_lem start size at w in
        let place : start + (at - start) ≡ at = omega arith in
        let b : only (mask_at s (start + (at - start))) (merge (mask_at s at) (configuration_byte s p at) new) ≡ true =
        rw place (new_only s p start size at new x r e inside.0 inside.1) in
        let old = configuration_byte s p at in
        rw (← m) (set_only s start 4 x (at - start) (merge (mask_at s at) old new) (merge_small (mask_at s at) old new (mask_small s at)) (rw m e) b)

single_only : (s : Settings) (p : Peer) (k at new x : ℕ) → Holds s p k 1 x → only (mask_of s k 1) x ≡ true
    → only (mask_of s k 1) (cond (eqb at k) (merge (mask_at s at) (configuration_byte s p at) new) x) ≡ true
unfolding mask_of
single_only s p k at new x r e = go (eqb at k) refl
  where
    go : (t : Bool) → eqb at k ≡ t → only (mask_of s k 1) (cond t (merge (mask_at s at) (configuration_byte s p at) new) x) ≡ true
    go false h = e
    go true h =
        let same : at ≡ k = eqb-true at k h in
        let one : mask_of s k 1 ≡ mask_at s at = rw same (add-zero (mask_at s k)) in
        rw one (new_only s p k 1 at new x r e (omega arith) (omega arith))

-- what is held where, and that Command has no mask beyond its two bytes
holds : (s : Settings) (p : Peer)
    → Holds s p 0x04 2 p.command × Holds s p 0x10 4 p.bar0 × Holds s p 0x14 4 p.bar1 × Holds s p 0x43 1 p.privileged × Holds s p 0x63 1 p.message
unfolding configuration_byte field_byte fields
holds s p = ((refl, (refl, tt)), (refl, (refl, (refl, (refl, tt)))), (refl, (refl, (refl, (refl, tt)))), (refl, tt), (refl, tt))

command_mask : (s : Settings) → mask_of s 0x04 4 ≡ mask_of s 0x04 2
unfolding mask_of mask_at masks mask_in
command_mask s = refl

byte_fixed : (s : Settings) (p : Peer) (at new : ℕ) → Fixed s p → Fixed s (written_byte s p at new)
unfolding written_byte with_byte
byte_fixed s p at new f =
    let h = holds s p in
    record {
      command = word_only s p 0x04 2 at new p.command (omega arith) (command_mask s) h.0 f.command;
      bar0 = word_only s p 0x10 4 at new p.bar0 (omega arith) refl h.1 f.bar0;
      bar1 = word_only s p 0x14 4 at new p.bar1 (omega arith) refl h.2 f.bar1;
      privileged = single_only s p 0x43 at new p.privileged h.3 f.privileged;
      message = single_only s p 0x63 at new p.message h.4 f.message;
      interrupt = f.interrupt;
    }

-- a write of any width: the registers stay fixed, and the connection is no part of them
pub written_fixed : (s : Settings) (p : Peer) (at w x : ℕ) → Fixed s p → Fixed s (configuration_written s p at w x)
written_fixed s p at w x f = written_keeps s (Fixed s) (λ q k b h g. byte_fixed s q k b g) p at w x f

pub written_connected : (s : Settings) (p : Peer) (at w x : ℕ) → (configuration_written s p at w x).connected ≡ p.connected
unfolding written_byte with_byte
written_connected s p at w x = written_keeps s (λ q. q.connected ≡ p.connected) (λ q k b h e. e) p at w x refl
