-- Configuration space: a read of any width is made of the reads of its bytes, a write of any width changes exactly the bits of the
-- mask in exactly its bytes, and the masks are the rules' table. Each law is shown once over the width.
use Prim.Native.Nat.{ℕ, zero, suc, ◌+◌, ◌-◌, ◌*◌, ◌/◌, ◌%◌, ◌^◌, ◌<◌, ◌≤◌}
use mathlib.Core.Bool.{Bool, true, false, cond, ◌&&◌, ◌||◌}
use mathlib.Core.List.{List, [], ◌∷◌, ◌++◌}
use mathlib.Core.Path.{◌≡◌, refl, sym, ap, ap₂, subst, fun_ext, ◌∙◌}
use native.Mathlib.Nat.{add-zero}
use native.Mathlib.Omega.{arith}
use borrow.Author.Tests.{eqb-true, eqb-false, leb-true, ltb-true, eq-eqb, ne_eqb, le-leb, lt-ltb}
use lib.Dec.{eqb, leb, ltb}
use lib.ListN.{replicate}
use lib.Pow.{pow-add, shr-shr, mod-pow-add}
use Rattle.common.specs.Bytes.{byte, number, set_byte, merge}
use Rattle.common.specs.Lists.{tabulate}
use Rattle.common.proofs.ByteLaws.{byte_suc, byte_zero, byte_set_byte_same, byte_set_byte_other, merge_small, merge_zero, number_tabulate}
use Rattle.common.proofs.TestLaws.{and_left, and_right, by_equal}
use Rattle.device.specs.declared.Peer.{Peer}
use Rattle.device.specs.declared.Settings.{Settings}
use Rattle.device.specs.Configuration.{Field, field_byte, fields, within, configuration_byte, configuration_read, masks}
use Rattle.device.specs.Configuration.{mask_in, mask_at, mask_of, with_byte, written_byte, configuration_written}

infixr 5 ◌and◌
-- Reads.

cond_small : (t : Bool) (x y : ℕ) → x < 256 → y < 256 → cond t x y < 256
cond_small true x y hx hy = hx
cond_small false x y hx hy = hy

field_small : (at : ℕ) (fs : List Field) → field_byte at fs < 256
unfolding field_byte
field_small at [] = omega arith
field_small at (f ∷ fs) =
    cond_small (within f.start f.size at) (byte (at - f.start) f.content) (field_byte at fs) (omega arith) (field_small at fs)

pub byte_small : (s : Settings) (p : Peer) (at : ℕ) → configuration_byte s p at < 256
unfolding configuration_byte
byte_small s p at = field_small at (fields s p)

pub read_small : (s : Settings) (p : Peer) (at w : ℕ) → configuration_read s p at w < 2 ^ (8 * w)
unfolding configuration_read
read_small s p at zero = omega arith
read_small s p at (suc w) =
    let e : 8 * suc w ≡ 8 + 8 * w = omega arith in
    rw (e, pow-add 2 8 (8 * w)) (omega (arith, byte_small s p at, read_small s p (suc at) w))

read_one : (s : Settings) (p : Peer) (at : ℕ) → configuration_read s p at 1 ≡ configuration_byte s p at
unfolding configuration_read
read_one s p at = add-zero (configuration_byte s p at)

pub read_by_bytes : (s : Settings) (p : Peer) (at w : ℕ) → configuration_read s p at w ≡ number (tabulate w (λ j. configuration_read s p (at + j) 1))
unfolding configuration_read number tabulate
read_by_bytes s p at zero = refl
read_by_bytes s p at (suc w) =
    let here : configuration_byte s p at ≡ configuration_read s p (at + 0) 1 =
    sym (read_one s p (at + 0) ∙ ap (λ (i : ℕ). configuration_byte s p i) (add-zero at)) in
    let later : (j : ℕ) → configuration_read s p (suc at + j) 1 ≡ configuration_read s p (at + suc j) 1 =
    λ j. ap (λ (i : ℕ). configuration_read s p i 1) (omega arith) in
    let rest : configuration_read s p (suc at) w ≡ number (tabulate w (λ j. configuration_read s p (at + suc j) 1)) =
    read_by_bytes s p (suc at) w ∙ ap (λ (f : ℕ → ℕ). number (tabulate w f)) (fun_ext later) in
    ap₂ (λ (b r : ℕ). b + 256 * r) here rest ∙ sym (number_tabulate w (λ j. configuration_read s p (at + j) 1))

-- a read of some of the bytes that another reads: the other shifted down to them and cut to their width
read_front : (s : Settings) (p : Peer) (at w n : ℕ) → w ≤ n → configuration_read s p at w ≡ configuration_read s p at n % 2 ^ (8 * w)
unfolding configuration_read
read_front s p at zero n h = omega arith
read_front s p at (suc w) zero h = absurd (omega arith)
read_front s p at (suc w) (suc n) h =
    let e : 8 * suc w ≡ 8 * w + 8 = omega arith in
    let all = configuration_byte s p at + 256 * configuration_read s p (suc at) n in
    let rest : all / 2 ^ 8 ≡ configuration_read s p (suc at) n = omega (arith, byte_small s p at) in
    rw (e, mod-pow-add all (8 * w) 8, rest) (omega (arith, byte_small s p at, read_front s p (suc at) w n (omega arith)))

pub read_within : (s : Settings) (p : Peer) (at k w n : ℕ) → k + w ≤ n
    → configuration_read s p (at + k) w ≡ configuration_read s p at n / 2 ^ (8 * k) % 2 ^ (8 * w)
unfolding configuration_read
read_within s p at zero w n h =
    let whole : configuration_read s p at n / 2 ^ (8 * 0) ≡ configuration_read s p at n = omega arith in
    rw (add-zero at, whole) (read_front s p at w n (omega arith))
read_within s p at (suc k) w zero h = absurd (omega arith)
read_within s p at (suc k) w (suc n) h =
    let e : 8 * suc k ≡ 8 + 8 * k = omega arith in
    let next : at + suc k ≡ suc at + k = omega arith in
    let all = configuration_byte s p at + 256 * configuration_read s p (suc at) n in
    let rest : all / 2 ^ 8 ≡ configuration_read s p (suc at) n = omega (arith, byte_small s p at) in
    rw (next, e, ← shr-shr all 8 (8 * k), rest) (read_within s p (suc at) k w n (omega arith))

-- Tests of offsets.

split : {P : Type 0} (a b : ℕ) → (a ≡ b → P) → (eqb a b ≡ false → P) → P
split {P} a b yes' no' = go (eqb a b) refl
  where
    go : (t : Bool) → eqb a b ≡ t → P
    go true e = yes' (eqb-true a b e)
    go false e = no' e

pub in_range_lem : (start size o : ℕ) → within start size o ≡ true → (start ≤ o) × (o < start + size)
in_range_lem start size o e =
    (leb-true start o (and_left (leb start o) (ltb o (start + size)) e), ltb-true o (start + size) (and_right (leb start o) (ltb o (start + size)) e))

pub within_true : (start size o : ℕ) → start ≤ o → o < start + size → within start size o ≡ true
within_true start size o l h = ap₂ (λ (a b : Bool). a && b) (le-leb start o l) (lt-ltb o (start + size) h)

pub out_of_range : (start size o : ℕ) → within start size o ≡ false → start ≤ o → o < start + size → ⊥
out_of_range start size o e l h =
    let yes' : within start size o ≡ true = within_true start size o l h in
    let z : ◌≡◌ {A = ℕ} 0 1 = cc in
    omega arith

pub within_false : (start size o : ℕ) → (start ≤ o → o < start + size → ⊥) → within start size o ≡ false
within_false start size o h = go (within start size o) refl
  where
    go : (t : Bool) → within start size o ≡ t → within start size o ≡ false
    go true e = absurd (h (in_range_lem start size o e).0 (in_range_lem start size o e).1)
    go false e = e

-- an aligned access of a width that configuration space allows lies in one word
pub in_one_word : (at w : ℕ) → (eqb w 1 || eqb w 2 || eqb w 4) ≡ true → at % w ≡ 0 → at % 4 + w ≤ 4
in_one_word at w e a =
    by_equal w 1 (λ (f : w ≡ 1). omega arith)
    (λ n1.
    by_equal w 2 (λ (f : w ≡ 2). let b : at % 2 ≡ 0 = rw f at a in omega arith)
    (λ n2.
    let f : w ≡ 4 = eqb-true w 4 (rw (ne_eqb w 1 n1, ne_eqb w 2 n2) at e) in
    let b : at % 4 ≡ 0 = rw f at a in
    omega arith))

-- A statement about every offset, from the offsets of a list one by one and all others together.
abbrev Each : (ℕ → Type 0) → List ℕ → Type 0
Each P [] = Unit {0}
Each P (k ∷ ks) = P k × Each P ks

-- proofs for the offsets of a list, one to a line
◌and◌ : {A B : Type 0} → A → B → A × B
a and b = (a, b)

abbrev NoneOf : ℕ → List ℕ → Type 0
NoneOf o [] = Unit {0}
NoneOf o (k ∷ ks) = (eqb o k ≡ false) × NoneOf o ks

by_offset : (P : ℕ → Type 0) (ks : List ℕ) → Each P ks → (o : ℕ) → (NoneOf o ks → P o) → P o
by_offset P [] h o f = f tt
by_offset P (k ∷ ks) h o f = split o k (λ e. subst P (sym e) h.0) (λ n. by_offset P ks h.1 o (λ ns. f (n, ns)))

-- Writes.

-- the offsets whose bytes are kept in a peer's registers: Command, BAR 0, BAR 1, Privileged Control, Message Control's high byte
abbrev kept : List ℕ
kept = 0x04 ∷ 0x05 ∷ 0x10 ∷ 0x11 ∷ 0x12 ∷ 0x13 ∷ 0x14 ∷ 0x15 ∷ 0x16 ∷ 0x17 ∷ 0x43 ∷ 0x63 ∷ []

-- every other byte is never written, and is the same whatever the registers hold
mask_other : (s : Settings) (o : ℕ) → NoneOf o kept → mask_at s o ≡ 0
unfolding mask_at masks mask_in
mask_other s o (n04, (n05, (n10, (n11, (n12, (n13, (n14, (n15, (n16, (n17, (n43, (n63, _)))))))))))) = rw (n04, n05, n11, n15, n12, n13, n16, n17, n43, n63)

outside_word : (k o : ℕ) → eqb o k ≡ false → eqb o (k + 1) ≡ false → eqb o (k + 2) ≡ false → eqb o (k + 3) ≡ false → within k 4 o ≡ false
outside_word k o n0 n1 n2 n3 = within_false k 4 o (λ l h. omega (arith, eqb-false))

byte_other : (s : Settings) (p q : Peer) (o : ℕ) → NoneOf o kept → configuration_byte s p o ≡ configuration_byte s q o
unfolding configuration_byte field_byte fields
byte_other s p q o (n04, (n05, (n10, (n11, (n12, (n13, (n14, (n15, (n16, (n17, (n43, (n63, _)))))))))))) =
    let command : within 0x04 2 o ≡ false = within_false 0x04 2 o (λ l h. omega (arith, eqb-false o 0x04 n04, eqb-false o 0x05 n05)) in
    let bar0 : within 0x10 4 o ≡ false = outside_word 0x10 o n10 n11 n12 n13 in
    let bar1 : within 0x14 4 o ≡ false = outside_word 0x14 o n14 n15 n16 n17 in
    let privileged : within 0x43 1 o ≡ false = within_false 0x43 1 o (λ l h. omega (arith, eqb-false o 0x43 n43)) in
    let message : within 0x63 1 o ≡ false = within_false 0x63 1 o (λ l h. omega (arith, eqb-false o 0x63 n63)) in
    rw (command, bar0, bar1, privileged, message)

pub mask_small : (s : Settings) (o : ℕ) → mask_at s o < 256
unfolding mask_at masks mask_in
mask_small s o = by_offset (λ k. mask_at s k < 256) kept (omega arith) o (λ n. rw (mask_other s o n) (omega arith))

-- the bytes of a mask of several bytes
pub byte_mask : (s : Settings) (at n j : ℕ) → j < n → byte j (mask_of s at n) ≡ mask_at s (at + j)
unfolding mask_of
byte_mask s at zero j h = absurd (omega arith)
byte_mask s at (suc n) zero h = rw (add-zero at) (byte_zero (mask_at s at + 256 * mask_of s (suc at) n) ∙ omega (arith, mask_small s at))
byte_mask s at (suc n) (suc j) h =
    let next : at + suc j ≡ suc at + j = omega arith in
    let rest : (mask_at s at + 256 * mask_of s (suc at) n) / 256 ≡ mask_of s (suc at) n = omega (arith, mask_small s at) in
    rw (next, byte_suc j (mask_at s at + 256 * mask_of s (suc at) n), rest) (byte_mask s (suc at) n j (omega arith))

-- a byte of a register of several bytes, and of one of a single byte, after the byte at an offset was replaced
word_byte : (start size j at b x : ℕ) → j < size → size ≤ 4 → b < 256
    → byte j (cond (within start size at) (set_byte (at - start) b x) x) ≡ cond (eqb (start + j) at) b (byte j x)
word_byte start size j at b x hj hs hb = split (start + j) at same other
  where
    same : start + j ≡ at → byte j (cond (within start size at) (set_byte (at - start) b x) x) ≡ cond (eqb (start + j) at) b (byte j x)
    same e =
        let i : at - start ≡ j = omega arith in
        rw (within_true start size at (omega arith) (omega arith), eq-eqb (start + j) at e, i) (byte_set_byte_same j b x (omega arith) hb)

    other : eqb (start + j) at ≡ false → byte j (cond (within start size at) (set_byte (at - start) b x) x) ≡ cond (eqb (start + j) at) b (byte j x)
    other n = rw n (go (within start size at) refl)
      where
        go : (t : Bool) → within start size at ≡ t → byte j (cond t (set_byte (at - start) b x) x) ≡ byte j x
        go true e = byte_set_byte_other (at - start) j b x (λ i. eqb-false (start + j) at n (omega (arith, in_range_lem start size at e))) (omega arith) hb
        go false e = refl

single_byte : (k at b x : ℕ) → b < 256 → byte 0 (cond (eqb at k) b x) ≡ cond (eqb k at) b (byte 0 x)
single_byte k at b x h =
    split at k
    (λ e. rw (eq-eqb at k e, eq-eqb k at (sym e)) (omega arith))
    (λ n. rw (n, ne_eqb k at (λ e. eqb-false at k n (sym e))))

-- what the byte at an offset is after a write of one byte
abbrev Reads : Settings → Peer → ℕ → ℕ → ℕ → Type 0
Reads s p at b o =
    configuration_byte s (written_byte s p at b) o
    ≡ cond (eqb o at) (merge (mask_at s o) (configuration_byte s p o) b) (configuration_byte s p o)

kept_reads : (s : Settings) (p : Peer) (at b k : ℕ)
    → ((c : ℕ) → c < 256 → configuration_byte s (with_byte p at c) k ≡ cond (eqb k at) c (configuration_byte s p k)) → Reads s p at b k
unfolding written_byte
kept_reads s p at b k h = h (merge (mask_at s at) (configuration_byte s p at) b)
    (merge_small (mask_at s at) (configuration_byte s p at) b (mask_small s at)) ∙ go (eqb k at) refl
  where
    go : (t : Bool) → eqb k at ≡ t
        → cond t (merge (mask_at s at) (configuration_byte s p at) b) (configuration_byte s p k)
        ≡ cond t (merge (mask_at s k) (configuration_byte s p k) b) (configuration_byte s p k)
    go true e = ap (λ (i : ℕ). merge (mask_at s i) (configuration_byte s p i) b) (sym (eqb-true k at e))
    go false e = refl

other_reads : (s : Settings) (p : Peer) (at b o : ℕ) → NoneOf o kept → Reads s p at b o
other_reads s p at b o n = byte_other s (written_byte s p at b) p o n ∙ rw (mask_other s o n) (go (eqb o at))
  where
    go : (t : Bool) → configuration_byte s p o ≡ cond t (merge 0 (configuration_byte s p o) b) (configuration_byte s p o)
    go true = sym (merge_zero (configuration_byte s p o) b (byte_small s p o))
    go false = refl

pub written_byte_reads : (s : Settings) (p : Peer) (at b o : ℕ) → b < 256
    → configuration_byte s (written_byte s p at b) o ≡ cond (eqb o at) (merge (mask_at s o) (configuration_byte s p o) b) (configuration_byte s p o)
unfolding configuration_byte field_byte fields with_byte
written_byte_reads s p at b o h = by_offset (λ k. Reads s p at b k) kept each o (λ n. other_reads s p at b o n)
  where
    each : Each (λ k. Reads s p at b k) kept
    each =
        kept_reads s p at b 0x04 (λ c hc. word_byte 0x04 2 0 at c p.command (omega arith) (omega arith) hc)
        and kept_reads s p at b 0x05 (λ c hc. word_byte 0x04 2 1 at c p.command (omega arith) (omega arith) hc)
        and kept_reads s p at b 0x10 (λ c hc. word_byte 0x10 4 0 at c p.bar0 (omega arith) (omega arith) hc)
        and kept_reads s p at b 0x11 (λ c hc. word_byte 0x10 4 1 at c p.bar0 (omega arith) (omega arith) hc)
        and kept_reads s p at b 0x12 (λ c hc. word_byte 0x10 4 2 at c p.bar0 (omega arith) (omega arith) hc)
        and kept_reads s p at b 0x13 (λ c hc. word_byte 0x10 4 3 at c p.bar0 (omega arith) (omega arith) hc)
        and kept_reads s p at b 0x14 (λ c hc. word_byte 0x14 4 0 at c p.bar1 (omega arith) (omega arith) hc)
        and kept_reads s p at b 0x15 (λ c hc. word_byte 0x14 4 1 at c p.bar1 (omega arith) (omega arith) hc)
        and kept_reads s p at b 0x16 (λ c hc. word_byte 0x14 4 2 at c p.bar1 (omega arith) (omega arith) hc)
        and kept_reads s p at b 0x17 (λ c hc. word_byte 0x14 4 3 at c p.bar1 (omega arith) (omega arith) hc)
        and kept_reads s p at b 0x43 (λ c hc. single_byte 0x43 at c p.privileged hc)
        and kept_reads s p at b 0x63 (λ c hc. single_byte 0x63 at c p.message hc)
        and tt

-- a write of one byte, then of the rest, is the write of all
one_more : (m x value at w o : ℕ)
    → cond (within (suc at) w o)
    (merge m (cond (eqb o at) (merge m x (value % 256)) x) (byte (o - suc at) (value / 256)))
    (cond (eqb o at) (merge m x (value % 256)) x)
    ≡ cond (within at (suc w) o) (merge m x (byte (o - at) value)) x
one_more m x value at w o =
    split o at
    (λ e.
    let first : o - at ≡ 0 = omega arith in
    rw (within_false (suc at) w o (λ l h. omega arith), eq-eqb o at e, within_true at (suc w) o (omega arith) (omega arith), first, byte_zero value))
    (λ n. rw n (go n (within (suc at) w o) refl))
  where
    go : eqb o at ≡ false → (t : Bool) → within (suc at) w o ≡ t
        → cond t (merge m x (byte (o - suc at) (value / 256))) x ≡ cond (within at (suc w) o) (merge m x (byte (o - at) value)) x
    go n true e =
        let later : o - at ≡ suc (o - suc at) = omega (arith, in_range_lem (suc at) w o e) in
        rw (within_true at (suc w) o (omega (arith, in_range_lem (suc at) w o e)) (omega (arith, in_range_lem (suc at) w o e)), later, byte_suc (o - suc at) value)
    go n false e = rw (within_false at (suc w) o (λ l h. out_of_range (suc at) w o e (omega (arith, eqb-false o at n)) (omega arith)))

-- what a write of one byte keeps, a write of any width keeps
pub written_keeps : (s : Settings) (P : Peer → Type 0) → ((p : Peer) (at b : ℕ) → b < 256 → P p → P (written_byte s p at b))
    → (p : Peer) (at w value : ℕ) → P p → P (configuration_written s p at w value)
unfolding configuration_written
written_keeps s P one p at zero value h = h
written_keeps s P one p at (suc w) value h =
    written_keeps s P one (written_byte s p at (value % 256)) (suc at) w (value / 256) (one p at (value % 256) (omega arith) h)

-- a write of one byte more is the write without it, then that byte
pub written_last : (s : Settings) (p : Peer) (at w value : ℕ)
    → configuration_written s p at (suc w) value ≡ configuration_written s (configuration_written s p at w value) (at + w) 1 (byte w value)
unfolding configuration_written
written_last s p at zero value =
    let low : byte 0 value % 256 ≡ value % 256 = omega arith in
    rw (add-zero at, low)
written_last s p at (suc w) value =
    let next : at + suc w ≡ suc at + w = omega arith in
    rw (next, byte_suc w value) (written_last s (written_byte s p at (value % 256)) (suc at) w (value / 256))

-- what a write leaves of a number f, where a write of one byte merges it under m if it is at o and else leaves it
module _ (s : Settings) (f : Peer → ℕ) (o m : ℕ)
    (one : (p : Peer) (at b : ℕ) → b < 256 → f (written_byte s p at b) ≡ cond (eqb o at) (merge m (f p) b) (f p)) where
  pub written_part : (p : Peer) (at w value : ℕ)
      → f (configuration_written s p at w value) ≡ cond (within at w o) (merge m (f p) (byte (o - at) value)) (f p)
  unfolding configuration_written
  written_part p at zero value = rw (within_false at 0 o (λ l h. omega arith))
  written_part p at (suc w) value =
      written_part (written_byte s p at (value % 256)) (suc at) w (value / 256)
      ∙ rw (one p at (value % 256) (omega arith)) (one_more m (f p) value at w o)

pub written_reads : (s : Settings) (p : Peer) (at w value o : ℕ)
    → configuration_byte s (configuration_written s p at w value) o
    ≡ cond (within at w o) (merge (mask_at s o) (configuration_byte s p o) (byte (o - at) value)) (configuration_byte s p o)
written_reads s p at w value o =
    written_part s (λ q. configuration_byte s q o) o (mask_at s o) (λ q k b h. written_byte_reads s q k b o h) p at w value

-- The masks of all 256 offsets.
pub mask_table : (s : Settings)
    → tabulate 256 (λ o. mask_at s o)
    ≡ replicate 0x04 0x00
    ++ (0x06 ∷ 0x04 ∷ [])
    ++ replicate (0x11 - 0x06) 0x00
    ++ (0xF0 ∷ 0xFF ∷ 0xFF ∷ 0x00 ∷ 0xF0 ∷ 0xFF ∷ 0xFF ∷ [])
    ++ replicate (0x43 - 0x18) 0x00
    ++ (0x01 ∷ [])
    ++ replicate (0x63 - 0x44) 0x00
    ++ (0xC0 ∷ [])
    ++ replicate (0x100 - 0x64) 0x00
unfolding tabulate mask_at masks mask_in
mask_table s = refl
