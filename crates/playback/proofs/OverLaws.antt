-- Bytes written over the front of a buffer: one store, and a part of the buffer that is lent on behind what is written.
use Prim.Native.Nat.{ℕ, ◌+◌, ◌-◌, ◌≤◌}
use mathlib.Core.List.{List, [], ◌∷◌, ◌++◌, append_assoc, append-nil}
use mathlib.Core.Path.{◌≡◌, refl, sym, ap, ◌∙◌}
use native.Mathlib.Omega.{arith}
use lib.ListN.{length, take, drop, set, length-append, length-drop, drop_of_length-le}
use lib.Seq.{sets-eq, take_at, drop_at, take-length, drop-drop}
use Rattle.std.proofs.lemmas.List.{drop-take, take-append-drop}
use borrow.Rule.Slice.PartMut.{put_mid}
use Rattle.common.specs.Lists.{over}

pub one_over : (l : List ℕ) (a : ℕ) → 1 ≤ length l → set l 0 a ≡ over (a ∷ []) l
unfolding over
one_over l a h = sets-eq (a ∷ []) l 0 (omega arith)

pub nothing_over : (l : List ℕ) → over [] l ≡ l
unfolding over
nothing_over l = refl

pub length_over : (new old : List ℕ) → length new ≤ length old → length (over new old) ≡ length old
unfolding over
length_over new old h = simp (length-append, length-drop) (omega arith)

module _ (k : ℕ) (a old : List ℕ) (e : length a ≡ k) (h : k ≤ length old) where
  -- what lies from k on is as it was
  behind : take (length (over a old) - k) (drop k (over a old)) ≡ drop k old
  unfolding over
  behind =
      let n : length (over a old) - k ≡ length (drop k old) = rw (length_over a old (omega arith), length-drop k old) in
      rw (n, drop_at a (drop (length a) old) k e, e) (take-length (drop k old))

  after : drop (length (over a old) - k) (drop k (over a old)) ≡ []
  after = drop_of_length-le _ {i = length (over a old) - k} (simp length-drop (omega arith))

  -- the part from k on was lent, and came back with b over its front
  pub over_then : (mid b rest : List ℕ) → mid ≡ over a old → rest ≡ over b (take (length mid - k) (drop k mid))
      → put_mid k (length mid - k) mid rest ≡ over (a ++ b) old
  unfolding over
  over_then mid b rest m r =
      let back : rest ≡ b ++ drop (length b) (drop k old) = r ∙ rw (m, behind) in
      let front : take k (a ++ drop (length a) old) ≡ a = take_at a (drop (length a) old) k e in
      let all : k + length b ≡ length (a ++ b) = rw length-append (omega arith) in
      rw (m, back, after, front, append-nil, drop-drop (length b) k old, all) (sym (append_assoc a b _))

-- written over the first n places alone
pub over_front : (b l : List ℕ) (n : ℕ) → length b ≤ n → over b (take n l) ++ drop n l ≡ over b l
unfolding over
over_front b l n h =
    let k = length b in
    let cut : n ≡ k + (n - k) = omega arith in
    let rest : drop k (take n l) ++ drop n l ≡ drop k l =
    rw (cut, drop-take k (n - k) l, ← drop-drop (n - k) k l) (take-append-drop (n - k) (drop k l)) in
    append_assoc b (drop k (take n l)) (drop n l) ∙ ap (λ (x : List ℕ). b ++ x) rest
