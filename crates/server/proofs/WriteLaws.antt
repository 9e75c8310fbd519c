-- Bytes written one after the other.
use Prim.Native.Nat.{ℕ, ◌+◌, ◌≤◌}
use mathlib.Core.List.{List, [], ◌++◌}
use mathlib.Core.Path.{refl, ◌∙◌}
use native.Mathlib.Omega.{arith}
use lib.ListN.{length, length-append}
use lib.Seq.{length-sets}
use Rattle.server.proofs.SetsLaws.{sets_behind}
use Rattle.server.specs.declared.messages.Writer.{Writer}
use Rattle.server.specs.Parts.{HasRoom, Writes}

pub writes_none : (w : Writer) → Writes w w []
writes_none w = record { out = refl; messages = omega arith; same = refl }

-- two parts, one behind the other
module _ {a b c : Writer} {xs ys : List ℕ} where
  pub writes_then : Writes a b xs → Writes b c ys → Writes a c (xs ++ ys)
  writes_then v w =
      record {
        out = w.out ∙ rw v.out (sets_behind xs ys _ _ _ v.messages);
        messages = rw (length-append xs ys) (omega (arith, v.messages, w.messages));
        same = w.same ∙ v.same;
      }

-- room for the first
pub room_first : (a : Writer) (xs ys : List ℕ) → HasRoom a (xs ++ ys) → HasRoom a xs
room_first a xs ys r = omega (arith, length-append xs ys)

-- behind what is written there is room for the rest
module _ {a b : Writer} {xs : List ℕ} where
  pub room_next : (all ys : List ℕ) → HasRoom a all → length xs + length ys ≤ length all → Writes a b xs → HasRoom b ys
  room_next all ys r l w = rw (w.out, length-sets) (omega (arith, w.messages))

  pub room_then : (ys : List ℕ) → HasRoom a (xs ++ ys) → Writes a b xs → HasRoom b ys
  room_then ys r w = room_next (xs ++ ys) ys r (omega (arith, length-append xs ys)) w
