-- `playback::answers::value` meets its contract: the value stands behind the first byte.
use Prim.Native.Nat.{suc}
use mathlib.Core.List.{[], ◌∷◌}
use mathlib.Core.Path.{refl, sym, ap}
use native.Mathlib.Omega.{arith}
use Rattle.common.proofs.ByteLaws.{length_bytes}
use Rattle.common.specs.Bytes.{bytes}
use Rattle.playback.proofs.FieldLaws.{four_bytes}
use Rattle.playback.proofs.OverLaws.{over_then}
use Rattle.playback.proofs.answers.value.Goals as goal

pub returns : goal.returns
returns c =
    let a = c.args in
    let rest = rw (c.to_le_bytes.ensures, four_bytes a.x) at c.put-2.ensures in
    record {
      bytes = over_then 1 (0x82 ∷ []) a.out.now refl (omega arith) _ (bytes 4 a.x) _ c.put.ensures rest;
      count = ap suc (sym (length_bytes 4 a.x));
      fits = c.requires;
    }
