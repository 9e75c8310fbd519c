-- `playback::answers::put_delivery` meets its contract: one part is written behind the other.
use mathlib.Core.List.{List, [], ◌∷◌, ◌++◌, append_assoc}
use mathlib.Core.Path.{◌≡◌, refl, ap, ◌∙◌}
use Prim.Native.Nat.{ℕ}
use native.Mathlib.Omega.{arith}
use lib.ListN.{length, length-append}
use Rattle.common.proofs.ByteLaws.{length_bytes}
use Rattle.common.specs.Bytes.{bytes}
use Rattle.common.specs.Lists.{over}
use Rattle.playback.proofs.FieldLaws.{two_bytes, four_bytes, eight_bytes}
use Rattle.playback.proofs.OverLaws.{over_then}
use Rattle.playback.specs.Answers.{delivered}
use Rattle.playback.proofs.answers.put_delivery.Goals as goal

pub returns : goal.returns
unfolding delivered
returns c =
    let a = c.args in
    let d = a.d in
    let to = bytes 2 d.target.0 in
    let by = bytes 2 d.vector.0 in
    let start = 0x83 ∷ to in
    let n3 : length start ≡ 3 = simp length_bytes in
    let n5 : length (start ++ by) ≡ 5 = simp (length-append, length_bytes) in
    let n13 : length ((start ++ by) ++ bytes 8 d.address) ≡ 13 = simp (length-append, length_bytes) in
    let p2 = rw (c.to_le_bytes.ensures, two_bytes d.target.0) at c.put-2.ensures in
    let p3 = rw (c.to_le_bytes-2.ensures, two_bytes d.vector.0) at c.put-3.ensures in
    let p4 = rw (c.to_le_bytes-3.ensures, eight_bytes d.address) at c.put-4.ensures in
    let p5 = rw (c.to_le_bytes-4.ensures, four_bytes d.payload) at c.put-5.ensures in
    let one = over_then 1 (0x83 ∷ []) a.out.now refl (omega arith) _ to _ c.put.ensures p2 in
    let two = over_then 3 start a.out.now n3 (omega arith) _ by _ one p3 in
    let three = over_then 5 (start ++ by) a.out.now n5 (omega arith) _ (bytes 8 d.address) _ two p4 in
    over_then 13 ((start ++ by) ++ bytes 8 d.address) a.out.now n13 (omega arith) _ (bytes 4 d.payload) _ three p5
    ∙ ap (λ (l : List ℕ). over (0x83 ∷ l) a.out.now) (append_assoc (to ++ by) (bytes 8 d.address) (bytes 4 d.payload))
