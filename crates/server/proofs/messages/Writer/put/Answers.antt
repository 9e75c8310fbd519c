-- `server::messages::Writer::put` meets its contract.
use Prim.Native.Nat.{ℕ, suc, ◌+◌, ◌-◌, ◌*◌}
use mathlib.Core.Path.{◌≡◌, refl, ap, ◌∙◌}
use native.Mathlib.Omega.{arith}
use lib.ListN.{length-set}
use Rattle.common.specs.Bytes.{bytes}
use Rattle.common.proofs.ByteLaws.{length_bytes}
use Rattle.common.proofs.StoredLaws.{part_back, eight_bytes}
use Rattle.server.proofs.MessageLaws.{written_ten}
use Rattle.server.specs.Messages.{unsigned, sent_bytes, bytes_of}
use Rattle.server.specs.Parts.{record_of_said}
use Rattle.server.proofs.messages.Writer.put.Goals as goal

pub bounds-self-at : goal.bounds-self-at
bounds-self-at c = omega (arith, written_ten c.args.message)

pub bounds-self-at-2 : goal.bounds-self-at-2
bounds-self-at-2 c = rw length-set (omega (arith, written_ten c.args.message))

pub slice_bounds-copy_from_slice-end : goal.slice_bounds-copy_from_slice-end
slice_bounds-copy_from_slice-end c = rw (length-set, length-set) (omega (arith, written_ten c.args.message))

pub returns : goal.returns
unfolding sent_bytes bytes_of
returns c =
    let m = c.args.message in
    let at = 10 * c.args.self.now.messages in
    let e1 : at + 1 ≡ suc at = omega arith in
    let e2 : at + 2 ≡ suc (suc at) = omega arith in
    let n : at + 10 - suc (suc at) ≡ 8 = omega arith in
    let stored : c.copy_from_slice.new.self ≡ bytes 8 (unsigned (record_of_said m.said).value) =
    c.copy_from_slice.ensures.after
    ∙ c.to_le_bytes.ensures
    ∙ eight_bytes c.number-number.result
    ∙ ap (λ (x : ℕ). bytes 8 x) c.number-number.ensures in
    record {
      out =
          rw (stored, c.kind.ensures, e1, e2, n)
          (part_back _ _ (suc (suc at)) 8 (length_bytes 8 _) (simp length-set (omega (arith, written_ten m))));
      messages = omega (arith, written_ten m);
      same = refl;
    }
