use Prim.Native.Nat.{ℕ, suc, ◌+◌}
use mathlib.Core.List.{[], append-nil}
use mathlib.Core.Path.{◌≡◌, sym, ap, ◌∙◌}
use native.Mathlib.Nat.{zero-add}
use native.Mathlib.Numerals.{add-one}
use native.Mathlib.Omega.{arith}
use lib.ListN.{length, drop, set, get_or, drop_of_length-le}
use lib.Seq.{paste, paste-zero, paste-suc, take-length}
use Rattle.memory.proofs.copy.Goals as goal

pub loop-k-init : goal.loop-k-init
loop-k-init c = paste-zero c.args.part.now 0 c.args.bytes.now

pub loop-k-preserved : goal.loop-k-preserved
loop-k-preserved c =
    let part = c.args.part.now in
    let bytes = c.args.bytes.now in
    let k = c.loop-k.k in
    let turn : set (paste part 0 bytes k) (0 + k) (get_or bytes k 0) ≡ paste part 0 bytes (suc k) =
    paste-suc part 0 bytes k 0 (omega arith) (omega arith) in
    rw (c.loop-k.invariant, add-one k) (ap (λ (n : ℕ). set (paste part 0 bytes k) n (get_or bytes k 0)) (sym (zero-add k)) ∙ turn)

pub returns : goal.returns
returns c =
    let part = c.args.part.now in
    let bytes = c.args.bytes.now in
    let none : drop (0 + length bytes) part ≡ [] = drop_of_length-le part {i = 0 + length bytes} (omega (arith, c.requires)) in
    let whole : paste part 0 bytes (length bytes) ≡ bytes = rw (none, take-length bytes) (append-nil bytes) in
    let end : c.loop-k.k ≡ length bytes = omega arith in
    c.loop-k.invariant ∙ ap (λ (n : ℕ). paste part 0 bytes n) end ∙ whole
