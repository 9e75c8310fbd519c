-- `words::entries::Entries::at` meets its contract: where the test fails, there is no such entry.
use Prim.Native.Nat.{ℕ, ◌<◌}
use mathlib.Core.Path.{◌≡◌}
use mathlib.Core.Bool.{true, false, ◌&&◌}
use native.Mathlib.Omega.{arith}
use borrow.Author.Tests.{lt-ltb}
use lib.Dec.{ltb}
use Rattle.words.proofs.LayoutLaws.{no_entry}
use Rattle.words.proofs.entries.Entries.at.Goals as goal

neither : (i n v m : ℕ) → (ltb i n && ltb v m) ≡ false → i < n → v < m → ⊥
neither i n v m t l k =
    let z : true ≡ false = rw (lt-ltb i n l, lt-ltb v m k) at t in
    let y : ◌≡◌ {A = ℕ} 0 1 = cc in
    omega arith

pub returns : goal.returns
returns c =
    let s = c.args.self.now in
    no_entry _ _ _ (λ l k. neither _ _ _ _ c.if-there.false (rw (← s.peers) at l) (rw (← s.vectors) at k))
