-- Laws of registers collected by or: the fixed bits of all are tested by those of the collected, and so are reset values. Reset values
-- have no fixed bit set.
use mathlib.Core.Bool.{Bool, true, ◌&&◌}
use mathlib.Core.List.{List, [], ◌∷◌, map}
use mathlib.Core.Path.{◌≡◌, refl, ap, ◌∙◌}
use lib.Dec.{eqb}
use borrow.Author.Tests.{eqb-true}
use Rattle.common.proofs.MaskLaws.{only_or, or_none}
use Rattle.common.proofs.TestLaws.{and_swap, every_true}
use Rattle.common.specs.Bytes.{only}
use Rattle.common.specs.Tests.{every, every_after}
use Rattle.device.specs.declared.Entry.{Entry}
use Rattle.device.specs.declared.Peer.{Peer}
use Rattle.device.specs.declared.Settings.{Settings}
use Rattle.device.specs.Configuration.{masks, mask_in, mask_at, mask_of}
use Rattle.device.specs.Reset.{reset_peer}
use Rattle.device.specs.Sound.{peer_fixed, peer_reset, entry_fixed, entry_reset}
use Rattle.soundness.specs.Together.{together}

-- a list of tests, each of two things, tests both
every_both : (a b : Bool) (ts : List (Bool × Bool))
    → every_after (a && b) (map (λ (t : Bool × Bool). t.0 && t.1) ts)
    ≡ (every_after a (map (λ (t : Bool × Bool). t.0) ts) && every_after b (map (λ (t : Bool × Bool). t.1) ts))
every_both a b [] = refl
every_both a b (t ∷ ts) =
    ap (λ (ok : Bool). every_after ok (map (λ (t : Bool × Bool). t.0 && t.1) ts)) (and_swap a b t.0 t.1) ∙ every_both (a && t.0) (b && t.1) ts

pub fixed_together : (s : Settings) (a b : Peer) → peer_fixed s (together a b) ≡ (peer_fixed s a && peer_fixed s b)
unfolding peer_fixed every
fixed_together s a b =
    simp only_or
    (every_both true true
    ((only (mask_of s 0x04 2) a.command, only (mask_of s 0x04 2) b.command)
    ∷ (only (mask_of s 0x10 4) a.bar0, only (mask_of s 0x10 4) b.bar0)
    ∷ (only (mask_of s 0x14 4) a.bar1, only (mask_of s 0x14 4) b.bar1)
    ∷ (only (mask_of s 0x43 1) a.privileged, only (mask_of s 0x43 1) b.privileged)
    ∷ (only (mask_of s 0x63 1) a.message, only (mask_of s 0x63 1) b.message)
    ∷ (only 1 a.interrupt, only 1 b.interrupt)
    ∷ []))

pub reset_together : (a b : Peer) → peer_reset (together a b) ≡ (peer_reset a && peer_reset b)
unfolding peer_reset every
reset_together a b =
    simp or_none
    (every_both true true
    ((eqb a.connected 0, eqb b.connected 0)
    ∷ (eqb a.command 0, eqb b.command 0)
    ∷ (eqb a.bar0 0, eqb b.bar0 0)
    ∷ (eqb a.bar1 0, eqb b.bar1 0)
    ∷ (eqb a.privileged 0, eqb b.privileged 0)
    ∷ (eqb a.message 0, eqb b.message 0)
    ∷ (eqb a.interrupt 0, eqb b.interrupt 0)
    ∷ (eqb a.state 0, eqb b.state 0)
    ∷ []))

-- nothing is set where no peer is collected
pub none_fixed : (s : Settings) → peer_fixed s (reset_peer 0) ≡ true
unfolding peer_fixed every masks mask_in mask_at mask_of
none_fixed s = refl

pub none_reset : peer_reset (reset_peer 0) ≡ true
unfolding peer_reset every
none_reset = refl

peer_at_reset : (p : Peer) → peer_reset p ≡ true → p ≡ reset_peer 0
unfolding peer_reset
peer_at_reset p r =
    λ i. record {
      connected = eqb-true p.connected 0 (every_true _ r 0) i;
      command = eqb-true p.command 0 (every_true _ r 1) i;
      bar0 = eqb-true p.bar0 0 (every_true _ r 2) i;
      bar1 = eqb-true p.bar1 0 (every_true _ r 3) i;
      privileged = eqb-true p.privileged 0 (every_true _ r 4) i;
      message = eqb-true p.message 0 (every_true _ r 5) i;
      interrupt = eqb-true p.interrupt 0 (every_true _ r 6) i;
      state = eqb-true p.state 0 (every_true _ r 7) i;
    }

pub reset_fixed : (s : Settings) (p : Peer) → peer_reset p ≡ true → peer_fixed s p ≡ true
reset_fixed s p r = rw (peer_at_reset p r) (none_fixed s)

entry_at_reset : (e : Entry) → entry_reset e ≡ true → (e.low ≡ 0) × (e.control ≡ 1)
unfolding entry_reset
entry_at_reset e r = (eqb-true e.low 0 (every_true _ r 0), eqb-true e.control 1 (every_true _ r 3))

pub entry_reset_fixed : (e : Entry) → entry_reset e ≡ true → entry_fixed e ≡ true
unfolding entry_fixed every
entry_reset_fixed e r =
    let z = entry_at_reset e r in
    rw (z.0, z.1)
