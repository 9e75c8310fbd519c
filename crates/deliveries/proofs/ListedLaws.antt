-- Laws of specs/Listed.antt: the list in hubs with the same entries, a delivery more, and the rings at every other id turn by turn.
use Prim.Native.Nat.{ℕ, zero, suc, ◌+◌, ◌-◌, ◌%◌, ◌≤◌, ◌<◌, ◌^◌, min}
use mathlib.Core.Bool.{Bool, true, false, cond}
use mathlib.Core.List.{List, [], ◌∷◌, ◌++◌, map, append_assoc, append-nil, map-append}
use mathlib.Core.Path.{◌≡◌, refl, sym, ap, ◌∙◌}
use native.Mathlib.Numerals.{add-one}
use native.Mathlib.Omega.{arith}
use lib.Dec.{eqb}
use mir.Val.{bool_byte}
use lib.ListN.{length, take, set, replicate, length-replicate, length-set, length-append, length-map, length-take}
use lib.Seq.{length-take-le, take-suc-set}
use Rattle.device.proofs.SizeLaws.{max_peers_pos, max_peers_byte}
use Rattle.device.specs.declared.Delivery.{Delivery}
use Rattle.device.specs.declared.PeerId.{PeerId}
use Rattle.device.specs.declared.Vector.{Vector}
use Rattle.device.specs.Ring.{Rung, rung, rung_then, ring, ring_from, ring_others, peer_id, vector}
use Rattle.device.specs.Sizes.{max_peers}
use Rattle.device.specs.World.{Hub}
use Rattle.gate.proofs.RingLaws.{SameEntries, sent_same, apart, Kept, none_kept, ring_kept}
use Rattle.gate.specs.RingOutcome.{sent_at, outcome_list}
use Rattle.deliveries.specs.declared.Deliveries.{Deliveries}
use Rattle.deliveries.specs.Listed.{listed, Lists, ring_but}

-- an id fits a byte of the list, and is the same there
pub id_fits : (i : ℕ) → i < max_peers → i < 2 ^ 8
id_fits i l = omega (arith, max_peers_byte)

pub id_byte : (i : ℕ) → i < max_peers → i % 256 ≡ i
id_byte i l = omega (arith, max_peers_byte)

pub none_listed : (hub : Hub) (d : Deliveries) → d.count ≡ 0 → listed hub d ≡ []
unfolding listed
none_listed hub d e = rw e

pub none_lists : (hub : Hub) (d : Deliveries) → d.count ≡ 0 → Lists hub d []
none_lists hub d e = record { deliveries = none_listed hub d e; count = e }

-- the length of the list is the count, as long as this is not beyond the targets
pub counted : (hub : Hub) (d : Deliveries) → d.count ≤ length d.targets → d.count ≡ length (listed hub d)
unfolding listed
counted hub d l = sym (length-map (take d.count d.targets) (sent_at hub d.vector) ∙ length-take-le d.count d.targets l)

pub count_fits : (hub : Hub) (d : Deliveries) (ds : List Delivery) → Lists hub d ds → d.count ≤ length d.targets
unfolding listed
count_fits hub d ds l =
    let m : d.count ≡ min d.count (length d.targets) =
    l.count ∙ ap length (sym l.deliveries) ∙ length-map (take d.count d.targets) (sent_at hub d.vector) ∙ length-take d.count d.targets
    in
    omega arith

-- the records are the same in every hub with the same entries
pub listed_same : (before after : Hub) (d : Deliveries) → SameEntries before after → listed after d ≡ listed before d
unfolding listed
listed_same before after d same = λ k. map (λ t. sent_same before after d.vector t same k) (take d.count d.targets)

-- one ring's outcome, listed: the id stands at every place, and the first is counted where the ring is delivered
abbrev pub everywhere : ℕ → Vector → ℕ → Deliveries
everywhere count v id = record { count = count; vector = v; targets = replicate max_peers id }

front : (n id : ℕ) → 0 < n → take 1 (replicate n id) ≡ id ∷ []
front zero id l = absurd (omega arith)
front (suc n) id l = refl

module _ (hub after : Hub) (t : PeerId) (v : Vector) (delivered : Bool) (left : after ≡ (ring hub t v).hub)
    (told : outcome_list hub t v delivered ≡ (ring hub t v).deliveries) (count id : ℕ) where
  ring_lists : count ≤ 1 → listed hub (everywhere count v id) ≡ outcome_list hub t v delivered → Lists after (everywhere count v id) (ring hub t v).deliveries
  ring_lists few all =
      record {
        deliveries = rw left (listed_same hub _ (everywhere count v id) (ring_kept hub t v).entries) ∙ all ∙ told;
        count = counted hub (everywhere count v id) (simp length-replicate (omega (arith, max_peers_pos))) ∙ ap length (all ∙ told);
      }

  ring_lost : delivered ≡ false → count ≡ 0 → Lists after (everywhere count v id) (ring hub t v).deliveries
  unfolding outcome_list
  ring_lost is none = ring_lists (omega arith) (rw is (none_listed hub (everywhere count v id) none))

  ring_sent : delivered ≡ true → count ≡ 1 → id ≡ t.0 → Lists after (everywhere count v id) (ring hub t v).deliveries
  unfolding outcome_list listed
  ring_sent is one same = ring_lists (omega arith) (rw (is, one, front max_peers id max_peers_pos, same))

  pub ring_listed : count ≡ bool_byte delivered → (delivered ≡ true → id ≡ t.0) → Lists after (everywhere count v id) (ring hub t v).deliveries
  ring_listed number same = by delivered refl
    where
      by : (b : Bool) → delivered ≡ b → Lists after (everywhere count v id) (ring hub t v).deliveries
      by true is = ring_sent is (rw is at number) (same is)
      by false is = ring_lost is (rw is at number)

-- a list of deliveries of vector 0, and one with a ring's outcome appended
abbrev pub of_zero : ℕ → List ℕ → Deliveries
of_zero count targets = record { count = count; vector = vector 0; targets = targets }

pub record More (hub : Hub) (t : ℕ) (before : Deliveries) (delivered : Bool) (after : Deliveries) : Type 0 where
  pub few : after.count ≤ before.count + 1
  pub room : length after.targets ≡ length before.targets
  pub all : listed hub after ≡ listed hub before ++ outcome_list hub (peer_id t) (vector 0) delivered

pub more_lost : (hub : Hub) (t : ℕ) (d : Deliveries) → More hub t d false d
unfolding outcome_list
more_lost hub t d = record { few = omega arith; room = refl; all = sym (append-nil (listed hub d)) }

pub more_delivered : (hub : Hub) (t count : ℕ) (targets : List ℕ) → count < length targets
    → More hub t (of_zero count targets) true (of_zero (count + 1) (set targets count t))
unfolding outcome_list listed
more_delivered hub t count targets l =
    record {
      few = omega arith;
      room = simp length-set;
      all = rw (add-one, take-suc-set targets count t l) (map-append (sent_at hub (vector 0)) (take count targets) (t ∷ []));
    }

-- a turn, and all turns, keep settings and entries and deliver at most one interrupt each
pub but_kept : (who : ℕ) (hub : Hub) (i : ℕ) → Kept hub 1 (ring_but who hub i)
unfolding ring_but
but_kept who hub i = either (eqb i who)
  where
    either : (b : Bool) → Kept hub 1 (cond b (rung hub []) (ring hub (peer_id i) (vector 0)))
    either true = none_kept hub 1
    either false = ring_kept hub (peer_id i) (vector 0)

then_kept : (hub : Hub) (n : ℕ) (r : Rung) (next : Hub → Rung) → Kept hub 1 r → Kept r.hub n (next r.hub) → Kept hub (suc n) (rung_then r next)
then_kept hub n r next one rest =
    record {
      settings = rest.settings ∙ one.settings;
      entries = λ i v. rest.entries i v ∙ one.entries i v;
      few = simp length-append (omega arith);
    }

pub from_kept : (n i who : ℕ) (hub : Hub) → Kept hub n (ring_from n i who hub)
unfolding ring_from ring_but
from_kept zero i who hub = none_kept hub 0
from_kept (suc n) i who hub = then_kept hub n (ring_but who hub i) (λ h. ring_from n (suc i) who h) (but_kept who hub i) (from_kept n (suc i) who _)

pub others_kept : (who : ℕ) (hub : Hub) → Kept hub hub.settings.peers (ring_others who hub)
unfolding ring_others
others_kept who hub = from_kept hub.settings.peers 0 who hub

-- what is listed, followed by what the turns left deliver, is the whole
abbrev pub Rest : ℕ → ℕ → ℕ → Hub → Deliveries → Rung → Type 0
Rest who peers i hub d whole = rung_then (rung hub (listed hub d)) (λ h. ring_from (peers - i) i who h) ≡ whole

module _ (who peers : ℕ) (hub : Hub) (d : Deliveries) where
  pub rest_first : peers ≡ hub.settings.peers → d.count ≡ 0 → Rest who peers 0 hub d (ring_others who hub)
  unfolding ring_others
  rest_first same e = let z : peers - 0 ≡ hub.settings.peers = omega arith in rw (none_listed hub d e, z)

  pub rest_last : (i : ℕ) (whole : Rung) → peers ≤ i → Rest who peers i hub d whole → (hub ≡ whole.hub) × (listed hub d ≡ whole.deliveries)
  unfolding ring_from
  rest_last i whole l e = let z : peers - i ≡ 0 = omega arith in apart hub (listed hub d) (rw (z, append-nil) at e)

  turn : (i : ℕ) → i < peers → ring_from (peers - i) i who hub ≡ rung_then (ring_but who hub i) (λ h. ring_from (peers - (i + 1)) (i + 1) who h)
  unfolding ring_from ring_but
  turn i l = let z : peers - i ≡ suc (peers - (i + 1)) = omega arith in rw (z, add-one)

  pub rest_more : (i : ℕ) (delivered : Bool) (after : Hub) (a : Deliveries) (whole : Rung) → i < peers
      → after ≡ (ring_but who hub i).hub → outcome_list hub (peer_id i) (vector 0) delivered ≡ (ring_but who hub i).deliveries → More hub i d delivered a
      → Rest who peers i hub d whole → Rest who peers (i + 1) after a whole
  rest_more i delivered after a whole l eh eo m e =
      let all : listed after a ≡ listed hub d ++ (ring_but who hub i).deliveries = rw eh (listed_same hub _ a (but_kept who hub i).entries) ∙ m.all ∙ rw eo in
      rw (all, eh, append_assoc) (rw (turn i l) at e)
