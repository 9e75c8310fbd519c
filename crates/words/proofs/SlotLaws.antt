-- What the loop over the vectors leaves: one entry more at its reset value in each turn.
use Prim.Native.Nat.{ℕ, ◌+◌, ◌<◌}
use mathlib.Core.List.{List, ◌++◌}
use mathlib.Core.Path.{◌≡◌, sym, ap, ◌∙◌}
use lib.ListN.{set, drop, replicate}
use lib.Seq.{get_or-set_same, set-get_or, set-set}
use Rattle.common.proofs.ListLaws.{filled_more, filled_all}
use Rattle.device.specs.declared.Entry.{Entry}
use Rattle.device.specs.Reset.{reset_peer, reset_entry}
use Rattle.device.specs.World.{Hub, Slot, zero_slot, reset_slot, slot_at, with_slot, with_peer, with_entry}
use Rattle.words.specs.Layout.{hub_of, Known}
use Rattle.words.proofs.LayoutLaws.{slots_length, entries_length}

-- a slot with its first v entries at reset
abbrev pub cleared : Slot → ℕ → Slot
cleared slot v = record { peer = slot.peer; entries = replicate v reset_entry ++ drop v slot.entries }

pub slot_kept : (h : Hub) (i : ℕ) → h ≡ with_slot h i (slot_at h i)
slot_kept h i = λ t. record { settings = h.settings; slots = sym (set-get_or h.slots i zero_slot) t }

pub slot_back : (ws : List ℕ) (i : ℕ) (s : Slot) → Known ws i → slot_at (with_slot (hub_of ws) i s) i ≡ s
slot_back ws i s l = get_or-set_same (hub_of ws).slots i s zero_slot (rw slots_length l)

-- a slot changed twice
slot_twice : (ws : List ℕ) (i : ℕ) (s : Slot) (f : Slot → Slot) → Known ws i
    → with_slot (with_slot (hub_of ws) i s) i (f (slot_at (with_slot (hub_of ws) i s) i)) ≡ with_slot (hub_of ws) i (f s)
slot_twice ws i s f l =
    let slots : List Slot = (hub_of ws).slots in
    λ t. record {
      settings = (hub_of ws).settings;
      slots = (set-set slots i s (f (slot_at (with_slot (hub_of ws) i s) i)) ∙ ap (λ (x : Slot). set slots i (f x)) (slot_back ws i s l)) t;
    }

module _ (ws : List ℕ) (now after : Hub) (i : ℕ) (below : Known ws i) where
  pub cleared_more : (v : ℕ) → v < (hub_of ws).settings.vectors → now ≡ with_slot (hub_of ws) i (cleared (slot_at (hub_of ws) i) v)
      → after ≡ with_slot now i (with_entry (slot_at now i) v reset_entry)
      → after ≡ with_slot (hub_of ws) i (cleared (slot_at (hub_of ws) i) (v + 1))
  cleared_more v l was step =
      step
      ∙ ap (λ (h : Hub). with_slot h i (with_entry (slot_at h i) v reset_entry)) was
      ∙ slot_twice ws i (cleared (slot_at (hub_of ws) i) v) (λ s. with_entry s v reset_entry) below
      ∙ ap (λ (es : List Entry). with_slot (hub_of ws) i (record { peer = (slot_at (hub_of ws) i).peer; entries = es }))
      (filled_more v reset_entry (slot_at (hub_of ws) i).entries (rw (entries_length ws i below) l))

  pub cleared_all : (connected : ℕ) → now ≡ with_slot (hub_of ws) i (with_peer (slot_at (hub_of ws) i) (reset_peer connected))
      → after ≡ with_slot now i (cleared (slot_at now i) (hub_of ws).settings.vectors)
      → after ≡ with_slot (hub_of ws) i (reset_slot (hub_of ws).settings.vectors connected)
  unfolding reset_slot
  cleared_all connected was step =
      let m : ℕ = (hub_of ws).settings.vectors in
      step
      ∙ ap (λ (h : Hub). with_slot h i (cleared (slot_at h i) m)) was
      ∙ slot_twice ws i (with_peer (slot_at (hub_of ws) i) (reset_peer connected)) (λ s. cleared s m) below
      ∙ ap (λ (es : List Entry). with_slot (hub_of ws) i (record { peer = reset_peer connected; entries = es }))
      (filled_all m reset_entry (slot_at (hub_of ws) i).entries (entries_length ws i below))
