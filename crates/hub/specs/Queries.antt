-- What the host may ask of a hub, beside the calls of the rules. A question is no call of a history: it changes nothing, and its
-- answer is for the host alone.
use Rattle.std.specs.Prelude.{ℕ, not, cond, List, [], ◌∷◌, ◌≡◌, eqb, leb}
use Rattle.common.specs.Tests.{Row, row, first}
use Rattle.device.specs.declared.Reply.{Reply}
use Rattle.device.specs.Call.{Act, call}
use Rattle.device.specs.Refusal.{refusal}
use Rattle.device.specs.Sound.{sound}
use Rattle.device.specs.World.{Hub, slot_at, world}

-- 10 and 3, as for a connect
abbrev pub asked_rows : Hub → ℕ → List Row
asked_rows hub who = row 10 (not (sound hub)) ∷ row 3 (leb hub.settings.peers who) ∷ []

-- whether a peer is connected: 1 or 0; a refusal has value 0, as in every call
abbrev pub connected_answer : Hub → ℕ → Reply
connected_answer hub who =
    record {
      number = first (asked_rows hub who);
      value = cond (eqb (first (asked_rows hub who)) 0) (cond (eqb (slot_at hub who).peer.connected 1) 1 0) 0;
    }

-- The same in the terms of the calls, and shown to be the same (proofs/QueryLaws): what a connect would be refused with, where 5
-- is a yes.
abbrev pub by_connect : ℕ → Reply
by_connect number = cond (eqb number 5) (record { number = 0; value = 1 }) (record { number = number; value = 0 })

abbrev pub ConnectedByConnect : Type 0
ConnectedByConnect =
    (hub : Hub) (region : List ℕ) (who : ℕ) → connected_answer hub who ≡ by_connect (refusal (world hub region) (call who Act.connect))
