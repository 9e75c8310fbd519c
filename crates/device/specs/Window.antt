-- The window of a peer B (R69 to R71), its items (a) to (d), and isolation (R72).
use Rattle.std.specs.Prelude.{ℕ, ◌-◌, Bool, true, false, cond, List, [], ◌∷◌, ◌++◌, ◌≡◌, eqb}
use Rattle.common.specs.Bytes.{bit, byte}
use Rattle.device.specs.declared.Settings.{Settings}
use Rattle.device.specs.declared.Vector.{Vector}
use Rattle.device.specs.Call.{Act, Call}
use Rattle.device.specs.Call.Act.{connect, disconnect, reset, configuration_read, configuration_write}
use Rattle.device.specs.Call.Act.{register_read, register_write, msix_read, msix_write, question, load, store}
use Rattle.device.specs.Configuration.{within}
use Rattle.device.specs.Effect.{rung_vector, rung_peer, state_value, changes}
use Rattle.device.specs.History.{start, after, observed, spaces_of}
use Rattle.device.specs.Refusal.{refusal}
use Rattle.device.specs.Registers.{Register, register_at}
use Rattle.device.specs.SetUp.{accepted}
use Rattle.device.specs.Step.{step}
use Rattle.device.specs.World.{World, slot_at}

pub data Item : Type 0 where
  -- (a) a call by B or a connect, disconnect or reset of B, with its arguments and lent lengths
  own : Act → Item
  -- (b) the vector of another's Doorbell store with t = B
  bell : Vector → Item
  -- (c) a State value set by another where it changes (C-11), with that id
  word : (who value : ℕ) → Item
  -- (d) another's shared store
  bytes : (offset : ℕ) → List ℕ → Item

-- R71: what one accepted call of a peer makes of its Command bit 1. A connect or reset turns it off, and a configuration write
-- that covers 04h sets it to bit 1 of the byte written there.
unfoldable pub memory_after : Act → Bool → Bool
memory_after connect on = false
memory_after (disconnect n) on = on
memory_after (reset n) on = false
memory_after (configuration_read at w) on = on
memory_after (configuration_write at w x) on = cond (within at w 0x04) (bit 1 (byte (0x04 - at) x)) on
memory_after (register_read at w) on = on
memory_after (register_write n at w x) on = on
memory_after (msix_read at w) on = on
memory_after (msix_write at w x) on = on
memory_after (question at n) on = on
memory_after (load at n) on = on
memory_after (store at bs) on = on

-- the same from the accepted calls so far, the newest first
unfoldable pub memory_bit : ℕ → List Call → Bool
memory_bit who [] = false
memory_bit who (c ∷ past) = cond (eqb c.who who) (memory_after c.act (memory_bit who past)) (memory_bit who past)

-- (c), changed values alone (C-11): the value that an id's State takes, where it held another
unfoldable pub word_sent : (who old new : ℕ) → List Item
word_sent who old new = cond (changes old new) (Item.word who new ∷ []) []

-- what a store to a register sends to B, given the State of the peer that stores
unfoldable pub sent_by : ℕ → ℕ → ℕ → Register → ℕ → List Item
sent_by b who old Register.identity x = []
sent_by b who old Register.maximum_peers x = []
sent_by b who old Register.interrupt_control x = []
sent_by b who old Register.doorbell x = cond (eqb (rung_peer x).0 b) (Item.bell (rung_vector x) ∷ []) []
sent_by b who old Register.state x = word_sent who old (state_value x)
sent_by b who old Register.none x = []

-- what another's accepted call sends to B, given that peer's Command bit 1 and State
unfoldable pub sent : ℕ → ℕ → Bool → ℕ → Act → List Item
sent b who on old connect = []
sent b who on old (disconnect n) = word_sent who old 0
sent b who on old (reset n) = word_sent who old 0
sent b who on old (configuration_read at w) = []
sent b who on old (configuration_write at w x) = []
sent b who on old (register_read at w) = []
sent b who on old (register_write n at w x) = cond on (sent_by b who old (register_at at) x) []
sent b who on old (msix_read at w) = []
sent b who on old (msix_write at w x) = []
sent b who on old (question at n) = []
sent b who on old (load at n) = []
sent b who on old (store at bs) = Item.bytes at bs ∷ []

-- the items of one call, given the accepted calls before it, whether it is accepted itself, and the State that its id had
unfoldable pub items : ℕ → List Call → Bool → ℕ → Call → List Item
items b past taken old c =
    cond (eqb c.who b) (Item.own c.act ∷ [])
    (cond taken (sent b c.who (memory_bit c.who past) old c.act) [])

abbrev pub is_accepted : World → Call → Bool
is_accepted w c = eqb (refusal w c) 0

-- the State of a call's id before the call, in the history that the call belongs to
abbrev pub state_before : World → Call → ℕ
state_before w c = (slot_at w.hub c.who).peer.state

unfoldable pub window_from : ℕ → List Call → World → List Call → List Item
window_from b past w [] = []
window_from b past w (c ∷ cs) =
    items b past (is_accepted w c) (state_before w c) c
    ++ window_from b (cond (is_accepted w c) (c ∷ past) past) (step w c).world cs

unfoldable pub window : ℕ → Settings → List Call → List Item
window b s cs = window_from b [] (start s) cs

-- R72, what is equal: the answers and deliveries in order, and after the last call the peer's registers and the whole region.
pub record Alike (b : ℕ) (s : Settings) (cs ds : List Call) : Type 0 where
  pub observations : observed b (start s) cs ≡ observed b (start s) ds
  pub registers : spaces_of b (after (start s) cs) ≡ spaces_of b (after (start s) ds)
  pub region : (after (start s) cs).region ≡ (after (start s) ds).region

-- R72: for every B, and every two histories that start with the same accepted numbers and have equal windows of B
abbrev pub Isolation : Type 0
Isolation =
    (s : Settings) → accepted s ≡ true → (b : ℕ) (cs ds : List Call) → window b s cs ≡ window b s ds → Alike b s cs ds
