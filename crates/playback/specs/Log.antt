-- C-13: a log is a sequence of records, one byte of kind and then a body whose length the kind gives (R76).
use Rattle.std.specs.Prelude.{ℕ, ◌+◌, Bool, cond, List, [], ◌∷◌, eqb, leb, length, take, drop, get_or}
use Rattle.common.specs.Bytes.{number}
use Rattle.device.specs.declared.Settings.{Settings}
use Rattle.device.specs.Call.{Act, Call, call}
use Rattle.device.specs.Sizes.{max_peers}

-- The bodies' lengths, kind by kind, each the sum of its fields'.
abbrev pub bodies : List ℕ
bodies =
    -- 00 set-up: N, V, S, R, O, base, protocol, subsystem vendor, subsystem id
    (2 + 2 + 4 + 8 + 8 + 8 + 2 + 2 + 2)
    -- 01 connect, 02 disconnect, 03 reset: id
    ∷ 2
    ∷ 2
    ∷ 2
    -- 04 configuration read: id, offset, width; 05 write: the same, value
    ∷ (2 + 2 + 1)
    ∷ (2 + 2 + 1 + 4)
    -- 06 register read: id, offset; 07 write: the same, value
    ∷ (2 + 2)
    ∷ (2 + 2 + 4)
    -- 08 MSI-X read, 09 write: as the registers'
    ∷ (2 + 2)
    ∷ (2 + 2 + 4)
    -- 0A load one byte: id, offset; 0B store one byte: the same, byte
    ∷ (2 + 4)
    ∷ (2 + 4 + 1)
    ∷ []

-- the kind and its body; an unknown kind has no body
unfoldable pub record_length : ℕ → ℕ
record_length kind = 1 + get_or bodies kind 0

-- a set-up's, the longest
abbrev pub longest_record : ℕ
longest_record = 39

unfoldable pub kind_of : List ℕ → ℕ
kind_of r = get_or r 0 0

-- all bytes of the record have come
unfoldable pub whole : List ℕ → Bool
whole r = leb (record_length (kind_of r)) (length r)

-- the number of n bytes from a place of the record on; the kind stands at place 0
unfoldable pub field : (at n : ℕ) → List ℕ → ℕ
field at n r = number (take n (drop at r))

-- What a record asks for: a set-up, or a call. A call is answered by 'done' and the deliveries, by the value read, or by the byte
-- loaded.
pub data Request : Type 0 where
  set_up : Settings → Request
  does reads loads : Call → Request
  unknown : Request

abbrev pub settings_in : List ℕ → Settings
settings_in r =
    record {
      peers = field 1 2 r;
      vectors = field 3 2 r;
      table = field 5 4 r;
      common = field 9 8 r;
      output = field 17 8 r;
      base = field 25 8 r;
      protocol = field 33 2 r;
      vendor = field 35 2 r;
      subsystem = field 37 2 r;
    }

-- a call by or on the record's id
abbrev pub call_in : List ℕ → Act → Call
call_in r act = call (field 1 2 r) act

-- Register and MSI-X accesses are 4 bytes wide, and the delivery table has room for all peers that a hub can have.
unfoldable pub request_of : (kind : ℕ) → List ℕ → Request
request_of kind r =
    cond (eqb kind 0x00) (Request.set_up (settings_in r))
    (cond (eqb kind 0x01) (Request.does (call_in r Act.connect))
    (cond (eqb kind 0x02) (Request.does (call_in r (Act.disconnect max_peers)))
    (cond (eqb kind 0x03) (Request.does (call_in r (Act.reset max_peers)))
    (cond (eqb kind 0x04) (Request.reads (call_in r (Act.configuration_read (field 3 2 r) (field 5 1 r))))
    (cond (eqb kind 0x05) (Request.does (call_in r (Act.configuration_write (field 3 2 r) (field 5 1 r) (field 6 4 r))))
    (cond (eqb kind 0x06) (Request.reads (call_in r (Act.register_read (field 3 2 r) 4)))
    (cond (eqb kind 0x07) (Request.does (call_in r (Act.register_write max_peers (field 3 2 r) 4 (field 5 4 r))))
    (cond (eqb kind 0x08) (Request.reads (call_in r (Act.msix_read (field 3 2 r) 4)))
    (cond (eqb kind 0x09) (Request.does (call_in r (Act.msix_write (field 3 2 r) 4 (field 5 4 r))))
    (cond (eqb kind 0x0A) (Request.loads (call_in r (Act.load (field 3 4 r) 1)))
    (cond (eqb kind 0x0B) (Request.does (call_in r (Act.store (field 3 4 r) (field 7 1 r ∷ [])))) Request.unknown)))))))))))
