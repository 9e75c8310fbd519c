-- The calls (R3), each by or on one id, with their arguments and lent lengths. Set-up is apart: it has
-- no hub before it.
use Rattle.std.specs.Prelude.{ℕ, List}

pub data Act : Type 0 where
  -- by the host; `records` is the length of the lent delivery table
  connect : Act
  disconnect : (records : ℕ) → Act
  reset : (records : ℕ) → Act
  -- by a guest
  configuration_read : (offset width : ℕ) → Act
  configuration_write : (offset width value : ℕ) → Act
  register_read : (offset width : ℕ) → Act
  register_write : (records offset width value : ℕ) → Act
  msix_read : (offset width : ℕ) → Act
  msix_write : (offset width value : ℕ) → Act
  -- the question which section a range is in, and whether it may be stored to
  question : (offset length : ℕ) → Act
  -- the length of a load is that of the lent buffer
  load : (offset length : ℕ) → Act
  store : (offset : ℕ) (stored : List ℕ) → Act

pub record Call : Type 0 where
  pub who : ℕ
  pub act : Act

abbrev pub call : ℕ → Act → Call
call who act = record { who = who; act = act }
