-- All that proofs know of the number of ids and of the most vectors.
use Prim.Native.Nat.{◌≤◌, ◌<◌, ◌^◌}
use native.Mathlib.Omega.{arith}
use Rattle.reader.specs.Sizes.{ids, most_vectors}

-- an id fits a byte, and so does a count with one more
pub ids_byte : ids ≤ 2 ^ 8
unfolding ids
ids_byte = omega arith

pub ids_pos : 0 < ids
unfolding ids
ids_pos = omega arith

pub most_vectors_byte : most_vectors < 2 ^ 8
unfolding most_vectors
most_vectors_byte = omega arith

pub most_vectors_pos : 0 < most_vectors
unfolding most_vectors
most_vectors_pos = omega arith
