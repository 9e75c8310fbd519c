-- All that proofs know of the most peers and vectors.
use Prim.Native.Nat.{◌≤◌, ◌<◌, ◌^◌}
use native.Mathlib.Omega.{arith}
use Rattle.device.specs.Sizes.{max_peers, max_vectors}

pub max_peers_small : max_peers ≤ 2 ^ 16
unfolding max_peers
max_peers_small = omega arith

-- an id fits a byte
pub max_peers_byte : max_peers ≤ 2 ^ 8
unfolding max_peers
max_peers_byte = omega arith

pub max_peers_pos : 0 < max_peers
unfolding max_peers
max_peers_pos = omega arith

pub max_vectors_small : max_vectors ≤ 2 ^ 8
unfolding max_vectors
max_vectors_small = omega arith

pub max_vectors_pos : 0 < max_vectors
unfolding max_vectors
max_vectors_pos = omega arith
