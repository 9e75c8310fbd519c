-- The most peers and vectors of a hub (R11, with the ranges of C-12: N 2 to 64, V 1 to 16), the same numbers as the constants of
-- src/.
-- Proofs use the laws of proofs/SizeLaws.antt and never these numbers themselves.
use Rattle.std.specs.Prelude.{ℕ}

unfoldable pub max_peers : ℕ
max_peers = 64

unfoldable pub max_vectors : ℕ
max_vectors = 16
