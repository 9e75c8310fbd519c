-- How many ids are accepted (R84), and the most vectors that can be configured (R90), the same numbers as the constants of src/.
-- Proofs use the laws of proofs/SizeLaws.antt and never these numbers themselves, but for the worked cases.
use Rattle.std.specs.Prelude.{ℕ}

unfoldable pub ids : ℕ
ids = 64

unfoldable pub most_vectors : ℕ
most_vectors = 16
