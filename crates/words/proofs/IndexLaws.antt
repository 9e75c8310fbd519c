-- Where the words of the MSI-X entries stand, in a hub of n peers and m vectors: each inside the hub, no two at one place, and every
-- place past the peers one of them.
use Prim.Native.Nat.{ℕ, zero, suc, ◌+◌, ◌-◌, ◌*◌, ◌/◌, ◌%◌, ◌^◌, ◌≤◌, ◌<◌}
use mathlib.Core.Path.{◌≡◌, sym, ap, ◌∙◌}
use native.Mathlib.Nat.{mul-le-mul, mul-zero, mod-lt, le_trans, div-add-mod', div-lt_iff_lt-mul}
use native.Mathlib.Omega.{arith}
use lib.Arith.{digits_lt, digits_div, digits_mod}
use Rattle.device.proofs.SizeLaws.{max_peers_small, max_vectors_small}
use Rattle.device.specs.Sizes.{max_peers, max_vectors}
use Rattle.words.specs.Layout.{hub_words, entry_start}

pub entries_small : (n m : ℕ) → n ≤ max_peers → m ≤ max_vectors → n * m ≤ 2 ^ 24
entries_small n m few less = mul-le-mul (le_trans few max_peers_small) (le_trans less max_vectors_small)

digits_injective : {q r p s m : ℕ} → r < m → s < m → q * m + r ≡ p * m + s → (q ≡ p) × (r ≡ s)
digits_injective {q} {r} {p} {s} {m} hr hs e = (
  sym (digits_div q hr) ∙ ap (λ (n : ℕ). n / m) e ∙ digits_div p hs,
  sym (digits_mod q hr) ∙ ap (λ (n : ℕ). n % m) e ∙ digits_mod p hs,
)

module _ (n m : ℕ) where
  -- an entry's place in its column
  pub row_below : {i v : ℕ} → i < n → v < m → i * m + v < n * m
  row_below hi hv = digits_lt hi hv

  pub entry_below : (c i v : ℕ) → c < 4 → i < n → v < m → entry_start n m c i v < hub_words n m
  unfolding hub_words
  entry_below c i v hc hi hv =
      let d : c * (n * m) + (i * m + v) < 4 * (n * m) = digits_lt hc (row_below hi hv) in
      omega arith

  pub entry_apart : (c d i j v w : ℕ) → i < n → j < n → v < m → w < m → entry_start n m c i v ≡ entry_start n m d j w → (i ≡ j) × (v ≡ w)
  entry_apart c d i j v w hi hj hv hw e =
      let s : c * (n * m) + (i * m + v) ≡ d * (n * m) + (j * m + w) = omega arith in
      digits_injective hv hw (digits_injective (row_below hi hv) (row_below hj hw) s).1

-- the entry and the column of a place
pub record EntryPlace (n m k : ℕ) : Type 0 where
  pub column : ℕ
  pub id : ℕ
  pub vector : ℕ
  pub column_below : column < 4
  pub id_below : id < n
  pub vector_below : vector < m
  pub place : entry_start n m column id vector ≡ k

vectors_pos : (n m : ℕ) → 0 < n * m → 0 < m
vectors_pos n zero h = absurd (omega (arith, mul-zero n))
vectors_pos n (suc m) h = omega arith

pub entry_place : (n m k : ℕ) → 10 + 8 * n ≤ k → k < hub_words n m → EntryPlace n m k
unfolding hub_words
entry_place n m k low high =
    let r : ℕ = k - (10 + 8 * n) in
    let pos : 0 < n * m = omega arith in
    let rest : r / (n * m) * (n * m) + r % (n * m) ≡ r = div-add-mod' r (n * m) in
    let row : r % (n * m) / m * m + r % (n * m) % m ≡ r % (n * m) = div-add-mod' (r % (n * m)) m in
    record {
      column = r / (n * m);
      id = r % (n * m) / m;
      vector = r % (n * m) % m;
      column_below = (div-lt_iff_lt-mul pos).1 (omega arith);
      id_below = (div-lt_iff_lt-mul (vectors_pos n m pos)).1 (mod-lt r pos);
      vector_below = mod-lt (r % (n * m)) (vectors_pos n m pos);
      place = omega arith;
    }
