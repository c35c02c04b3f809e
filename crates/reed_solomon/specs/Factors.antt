-- Factors that recover an erased byte of every codeword, and multiplication by them.
use Rattle.std.specs.Prelude.{◌≡◌, ℕ, ◌+◌, ◌-◌, ◌*◌, ◌<◌, ◌≤◌, ◌==◌, List, length, slice_index, EachIndex, if◌then◌else◌}
use Rattle.std.specs.List.{range_with_len}
use Rattle.reed_solomon.specs.Field.{field_inverse, field_product, total}
use Rattle.reed_solomon.specs.Code.{IsCodeword}
use Rattle.reed_solomon.specs.Restoring.{weight}

-- the factor of the byte at position i in the sum that is the byte at `place`; 0 at `place` and at the other erasures
abbrev pub erasure_factor : List ℕ → ℕ → ℕ → ℕ
erasure_factor lost place i =
    if i == place then 0
    else field_product (weight lost place (length lost) i) (field_inverse (weight lost place (length lost) place))

-- For every codeword with at least as many parity bytes as there are erasures, the sum of its bytes times these
-- factors is its byte at `place`; erased bytes have factor 0.
pub record AreFactors (lost : List ℕ) (place : ℕ) (f : ℕ → ℕ) : Type 0 where
  pub restore : (parity : ℕ) (word : List ℕ) → length lost ≤ parity → IsCodeword parity word → total (λ i. field_product (f i) (slice_index word i)) 255 ≡ slice_index word place
  pub skip : EachIndex lost (λ k. f (slice_index lost k) ≡ 0)

-- the positions of the parity bytes of a codeword
abbrev pub parity_places : ℕ → List ℕ
parity_places parity = range_with_len (255 - parity) parity

-- the factors of all positions for each erasure: with n erasures, the factor of position i for erasure k is at i * n
-- + k
pub record AreProducts (lost products : List ℕ) : Type 0 where
  pub len : length products ≡ 255 * length lost
  pub each : EachIndex lost (λ k. AreFactors lost (slice_index lost k) (λ i. slice_index products (i * length lost + k)))

-- n rows of 255 factors, one row for each of the first n erasures
pub record AreRows (lost rows : List ℕ) (n : ℕ) : Type 0 where
  pub len : length rows ≡ n * 255
  pub each : (k : ℕ) → k < n → AreFactors lost (slice_index lost k) (λ i. slice_index rows (k * 255 + i))
