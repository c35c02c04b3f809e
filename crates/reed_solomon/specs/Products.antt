-- Multiplication of every byte by one factor.
use Rattle.std.specs.Prelude.{◌≡◌, ℕ, ◌/◌, ◌%◌, ◌<◌, List, length, slice_index, EachIndex, bit_xor}
use Rattle.reed_solomon.specs.Field.{field_product}
use Rattle.reed_solomon.specs.declared.products.Products.TheInside.{Inside}

-- the factor, which is its own product by 1
abbrev pub factor_of : Inside → ℕ
factor_of p = slice_index p.of 1

-- entry b of the table is the product of the factor and b
abbrev pub HoldsProducts : Inside → Type 0
HoldsProducts p = (b : ℕ) → b < 256 → slice_index p.of b ≡ field_product (slice_index p.of 1) b

-- each element of the new list is the old element plus its addend
abbrev pub AreAdded : (ℕ → ℕ) → List ℕ → List ℕ → Type 0
AreAdded addend old new = EachIndex new (λ m. slice_index new m ≡ bit_xor (slice_index old m) (addend m))

-- the addend at index m for n factors: the product of byte m / n and factor m % n
abbrev pub product_at : List ℕ → List ℕ → ℕ → ℕ
product_at factors bytes m = field_product (slice_index factors (m % length factors)) (slice_index bytes (m / length factors))
