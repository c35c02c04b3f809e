-- Worked values of the definitions.
use Rattle.std.proofs.Common.{◌≡◌, ℕ, List, [], ◌∷◌, bit_xor, refl}
use Rattle.reed_solomon.specs.Field.{field_inverse, field_product, field_product_low, last_below, power}
use Rattle.reed_solomon.specs.Factors.{erasure_factor}
use Rattle.reed_solomon.specs.Restoring.{weight}

two_lost : List ℕ
two_lost = 3 ∷ 5 ∷ []

-- if one byte is lost, the others have factor 1; and of two lost bytes the factors of some others
lost_factors : (erasure_factor (3 ∷ []) 3 7 ≡ 1) × (erasure_factor two_lost 3 7 ≡ 71) × (erasure_factor two_lost 3 3 ≡ 0) × (erasure_factor two_lost 3 5 ≡ 0)
unfolding field_inverse field_product field_product_low last_below power weight two_lost
lost_factors = (refl, refl, refl, refl)

-- the codeword with two bytes of parity whose bytes are 0 but for 17 at position 3 and 34 at position 5: its parity, 243 and 192, restores
-- both
lost_bytes : (bit_xor (field_product (erasure_factor two_lost 3 253) 243) (field_product (erasure_factor two_lost 3 254) 192) ≡ 17)
    × (bit_xor (field_product (erasure_factor two_lost 5 253) 243) (field_product (erasure_factor two_lost 5 254) 192) ≡ 34)
unfolding field_inverse field_product field_product_low last_below power weight two_lost
lost_bytes = (refl, refl)
