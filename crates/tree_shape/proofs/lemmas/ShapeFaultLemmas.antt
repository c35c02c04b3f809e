-- A shape without a fault.
use Rattle.std.proofs.Common.{◌≡◌, ◌≤◌, ◌*◌, ◌/◌, ◌^◌, ℕ, refl, arith, Bool, true, false, cond, not, ◌&&◌, ◌||◌, ◌==◌, Some, None, IsTrue, ◌⊎◌, inl, inr, rules}
use Rattle.std.proofs.lemmas.Bool.Decides.{nat_tests}
use borrow.Author.Tests.{eqb-true}
use Rattle.tree_shape.specs.declared.shape.ShapeFault.TheVariants.{BlockSize, NoBlocks, TooLarge}
use Rattle.tree_shape.specs.Shape.{ShapeRecord, IsShape, first_fault, is_block_size, is_too_large, blocks_sectors, area_end, per_block}

passed : (a b z d e : Bool)
    → cond (not (a && b)) (Some BlockSize) (cond z (Some NoBlocks) (cond (d || e) (Some TooLarge) None)) ≡ None
    → (a ≡ true) × (b ≡ true) × (z ≡ false) × (d ≡ false) × (e ≡ false)
passed true true false false false h = (refl, refl, refl, refl, refl)
passed false b z d e h = cc
passed true false z d e h = cc
passed true true true d e h = cc
passed true true false true e h = cc
passed true true false false true h = cc

small : (n : ℕ) → is_too_large n ≡ false → n ≤ 2 ^ 54
small n h = grind (arith, nat_tests)

some : (n : ℕ) → (n == 0) ≡ false → 1 ≤ n
some n h = grind (arith, nat_tests)

true-IsTrue : (b : Bool) → b ≡ true → IsTrue b
true-IsTrue b h = search rules

-- a shape that no fault refuses is one
pub IsShape-from_no_fault : (s : ShapeRecord) → first_fault s ≡ None → IsShape s
unfolding first_fault
IsShape-from_no_fault s h =
    let parts = passed (is_block_size s.data_block) (is_block_size s.hash_block) (s.blocks == 0) (is_too_large (blocks_sectors s.blocks s.data_block)) (is_too_large (blocks_sectors (area_end s) s.hash_block)) h in
    record {
      data_size = true-IsTrue _ parts.0;
      hash_size = true-IsTrue _ parts.1;
      some = some s.blocks parts.2;
      data_fits = small _ parts.3;
      tree_fits = small _ parts.4;
    }

none_passed : (a b z d e : Bool) → a ≡ true → b ≡ true → z ≡ false → d ≡ false → e ≡ false
    → cond (not (a && b)) (Some BlockSize) (cond z (Some NoBlocks) (cond (d || e) (Some TooLarge) None)) ≡ None
none_passed a b z d e ha hb hz hd he = rw (ha, hb, hz, hd, he) refl

not_large : (n : ℕ) → n ≤ 2 ^ 54 → is_too_large n ≡ false
not_large n h = grind (arith, nat_tests)

not_zero : (n : ℕ) → 1 ≤ n → (n == 0) ≡ false
not_zero n h = grind (arith, nat_tests)

-- a shape is refused by no fault
pub first_fault-none : (s : ShapeRecord) → IsShape s → first_fault s ≡ None
unfolding first_fault
first_fault-none s valid =
    none_passed (is_block_size s.data_block) (is_block_size s.hash_block) (s.blocks == 0) (is_too_large (blocks_sectors s.blocks s.data_block)) (is_too_large (blocks_sectors (area_end s) s.hash_block))
    valid.data_size valid.hash_size (not_zero s.blocks valid.some) (not_large _ valid.data_fits) (not_large _ valid.tree_fits)

four : (a b c d : Bool) → IsTrue (a || b || c || d) → ((a ≡ true) ⊎ (b ≡ true)) ⊎ ((c ≡ true) ⊎ (d ≡ true))
four true b c d h = inl (inl refl)
four false true c d h = inl (inr refl)
four false false true d h = inr (inl refl)
four false false false true h = inr (inr refl)
four false false false false h = absurd (search rules)

-- a block size is one of four
pub is_block_size-cases : (n : ℕ) → IsTrue (is_block_size n) → ((n ≡ 512) ⊎ (n ≡ 1024)) ⊎ ((n ≡ 2048) ⊎ (n ≡ 4096))
is_block_size-cases n h =
    elim (four (n == 512) (n == 1024) (n == 2048) (n == 4096) h) [
      | inl (inl e) ↦ inl (inl (eqb-true n 512 e))
      | inl (inr e) ↦ inl (inr (eqb-true n 1024 e))
      | inr (inl e) ↦ inr (inl (eqb-true n 2048 e))
      | inr (inr e) ↦ inr (inr (eqb-true n 4096 e))
    ]

-- a block of such a size holds at least 16 digests and nothing else
pub block_size-wide : (n : ℕ) → IsTrue (is_block_size n) → (16 ≤ n / 32) × (n ≡ 32 * (n / 32))
block_size-wide n valid =
    elim (is_block_size-cases n valid) [
      | inl (inl e) ↦ rw e (omega arith, refl)
      | inl (inr e) ↦ rw e (omega arith, refl)
      | inr (inl e) ↦ rw e (omega arith, refl)
      | inr (inr e) ↦ rw e (omega arith, refl)
    ]

pub per_block-wide : (s : ShapeRecord) → IsShape s → (16 ≤ per_block s) × (s.hash_block ≡ 32 * per_block s)
per_block-wide s valid = block_size-wide s.hash_block valid.hash_size

-- that many blocks of one of the four sizes that take at most 2^54 sectors
sized : (n size : ℕ) → IsTrue (is_block_size size) → blocks_sectors n size ≤ 2 ^ 54 → (n ≤ 2 ^ 54) × (n * size ≤ 2 ^ 63)
sized n size one fits =
    elim (is_block_size-cases size one) [
      | inl (inl e) ↦ let small : blocks_sectors n 512 ≤ 2 ^ 54 = rw e at fits in rw e (omega (arith, small), omega (arith, small))
      | inl (inr e) ↦ let small : blocks_sectors n 1024 ≤ 2 ^ 54 = rw e at fits in rw e (omega (arith, small), omega (arith, small))
      | inr (inl e) ↦ let small : blocks_sectors n 2048 ≤ 2 ^ 54 = rw e at fits in rw e (omega (arith, small), omega (arith, small))
      | inr (inr e) ↦ let small : blocks_sectors n 4096 ≤ 2 ^ 54 = rw e at fits in rw e (omega (arith, small), omega (arith, small))
    ]

-- there are at most 2^54 data blocks, of at most 2^63 bytes
pub blocks-le : (s : ShapeRecord) → IsShape s → (s.blocks ≤ 2 ^ 54) × (s.blocks * s.data_block ≤ 2 ^ 63)
blocks-le s valid = sized s.blocks s.data_block valid.data_size valid.data_fits

-- the area ends at most 2^54 blocks and 2^63 bytes from the device's beginning
pub area_end-le : (s : ShapeRecord) → IsShape s → (area_end s ≤ 2 ^ 54) × (area_end s * s.hash_block ≤ 2 ^ 63)
area_end-le s valid = sized (area_end s) s.hash_block valid.hash_size valid.tree_fits
