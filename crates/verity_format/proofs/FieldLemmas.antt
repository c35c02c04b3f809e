-- What the fields of 512 bytes say, and what they are where the bytes carry a superblock.
use Rattle.std.proofs.Common.{◌≡◌, ◌≤◌, ◌+◌, ◌-◌, ◌^◌, ◌==◌, ℕ, refl, ap, sym, ◌∙◌, arith, Bool, true, false, cond, not, ◌&&◌, ◌||◌, nat_lt, Option, Some, None, IsTrue, rules, List, length, take}
use Rattle.std.specs.Prelude.{slice_range, codes, is_some, position, unwrap_or}
use Rattle.std.specs.List.{before_first, position_or_len}
use Rattle.std.specs.Str.{bytes_eq}
use Rattle.std.proofs.lemmas.Bool.Decides.{nat_tests}
use Rattle.std.proofs.lemmas.Slice.Eq.{bytes_eq-Decides}
use Rattle.std.proofs.lemmas.List.{take_all, length-take-le, length-drop}
use borrow.Author.Tests.{eqb-true}
use Rattle.tree_shape.specs.declared.shape.ShapeFault.{ShapeFault}
use Rattle.tree_shape.specs.declared.shape.ShapeFault.TheVariants.{BlockSize, NoBlocks, TooLarge}
use Rattle.tree_shape.specs.Shape.{ShapeRecord, IsShape, first_fault, is_block_size, is_too_large, blocks_sectors, area_end}
use Rattle.tree_shape.proofs.lemmas.ShapeFaultLemmas.{IsShape-from_no_fault}
use Rattle.verity_format.specs.declared.decoding.SuperFault.TheVariants.{Signature, Version, HashType, Algorithm, DataBlockSize, HashBlockSize, DataBlocks, SaltSize}
use Rattle.verity_format.specs.Superblock.{SuperRecord, shape_of, shape_after, Carries, field_number16, field_number32, field_number64, signature, algorithm_of, super_fault, read_of}

-- a list up to the first place that passes, found or not
pub take-position : (p : ℕ → Bool) (xs : List ℕ) → take (unwrap_or (position p xs) (length xs)) xs ≡ before_first p xs
take-position p xs = found (nat_lt (position_or_len p xs) (length xs)) refl
  where
    found : (b : Bool) → nat_lt (position_or_len p xs) (length xs) ≡ b → take (unwrap_or (position p xs) (length xs)) xs ≡ before_first p xs
    found true h = rw h refl
    found false h = let past : length xs ≤ position_or_len p xs = grind (arith, nat_tests) in rw h (take_all (length xs) xs (omega arith) ∙ sym (take_all (position_or_len p xs) xs past))

-- each test of the chain passes where no fault is found
passed : (a b c d e f g h : Bool)
    → cond (not a) (Some Signature) (cond (not b) (Some Version) (cond (not c) (Some HashType) (cond (not d) (Some Algorithm) (cond (not e) (Some DataBlockSize) (cond (not f) (Some HashBlockSize) (cond g (Some DataBlocks) (cond h (Some SaltSize) None))))))) ≡ None
    → (a ≡ true) × (b ≡ true) × (c ≡ true) × (d ≡ true) × (e ≡ true) × (f ≡ true) × (g ≡ false) × (h ≡ false)
passed true true true true true true false false w = (refl, refl, refl, refl, refl, refl, refl, refl)
passed false b c d e f g h w = cc
passed true false c d e f g h w = cc
passed true true false d e f g h w = cc
passed true true true false e f g h w = cc
passed true true true true false f g h w = cc
passed true true true true true false g h w = cc
passed true true true true true true true h w = cc
passed true true true true true true false true w = cc

nothing : (o : Option ShapeFault) → is_some o ≡ false → o ≡ None
nothing None h = refl
nothing (Some f) h = cc

at_most : (n : ℕ) → nat_lt 256 n ≡ false → n ≤ 256
at_most n h = grind (arith, nat_tests)

-- bytes without a fault carry what their fields say
pub carried-read : (bytes : List ℕ) → length bytes ≡ 512 → super_fault bytes ≡ None → Carries (read_of bytes) bytes
unfolding super_fault read_of
carried-read bytes size h =
    let parts = passed (bytes_eq (slice_range bytes 0 8) signature) (field_number32 bytes 8 == 1) (field_number32 bytes 12 == 1) (bytes_eq (algorithm_of bytes) (codes "sha256"))
    (is_block_size (field_number32 bytes 64)) (is_block_size (field_number32 bytes 68)) (is_some (first_fault (shape_after (field_number32 bytes 64) (field_number32 bytes 68) (field_number64 bytes 72)))) (nat_lt 256 (field_number16 bytes 80)) h in
    let few : field_number16 bytes 80 ≤ 256 = at_most (field_number16 bytes 80) parts.7 in
    let long : length (slice_range bytes 88 (88 + field_number16 bytes 80)) ≡ field_number16 bytes 80 = ranged bytes 88 (field_number16 bytes 80) (omega (arith, few, size)) in
    record {
      valid = record {
        uuid = ranged bytes 16 16 (omega (arith, size));
        shape = IsShape-from_no_fault _ (nothing _ parts.6);
        salt = omega (arith, long, few);
      };
      size = size;
      signature = (bytes_eq-Decides _ _).0 parts.0;
      version = eqb-true _ _ parts.1;
      hash_type = eqb-true _ _ parts.2;
      uuid = refl;
      algorithm = (bytes_eq-Decides _ _).0 parts.3;
      data_block = refl;
      hash_block = refl;
      blocks = refl;
      salt_size = sym long;
      salt = ap (λ n. slice_range bytes 88 (88 + n)) long;
    }
  where
    ranged : (xs : List ℕ) (a n : ℕ) → a + n ≤ length xs → length (slice_range xs a (a + n)) ≡ n
    ranged xs a n fits = let d = length-drop a xs in let e : a + n - a ≡ n = omega arith in rw e (length-take-le n _ (omega (arith, d)))

-- what the bytes carry is what their fields say
pub same-read : (s : SuperRecord) (bytes : List ℕ) → Carries s bytes → read_of bytes ≡ s
unfolding read_of
same-read s bytes h =
    let salt : slice_range bytes 88 (88 + field_number16 bytes 80) ≡ s.salt = ap (λ n. slice_range bytes 88 (88 + n)) h.salt_size ∙ h.salt in
    rw (h.uuid, h.data_block, h.hash_block, h.blocks, salt) refl

is_true : (b : Bool) → IsTrue b → b ≡ true
is_true b h = search rules

shape_chain : (a b z d e : Bool) → a ≡ true → b ≡ true → z ≡ false → d ≡ false → e ≡ false
    → cond (not (a && b)) (Some BlockSize) (cond z (Some NoBlocks) (cond (d || e) (Some TooLarge) None)) ≡ None
shape_chain a b z d e p q r t u = rw (p, q, r, t, u) refl

fitting : (n : ℕ) → n ≤ 2 ^ 54 → is_too_large n ≡ false
fitting n h = grind (arith, nat_tests)

nonzero : (n : ℕ) → 1 ≤ n → (n == 0) ≡ false
nonzero n h = grind (arith, nat_tests)

-- a shape has no fault
pub no_fault-from_IsShape : (s : ShapeRecord) → IsShape s → first_fault s ≡ None
unfolding first_fault
no_fault-from_IsShape s h = shape_chain (is_block_size s.data_block) (is_block_size s.hash_block) (s.blocks == 0) (is_too_large (blocks_sectors s.blocks s.data_block)) (is_too_large (blocks_sectors (area_end s) s.hash_block))
    (is_true _ h.data_size) (is_true _ h.hash_size) (nonzero s.blocks h.some) (fitting _ h.data_fits) (fitting _ h.tree_fits)

chain : (a b c d e f g h : Bool) → a ≡ true → b ≡ true → c ≡ true → d ≡ true → e ≡ true → f ≡ true → g ≡ false → h ≡ false
    → cond (not a) (Some Signature) (cond (not b) (Some Version) (cond (not c) (Some HashType) (cond (not d) (Some Algorithm) (cond (not e) (Some DataBlockSize) (cond (not f) (Some HashBlockSize) (cond g (Some DataBlocks) (cond h (Some SaltSize) None))))))) ≡ None
chain a b c d e f g h p1 p2 p3 p4 p5 p6 p7 p8 = rw (p1, p2, p3, p4, p5, p6, p7, p8) refl

few : (n : ℕ) → n ≤ 256 → nat_lt 256 n ≡ false
few n h = grind (arith, nat_tests)

one : (n : ℕ) → n ≡ 1 → (n == 1) ≡ true
one n h = rw h refl

-- where the bytes carry a superblock no field is wrong
pub no_fault-from_Carries : (s : SuperRecord) (bytes : List ℕ) → Carries s bytes → super_fault bytes ≡ None
unfolding super_fault
no_fault-from_Carries s bytes h =
    let shape : first_fault (shape_after (field_number32 bytes 64) (field_number32 bytes 68) (field_number64 bytes 72)) ≡ None =
    rw (h.data_block, h.hash_block, h.blocks) (no_fault-from_IsShape (shape_of s) h.valid.shape) in
    chain (bytes_eq (slice_range bytes 0 8) signature) (field_number32 bytes 8 == 1) (field_number32 bytes 12 == 1) (bytes_eq (algorithm_of bytes) (codes "sha256"))
    (is_block_size (field_number32 bytes 64)) (is_block_size (field_number32 bytes 68)) (is_some (first_fault (shape_after (field_number32 bytes 64) (field_number32 bytes 68) (field_number64 bytes 72)))) (nat_lt 256 (field_number16 bytes 80))
    ((bytes_eq-Decides _ _).1 h.signature) (one _ h.version) (one _ h.hash_type) ((bytes_eq-Decides _ _).1 h.algorithm)
    (rw h.data_block (is_true _ h.valid.shape.data_size)) (rw h.hash_block (is_true _ h.valid.shape.hash_size))
    (ap is_some shape) (few _ (omega (arith, h.salt_size, h.valid.salt)))
