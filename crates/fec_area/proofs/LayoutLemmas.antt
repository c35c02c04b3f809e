-- Sizes of rounds, and the blocks that are covered.
use Rattle.std.proofs.Common.{◌≡◌, ℕ, ◌+◌, ◌-◌, ◌*◌, ◌/◌, ◌<◌, ◌≤◌, ◌^◌, suc, List, [], Bool, true, false, cond, nat_lt, min, ◌%◌, IsTrue, refl, subst, sym, ap, ◌∙◌, arith}
use Rattle.std.proofs.Math.Nat.{mul-le-mul_right, mul-le-mul_left, div-le_self, div-mul-le_self, mul-mod_right}
use Rattle.std.proofs.lemmas.Bool.{lt-ltb, le-ltb}
use Rattle.tree_shape.specs.Shape.{IsShape, ShapeRecord, is_block_size}
use Rattle.verity_format.specs.Blocks.{block_at}
use Rattle.verity_format.proofs.lemmas.SizeLemmas.{block-size}
use Rattle.fec_area.specs.declared.layout.Layout.{Layout}
use Rattle.fec_area.specs.Layouts.{IsLayout, IsLayoutOf, covered, covered_blocks, parity_sectors, round_bytes, code_rounds}

if-then : (b : Bool) (x y : List ℕ) → b ≡ true → cond b x y ≡ x
if-then b x y e = ap (λ v. cond v x y) e

if-else : (b : Bool) (x y : List ℕ) → b ≡ false → cond b x y ≡ y
if-else b x y e = ap (λ v. cond v x y) e

-- a data block
pub covered-data : (l : Layout) (d h : List (List ℕ)) (j : ℕ) → j < l.data_blocks → covered l d h j ≡ block_at d l.block j
covered-data l d h j lt = if-then (nat_lt j l.data_blocks) _ _ (lt-ltb j l.data_blocks lt)

-- a block of the hash device
pub covered-hash : (l : Layout) (d h : List (List ℕ)) (j : ℕ) → l.data_blocks ≤ j → j < covered_blocks l → covered l d h j ≡ block_at h l.block (l.hash_first + (j - l.data_blocks))
covered-hash l d h j le lt = if-else (nat_lt j l.data_blocks) _ _ (le-ltb j l.data_blocks le) ∙ if-then (nat_lt j (covered_blocks l)) _ _ (lt-ltb j (covered_blocks l) lt)

-- past the last one
pub covered-past : (l : Layout) (d h : List (List ℕ)) (j : ℕ) → covered_blocks l ≤ j → covered l d h j ≡ []
covered-past l d h j le = if-else (nat_lt j l.data_blocks) _ _ (le-ltb j l.data_blocks (omega (arith, le))) ∙ if-else (nat_lt j (covered_blocks l)) _ _ (le-ltb j (covered_blocks l) le)

-- the sectors of a round's parity
pub round-sectors : (l : Layout) → IsLayout l → round_bytes l ≡ 512 * (l.roots * (l.block / 512))
round-sectors l valid =
    let size = (block-size l.block valid.size).sectors in
    let swap : l.roots * (512 * (l.block / 512)) ≡ 512 * (l.roots * (l.block / 512)) = grind arith in
    ap (λ n. l.roots * n) size ∙ swap

pub round-quotient : (l : Layout) (n : ℕ) → IsLayout l → n ≡ round_bytes l → n / 512 ≡ l.roots * (l.block / 512)
round-quotient l n valid is = let e = is ∙ round-sectors l valid in omega (arith, e)

-- a round's parity lies within all of it
pub round-room : (l : Layout) (round : ℕ) → round < code_rounds l → round * (l.roots * (l.block / 512)) + l.roots * (l.block / 512) ≤ parity_sectors l
round-room l round h =
    let k = l.roots * (l.block / 512) in
    let up : suc round * k ≤ code_rounds l * k = mul-le-mul_right k h in
    let next : suc round * k ≡ round * k + k = grind arith in
    omega (arith, up, next)

-- the number of a covered block fits
pub index-small : (place round count : ℕ) → place < 255 → round < count → count < 2 ^ 56 → place * count + round < 2 ^ 64
index-small place round count h inside small =
    let one : place * count ≤ 254 * count = mul-le-mul_right count (omega (arith, h)) in
    omega (arith, one, inside, small)

-- so many blocks, where they take few sectors
few-blocks : (n size : ℕ) → IsTrue (is_block_size size) → n * (size / 512) ≤ 2 ^ 54 → n ≤ 2 ^ 54
few-blocks n size valid h =
    let up : n * 1 ≤ n * (size / 512) = mul-le-mul_left n (block-size size valid).least in
    omega (arith, up, h)

pub layout-small : (l : Layout) → IsLayout l → (l.data_blocks ≤ 2 ^ 54) × (l.hash_first + l.hash_blocks ≤ 2 ^ 54)
layout-small l valid = (few-blocks l.data_blocks l.block valid.size valid.data_small, few-blocks (l.hash_first + l.hash_blocks) l.block valid.size valid.hash_small)

pub covered-small : (l : Layout) → IsLayout l → l.data_blocks + l.hash_blocks ≤ 2 ^ 55
covered-small l valid = omega (arith, (layout-small l valid).0, (layout-small l valid).1)

pub rounds-small : (l : Layout) → IsLayout l → code_rounds l < 2 ^ 56
rounds-small l valid =
    let n = l.data_blocks + l.hash_blocks in
    let value : code_rounds l ≡ n / (255 - l.roots) + min 1 (n % (255 - l.roots)) = refl in
    omega (arith, value, div-le_self n (255 - l.roots), covered-small l valid)

-- the bytes and sectors of a round's parity
pub round-small : (l : Layout) → IsLayout l → round_bytes l ≤ 2 ^ 17
round-small l valid =
    let b = block-size l.block valid.size in
    let one : l.roots * l.block ≤ 24 * l.block = mul-le-mul_right l.block valid.few in
    omega (arith, one, b.most_bytes)

pub round_sectors-small : (l : Layout) → IsLayout l → l.roots * (l.block / 512) ≤ 192
round_sectors-small l valid =
    let b = block-size l.block valid.size in
    let one : l.roots * (l.block / 512) ≤ 24 * (l.block / 512) = mul-le-mul_right (l.block / 512) valid.few in
    omega (arith, one, b.most)

pub parity-small : (l : Layout) → IsLayout l → parity_sectors l < 2 ^ 64
parity-small l valid =
    let one : code_rounds l * (l.roots * (l.block / 512)) ≤ code_rounds l * 192 = mul-le-mul_left (code_rounds l) (round_sectors-small l valid) in
    omega (arith, one, rounds-small l valid)

-- a block of a device lies on it
pub block-fits : (i n s : ℕ) → i < n → i * s + s ≤ n * s
block-fits i n s h =
    let up : suc i * s ≤ n * s = mul-le-mul_right s h in
    let next : suc i * s ≡ i * s + s = grind arith in
    omega (arith, up, next)

-- a round has a sector of parity
pub round-some : (l : Layout) → IsLayout l → 1 ≤ l.roots * (l.block / 512)
round-some l valid =
    let one : l.roots * 1 ≤ l.roots * (l.block / 512) = mul-le-mul_left l.roots (block-size l.block valid.size).least in
    omega (arith, one, valid.some)

pub whole-sectors : (n : ℕ) → 512 * n % 512 ≡ 0
whole-sectors n = mul-mod_right 512 n

-- the layout of a shape is one
pub layout-valid : (s : ShapeRecord) (sectors roots : ℕ) (l : Layout) → IsShape s → 2 ≤ roots → roots ≤ 24 → sectors ≤ 2 ^ 54 → IsLayoutOf s sectors roots l → IsLayout l
layout-valid s sectors roots l valid some few small is =
    let k = l.block / 512 in
    let data_is : l.data_blocks * k ≡ s.blocks * (s.data_block / 512) = ap (λ n. n * k) is.data_blocks ∙ ap (λ n. s.blocks * (n / 512)) is.data_size in
    let hash_is : (l.hash_first + l.hash_blocks) * k ≡ sectors / k * k = ap (λ n. n * k) is.to_end in
    record {
      size = subst (λ n. IsTrue (is_block_size n)) (sym is.hash_size) valid.hash_size;
      some = omega (arith, is.roots_are, some);
      few = omega (arith, is.roots_are, few);
      data_small = omega (arith, data_is, valid.data_fits);
      hash_small = omega (arith, hash_is, div-mul-le_self sectors k, small);
    }
