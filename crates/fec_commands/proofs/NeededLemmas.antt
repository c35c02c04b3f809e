-- How many sectors the parity takes of an image that is to be made.
use Rattle.std.proofs.Common.{◌≡◌, ℕ, ◌+◌, ◌-◌, ◌*◌, ◌/◌, ◌^◌, ◌≤◌, min, ap, sym, arith, inl, inr, ◌∙◌}
use Rattle.std.specs.Int.{div_ceil}
use Rattle.fec_area.specs.declared.layout.Layout.{Layout}
use Rattle.fec_area.specs.Layouts.{IsLayoutOf, covered_blocks, parity_sectors}
use Rattle.tree_shape.specs.Shape.{IsShape, ShapeRecord, area_blocks}
use Rattle.verity_format.proofs.lemmas.SizeLemmas.{block-size, tree-end}
use Rattle.verity_format.specs.Image.{image_sectors}
use Rattle.fec_commands.specs.Needed.{TakesSectors}

-- a hash image at the first sector of its file has at most 2^54 sectors
pub image-small : (s : ShapeRecord) → IsShape s → s.start ≡ 1 → image_sectors s ≤ 2 ^ 54
image-small s valid one =
    let k = s.hash_block / 512 in
    let parts : (1 + area_blocks s) * k ≡ 1 * k + area_blocks s * k = grind arith in
    let front : s.start * k ≡ 1 * k = ap (λ n. n * k) one in
    elim (tree-end s) [
      | inl end ↦ omega (arith, parts, front, end, valid.tree_fits)
      | inr none ↦ let alone : area_blocks s * k ≡ 0 * k = ap (λ n. n * k) none.1 in omega (arith, parts, alone, (block-size s.hash_block valid.hash_size).most)
    ]

-- all layouts of one shape take as many sectors
layouts-one : (s : ShapeRecord) (sectors roots : ℕ) (l m : Layout) → IsLayoutOf s sectors roots l → IsLayoutOf s sectors roots m → parity_sectors l ≡ parity_sectors m
layouts-one s sectors roots l m a b =
    let blocks : l.block ≡ m.block = a.data_size ∙ sym b.data_size in
    let all : sectors / (l.block / 512) ≡ sectors / (m.block / 512) = ap (λ n. sectors / (n / 512)) blocks in
    let first : l.hash_first ≡ m.hash_first = a.first ∙ (ap (min s.start) all ∙ sym b.first) in
    let end : l.hash_first + l.hash_blocks ≡ m.hash_first + m.hash_blocks = a.to_end ∙ (all ∙ sym b.to_end) in
    let covered : covered_blocks l ≡ covered_blocks m = omega (arith, a.data_blocks, b.data_blocks, first, end) in
    ap (λ n. div_ceil n (255 - l.roots) * (l.roots * (l.block / 512))) covered
    ∙ (ap (λ n. div_ceil (covered_blocks m) (255 - n) * (n * (l.block / 512))) (a.roots_are ∙ sym b.roots_are)
    ∙ ap (λ n. div_ceil (covered_blocks m) (255 - m.roots) * (m.roots * (n / 512))) blocks)

pub takes-one : (s : ShapeRecord) (sectors roots n m : ℕ) → TakesSectors s sectors roots n → TakesSectors s sectors roots m → n ≡ m
takes-one s sectors roots n m a b = a.value ∙ (layouts-one s sectors roots a.layout b.layout a.is b.is ∙ sym b.value)
