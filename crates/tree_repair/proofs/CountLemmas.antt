-- How many blocks are noted at most.
use Rattle.std.proofs.Common.{◌≡◌, ◌≤◌, ◌<◌, ◌+◌, ◌-◌, ◌^◌, ℕ, zero, suc, sym, ap, ◌∙◌, arith, add-one}
use Rattle.std.proofs.Math.Nat.{pow-zero}
use Rattle.std.specs.Prelude.{sum_by}
use Rattle.std.specs.Int.{div_ceil}
use Rattle.std.specs.List.{range_with_len}
use Rattle.tree_shape.specs.Shape.{ShapeRecord, IsShape, level_blocks, levels, per_block}
use Rattle.tree_repair.specs.declared.bad.BadBlocks.{BadBlocks}
use Rattle.tree_repair.specs.declared.place.Row.{Row}
use Rattle.tree_repair.specs.ParityBounds.{NotesInRow, blocks_over, image_blocks}
use Rattle.tree_repair.proofs.HeightLemmas.{area-is, level-is, sum-next}
use Rattle.tree_repair.proofs.OverLemmas.{ceil-more, ceil-next, ceil-one, power-some}

-- over fewer data blocks there are no more
pub count-fewer : (s : ShapeRecord) → IsShape s → (h n m : ℕ) → n ≤ m → blocks_over s h n ≤ blocks_over s h m
count-fewer s valid h n m less = ceil-more (per_block s ^ h) (power-some s valid h) n m less

-- one block more
pub count-next : (s : ShapeRecord) → IsShape s → (h n : ℕ) → 0 < n → suc (blocks_over s h (n - per_block s ^ h)) ≤ blocks_over s h n
count-next s valid h n some = ceil-next (per_block s ^ h) (power-some s valid h) n some

-- none of a row is noted
pub row-unnoted : (s : ShapeRecord) → IsShape s → (row : Row) (b : BadBlocks) → NotesInRow s row b b
row-unnoted s valid row b = omega (arith, count-fewer s valid row.height (s.blocks - row.first - per_block s ^ (row.height + 1)) (s.blocks - row.first) (omega arith))

-- ---- all heights

-- the blocks of all heights beneath one
abbrev pub counts_over : ShapeRecord → ℕ → ℕ
counts_over s zero = 0
counts_over s (suc h) = blocks_over s h s.blocks + counts_over s h

pub count-down : (s : ShapeRecord) (height h : ℕ) → height ≡ suc h → counts_over s height ≡ blocks_over s h s.blocks + counts_over s h
count-down s height h up = ap (counts_over s) up

count-data : (s : ShapeRecord) (n : ℕ) → blocks_over s 0 n ≡ n
count-data s n = ap (λ (d : ℕ). div_ceil n d) (pow-zero (per_block s)) ∙ ceil-one n

counts-up : (s : ShapeRecord) (h : ℕ) → counts_over s (suc h) ≡ s.blocks + sum_by (level_blocks s) (range_with_len 0 h)
counts-up s zero = omega (arith, count-data s s.blocks)
counts-up s (suc h) = omega (arith, counts-up s h, sum-next (level_blocks s) h, level-is s h)

pub counts-all : (s : ShapeRecord) → counts_over s (levels s + 1) ≡ image_blocks s
counts-all s = ap (counts_over s) (add-one (levels s)) ∙ counts-up s (levels s) ∙ ap (λ (n : ℕ). s.blocks + n) (sym (area-is s))
