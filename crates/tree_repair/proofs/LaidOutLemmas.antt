-- Parity that is laid out for a tree covers it.
use Rattle.std.proofs.Common.{◌≡◌, ◌≤◌, ◌<◌, ◌+◌, ◌-◌, ◌*◌, ◌/◌, ℕ, suc, add-one, sym, ap, ◌∙◌, subst, arith}
use Rattle.std.proofs.lemmas.Nat.{le-div}
use Rattle.fec_area.specs.declared.layout.Layout.{Layout}
use Rattle.fec_area.specs.Layouts.{IsLayoutOf, IsOfHash, covered_blocks}
use Rattle.fec_area.proofs.LayoutLemmas.{covered-hash}
use Rattle.hash_tree.proofs.lemmas.LawLemmas.{places-inside}
use Rattle.tree_shape.specs.Shape.{ShapeRecord, IsShape, ancestor, area_end, levels, position}
use Rattle.tree_shape.proofs.lemmas.ShapeFactLemmas.{ancestor-lt}
use Rattle.verity_format.proofs.lemmas.SizeLemmas.{block-size}
use Rattle.verity_format.specs.Blocks.{block_at}
use Rattle.verity_format.specs.Image.{tree_sectors}
use Rattle.tree_repair.specs.Parity.{IsCoveredAt, IsPlace}
use Rattle.tree_repair.specs.WithinParity.{LaidOutParityCoversTheTree}

module _ (s : ShapeRecord) (hash_sectors roots : ℕ) (l : Layout) (is : IsLayoutOf s hash_sectors roots l) (fits : tree_sectors s ≤ hash_sectors) where
  -- the hash device has at least the blocks up to the tree's end
  end-on : IsShape s → area_end s ≤ hash_sectors / (l.block / 512)
  end-on valid =
      let sectors : area_end s * (l.block / 512) ≤ hash_sectors = subst (λ (n : ℕ). area_end s * (n / 512) ≤ hash_sectors) (sym is.hash_size) fits in
      let some : 0 < l.block / 512 = subst (λ (n : ℕ). 0 < n / 512) (sym is.hash_size) (omega (arith, (block-size s.hash_block valid.hash_size).least)) in
      le-div (area_end s) hash_sectors (l.block / 512) some sectors

  -- each block from the tree's first one to its last is covered
  hash-at : IsShape s → (m : ℕ) → s.start ≤ m → m < area_end s → (k : ℕ) × IsOfHash l m k
  hash-at valid m low high =
      let k : ℕ = l.data_blocks + (m - l.hash_first) in
      let inside : k < covered_blocks l = omega (arith, is.first, is.to_end, low, high, end-on valid) in
      let number : l.hash_first + (k - l.data_blocks) ≡ m = omega (arith, is.first, low) in (
        k,
        record {
          is_covered = inside;
          bytes = λ data_image hash_image. covered-hash l data_image hash_image k (omega arith) inside ∙ ap (block_at hash_image l.block) number;
        },
      )

  covers-place : (h i : ℕ) → IsPlace s (h + 1) i → (k : ℕ) × IsCoveredAt s l (h + 1) i k
  covers-place h i place =
      let above : ℕ = ancestor s (h + 1) i in
      let below : h < levels s = omega (arith, place.high) in
      let inside = places-inside s place.valid h above (below, ancestor-lt s place.valid h i place.inside) in
      let found : (k : ℕ) × IsOfHash l (position s h above) k = hash-at place.valid (position s h above) inside.0 (omega (arith, inside.1)) in
      let at : IsCoveredAt s l (suc h) i found.0 = record {
        place = record { valid = place.valid; inside = place.inside; high = omega (arith, below) };
        size = is.hash_size;
        inside = found.1.is_covered;
        is = found.1;
      } in
      (found.0, subst (λ (n : ℕ). IsCoveredAt s l n i found.0) (sym (add-one h)) at)

pub laid-out-covers : LaidOutParityCoversTheTree
laid-out-covers s hash_sectors roots l is fits =
    (record { data_size = is.data_size; hash_size = is.hash_size }, record { covers = covers-place s hash_sectors roots l is fits; data_blocks = is.data_blocks })
