-- What formatting leaves is an image with the tree over its data.
use Rattle.std.proofs.Common.{◌≡◌, ◌≤◌, ◌<◌, ◌+◌, ◌-◌, ◌*◌, ◌/◌, ℕ, All, List, ◌++◌, length, take, drop, replicate, sym, ap, ◌∙◌, subst, arith, length-append}
use Rattle.std.specs.List.{concat}
use Rattle.std.proofs.lemmas.List.{append_assoc, drop_at, length-replicate, take_all, take_at}
use Rattle.std.proofs.lemmas.List.Elements.{All-append, All-drop}
use Rattle.block_device.specs.Device.{IsSector, run_of, sectors_of as cut_into}
use Rattle.block_device.specs.Whole.{each-sectors_of, length-sectors_of}
use Rattle.block_device.proofs.lemmas.SectorLemmas.{concat-sectors_of, sectors_of-append}
use Rattle.tree_shape.specs.Shape.{area_blocks}
use Rattle.hash_tree.specs.Laws.{StandsInShape}
use Rattle.hash_tree.specs.Tree.{cut}
use Rattle.hash_tree.proofs.lemmas.PackingLemmas.{cut-concat, length-concat}
use Rattle.verity_format.specs.Blocks.{blocks_at}
use Rattle.verity_format.specs.Image.{area_over, digests_of, first_block, formatted, image_sectors}
use Rattle.verity_format.specs.Superblock.{SuperRecord, IsSuperblock, shape_of, spelling}
use Rattle.verity_format.proofs.lemmas.AreaLemmas.{area-stands}
use Rattle.verity_format.proofs.lemmas.RunLemmas.{blocks-sized, run-blocks}
use Rattle.verity_format.proofs.lemmas.SizeLemmas.{block-size}
use Rattle.verity_format.proofs.lemmas.SpellingLemmas.{carried-spelling}
use Rattle.tree_repair.specs.WithinParity.{FormattedImagesAreFormer}

module _ (s : SuperRecord) (valid : IsSuperblock s) (data_image hash_image : List (List ℕ)) where
  abbrev sectors : ℕ
  sectors = s.hash_block / 512

  abbrev count : ℕ
  count = area_blocks (shape_of s)

  abbrev tree : List (List ℕ)
  tree = area_over (shape_of s) s.salt data_image

  abbrev bytes : List ℕ
  bytes = concat tree

  abbrev whole : List (List ℕ)
  whole = formatted s data_image hash_image

  abbrev rest : List (List ℕ)
  rest = drop (0 + length (cut_into (image_sectors (shape_of s)) (first_block s ++ bytes))) hash_image

  stands : StandsInShape (shape_of s) s.salt (digests_of (shape_of s) s.salt data_image)
  stands = area-stands (shape_of s) valid.shape s.salt data_image

  size-is : s.hash_block ≡ 512 * sectors
  size-is = (block-size s.hash_block valid.shape.hash_size).sectors

  first-long : length (first_block s) ≡ 512 * sectors
  first-long =
      length-append (spelling s) (replicate (s.hash_block - 512) 0)
      ∙ omega (arith, (carried-spelling s valid).size, length-replicate {A = ℕ} (s.hash_block - 512) 0, size-is, (block-size s.hash_block valid.shape.hash_size).least_bytes)

  bytes-long : length bytes ≡ 512 * (count * sectors)
  bytes-long =
      let spread : 512 * sectors * count ≡ 512 * (count * sectors) = grind arith in
      length-concat s.hash_block tree stands.sized ∙ ap (λ (n : ℕ). s.hash_block * n) stands.total ∙ ap (λ (n : ℕ). n * count) size-is ∙ spread

  image-is : image_sectors (shape_of s) ≡ sectors + count * sectors
  image-is = grind arith

  -- hash block 0, the tree, and what else was stored there
  parts : whole ≡ cut_into sectors (first_block s) ++ (cut_into (count * sectors) bytes ++ rest)
  parts =
      ap (λ (n : ℕ). cut_into n (first_block s ++ bytes) ++ rest) image-is
      ∙ ap (λ (l : List (List ℕ)). l ++ rest) (sectors_of-append sectors (count * sectors) (first_block s) bytes first-long)
      ∙ append_assoc (cut_into sectors (first_block s)) (cut_into (count * sectors) bytes) rest

  -- the tree's bytes
  run-is : concat (run_of whole (1 * sectors) (count * sectors)) ≡ bytes
  run-is =
      let one : 1 * sectors ≡ sectors = omega arith in
      ap (λ (n : ℕ). concat (take (count * sectors) (drop n whole))) one
      ∙ ap (λ (l : List (List ℕ)). concat (take (count * sectors) (drop sectors l))) parts
      ∙ ap (λ (l : List (List ℕ)). concat (take (count * sectors) l))
      (drop_at (cut_into sectors (first_block s)) (cut_into (count * sectors) bytes ++ rest) sectors (length-sectors_of sectors (first_block s)))
      ∙ ap concat (take_at (cut_into (count * sectors) bytes) rest (count * sectors) (length-sectors_of (count * sectors) bytes))
      ∙ concat-sectors_of (count * sectors) bytes
      ∙ take_all (512 * (count * sectors)) bytes (omega (arith, bytes-long))

  -- and its blocks, of whole sectors
  module _ (each : All IsSector hash_image) where
    each-sector : All IsSector whole
    each-sector =
        subst (All IsSector) (sym parts)
        (All-append IsSector (cut_into sectors (first_block s)) (cut_into (count * sectors) bytes ++ rest) (each-sectors_of sectors (first_block s) (omega (arith, first-long)))
        (All-append IsSector (cut_into (count * sectors) bytes) rest (each-sectors_of (count * sectors) bytes (omega (arith, bytes-long))) (All-drop IsSector _ hash_image each)))

    room : (1 + count) * sectors ≤ length whole
    room =
        let long : length whole ≡ sectors + (count * sectors + length rest) =
        ap (λ (l : List (List ℕ)). length l) parts ∙ length-append (cut_into sectors (first_block s)) (cut_into (count * sectors) bytes ++ rest)
        ∙ omega (arith, length-sectors_of sectors (first_block s), length-append (cut_into (count * sectors) bytes) rest, length-sectors_of (count * sectors) bytes) in
        omega (arith, long, image-is)

    tree-stands : blocks_at whole s.hash_block 1 count ≡ tree
    tree-stands =
        let some : 0 < s.hash_block = (block-size s.hash_block valid.shape.hash_size).some in
        sym (cut-concat s.hash_block (blocks_at whole s.hash_block 1 count) some (blocks-sized whole s.hash_block valid.shape.hash_size each-sector 1 count room))
        ∙ ap (cut s.hash_block) (sym (run-blocks whole s.hash_block 1 count) ∙ run-is)
        ∙ cut-concat s.hash_block tree some stands.sized

pub fresh-former : FormattedImagesAreFormer
fresh-former s valid data_dev hash_dev data_dev' hash_dev' data_whole hash_whole data_steady hash_steady fit root made = record {
  sectors = data_whole.sectors;
  data_fits = omega (arith, fit, data_whole.length);
  root_is = made.digest data_steady;
  tree_is = ap (λ (image : List (List ℕ)). blocks_at image s.hash_block 1 (area_blocks (shape_of s))) (made.image data_steady hash_steady)
      ∙ tree-stands s valid data_dev.image hash_dev.image hash_whole.sectors;
}
