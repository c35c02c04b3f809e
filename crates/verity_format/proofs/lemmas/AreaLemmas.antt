-- The area of a tree over a data image.
use Rattle.std.proofs.Common.{◌≡◌, ℕ, List, length, ◌∙◌}
use Rattle.std.proofs.lemmas.List.{length-map}
use Rattle.std.proofs.lemmas.List.Elements.{All-map}
use Rattle.std.proofs.lemmas.List.FromFn.{length-map-range_with_len}
use Rattle.tree_shape.specs.Digests.{digest}
use Rattle.tree_shape.specs.Shape.{ShapeRecord, IsShape}
use Rattle.hash_tree.specs.Laws.{StandsInShape}
use Rattle.hash_tree.proofs.lemmas.TreeLemmas.{length-digest}
use Rattle.hash_tree.proofs.lemmas.LawLemmas.{stands-in_shape}
use Rattle.verity_format.specs.Blocks.{block_at, blocks_at}
use Rattle.verity_format.specs.Image.{digests_of}

-- the tree over a data image has the shape's blocks
pub area-stands : (s : ShapeRecord) → IsShape s → (salt : List ℕ) (image : List (List ℕ)) → StandsInShape s salt (digests_of s salt image)
area-stands s valid salt image =
    stands-in_shape s valid salt (digests_of s salt image)
    (record {
      count = length-map (blocks_at image s.data_block 0 s.blocks) (digest salt) ∙ length-map-range_with_len (block_at image s.data_block) 0 s.blocks;
      sized = All-map (λ d. length d ≡ 32) (digest salt) (blocks_at image s.data_block 0 s.blocks) (λ k d inside. length-digest salt _);
    })
