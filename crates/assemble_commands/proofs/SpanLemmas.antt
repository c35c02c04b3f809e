-- Spans of the devices beneath a `verity` line of an image.
use Rattle.std.proofs.Common.{◌≡◌, ◌∙◌, ◌+◌, ◌*◌, ◌/◌, ◌≤◌, ◌&&◌, cond, false, ℕ, Bool, List, [], Ok, ap, arith, length, map, subst, sym}
use Rattle.std.specs.List.{concat, slice_index_or}
use Rattle.std.specs.Str.{bytes_eq}
use Rattle.std.proofs.Math.Nat.{mul_comm, zero-mul}
use Rattle.block_device.specs.Device.{Device, IsWhole, run_of}
use Rattle.dm_table.specs.declared.table.Target.TheVariants.{Verity as verity_target}
use Rattle.dm_table.specs.declared.verity.Verity.{Verity}
use Rattle.hash_tree.specs.Tree.{area}
use Rattle.stack_engine.specs.Laws.{formatted_sector, verity_digests}
use Rattle.stack_meaning.specs.Blocks.{hash_sectors}
use Rattle.stack_meaning.specs.Outcomes.{Outcome, part, span, zero_sector}
use Rattle.stack_meaning.proofs.lemmas.SizedLemmas.{AreSized}
use Rattle.stack_rules.specs.Trees.{block_sectors, line_data_sectors, tree_of, zero_block}
use Rattle.tree_shape.specs.Digests.{digest}
use Rattle.tree_shape.specs.Shape.{ShapeRecord, area_blocks, shape_with}
use Rattle.verity_format.specs.Blocks.{blocks_at}
use Rattle.verity_format.specs.Image.{area_over, data_sectors, image_sectors}
use Rattle.verity_format.specs.Line.{verity_line}
use Rattle.verity_format.specs.Superblock.{SuperRecord, shape_of}
use Rattle.verity_format.proofs.lemmas.RunLemmas.{run-blocks}
use Rattle.assemble_commands.specs.DataLaws.{blocks_of}
use Rattle.assemble_commands.proofs.DataLemmas.{blocks-are, data-size-is, hash-size-is, ignores-none, salt-is, start-is}
use Rattle.assemble_commands.proofs.HeldLemmas.{held-span}
use Rattle.assemble_commands.proofs.RootLemmas.{IsAllowed}

-- the data blocks
pub data-span : (at : ℕ → Outcome) → AreSized at → (super : SuperRecord) (data_dev data_part : Device) → IsAllowed super data_dev → IsWhole data_part → span at 0 data_part.size ≡ Ok (concat data_part.image)
    → ((n : ℕ) → n ≤ data_dev.size → run_of data_part.image 0 n ≡ run_of data_dev.image 0 n) → data_dev.size ≤ data_part.size
    → span at 0 (data_sectors (shape_of super)) ≡ Ok (concat (blocks_of super data_dev))
data-span at sized super data_dev data_part may whole all begins room =
    let n : ℕ = super.blocks * (super.data_block / 512) in
    let none : 0 * (super.data_block / 512) ≡ 0 = zero-mul (super.data_block / 512) in
    held-span at sized data_part whole all 0 n (omega (arith, room, may.data_room))
    ∙ ap (λ (run : List (List ℕ)). Ok (concat run)) (begins n may.data_room)
    ∙ ap (λ (k : ℕ). Ok (concat (run_of data_dev.image k n))) (sym none)
    ∙ ap Ok (run-blocks data_dev.image super.data_block 0 super.blocks)

module _ (v : Verity) (super : SuperRecord) (root_hash data_name hash_name : List ℕ) (is : verity_target v ≡ (verity_line super data_name hash_name root_hash 1).target) where
  pub line-sectors : line_data_sectors v ≡ data_sectors (shape_of super)
  line-sectors =
      ap (λ (n : ℕ). n * (v.data_block / 512)) (blocks-are v super root_hash data_name hash_name is)
      ∙ ap (λ (n : ℕ). super.blocks * (n / 512)) (data-size-is v super root_hash data_name hash_name is)

  tree-is : tree_of v ≡ shape_of super
  tree-is =
      ap (λ (n : ℕ). shape_with n v.hash_block v.blocks v.start) (data-size-is v super root_hash data_name hash_name is)
      ∙ ap (λ (n : ℕ). shape_with super.data_block n v.blocks v.start) (hash-size-is v super root_hash data_name hash_name is)
      ∙ ap (λ (n : ℕ). shape_with super.data_block super.hash_block n v.start) (blocks-are v super root_hash data_name hash_name is)
      ∙ ap (λ (n : ℕ). shape_with super.data_block super.hash_block super.blocks n) (start-is v super root_hash data_name hash_name is)

  -- no block is ignored
  pub shows-all : (blocks : List (List ℕ)) (w : ℕ) → formatted_sector v blocks w ≡ part (concat blocks) w
  shows-all blocks w =
      ap (λ (ignores : Bool). cond (ignores && bytes_eq (digest v.salt (zero_block v)) (digest v.salt (slice_index_or blocks (w / block_sectors v) []))) zero_sector (part (concat blocks) w))
      (ignores-none v super root_hash data_name hash_name is)

  -- the tree
  module _ (at : ℕ → Outcome) (sized : AreSized at) (hash_part : Device) (whole : IsWhole hash_part) (all : span at 0 hash_part.size ≡ Ok (concat hash_part.image)) (room : image_sectors (shape_of super) ≤ hash_part.size)
      (data_dev : Device) (tree : blocks_at hash_part.image super.hash_block 1 (area_blocks (shape_of super)) ≡ area_over (shape_of super) super.salt data_dev.image) where
    abbrev k : ℕ
    k = super.hash_block / 512

    abbrev count : ℕ
    count = area_blocks (shape_of super)

    first-is : hash_sectors v * v.start ≡ 1 * k
    first-is =
        let one : k * 1 ≡ 1 * k = omega arith in
        ap (λ (n : ℕ). n / 512 * v.start) (hash-size-is v super root_hash data_name hash_name is) ∙ ap (λ (n : ℕ). k * n) (start-is v super root_hash data_name hash_name is) ∙ one

    count-is : hash_sectors v * area_blocks (tree_of v) ≡ count * k
    count-is =
        ap (λ (n : ℕ). n / 512 * area_blocks (tree_of v)) (hash-size-is v super root_hash data_name hash_name is)
        ∙ ap (λ (s : ShapeRecord). k * area_blocks s) tree-is
        ∙ mul_comm k count

    inside : 1 * k + count * k ≤ hash_part.size
    inside =
        let spread : (1 + count) * k ≡ 1 * k + count * k = grind arith in
        omega (arith, room, spread)

    area-is : area_over (shape_of super) super.salt data_dev.image ≡ area v.hash_block v.salt (verity_digests v (blocks_of super data_dev))
    area-is =
        ap (λ (n : ℕ). area n super.salt (map (digest super.salt) (blocks_of super data_dev))) (sym (hash-size-is v super root_hash data_name hash_name is))
        ∙ ap (λ (salt : List ℕ). area v.hash_block salt (map (digest salt) (blocks_of super data_dev))) (sym (salt-is v super root_hash data_name hash_name is))

    pub tree-span : span at (hash_sectors v * v.start) (hash_sectors v * area_blocks (tree_of v)) ≡ Ok (concat (area v.hash_block v.salt (verity_digests v (blocks_of super data_dev))))
    tree-span =
        ap (λ (f : ℕ). span at f (hash_sectors v * area_blocks (tree_of v))) first-is
        ∙ ap (λ (n : ℕ). span at (1 * k) n) count-is
        ∙ held-span at sized hash_part whole all (1 * k) (count * k) inside
        ∙ ap Ok (run-blocks hash_part.image super.hash_block 1 count)
        ∙ ap (λ (blocks : List (List ℕ)). Ok (concat blocks)) (tree ∙ area-is)
