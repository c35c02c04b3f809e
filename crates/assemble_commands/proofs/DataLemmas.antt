-- The sectors of DATA, read through a `verity` line of its image.
use Rattle.std.proofs.Common.{◌≡◌, ◌≢◌, ◌∙◌, ◌+◌, ◌-◌, ◌*◌, ◌/◌, ◌%◌, ◌<◌, ◌≤◌, ℕ, All, IsTrue, List, [], ap, arith, drop, false, get_or, length, map, refl, subst, sym, take}
use Rattle.std.specs.Prelude.{None, Some}
use Rattle.std.specs.List.{concat}
use Rattle.std.specs.Option.{option_map_or}
use Rattle.std.proofs.Math.Nat.{zero-mul}
use Rattle.std.proofs.lemmas.List.{get_or-drop, get_or-take, length-drop, length-take-le}
use Rattle.std.proofs.lemmas.List.Elements.{All-drop, All-take}
use Rattle.std.proofs.lemmas.Nat.{div_below}
use Rattle.block_device.specs.Device.{Device, IsSector, IsWhole, run_of}
use Rattle.dm_table.specs.declared.table.Target.{Target}
use Rattle.dm_table.specs.declared.table.Target.TheVariants.{Verity as verity_target}
use Rattle.dm_table.specs.declared.verity.Verity.{Verity}
use Rattle.hash_tree.specs.Laws.{AreBlocks}
use Rattle.hash_tree.specs.Tree.{root}
use Rattle.stack_config.proofs.lemmas.VerityLineLemmas.{verity-line}
use Rattle.stack_engine.specs.Laws.{verity_digests}
use Rattle.stack_engine.proofs.lemmas.FormattedLemmas.{block-concat, part-concat}
use Rattle.stack_meaning.specs.Meaning.{content_part}
use Rattle.stack_meaning.specs.Outcomes.{part}
use Rattle.stack_meaning.proofs.lemmas.BlockSizeLemmas.{whole-sectors}
use Rattle.stack_meaning.proofs.lemmas.EachLineLemmas.{line_at-end, line_at-is}
use Rattle.stack_meaning.proofs.lemmas.LineLemmas.{line-start}
use Rattle.stack_rules.specs.Records.{Configuration}
use Rattle.stack_rules.specs.Rules.{IsLoaded}
use Rattle.stack_rules.specs.Trees.{block_sectors, verity_of}
use Rattle.tree_shape.specs.Digests.{digest}
use Rattle.verity_format.specs.Image.{root_over}
use Rattle.verity_format.specs.Line.{verity_line}
use Rattle.verity_format.specs.Superblock.{SuperRecord, shape_of}
use Rattle.verity_format.proofs.lemmas.RunLemmas.{run-blocks}
use Rattle.assemble_commands.specs.DataLaws.{LiesInImageLine, blocks_of, sector_of}
use Rattle.assemble_commands.proofs.RootLemmas.{IsAllowed, data-blocks}

-- ---- the arguments of the line

module _ (v : Verity) (super : SuperRecord) (root_hash data_name hash_name : List ℕ) (is : verity_target v ≡ (verity_line super data_name hash_name root_hash 1).target) where
  pub data-size-is : v.data_block ≡ super.data_block
  data-size-is = ap (λ (t : Target). option_map_or (λ (x : Verity). x.data_block) (verity_of t) 0) is

  pub hash-size-is : v.hash_block ≡ super.hash_block
  hash-size-is = ap (λ (t : Target). option_map_or (λ (x : Verity). x.hash_block) (verity_of t) 0) is

  pub blocks-are : v.blocks ≡ super.blocks
  blocks-are = ap (λ (t : Target). option_map_or (λ (x : Verity). x.blocks) (verity_of t) 0) is

  pub start-is : v.start ≡ 1
  start-is = ap (λ (t : Target). option_map_or (λ (x : Verity). x.start) (verity_of t) 0) is

  pub salt-is : v.salt ≡ super.salt
  salt-is = ap (λ (t : Target). option_map_or (λ (x : Verity). x.salt) (verity_of t) []) is

  pub root-is : v.root ≡ root_hash
  root-is = ap (λ (t : Target). option_map_or (λ (x : Verity). x.root) (verity_of t) []) is

  pub ignores-none : v.ignore_zero_blocks ≡ false
  ignores-none = ap (λ (t : Target). option_map_or (λ (x : Verity). x.ignore_zero_blocks) (verity_of t) false) is

  pub data-name-is : v.«data» ≡ data_name
  data-name-is = ap (λ (t : Target). option_map_or (λ (x : Verity). x.«data») (verity_of t) []) is

  pub hash-name-is : v.hash ≡ hash_name
  hash-name-is = ap (λ (t : Target). option_map_or (λ (x : Verity). x.hash) (verity_of t) []) is

  -- the line has the blocks of a device, and its root hash
  module _ (device : Device) (whole : IsWhole device) (may : IsAllowed super device) (hash_is : root_hash ≡ root_over (shape_of super) super.salt device.image) where
    pub line-blocks : AreBlocks v.blocks v.data_block (blocks_of super device)
    line-blocks =
        subst (λ (n : ℕ). AreBlocks n v.data_block (blocks_of super device)) (sym blocks-are)
        (subst (λ (n : ℕ). AreBlocks super.blocks n (blocks_of super device)) (sym data-size-is) (data-blocks super device whole may))

    pub line-root : v.root ≡ root v.hash_block v.salt (verity_digests v (blocks_of super device))
    line-root =
        root-is ∙ hash_is
        ∙ ap (λ (n : ℕ). root n super.salt (map (digest super.salt) (blocks_of super device))) (sym hash-size-is)
        ∙ ap (λ (salt : List ℕ). root v.hash_block salt (map (digest salt) (blocks_of super device))) (sym salt-is)

    -- a sector of the blocks is that of the device
    module _ (w : ℕ) (low : w < super.blocks * (super.data_block / 512)) where
      abbrev sectors : ℕ
      sectors = super.blocks * (super.data_block / 512)

      abbrev first : ℕ
      first = 0 * (super.data_block / 512)

      pub sector-concat : part (concat (blocks_of super device)) w ≡ sector_of device w
      sector-concat =
          let none : first ≡ 0 = zero-mul (super.data_block / 512) in
          let run : List (List ℕ) = run_of device.image first sectors in
          let count : length run ≡ sectors = length-take-le sectors (drop first device.image) (omega (arith, none, length-drop first device.image, whole.length, may.data_room)) in
          let sized : All IsSector run = All-take IsSector sectors (drop first device.image) (All-drop IsSector first device.image whole.sectors) in
          let at : first + w ≡ w = omega (arith, none) in
          ap (λ (b : List ℕ). part b w) (sym (run-blocks device.image super.data_block 0 super.blocks))
          ∙ block-concat 512 run w sized (omega (arith, low, count))
          ∙ get_or-take sectors (drop first device.image) w [] low
          ∙ get_or-drop first device.image w []
          ∙ ap (λ (k : ℕ). get_or device.image k []) at

      pub sector-part : content_part v w (get_or (blocks_of super device) (w / block_sectors v) []) ≡ sector_of device w
      sector-part =
          let facts = whole-sectors super.data_block may.shape.data_size in
          let unit : block_sectors v ≡ super.data_block / 512 = ap (λ (n : ℕ). n / 512) data-size-is in
          let even : All (λ b. length b ≡ 512 * (super.data_block / 512)) (blocks_of super device) = subst (λ (n : ℕ). All (λ b. length b ≡ n) (blocks_of super device)) (sym facts.whole) (data-blocks super device whole may).sized in
          let below : w / (super.data_block / 512) < super.blocks = div_below w (super.data_block / 512) super.blocks facts.some low in
          ap (λ (k : ℕ). part (get_or (blocks_of super device) (w / k) []) (w % k)) unit
          ∙ part-concat (super.data_block / 512) (blocks_of super device) w even facts.some (omega (arith, below, (data-blocks super device whole may).count))
          ∙ sector-concat

-- a sector of the line is one of the blocks
pub within-line : (c : Configuration) → IsLoaded c → (d s : ℕ) (super : SuperRecord) (root_hash data_name hash_name : List ℕ) → (here : LiesInImageLine c d s super root_hash data_name hash_name)
    → s - here.line.start < super.blocks * (super.data_block / 512)
within-line c loaded d s super root_hash data_name hash_name here =
    let is = line_at-is c d s (here.number, here.line) here.lies.found in
    let start : here.line.start ≤ s = line-start c d s (here.number, here.line) loaded.valid here.lies.found in
    let end : s < here.line.start + here.line.length = line_at-end c d s (here.number, here.line) here.lies.found in
    let covers = (verity-line c d here.number here.line here.v loaded is here.lies.has).2.covers in
    let blocks : here.v.blocks * (here.v.data_block / 512) ≡ super.blocks * (super.data_block / 512) =
    ap (λ (n : ℕ). n * (here.v.data_block / 512)) (blocks-are here.v super root_hash data_name hash_name here.is)
    ∙ ap (λ (n : ℕ). super.blocks * (n / 512)) (data-size-is here.v super root_hash data_name hash_name here.is) in
    omega (arith, start, end, covers, blocks)
