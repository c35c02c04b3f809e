-- What is read through a `verity` line over an assembled disk.
use Rattle.std.proofs.Common.{◌≡◌, ◌≢◌, ◌∙◌, ◌+◌, ◌-◌, ◌*◌, ◌/◌, ℕ, IsTrue, List, Ok, Option, ap, subst, sym}
use Rattle.block_device.specs.Device.{Device, IsWhole}
use Rattle.command_line.specs.words.Assemble.{AssembleRecord}
use Rattle.image_commands.specs.Drawing.{Gives}
use Rattle.image_files.specs.Opener.{Opener}
use Rattle.rand_core.specs.Stream.{Stream}
use Rattle.stack_engine.specs.Laws.{AreFormatted, ForgedSectorsCollide, FormattedDataIsRead, named_sector}
use Rattle.stack_lines.proofs.lemmas.SizeLemmas.{named-size}
use Rattle.stack_meaning.specs.Blocks.{hash_sectors}
use Rattle.stack_meaning.specs.Outcomes.{span}
use Rattle.stack_meaning.proofs.lemmas.SizedLemmas.{AreSized}
use Rattle.stack_rules.specs.Trees.{line_data_sectors, tree_of}
use Rattle.tree_repair.specs.WithinParity.{FormattedImagesAreFormer}
use Rattle.tree_shape.specs.Shape.{area_blocks}
use Rattle.assemble_commands.specs.DataLaws.{AssembledDataIsRead, OtherDataCollide, blocks_of}
use Rattle.assemble_commands.proofs.AssembledLemmas.{data-allowed, data-root}
use Rattle.assemble_commands.proofs.DataLemmas.{data-name-is, hash-name-is, line-blocks, line-root, sector-concat, sector-part, within-line}
use Rattle.assemble_commands.proofs.HeldLemmas.{data_part, hash-part-room, hash-part-tree, hash_part, part-begins, part-room}
use Rattle.assemble_commands.proofs.SpanLemmas.{data-span, line-sectors, shows-all, tree-span}

module _ {S D T G : Type 0} (relations : Opener S D) (state : D → Device) (gives : Gives T G) (stream : G → Stream) (whole : (dev : D) → IsWhole (state dev)) where
  pub other-data : ForgedSectorsCollide → OtherDataCollide relations state gives stream
  other-data law images images' generators generators' a old new done data_steady c loaded d first n bytes may j below data_name hash_name here differs =
      let data_dev = state done.fills.image.device in
      let super = done.plan.superblock in
      let fits = data-allowed relations state gives stream images images' generators generators' a old new done in
      let hash = data-root relations state gives stream images images' generators generators' a old new done data_steady in
      let here_whole = whole done.fills.image.device in
      let low = within-line c loaded d (first + j) super done.made.root data_name hash_name here in
      let same = sector-part here.v super done.made.root data_name hash_name here.is data_dev here_whole fits hash (first + j - here.line.start) low in
      law c loaded d first n bytes may j below here.number here.line here.v here.lies (blocks_of super data_dev) (line-blocks here.v super done.made.root data_name hash_name here.is data_dev here_whole fits hash)
      (line-root here.v super done.made.root data_name hash_name here.is data_dev here_whole fits hash) (λ e. differs (e ∙ same))

  -- ---- over devices that hold the parts

  pub assembled-data : FormattedImagesAreFormer → FormattedDataIsRead → AssembledDataIsRead relations state gives stream
  assembled-data former law images images' generators generators' a old new done data_steady part_steady hash_steady c loaded leaves each data_name hash_name on_data on_hash d s here =
      let data_dev = state done.fills.image.device in
      let super = done.plan.superblock in
      let v = here.v in
      let blocks = blocks_of super data_dev in
      let fits = data-allowed relations state gives stream images images' generators generators' a old new done in
      let hash = data-root relations state gives stream images images' generators generators' a old new done data_steady in
      let here_whole = whole done.fills.image.device in
      let low = within-line c loaded d s super done.made.root data_name hash_name here in
      let sized : (name : List ℕ) → AreSized (named_sector c leaves name) = λ name t b e. named-size c leaves loaded each name t b e in
      let formatted : AreFormatted c leaves v blocks = record {
        sized = line-blocks v super done.made.root data_name hash_name here.is data_dev here_whole fits hash;
        on_data =
            ap (λ (name : List ℕ). span (named_sector c leaves name) 0 (line_data_sectors v)) (data-name-is v super done.made.root data_name hash_name here.is)
            ∙ ap (λ (n : ℕ). span (named_sector c leaves data_name) 0 n) (line-sectors v super done.made.root data_name hash_name here.is)
            ∙ data-span (named_sector c leaves data_name) (sized data_name) super data_dev (data_part relations state gives stream whole images images' generators generators' a old new done data_steady) fits (whole done.fills.fills.copies.device') on_data
            (λ n inside. part-begins relations state gives stream whole images images' generators generators' a old new done data_steady part_steady n inside)
            (part-room relations state gives stream whole images images' generators generators' a old new done data_steady part_steady);
        on_hash =
            ap (λ (name : List ℕ). span (named_sector c leaves name) (hash_sectors v * v.start) (hash_sectors v * area_blocks (tree_of v))) (hash-name-is v super done.made.root data_name hash_name here.is)
            ∙ tree-span v super done.made.root data_name hash_name here.is (named_sector c leaves hash_name) (sized hash_name) (hash_part relations state gives stream whole images images' generators generators' a old new done data_steady)
            (whole done.fills.fills.makes.device') on_hash (hash-part-room relations state gives stream whole images images' generators generators' a old new done data_steady) data_dev
            (hash-part-tree relations state gives stream whole images images' generators generators' a old new done data_steady former hash_steady);
        root_is = line-root v super done.made.root data_name hash_name here.is data_dev here_whole fits hash;
      } in
      law c loaded leaves each d s here.number here.line v here.lies blocks formatted
      ∙ ap Ok (shows-all v super done.made.root data_name hash_name here.is blocks (s - here.line.start) ∙ sector-concat v super done.made.root data_name hash_name here.is data_dev here_whole fits hash (s - here.line.start) low)
