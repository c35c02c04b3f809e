use Rattle.std.proofs.Common.{◌≡◌, ◌∙◌, ◌++◌, ◌/◌, ℕ, List, Some, ap, refl, subst}
use Rattle.std.specs.Prelude.{codes}
use Rattle.std.proofs.lemmas.Result.{IfErr-weaker, on_ok_weaker}
use Rattle.std.specs.Io.KnownBytes.{Appends}
use Rattle.allocation.specs.Refusal.{IsOutOfMemory}
use Rattle.command_line.specs.words.FecTable.{fec_table_record}
use Rattle.fec_area.specs.Layouts.{covered_blocks}
use Rattle.image_commands.proofs.lemmas.EndingLemmas.{common-as}
use Rattle.image_commands.specs.Places.{tree_start}
use Rattle.image_commands.specs.TableLines.{entry_head}
use Rattle.verity_format.specs.Line.{LineNames, text_room, verity_text}
use Rattle.fec_commands.specs.Tables.{RefusesLaidLine, laid_room, laid_start, laid_text}
use Rattle.fec_commands.proofs.table.say_laid.Goals as goal

pub returns-clause-ok : goal.returns-clause-ok
returns-clause-ok g c =
    let words = c.args.words.now in
    let tree = c.args.laid.now.tree in
    let root = c.args.root.now in
    let old = g.W.Write.contents c.args.writer.now.inner in
    let new = g.W.Write.contents c.say_line.new.writer.inner in
    let names : List ℕ → ℕ → LineNames =
    λ device blocks. record { data_name = words.table.data_name.now; hash_name = words.table.hash_name.now; parity = Some (record { device = device; roots = words.fec.roots; blocks = blocks; start = 0 }) } in
    let text : List ℕ → ℕ → ℕ → List ℕ = λ device blocks start. verity_text tree (names device blocks) root start in
    let start : c.tree_start-start.result ≡ laid_start (fec_table_record words) c.args.laid.now =
    c.tree_start-start.ensures
    ∙ ap (λ (n : ℕ). tree_start n c.hash_block.result c.start.result) c.sector_at-first.ensures
    ∙ ap (λ (n : ℕ). tree_start (words.table.hash_offset / 512) n c.start.result) c.hash_block.ensures.value
    ∙ ap (λ (n : ℕ). tree_start (words.table.hash_offset / 512) tree.shape.hash_block n) c.start.ensures.value in
    let same : text c.as_bytes.result.now c.covered_blocks.result c.tree_start-start.result ≡ laid_text (fec_table_record words) c.args.laid.now root =
    ap (λ (d : List ℕ). text d c.covered_blocks.result c.tree_start-start.result) c.as_bytes.ensures.value
    ∙ ap (λ (n : ℕ). text words.fec.device.now n c.tree_start-start.result) c.covered_blocks.ensures.value
    ∙ ap (λ (n : ℕ). text words.fec.device.now (covered_blocks c.args.laid.now.layout) n) start in
    on_ok_weaker c.say_line.result
    (λ printed. record {
      name = words.table.name;
      entry = refl;
      printed = subst (λ (t : List ℕ). Appends old new (entry_head words.table.name ++ (t ++ codes "\n"))) same printed;
    })
    c.say_line.ensures.ok

pub returns-clause-err : goal.returns-clause-err
returns-clause-err g c =
    let words = c.args.words.now in
    let tree = c.args.laid.now.tree in
    let root = c.args.root.now in
    let failed = c.say_line.new.writer.failed in
    let names : List ℕ → ℕ → LineNames =
    λ device blocks. record { data_name = words.table.data_name.now; hash_name = words.table.hash_name.now; parity = Some (record { device = device; roots = words.fec.roots; blocks = blocks; start = 0 }) } in
    let room : List ℕ → ℕ → ℕ → ℕ = λ device blocks start. text_room tree (names device blocks) root start in
    let start : c.tree_start-start.result ≡ laid_start (fec_table_record words) c.args.laid.now =
    c.tree_start-start.ensures
    ∙ ap (λ (n : ℕ). tree_start n c.hash_block.result c.start.result) c.sector_at-first.ensures
    ∙ ap (λ (n : ℕ). tree_start (words.table.hash_offset / 512) n c.start.result) c.hash_block.ensures.value
    ∙ ap (λ (n : ℕ). tree_start (words.table.hash_offset / 512) tree.shape.hash_block n) c.start.ensures.value in
    let same : room c.as_bytes.result.now c.covered_blocks.result c.tree_start-start.result ≡ laid_room (fec_table_record words) c.args.laid.now root =
    ap (λ (d : List ℕ). room d c.covered_blocks.result c.tree_start-start.result) c.as_bytes.ensures.value
    ∙ ap (λ (n : ℕ). room words.fec.device.now n c.tree_start-start.result) c.covered_blocks.ensures.value
    ∙ ap (λ (n : ℕ). room words.fec.device.now (covered_blocks c.args.laid.now.layout) n) start in
    let refuses : IsOutOfMemory (room c.as_bytes.result.now c.covered_blocks.result c.tree_start-start.result) → RefusesLaidLine words c.args.laid.now root = (λ refused. subst IsOutOfMemory same refused) in
    IfErr-weaker c.say_line.result _ _ (λ fault ends. common-as failed refuses fault ends) c.say_line.ensures.err
