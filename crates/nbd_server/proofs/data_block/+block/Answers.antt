use Rattle.std.proofs.Common.{◌≡◌, ℕ, sym, ap, ◌∙◌, subst, arith}
use Rattle.stack_rules.specs.declared.lower.Lower.{Lower}
use Rattle.stack_meaning.proofs.lemmas.LoadedLemmas.{size-small}
use Rattle.stack_lines.specs.Sources.{IsServed, SourceHolds}
use Rattle.stack_lines.proofs.lemmas.SourceLemmas.{served-depth, served-holds}
use Rattle.nbd_server.specs.DataBlocks.{sector_block, source_block}
use Rattle.nbd_server.proofs.DataBlockLemmas.{block-leaf, served-block}
use Rattle.nbd_server.proofs.data_block.+block.Goals as goal

pub lower_block-returns-in-Leaf : goal.lower_block-returns-in-Leaf
lower_block-returns-in-Leaf t c = sym (ap (λ (x : Lower). sector_block c.args.config.now x c.args.sector) c.in-Leaf.is ∙ block-leaf c.args.config.now c.in-Leaf.field-0 c.args.sector)

pub lower_block-returns-in-Device : goal.lower_block-returns-in-Device
lower_block-returns-in-Device t c = c.device_block.ensures ∙ ap (λ (x : Lower). sector_block c.args.config.now x c.args.sector) (sym c.in-Device.is)

pub source_block-returns-in-Below : goal.source_block-returns-in-Below
source_block-returns-in-Below t c = c.lower_block.ensures ∙ ap (source_block c.args.config.now) (sym c.in-Below.is)

pub device_block-source_block-requires : goal.device_block-source_block-requires
device_block-source_block-requires t c =
    let config = c.args.config.now in
    let run = c.run_at-run.result in
    let served = c.run_at-run.ensures.served in
    let one : run.count ≡ 1 = omega (arith, c.run_at-run.ensures.some, c.run_at-run.ensures.most) in
    let deep = served-depth config c.args.d.0 c.args.sector run.count run.source c.requires.loaded c.run_at-run.ensures.some served in
    (omega (arith, deep), (c.requires.loaded, subst (SourceHolds config run.source) one (served-holds config c.args.d.0 c.args.sector run.count run.source served)))

pub device_block-returns : goal.device_block-returns
device_block-returns t c =
    let config = c.args.config.now in
    let run = c.run_at-run.result in
    let one : run.count ≡ 1 = omega (arith, c.run_at-run.ensures.some, c.run_at-run.ensures.most) in
    c.source_block.ensures ∙ served-block config c.args.d.0 c.args.sector run.source c.requires.loaded (subst (λ (n : ℕ). IsServed config c.args.d.0 c.args.sector n run.source) one c.run_at-run.ensures.served)

pub unit_block-overflow_add-part : goal.unit_block-overflow_add-part
unit_block-overflow_add-part t c = let small = size-small c.args.config.now c.args.part.lower c.requires.loaded in omega (arith, small, c.requires.inside)
