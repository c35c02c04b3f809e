use Rattle.std.proofs.Common.{◌≡◌, ◌*◌, ℕ, ap, arith}
use Rattle.stack_rules.specs.Trees.{block_sectors}
use Rattle.stack_lines.specs.declared.tree.Extent.{Extent}
use Rattle.stack_meaning.proofs.lemmas.LoadedLemmas.{size-small}
use Rattle.stack_lines.proofs.lemmas.VerityLineLemmas.{data-whole, data-inside}
use Rattle.stack_lines.proofs.tree.data_extent.Goals as goal

pub overflow_mul-result : goal.overflow_mul-result
overflow_mul-result c =
    let v = c.args.verity.now in
    let tree = c.args.tree.now in
    let room = data-inside c.args.config.now v tree c.requires.loaded c.requires.block.lies c.args.index c.requires.block.there in
    let same : c.from.result * c.args.index ≡ block_sectors v * c.args.index = ap (λ (k : ℕ). k * c.args.index) c.from.ensures in
    omega (arith, same, room, size-small c.args.config.now tree.data c.requires.loaded)

pub returns : goal.returns
returns c =
    let v = c.args.verity.now in
    let tree = c.args.tree.now in
    let size = data-whole c.args.config.now tree.device.0 tree.line v c.requires.loaded c.requires.block.lies.is in
    let room = data-inside c.args.config.now v tree c.requires.loaded c.requires.block.lies c.args.index c.requires.block.there in
    let same : c.from.result * c.args.index ≡ block_sectors v * c.args.index = ap (λ (k : ℕ). k * c.args.index) c.from.ensures in
    let at : ℕ → Extent = λ k. record { lower = tree.data; first = k; sectors = block_sectors v } in
    record { value = ap at same; lies = record { some = size.some; few = size.most; inside = omega (arith, same, room) } }
