use Rattle.std.proofs.Common.{◌≡◌, ℕ, sym, ap, ◌∙◌, subst, arith}
use Rattle.stack_rules.specs.declared.lower.Lower.{Lower}
use Rattle.stack_meaning.proofs.lemmas.LoadedLemmas.{size-small}
use Rattle.stack_lines.specs.Sources.{IsServed, SourceHolds}
use Rattle.stack_lines.proofs.lemmas.SourceLemmas.{served-depth, served-holds}
use Rattle.alignment.specs.Ends.{ends_units, source_ends}
use Rattle.alignment.proofs.lemmas.EndLemmas.{data-below, ends-leaf, served-ends}
use Rattle.alignment.proofs.ends.+ends.Goals as goal

pub lower_ends-returns-in-Leaf : goal.lower_ends-returns-in-Leaf
lower_ends-returns-in-Leaf t c = sym (ap (λ (x : Lower). ends_units c.args.config.now x c.args.sector) c.in-Leaf.is ∙ ends-leaf c.args.config.now c.in-Leaf.field-0 c.args.sector)

pub lower_ends-returns-in-Device : goal.lower_ends-returns-in-Device
lower_ends-returns-in-Device t c = c.device_ends.ensures ∙ ap (λ (x : Lower). ends_units c.args.config.now x c.args.sector) (sym c.in-Device.is)

pub source_ends-returns-in-Below : goal.source_ends-returns-in-Below
source_ends-returns-in-Below t c = c.lower_ends.ensures ∙ ap (source_ends c.args.config.now) (sym c.in-Below.is)

pub device_ends-source_ends-requires : goal.device_ends-source_ends-requires
device_ends-source_ends-requires t c =
    let config = c.args.config.now in
    let run = c.run_at-run.result in
    let served = c.run_at-run.ensures.served in
    let one : run.count ≡ 1 = omega (arith, c.run_at-run.ensures.some, c.run_at-run.ensures.most) in
    let deep = served-depth config c.args.d.0 c.args.sector run.count run.source c.requires.loaded c.run_at-run.ensures.some served in
    (omega (arith, deep), (c.requires.loaded, subst (SourceHolds config run.source) one (served-holds config c.args.d.0 c.args.sector run.count run.source served)))

pub device_ends-returns : goal.device_ends-returns
device_ends-returns t c =
    let config = c.args.config.now in
    let run = c.run_at-run.result in
    let one : run.count ≡ 1 = omega (arith, c.run_at-run.ensures.some, c.run_at-run.ensures.most) in
    c.source_ends.ensures ∙ served-ends config c.args.d.0 c.args.sector run.source c.requires.loaded (subst (λ (n : ℕ). IsServed config c.args.d.0 c.args.sector n run.source) one c.run_at-run.ensures.served)

pub unit_ends-overflow_add-part : goal.unit_ends-overflow_add-part
unit_ends-overflow_add-part t c = let small = size-small c.args.config.now c.args.part.lower c.requires.loaded in omega (arith, small, c.requires.inside)

pub block_ends-lower_ends-requires : goal.block_ends-lower_ends-requires
block_ends-lower_ends-requires t c =
    let below = data-below c.args.config.now c.args.part c.requires.loaded c.requires.part in
    let deep = below.shallower in
    let room = below.inside in
    (omega (arith, deep), (c.requires.loaded, omega (arith, room, c.requires.inside)))
