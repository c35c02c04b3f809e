use Rattle.std.proofs.Common.{arith, sym, ◌∙◌, ap}
use Rattle.stack_rules.specs.Records.{Configuration}
use Rattle.stack_rules.proofs.lemmas.ValidLineLemmas.{size-low}
use Rattle.stack_rules.specs.Names.{table_sectors}
use Rattle.stack_rules.proofs.lemmas.ListLemmas.{slice_get-read}
use Rattle.stack_rules.proofs.lemmas.KeptLemmas.{lines_of-read}
use Rattle.stack_config.proofs.config.Config.sectors.Goals as goal

pub overflow_cast-result : goal.overflow_cast-result
overflow_cast-result c =
    let now : Configuration = record { leaves = c.self.inside.leaves.items; devices = c.self.inside.devices.items } in
    let inside = rw (← c.self.view_is) at c.requires in
    let low = size-low now c.self.invariant.loaded.valid c.args.d.0 c.index.result.now (slice_get-read now.devices c.args.d.0 c.index.result.now inside c.index.ensures) in
    record { fits = omega (arith, low, c.size.ensures) }

pub returns : goal.returns
returns c =
    let now : Configuration = record { leaves = c.self.inside.leaves.items; devices = c.self.inside.devices.items } in
    let inside = rw (← c.self.view_is) at c.requires in
    let same = lines_of-read now c.args.d.0 c.index.result.now (slice_get-read now.devices c.args.d.0 c.index.result.now inside c.index.ensures) in
    rw (← c.self.view_is) (c.size.ensures ∙ ap table_sectors (sym same))
