use Rattle.std.proofs.Common.{◌<◌, arith}
use Rattle.stack_rules.specs.Records.{Configuration}
use Rattle.stack_rules.specs.Names.{lines_of, table_sectors}
use Rattle.stack_rules.proofs.lemmas.ValidLineLemmas.{follow, few_lines}
use Rattle.stack_rules.proofs.lemmas.ListLemmas.{slice_get-read}
use Rattle.stack_rules.proofs.lemmas.KeptLemmas.{lines_of-read}
use Rattle.stack_config.proofs.config.Config.line_at.Goals as goal

pub line_of-requires-clause-follow : goal.line_of-requires-clause-follow
line_of-requires-clause-follow c =
    let now : Configuration = record { leaves = c.self.inside.leaves.items; devices = c.self.inside.devices.items } in
    let inside = rw (← c.self.view_is) at c.requires.device in
    rw c.table.ensures (follow now c.self.invariant.loaded.valid c.args.d.0 c.index.result.now (slice_get-read now.devices c.args.d.0 c.index.result.now inside c.index.ensures))

pub line_of-requires-clause-sector : goal.line_of-requires-clause-sector
line_of-requires-clause-sector c =
    let now : Configuration = record { leaves = c.self.inside.leaves.items; devices = c.self.inside.devices.items } in
    let inside = rw (← c.self.view_is) at c.requires.device in
    let same = lines_of-read now c.args.d.0 c.index.result.now (slice_get-read now.devices c.args.d.0 c.index.result.now inside c.index.ensures) in
    let sector : c.args.sector < table_sectors (lines_of now c.args.d.0) = rw (← c.self.view_is) at c.requires.sector in
    rw (c.table.ensures, ← same) sector

pub line_of-requires-clause-few : goal.line_of-requires-clause-few
line_of-requires-clause-few c =
    let now : Configuration = record { leaves = c.self.inside.leaves.items; devices = c.self.inside.devices.items } in
    let inside = rw (← c.self.view_is) at c.requires.device in
    let few = few_lines now c.self.invariant.loaded.valid c.args.d.0 c.index.result.now (slice_get-read now.devices c.args.d.0 c.index.result.now inside c.index.ensures) in
    rw c.table.ensures (omega (arith, few))

pub returns : goal.returns
returns c =
    let now : Configuration = record { leaves = c.self.inside.leaves.items; devices = c.self.inside.devices.items } in
    let inside = rw (← c.self.view_is) at c.requires.device in
    let same = lines_of-read now c.args.d.0 c.index.result.now (slice_get-read now.devices c.args.d.0 c.index.result.now inside c.index.ensures) in
    rw (← c.self.view_is) (rw (same, ← c.table.ensures) c.line_of.ensures)
