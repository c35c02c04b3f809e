use Rattle.std.proofs.Common.{ap, ◌∙◌}
use Rattle.device_adapters.specs.Parts.{part_before}
use Rattle.repair_commands.specs.Pairs.{part_in}
use Rattle.repair_commands.proofs.pair.parts_of.Goals as goal

pub returns-clause-data_part : goal.returns-clause-data_part
returns-clause-data_part g c =
    let image = c.args.two.now.«data» in
    c.part_in.ensures ∙ ap (part_in image.place.part) (c.before-2.ensures.value ∙ ap (part_before (g.D.BlockDev.state image.device)) c.data_end-end.ensures)

pub returns-clause-hash_part : goal.returns-clause-hash_part
returns-clause-hash_part g c = c.part_in-2.ensures ∙ ap (part_in c.args.two.now.hash.place.part) c.behind.ensures.value
