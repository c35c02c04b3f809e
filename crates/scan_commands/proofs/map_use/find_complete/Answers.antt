use Rattle.std.proofs.Common.{inl, sym}
use Rattle.image_files.specs.Opener.{calls}
use Rattle.scan_commands.specs.MapUses.{plan_of}
use Rattle.scan_commands.proofs.MapUseLemmas.{complete-told}
use Rattle.scan_commands.proofs.map_use.find_complete.Goals as goal

pub returns-in-Ok : goal.returns-in-Ok
returns-in-Ok g c =
    complete-told (calls g.I.Images.relations g.I.Dev.BlockDev.state c.args.images.now c.read_text.new.self) (plan_of c.args.plan) c.is_complete.result
    (record { text = c.in-Ok.text; told = c.in-Ok.ensures.told; is = sym (rw c.as_slice.ensures.value at c.is_complete.ensures) })

pub returns-in-Err : goal.returns-in-Err
returns-in-Err g c = inl (c.in-Err._fault, c.in-Err.ensures.told)
