use Rattle.image_files.specs.Opener.{calls}
use Rattle.scan_commands.specs.MapUses.{plan_of}
use Rattle.scan_commands.proofs.MapUseLemmas.{draft-lacks}
use Rattle.scan_commands.proofs.map_use.use_map_at.Goals as goal

pub returns-in-Err-check_draft-clause-err : goal.returns-in-Err-check_draft-clause-err
returns-in-Err-check_draft-clause-err g c =
    draft-lacks (calls g.I.Images.relations g.I.Dev.BlockDev.state c.args.images.now c.check_draft.new.images) (plan_of c.args.plan) c.find_map.new.images c.in-Ok.used c.in-Err-check_draft.fault c.in-Ok.ensures.ok c.in-Err-check_draft.ensures.err
