use Rattle.std.proofs.Common.{true, inl, inr, subst}
use Rattle.std.proofs.lemmas.Result.{IfOk-weaker}
use Rattle.find_commands.specs.declared.area.AreaFault.{AreaFault}
use Rattle.find_commands.specs.Areas.{MissesArea}
use Rattle.find_commands.proofs.AreaLemmas.{area-missed}
use Rattle.find_commands.proofs.segments.seek_segments.Goals as goal

pub returns-in-Ok-clause-calls : goal.returns-in-Ok-clause-calls
returns-in-Ok-clause-calls g c = inr (true, (c.in-Ok.area.items, c.in-Ok.ensures.ok.0, c.in-Ok.ensures.ok.1))

pub returns-in-Err-clause-calls : goal.returns-in-Err-clause-calls
returns-in-Err-clause-calls g c = area-missed g.D.BlockDev.state c.args.first c.args.count c.args.device.now c.read_area.new.device c.in-Err.fault c.in-Err.ensures.err

pub returns-in-Ok-clause-ok : goal.returns-in-Ok-clause-ok
returns-in-Ok-clause-ok g c =
    IfOk-weaker c.area_segments.result _ _ (λ value shows. inl (record { bytes = c.in-Ok.area.items; size = c.in-Ok.ensures.ok.0; call = c.in-Ok.ensures.ok.1; shows = shows })) c.area_segments.ensures

pub returns-in-Err-clause-ok : goal.returns-in-Err-clause-ok
returns-in-Err-clause-ok g c =
    IfOk-weaker c.unread_segments.result _ _
    (λ value unread. inr (unread.1, subst (λ (fault : AreaFault). MissesArea g.D.BlockDev.state c.args.first c.args.count c.args.device.now c.read_area.new.device fault) unread.0 c.in-Err.ensures.err))
    c.unread_segments.ensures
