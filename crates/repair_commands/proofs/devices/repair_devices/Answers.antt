use Rattle.std.proofs.Common.{None, subst}
use Rattle.std.specs.Prelude.{IfErr, OnOk}
use Rattle.verity_commands.specs.Surveyed.{SurveyedDevices}
use Rattle.repair_commands.specs.Commands.{MendsHalf, MendsOnce}
use Rattle.repair_commands.specs.Rest.{IsUntold, Tells, states_of}
use Rattle.repair_commands.proofs.ScanLemmas.{two-same}
use Rattle.repair_commands.proofs.TellingLemmas.{counted-err, counted-ok}
use Rattle.repair_commands.proofs.devices.repair_devices.Goals as goal

pub returns-clause-ok : goal.returns-clause-ok
returns-clause-ok g c =
    let plan = c.args.plan.now in
    let w = c.args.image.world in
    let whole = c.args.whole in
    let old = g.W.Write.contents c.args.writer.now.inner in
    let between = g.W.Write.contents c.mend-ended.new.writer.inner in
    let new = g.W.Write.contents c.tell-data_dev.new.writer.inner in
    let after = states_of g.D.BlockDev.state g.H.BlockDev.state c.tell-data_dev.result.0 c.tell-data_dev.result.1 in
    let same = two-same _ _ _ _ c.devices_of-devices.ensures.data c.devices_of-devices.ensures.hash in
    let tells = subst (λ (t : SurveyedDevices). OnOk c.tell-data_dev.result.2 (Tells c.mend-ended.result whole plan t after between new)) same c.tell-data_dev.ensures.ok in
    counted-ok (MendsOnce plan w old) (MendsHalf plan None w old) whole plan c.mend-ended.new.image.world between new after (λ found mends. mends.mends.on_medium) c.counters_of-counters.result c.counters_of-counters.ensures c.mend-ended.result
    c.tell-data_dev.result.2 c.mend-ended.ensures.ok tells

pub returns-clause-err : goal.returns-clause-err
returns-clause-err g c =
    let plan = c.args.plan.now in
    let w = c.args.image.world in
    let whole = c.args.whole in
    let old = g.W.Write.contents c.args.writer.now.inner in
    let between = g.W.Write.contents c.mend-ended.new.writer.inner in
    let new = g.W.Write.contents c.tell-data_dev.new.writer.inner in
    let failed = c.tell-data_dev.new.writer.failed in
    let after = states_of g.D.BlockDev.state g.H.BlockDev.state c.tell-data_dev.result.0 c.tell-data_dev.result.1 in
    let same = two-same _ _ _ _ c.devices_of-devices.ensures.data c.devices_of-devices.ensures.hash in
    let untold = subst (λ (t : SurveyedDevices). IfErr c.tell-data_dev.result.2 (IsUntold c.mend-ended.result whole plan t after between new failed)) same c.tell-data_dev.ensures.err in
    counted-err (MendsOnce plan w old) (MendsHalf plan None w old) whole plan c.mend-ended.new.image.world between new after (λ found mends. mends.mends.on_medium) c.counters_of-counters.result c.counters_of-counters.ensures
    c.mend-ended.new.writer.failed failed c.mend-ended.result c.tell-data_dev.result.2 c.mend-ended.ensures.ok c.mend-ended.ensures.err c.tell-data_dev.ensures.same untold
