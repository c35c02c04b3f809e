use Rattle.std.proofs.Common.{subst}
use Rattle.std.specs.Prelude.{IfErr, OnOk}
use Rattle.std.proofs.Math.Path.{subst₂}
use Rattle.std.proofs.lemmas.Result.{IfErr-weaker, IfOk-weaker, on_ok_weaker}
use Rattle.verity_commands.specs.Surveyed.{SurveyedDevices}
use Rattle.tree_repair.specs.declared.repair.Plan.{Plan}
use Rattle.tree_repair.specs.Worlds.{RepairWorld}
use Rattle.repair_commands.specs.ByParity.{MendsByParity, MendsHalfByParity}
use Rattle.repair_commands.specs.Commands.{EndsEarly, MendsAndTells}
use Rattle.repair_commands.specs.Rest.{IsUntold, Tells, states_of}
use Rattle.repair_commands.proofs.ScanLemmas.{two-same}
use Rattle.repair_commands.proofs.TellingLemmas.{told-err, told-ok}
use Rattle.repair_commands.proofs.by_parity.mend_opened.Goals as goal

pub returns-clause-ok : goal.returns-clause-ok
returns-clause-ok g c =
    let state = g.I.Dev.BlockDev.state in
    let plan = c.plan_at-plan.result in
    let w = c.damaged-image.result.world in
    let whole = c.args.found.now.whole in
    let laid = c.args.laid in
    let old = g.W.Write.contents c.args.writer.now.inner in
    let between = g.W.Write.contents c.mend-ended.new.writer.inner in
    let new = g.W.Write.contents c.tell-data.new.writer.inner in
    let after = states_of state state c.tell-data.result.0 c.tell-data.result.1 in
    let same = two-same _ _ _ _ c.devices_of-devices.ensures.data c.devices_of-devices.ensures.hash in
    let tells = subst (λ (t : SurveyedDevices). OnOk c.tell-data.result.2 (Tells c.mend-ended.result whole plan t after between new)) same c.tell-data.ensures.ok in
    let mends = IfOk-weaker c.mend-ended.result _ (MendsByParity state plan laid w old c.mend-ended.new.image.world between) (λ outcome passes. record { device' = c.mend-ended.new.parity_dev; read = c.mend-ended.ensures.parity; holds = passes }) c.mend-ended.ensures.ok in
    on_ok_weaker c.tell-data.result.2
    (λ does. record {
      data_dev = c.tell-data.result.0;
      hash_dev = c.tell-data.result.1;
      holds = subst₂ (λ (q : Plan) (v : RepairWorld). MendsAndTells (MendsByParity state q laid v old) whole q new after) c.plan_at-plan.ensures c.damaged-image.ensures does;
      back = c.give_back.ensures;
    })
    (told-ok (MendsByParity state plan laid w old) (MendsHalfByParity state plan laid w old) whole plan c.mend-ended.new.image.world between new after (λ found mends. mends.holds.mends.on_medium) c.mend-ended.result c.tell-data.result.2 mends tells)

pub returns-clause-err : goal.returns-clause-err
returns-clause-err g c =
    let state = g.I.Dev.BlockDev.state in
    let plan = c.plan_at-plan.result in
    let w = c.damaged-image.result.world in
    let whole = c.args.found.now.whole in
    let laid = c.args.laid in
    let old = g.W.Write.contents c.args.writer.now.inner in
    let between = g.W.Write.contents c.mend-ended.new.writer.inner in
    let new = g.W.Write.contents c.tell-data.new.writer.inner in
    let failed = c.tell-data.new.writer.failed in
    let after = states_of state state c.tell-data.result.0 c.tell-data.result.1 in
    let same = two-same _ _ _ _ c.devices_of-devices.ensures.data c.devices_of-devices.ensures.hash in
    let untold = subst (λ (t : SurveyedDevices). IfErr c.tell-data.result.2 (IsUntold c.mend-ended.result whole plan t after between new failed)) same c.tell-data.ensures.err in
    let mends = IfOk-weaker c.mend-ended.result _ (MendsByParity state plan laid w old c.mend-ended.new.image.world between) (λ outcome passes. record { device' = c.mend-ended.new.parity_dev; read = c.mend-ended.ensures.parity; holds = passes }) c.mend-ended.ensures.ok in
    let half = IfErr-weaker c.mend-ended.result _ (MendsHalfByParity state plan laid w old c.mend-ended.new.writer.failed c.mend-ended.new.image.world between)
    (λ fault cut. record { device' = c.mend-ended.new.parity_dev; read = c.mend-ended.ensures.parity; holds = cut }) c.mend-ended.ensures.err in
    IfErr-weaker c.tell-data.result.2 _ _
    (λ fault ends. record {
      data_dev = c.tell-data.result.0;
      hash_dev = c.tell-data.result.1;
      holds = subst₂ (λ (q : Plan) (v : RepairWorld). EndsEarly (MendsByParity state q laid v old) (MendsHalfByParity state q laid v old failed) whole q new failed fault after) c.plan_at-plan.ensures c.damaged-image.ensures ends;
      back = c.give_back.ensures;
    })
    (told-err (MendsByParity state plan laid w old) (MendsHalfByParity state plan laid w old) whole plan c.mend-ended.new.image.world between new after (λ found mends. mends.holds.mends.on_medium) c.mend-ended.new.writer.failed failed c.mend-ended.result c.tell-data.result.2 mends half c.tell-data.ensures.same untold)
