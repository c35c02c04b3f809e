use Rattle.std.proofs.Math.Path.{subst₂}
use Rattle.std.proofs.lemmas.Result.{IfErr-weaker, on_ok_weaker}
use Rattle.tree_repair.specs.declared.repair.Plan.{Plan}
use Rattle.tree_repair.specs.Worlds.{RepairWorld}
use Rattle.repair_commands.specs.Commands.{EndsOnDevices, RepairsDevices}
use Rattle.repair_commands.specs.Rest.{states_of}
use Rattle.repair_commands.proofs.lemmas.CountedLemmas.{counted-ends}
use Rattle.repair_commands.proofs.repair.mend_opened.Goals as goal

pub returns-clause-ok : goal.returns-clause-ok
returns-clause-ok g c =
    let state = g.I.Dev.BlockDev.state in
    let whole = c.args.found.now.whole in
    let old = g.W.Write.contents c.args.writer.now.inner in
    let new = g.W.Write.contents c.repair_devices-data.new.writer.inner in
    let after = states_of state state c.repair_devices-data.result.0 c.repair_devices-data.result.1 in
    on_ok_weaker c.repair_devices-data.result.3
    (λ does. record {
      data_dev = c.repair_devices-data.result.0;
      hash_dev = c.repair_devices-data.result.1;
      holds = subst₂ (λ (q : Plan) (v : RepairWorld). RepairsDevices q whole v after old new) c.plan_at-plan.ensures c.damaged-image.ensures does.0;
      back = c.give_back.ensures;
    })
    c.repair_devices-data.ensures.ok

pub returns-clause-err : goal.returns-clause-err
returns-clause-err g c =
    let state = g.I.Dev.BlockDev.state in
    let whole = c.args.found.now.whole in
    let old = g.W.Write.contents c.args.writer.now.inner in
    let new = g.W.Write.contents c.repair_devices-data.new.writer.inner in
    let failed = c.repair_devices-data.new.writer.failed in
    let after = states_of state state c.repair_devices-data.result.0 c.repair_devices-data.result.1 in
    IfErr-weaker c.repair_devices-data.result.3 _ _
    (λ fault ends. record {
      data_dev = c.repair_devices-data.result.0;
      hash_dev = c.repair_devices-data.result.1;
      holds = subst₂ (λ (q : Plan) (v : RepairWorld). EndsOnDevices q whole v after old new failed fault) c.plan_at-plan.ensures c.damaged-image.ensures (counted-ends c.plan_at-plan.result whole c.damaged-image.result.world after old new failed c.repair_devices-data.result.2 fault ends);
      back = c.give_back.ensures;
    })
    c.repair_devices-data.ensures.err
