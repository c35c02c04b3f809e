use Rattle.std.proofs.Common.{ap, arith, inl, inr, refl, subst, sym, ◌∙◌}
use Rattle.std.proofs.lemmas.Result.{IfErr-weaker, on_ok_weaker}
use Rattle.tree_repair.specs.declared.repair.Plan.{Plan}
use Rattle.verity_commands.specs.Surveyed.{surveyed_devices}
use Rattle.update_commands.specs.declared.counts.Counts.{Counts}
use Rattle.update_commands.specs.Counts.{EndsWithCounts, counts_of}
use Rattle.update_commands.specs.Repaired.{EndsAloud, RepairsAloud}
use Rattle.update_commands.specs.Updates.{Finishes}
use Rattle.update_commands.proofs.devices.update_moved.Goals as goal

pub repair_aloud-data_dev-requires-clause-first : goal.repair_aloud-data_dev-requires-clause-first
repair_aloud-data_dev-requires-clause-first g c = omega (arith, ap (λ (p : Plan). p.copy_first) c.plan_of-plan.ensures)

pub repair_aloud-data_dev-requires-clause-allowed : goal.repair_aloud-data_dev-requires-clause-allowed
repair_aloud-data_dev-requires-clause-allowed g c = record { data_writable = λ write. c.requires.data_writable refl; hash_writable = λ write. c.requires.hash_writable refl }

pub returns-in-Ok-clause-ok : goal.returns-in-Ok-clause-ok
returns-in-Ok-clause-ok g c =
    let json = c.args.json in
    let s = c.args.release.now.superblock in
    let w = c.args.image.world in
    let tally = c.args.tally.now in
    let old = g.W.Write.contents c.args.writer.now.inner in
    let between = g.W.Write.contents c.repair_aloud-data_dev.new.writer.inner in
    let new = g.W.Write.contents c.finish-ended.new.writer.inner in
    let counters = c.repair_aloud-data_dev.result.2 in
    let mended = surveyed_devices (g.D.BlockDev.state c.repair_aloud-data_dev.result.0) (g.H.BlockDev.state c.repair_aloud-data_dev.result.1) in
    let counted = c.counts_of-counts.ensures.value ∙ ap (λ (p : Plan). counts_of p.tree.shape tally counters) c.plan_of-plan.ensures in
    on_ok_weaker c.finish-ended.result
    (λ finishes. record {
      mended = mended;
      left = (c.repair_aloud-data_dev.result.1, refl);
      counters = counters;
      between = between;
      repairs = subst (λ (p : Plan). RepairsAloud json p w mended old between counters) c.plan_of-plan.ensures (rw c.in-Ok.is at c.repair_aloud-data_dev.ensures.ok);
      finishes = subst (λ (n : Counts). Finishes s n json mended.hash_dev (g.H.BlockDev.state c.finish-ended.new.hash_dev) between new) counted finishes;
      data_is = refl;
    })
    c.finish-ended.ensures.ok

pub returns-in-Ok-clause-err : goal.returns-in-Ok-clause-err
returns-in-Ok-clause-err g c =
    let json = c.args.json in
    let w = c.args.image.world in
    let old = g.W.Write.contents c.args.writer.now.inner in
    let between = g.W.Write.contents c.repair_aloud-data_dev.new.writer.inner in
    let counters = c.repair_aloud-data_dev.result.2 in
    let mended = surveyed_devices (g.D.BlockDev.state c.repair_aloud-data_dev.result.0) (g.H.BlockDev.state c.repair_aloud-data_dev.result.1) in
    IfErr-weaker c.finish-ended.result _ _
    (λ fault unfinished. inr (inl (record {
      mended = mended;
      left = (c.repair_aloud-data_dev.result.1, refl);
      counters = counters;
      between = between;
      repairs = subst (λ (p : Plan). RepairsAloud json p w mended old between counters) c.plan_of-plan.ensures (rw c.in-Ok.is at c.repair_aloud-data_dev.ensures.ok);
      unfinished = unfinished;
      data_is = refl;
    })))
    c.finish-ended.ensures.err

pub returns-then-failed-clause-err : goal.returns-then-failed-clause-err
returns-then-failed-clause-err g c =
    let json = c.args.json in
    let w = c.args.image.world in
    let old = g.W.Write.contents c.args.writer.now.inner in
    let new = g.W.Write.contents c.repair_aloud-data_dev.new.writer.inner in
    let failed = c.repair_aloud-data_dev.new.writer.failed in
    let counters = c.repair_aloud-data_dev.result.2 in
    let mended = surveyed_devices (g.D.BlockDev.state c.repair_aloud-data_dev.result.0) (g.H.BlockDev.state c.repair_aloud-data_dev.result.1) in
    inr (inr (record {
      mended = mended;
      counters = counters;
      cause = c.in-Err.fault;
      cut = subst (λ (p : Plan). EndsAloud json p w mended old new failed counters c.in-Err.fault) c.plan_of-plan.ensures (rw c.in-Err.is at c.repair_aloud-data_dev.ensures.err);
      told = sym c.failed.ensures ∙ c.if-failed.true;
      goes_on = c.update_again-data_again.ensures;
    }))

pub returns-else-failed-clause-err : goal.returns-else-failed-clause-err
returns-else-failed-clause-err g c =
    let json = c.args.json in
    let w = c.args.image.world in
    let tally = c.args.tally.now in
    let old = g.W.Write.contents c.args.writer.now.inner in
    let between = g.W.Write.contents c.repair_aloud-data_dev.new.writer.inner in
    let new = g.W.Write.contents c.say_losses.new.writer.inner in
    let was = c.repair_aloud-data_dev.new.writer.failed in
    let failed = c.say_losses.new.writer.failed in
    let counters = c.repair_aloud-data_dev.result.2 in
    let mended = surveyed_devices (g.D.BlockDev.state c.repair_aloud-data_dev.result.0) (g.H.BlockDev.state c.repair_aloud-data_dev.result.1) in
    let counted = c.counts_of-counts.ensures.value ∙ ap (λ (p : Plan). counts_of p.tree.shape tally counters) c.plan_of-plan.ensures in
    inl (record {
      counters = counters;
      between = between;
      was = was;
      cause = c.in-Err.fault;
      ends = subst (λ (p : Plan). EndsAloud json p w mended old between was counters c.in-Err.fault) c.plan_of-plan.ensures (rw c.in-Err.is at c.repair_aloud-data_dev.ensures.err);
      counted = subst (λ (n : Counts). EndsWithCounts n json c.unsealed_fault-ended.result between new was failed) counted c.say_losses.ensures;
      is = c.unsealed_fault-ended.ensures;
    })
