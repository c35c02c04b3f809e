use Rattle.repair_commands.specs.Mends.{parity_use}
use Rattle.repair_commands.proofs.GoingOnLemmas.{end-err, end-ok}
use Rattle.repair_commands.proofs.by_parity.mend.Goals as goal

pub returns-clause-ok : goal.returns-clause-ok
returns-clause-ok g c =
    rw c.end_of.ensures
    (end-ok c.repair_through-ended.result c.sync_both-synced.result c.repair_through-ended.ensures.ok c.sync_both-synced.ensures.ok
    (λ outcome runs synced. record {
      mends = record { mid = c.repair_through-ended.new.image.world; repair = runs.repair; kept = c.sync_both-synced.ensures.kept; on_medium = synced };
      within = runs.within;
      sought = runs.sought;
      whole = runs.whole;
    }))

pub returns-clause-err : goal.returns-clause-err
returns-clause-err g c =
    rw c.end_of.ensures
    (end-err c.args.plan.now (parity_use g.P.BlockDev.state c.args.layout.now c.args.parity_dev.now c.repair_through-ended.new.parity_dev) c.args.image.now.world c.repair_through-ended.new.image.world c.sync_both-synced.new.image.world _ _ _ c.repair_through-ended.result c.sync_both-synced.result
    (λ outcome runs. record { repairs = runs.repair; sought = runs.sought }) c.repair_through-ended.ensures.ok c.repair_through-ended.ensures.err c.sync_both-synced.ensures.kept c.sync_both-synced.ensures.ok c.sync_both-synced.ensures.err)
