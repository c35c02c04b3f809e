use Rattle.std.proofs.Common.{None}
use Rattle.repair_commands.proofs.GoingOnLemmas.{end-err, end-ok}
use Rattle.repair_commands.proofs.mending.mend.Goals as goal

pub returns-clause-ok : goal.returns-clause-ok
returns-clause-ok g c =
    rw c.end_of.ensures
    (end-ok c.repair_through-ended.result c.sync_both-synced.result c.repair_through-ended.ensures.ok c.sync_both-synced.ensures.ok
    (λ outcome whole synced. record {
      mends = record { mid = c.repair_through-ended.new.image.world; repair = whole.repair; kept = c.sync_both-synced.ensures.kept; on_medium = synced };
      all = whole.all;
      within = whole.within;
      whole = whole.whole;
    }))

pub returns-clause-err : goal.returns-clause-err
returns-clause-err g c =
    rw c.end_of.ensures
    (end-err c.args.plan.now None c.args.image.now.world c.repair_through-ended.new.image.world c.sync_both-synced.new.image.world _ _ _ c.repair_through-ended.result c.sync_both-synced.result
    (λ outcome whole. whole.all) c.repair_through-ended.ensures.ok c.repair_through-ended.ensures.err c.sync_both-synced.ensures.kept c.sync_both-synced.ensures.ok c.sync_both-synced.ensures.err)
