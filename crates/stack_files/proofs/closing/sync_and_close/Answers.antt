use Rattle.stack_files.proofs.ClosingLemmas.{are-synced}
use Rattle.stack_files.proofs.closing.sync_and_close.Goals as goal

pub returns : goal.returns
returns g c = record {
  leaves' = c.sync-synced.new.self.leaves;
  are_synced = are-synced c.args.stack.leaves c.sync-synced.new.self.leaves c.sync-synced.result c.sync-synced.ensures.ok c.sync-synced.ensures.err;
  back = c.close_stack.ensures;
}
