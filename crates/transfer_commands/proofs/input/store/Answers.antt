use Rattle.std.proofs.Common.{inl, inr}
use Rattle.transfer_commands.proofs.input.store.Goals as goal

pub returns-in-Err-clause-err : goal.returns-in-Err-clause-err
returns-in-Err-clause-err g c = inr (inl (record { left = c.store_by.new.stack; stops = c.in-Err.ensures.err; synced = c.sync_stopped.ensures }))
