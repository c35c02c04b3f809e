use Rattle.std.proofs.Common.{arith, inl, inr, refl}
use Rattle.partition_commands.specs.declared.fault.PartitionsFault.TheVariants.{Write}
use Rattle.partition_commands.proofs.EndingLemmas.{err-from}
use Rattle.partition_commands.proofs.LoadLemmas.{load-end}
use Rattle.partition_commands.proofs.NoteLemmas.{on_err-any}
use Rattle.partition_commands.proofs.loading.say_loadable.Goals as goal

pub returns-in-Err-clause-err : goal.returns-in-Err-clause-err
returns-in-Err-clause-err g c =
    let fails = rw c.in_ok-leaves.ensures.ok at c.in-Err.ensures.err in
    rw c.load_end.ensures (load-end c.args.writable c.args.sectors c.args.text.now c.args.writer.now.failed c.in-Err.fault fails)

pub returns-clause-ok : goal.returns-clause-ok
returns-clause-ok g c =
    (record { config = c.in-Ok.config; short = omega arith; makes = rw c.in_ok-leaves.ensures.ok at c.in-Ok.ensures.ok }, c.in_ok-put.ensures.writes.ok)

pub returns-in_err-leaves-clause-quiet : goal.returns-in_err-leaves-clause-quiet
returns-in_err-leaves-clause-quiet g c = on_err-any c.from_residual.result _ (λ fault. inr refl)

pub returns-in_err-put-clause-quiet : goal.returns-in_err-put-clause-quiet
returns-in_err-put-clause-quiet g c = err-from c.from_residual-in_err-put.result _ Write c.from_residual-in_err-put.ensures.1 (inl refl)
