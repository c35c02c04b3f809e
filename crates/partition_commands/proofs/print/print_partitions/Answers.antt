use Rattle.std.proofs.Common.{inl, inr}
use Rattle.program_io.proofs.lemmas.CountedLemmas.{on_ok-as}
use Rattle.partition_commands.specs.declared.fault.PrintFault.TheVariants.{Table}
use Rattle.partition_commands.proofs.EndingLemmas.{err-from}
use Rattle.partition_commands.proofs.NoteLemmas.{on_err-any}
use Rattle.partition_commands.proofs.print.print_partitions.Goals as goal

pub returns-clause-ok : goal.returns-clause-ok
returns-clause-ok g c =
    on_ok-as c.say_table.result
    (λ printed. record {
      table = c.in_ok-table.table;
      found = c.in_ok-table.ensures.ok.found;
      printed = printed;
      noted = c.in_ok-table.ensures.ok.noted;
    })
    c.say_table.ensures.ok

pub returns-in_err-table-clause-noted : goal.returns-in_err-table-clause-noted
returns-in_err-table-clause-noted g c =
    err-from c.from_residual.result _ (Table c.in_err-table.field-0.0) c.from_residual.ensures.1 (inl (tt, c.in_err-table.ensures.unnoted))

pub returns-clause-noted : goal.returns-clause-noted
returns-clause-noted g c =
    on_err-any c.say_table.result _ (λ fault. inr (g.D.BlockDev.state c.find_noted.new.device, c.in_ok-table.table, c.in_ok-table.ensures.ok))
