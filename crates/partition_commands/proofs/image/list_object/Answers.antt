use Rattle.std.proofs.Common.{◌∙◌, List, ℕ, subst, inl, inr, refl}
use Rattle.std.specs.Io.KnownBytes.{Appends}
use Rattle.partition_commands.specs.declared.fault.PartitionsFault.TheVariants.{NoMemory, Refused, Write}
use Rattle.partition_commands.specs.declared.refusal.PartitionRefusal.TheVariants.{Table}
use Rattle.partition_commands.proofs.EndingLemmas.{err-from}
use Rattle.partition_commands.proofs.NoteLemmas.{on_err-any}
use Rattle.partition_commands.proofs.image.list_object.Goals as goal

pub returns-clause-ok : goal.returns-clause-ok
returns-clause-ok g c =
    let old = g.W.Write.contents c.args.writer.now.inner in
    let new = g.W.Write.contents c.put.new.self.inner in
    record {
      table = c.in_ok-table.table;
      found = c.in_ok-table.ensures.ok.found;
      printed = subst (λ (line : List ℕ). Appends old new line) (c.as_bytes.ensures.value ∙ c.in_ok-line.ensures) c.in_ok-put.ensures.writes.ok;
      noted = c.in_ok-table.ensures.ok.noted;
    }

pub returns-in_err-line-clause-err : goal.returns-in_err-line-clause-err
returns-in_err-line-clause-err g c =
    err-from c.from_residual-in_err-line.result _ NoMemory c.from_residual-in_err-line.ensures.1 (c.in_ok-table.table, c.in_ok-table.ensures.ok.found)

pub returns-in_err-table-clause-noted : goal.returns-in_err-table-clause-noted
returns-in_err-table-clause-noted g c =
    err-from c.from_residual.result _ (Refused (Table c.in_err-table.field-0.0)) c.from_residual.ensures.1 (inl (tt, c.in_err-table.ensures.unnoted))

pub returns-in_err-line-clause-noted : goal.returns-in_err-line-clause-noted
returns-in_err-line-clause-noted g c = on_err-any c.from_residual-in_err-line.result _ (λ fault. inr (g.D.BlockDev.state c.find_noted.new.device, c.in_ok-table.table, c.in_ok-table.ensures.ok))

pub returns-in_err-put-clause-noted : goal.returns-in_err-put-clause-noted
returns-in_err-put-clause-noted g c = on_err-any c.from_residual-in_err-put.result _ (λ fault. inr (g.D.BlockDev.state c.find_noted.new.device, c.in_ok-table.table, c.in_ok-table.ensures.ok))

pub returns-in_err-table-clause-quiet : goal.returns-in_err-table-clause-quiet
returns-in_err-table-clause-quiet g c = on_err-any c.from_residual.result _ (λ fault. inr refl)

pub returns-in_err-line-clause-quiet : goal.returns-in_err-line-clause-quiet
returns-in_err-line-clause-quiet g c = on_err-any c.from_residual-in_err-line.result _ (λ fault. inr refl)

pub returns-in_err-put-clause-quiet : goal.returns-in_err-put-clause-quiet
returns-in_err-put-clause-quiet g c = err-from c.from_residual-in_err-put.result _ Write c.from_residual-in_err-put.ensures.1 (inl refl)
