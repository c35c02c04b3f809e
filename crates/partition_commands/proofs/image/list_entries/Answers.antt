use Rattle.std.proofs.Common.{sym, ◌∙◌, inl, inr, refl}
use Rattle.std.proofs.lemmas.Result.{IfErr-weaker, on_ok_weaker}
use Rattle.partition_commands.specs.declared.fault.PartitionsFault.TheVariants.{Refused}
use Rattle.partition_commands.specs.declared.refusal.PartitionRefusal.TheVariants.{Table}
use Rattle.partition_commands.proofs.EndingLemmas.{err-from, say-entries}
use Rattle.partition_commands.proofs.NoteLemmas.{on_err-any}
use Rattle.partition_commands.proofs.image.list_entries.Goals as goal

pub returns-clause-ok : goal.returns-clause-ok
returns-clause-ok g c =
    let said = rw (c.sectors-sectors.ensures.size, c.deref-2.ensures.value) at c.say_stack.ensures.ok in
    on_ok_weaker c.say_stack.result
    (λ both. record {
      table = c.in_ok-table.table;
      found = c.in_ok-table.ensures.ok.found;
      within = rw c.deref.ensures.value at (sym c.are_within.ensures ∙ c.if-not-are_within.false);
      loads = both.0;
      printed = both.1;
      noted = c.in_ok-table.ensures.ok.noted;
    })
    said

pub returns-then-not-are_within-clause-err : goal.returns-then-not-are_within-clause-err
returns-then-not-are_within-clause-err g c = record {
  table = c.in_ok-table.table;
  found = c.in_ok-table.ensures.ok.found;
  outside = rw c.deref.ensures.value at (sym c.are_within.ensures ∙ c.if-not-are_within.true);
}

pub returns-clause-err : goal.returns-clause-err
returns-clause-err g c =
    let old = g.D.BlockDev.state c.args.device.now in
    let new = g.D.BlockDev.state c.find_noted.new.device in
    let table = c.in_ok-table.table in
    let ended = rw (c.sectors-sectors.ensures.size, c.deref-2.ensures.value) at c.say_stack.ensures.err in
    IfErr-weaker c.say_stack.result _ _
    (λ fault ends. say-entries old new c.args.plan.now table c.say_stack.new.writer.failed fault (λ refused. record { table = table; found = c.in_ok-table.ensures.ok.found; within = rw c.deref.ensures.value at (sym c.are_within.ensures ∙ c.if-not-are_within.false); unloadable = refused }) ends) ended

pub returns-in_err-table-clause-noted : goal.returns-in_err-table-clause-noted
returns-in_err-table-clause-noted g c =
    err-from c.from_residual.result _ (Refused (Table c.in_err-table.field-0.0)) c.from_residual.ensures.1 (inl (tt, c.in_err-table.ensures.unnoted))

pub returns-then-not-are_within-clause-noted : goal.returns-then-not-are_within-clause-noted
returns-then-not-are_within-clause-noted g c = inr (g.D.BlockDev.state c.find_noted.new.device, c.in_ok-table.table, c.in_ok-table.ensures.ok)

pub returns-clause-noted : goal.returns-clause-noted
returns-clause-noted g c = on_err-any c.say_stack.result _ (λ fault. inr (g.D.BlockDev.state c.find_noted.new.device, c.in_ok-table.table, c.in_ok-table.ensures.ok))

pub returns-in_err-table-clause-quiet : goal.returns-in_err-table-clause-quiet
returns-in_err-table-clause-quiet g c = on_err-any c.from_residual.result _ (λ fault. inr refl)
