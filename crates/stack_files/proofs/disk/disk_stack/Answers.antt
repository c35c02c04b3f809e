use Rattle.std.proofs.Common.{◌≤◌, ◌^◌, ℕ, List, arith, length, refl, subst, sym, ap, ◌∙◌}
use Rattle.stack_files.specs.declared.opening_fault.OpeningFault.TheVariants.{NoMemory}
use Rattle.stack_files.specs.Disks.{disk_text}
use Rattle.stack_files.proofs.DiskLemmas.{length-disk_text}
use Rattle.stack_files.proofs.OpeningLemmas.{err-from}
use Rattle.stack_files.proofs.disk.disk_stack.Goals as goal

pub returns-in_err-push_linear_entry-clause-err : goal.returns-in_err-push_linear_entry-clause-err
returns-in_err-push_linear_entry-clause-err g c =
    let refused = c.in_err-push_linear_entry.field-0.0 in
    err-from c.from_residual.result _ NoMemory c.from_residual.ensures.1 (refl, (refused.asked, c.in_err-push_linear_entry.ensures.err, refused.refused))

pub returns-in_err-bind-clause-err : goal.returns-in_err-bind-clause-err
returns-in_err-bind-clause-err g c =
    let refused = c.in_err-bind.field-0.0 in
    let few : refused.asked ≤ 5 = c.in_err-bind.ensures.err in
    err-from c.from_residual-in_err-bind.result _ NoMemory c.from_residual-in_err-bind.ensures.1 (refl, (refused.asked, omega (arith, few), refused.refused))

pub returns-clause-ok : goal.returns-clause-ok
unfolding disk_text
returns-clause-ok g c =
    let count : ℕ = c.sectors-count.result in
    let text = rw c.new-bytes.ensures.items at c.in_ok-push_linear_entry.ensures.ok in
    let few = length-disk_text count c.sectors-count.ensures.small in
    record {
      text = text ∙ ap disk_text c.sectors-count.ensures.size;
      short = subst (λ (bytes : List ℕ). length bytes ≤ 2 ^ 20) (sym text) few;
      names = rw c.new-over.ensures.none.0 at c.in_ok-bind.ensures.more.0;
      devices = rw c.new-over.ensures.none.1 at c.in_ok-bind.ensures.more.1;
      served = c.in_ok-bind.ensures.served;
    }
