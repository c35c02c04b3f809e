use Rattle.std.proofs.Common.{codes, decimal}
use Rattle.stack_files.specs.DiskEntries.{linear_line}
use Rattle.stack_files.proofs.lemmas.EntryLemmas.{append-four}
use Rattle.stack_files.proofs.disk_entries.push_linear.Goals as goal

pub returns-clause-ok : goal.returns-clause-ok
unfolding linear_line
returns-clause-ok c =
    append-four c.args.text.now.items _ _ _ _ (codes "0 ") (decimal c.args.part.count) (codes " linear DISK ") (decimal c.args.part.first) c.in_ok-append.ensures.ok c.in_ok-push_number.ensures.ok
    c.in_ok-append-2.ensures.ok c.in_ok-push_number-2.ensures.ok
