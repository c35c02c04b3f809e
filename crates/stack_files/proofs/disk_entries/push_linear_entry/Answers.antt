use Rattle.std.proofs.Common.{rules, append_assoc}
use Rattle.stack_files.specs.DiskEntries.{entry_text}
use Rattle.stack_files.proofs.disk_entries.push_linear_entry.Goals as goal

pub returns-clause-ok : goal.returns-clause-ok
unfolding entry_text
returns-clause-ok c = search (rules, append_assoc)
