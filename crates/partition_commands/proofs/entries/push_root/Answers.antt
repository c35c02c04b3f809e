use Rattle.std.proofs.Common.{rules, append_assoc}
use Rattle.stack_files.specs.DiskEntries.{entry_text}
use Rattle.partition_commands.proofs.entries.push_root.Goals as goal

pub returns-clause-ok : goal.returns-clause-ok
unfolding entry_text
returns-clause-ok c = search (rules, append_assoc)
