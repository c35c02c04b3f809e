use Rattle.std.proofs.Common.{rules, append_assoc}
use Rattle.assemble_commands.specs.Kinds.{kind_text}
use Rattle.assemble_commands.proofs.kinds.push_kind.Goals as goal

pub returns-clause-ok : goal.returns-clause-ok
unfolding kind_text
returns-clause-ok c = search (rules, append_assoc)
