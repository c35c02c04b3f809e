use Rattle.std.proofs.Common.{refl, ◌∙◌}
use Rattle.partition_commands.specs.declared.kinds.TheConstants.{COMMON_TYPES}
use Rattle.partition_commands.specs.Kinds.{common_name}
use Rattle.partition_commands.proofs.KindLemmas.{same-name_in}
use Rattle.partition_commands.proofs.kinds.common_name.Goals as goal

pub returns : goal.returns
unfolding common_name
returns c = c.name_in.ensures ∙ same-name_in _ _ _ COMMON_TYPES.now (λ row. row.0.now) (λ row. row.1.now) refl c.args.text.now _
