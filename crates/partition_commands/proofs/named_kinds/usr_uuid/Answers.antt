use Rattle.std.proofs.Common.{refl, ◌∙◌}
use Rattle.partition_commands.specs.declared.usr_types.TheConstants.{USR_TYPES}
use Rattle.partition_commands.specs.NamedKinds.{usr_uuid}
use Rattle.partition_commands.proofs.KindLemmas.{same-name_in}
use Rattle.partition_commands.proofs.named_kinds.usr_uuid.Goals as goal

pub returns : goal.returns
unfolding usr_uuid
returns c = c.uuid_in.ensures ∙ same-name_in _ _ _ USR_TYPES.now (λ row. row.1.now) (λ row. row.0.now) refl c.args.name.now _
