use Rattle.std.proofs.Common.{refl, ◌∙◌, ap}
use Rattle.partition_commands.specs.declared.usr_types.TheConstants.{USR_TYPES}
use Rattle.partition_commands.specs.Kinds.{name_in, usr_name}
use Rattle.partition_commands.proofs.KindLemmas.{same-name_in}
use Rattle.partition_commands.proofs.kinds.usr_name.Goals as goal

pub returns : goal.returns
unfolding usr_name
returns c = c.name_in.ensures ∙ same-name_in _ _ _ USR_TYPES.now (λ row. row.0.now) (λ row. row.1.now) refl c.args.text.now _ ∙ ap (name_in USR_TYPES.now (λ row. row.0.now) (λ row. row.1.now) c.args.text.now) c.signature_name-other.ensures
