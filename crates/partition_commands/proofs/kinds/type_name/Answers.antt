use Rattle.std.proofs.Common.{refl, ◌∙◌, ap}
use Rattle.partition_commands.specs.declared.root_types.TheConstants.{ROOT_TYPES}
use Rattle.partition_commands.specs.Kinds.{name_in, type_name}
use Rattle.partition_commands.proofs.KindLemmas.{same-name_in}
use Rattle.partition_commands.proofs.kinds.type_name.Goals as goal

pub returns : goal.returns
unfolding type_name
returns c = c.name_in.ensures ∙ same-name_in _ _ _ ROOT_TYPES.now (λ row. row.0.now) (λ row. row.1.now) refl c.args.text.now _ ∙ ap (name_in ROOT_TYPES.now (λ row. row.0.now) (λ row. row.1.now) c.args.text.now) c.usr_name-other.ensures
