use Rattle.std.proofs.Common.{refl, ◌∙◌, ap}
use Rattle.partition_commands.specs.declared.root_types.TheConstants.{ROOT_TYPES}
use Rattle.partition_commands.specs.Kinds.{name_in}
use Rattle.partition_commands.specs.NamedKinds.{root_uuid}
use Rattle.partition_commands.proofs.KindLemmas.{same-name_in}
use Rattle.partition_commands.proofs.named_kinds.root_uuid.Goals as goal

pub returns : goal.returns
unfolding root_uuid
returns c = c.uuid_in.ensures ∙ same-name_in _ _ _ ROOT_TYPES.now (λ row. row.1.now) (λ row. row.0.now) refl c.args.name.now _ ∙ ap (name_in ROOT_TYPES.now (λ row. row.1.now) (λ row. row.0.now) c.args.name.now) c.usr_uuid-other.ensures
