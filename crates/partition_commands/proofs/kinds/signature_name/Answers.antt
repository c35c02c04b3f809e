use Rattle.std.proofs.Common.{refl, ◌∙◌, ap}
use Rattle.partition_commands.specs.declared.signature_types.TheConstants.{SIGNATURE_TYPES}
use Rattle.partition_commands.specs.Kinds.{name_in, signature_name}
use Rattle.partition_commands.proofs.KindLemmas.{same-name_in}
use Rattle.partition_commands.proofs.kinds.signature_name.Goals as goal

pub returns : goal.returns
unfolding signature_name
returns c = c.name_in.ensures ∙ same-name_in _ _ _ SIGNATURE_TYPES.now (λ row. row.0.now) (λ row. row.1.now) refl c.args.text.now _ ∙ ap (name_in SIGNATURE_TYPES.now (λ row. row.0.now) (λ row. row.1.now) c.args.text.now) c.common_name-other.ensures
