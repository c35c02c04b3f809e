use Rattle.std.proofs.Common.{refl, ◌∙◌}
use Rattle.partition_commands.specs.declared.signature_types.TheConstants.{SIGNATURE_TYPES}
use Rattle.partition_commands.specs.Kinds.{is_signature_text}
use Rattle.partition_commands.proofs.KindLemmas.{same-has_type}
use Rattle.partition_commands.proofs.kinds.is_signature_text.Goals as goal

pub returns : goal.returns
unfolding is_signature_text
returns c = c.has_type.ensures ∙ same-has_type _ _ SIGNATURE_TYPES.now (λ row. row.0.now) refl c.args.text.now
