use Rattle.std.proofs.Common.{◌∙◌, ℕ, List, ap, take}
use Rattle.uuid.specs.Parts.{with_variant, with_version}
use Rattle.uuid.specs.declared.Variant.TheVariants.{RFC4122}
use Rattle.uuid.specs.declared.Version.TheVariants.{Custom}
use Rattle.assemble_commands.specs.Identifiers.{identifier}
use Rattle.assemble_commands.proofs.identifiers.identifier.Goals as goal

pub returns : goal.returns
unfolding identifier
returns c =
    let bytes = c.first_half.ensures ∙ ap (take 16) (c.as_bytes.ensures.value ∙ c.digest-digest.ensures) in
    c.into_bytes.ensures ∙ c.new_v8.ensures.value ∙ ap (λ (half : List ℕ). with_version (with_variant half RFC4122) Custom) bytes
