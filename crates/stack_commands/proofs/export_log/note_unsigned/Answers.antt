use Rattle.std.proofs.Common.{◌∙◌, Bool, refl, subst, sym}
use Rattle.stack_files.specs.Unchecked.{unchecked_text}
use Rattle.stack_files.specs.Warnings.{notes_of}
use Rattle.stack_commands.specs.ServiceLog.{IsWarnedIf}
use Rattle.stack_commands.proofs.export_log.note_unsigned.Goals as goal

pub returns-then-not-has_signature : goal.returns-then-not-has_signature
returns-then-not-has_signature g c =
    let errors = c.args.errors.now in
    subst (λ (b : Bool). IsWarnedIf b (unchecked_text c.args.config.now) (notes_of g.E.Write.contents errors errors)) (sym c.if-not-has_signature.true ∙ c.has_signature.ensures) refl

pub returns : goal.returns
returns g c =
    subst (λ (b : Bool). IsWarnedIf b (unchecked_text c.args.config.now) (notes_of g.E.Write.contents c.args.errors.now c.note_unchecked.new.errors)) (sym c.if-not-has_signature.false ∙ c.has_signature.ensures) c.note_unchecked.ensures.noted
