use Rattle.std.proofs.Common.{◌∙◌, ◌==◌, ap, length, take}
use Rattle.std.specs.Prelude.{unwrap_or}
use Rattle.verity_format.proofs.FieldLemmas.{take-position}
use Rattle.verity_format.proofs.decoding.before_zero.Goals as goal

pub returns : goal.returns
returns c =
    ap (λ n. take n c.args.field.now) (c.unwrap_or-end.ensures ∙ ap (λ o. unwrap_or o (length c.args.field.now)) c.first_zero.ensures)
    ∙ take-position (λ b. b == 0) c.args.field.now
