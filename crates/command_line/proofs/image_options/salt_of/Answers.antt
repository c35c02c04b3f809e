use Rattle.std.proofs.Common.{◌≡◌, ◌∙◌, false, codes, ap, sym, Err}
use Rattle.std.specs.Str.{bytes_eq}
use Rattle.command_line.proofs.SaltLemmas.{salt-long}
use Rattle.command_line.proofs.image_options.salt_of.Goals as goal

pub returns-then-word-gt-MOST_SALT_DIGITS-clause-err : goal.returns-then-word-gt-MOST_SALT_DIGITS-clause-err
returns-then-word-gt-MOST_SALT_DIGITS-clause-err c =
    let dash : bytes_eq c.in-Some.word.now (codes "-") ≡ false = sym c.eq.ensures ∙ c.if-eq.false in
    salt-long c.args.word c.in-Some.word c.in-Some.is dash c.if-word-gt-MOST_SALT_DIGITS.true ∙ ap Err (sym c.new-2.ensures)
