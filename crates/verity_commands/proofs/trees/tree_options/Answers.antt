use Rattle.std.proofs.Common.{inl, inr, refl, sym}
use Rattle.command_line.specs.FormatOptions.{option_texts}
use Rattle.verity_commands.specs.Endings.{words_ending}
use Rattle.verity_commands.proofs.EndingLemmas.{err-from, unsaid}
use Rattle.verity_commands.proofs.trees.tree_options.Goals as goal

pub returns-in_err-options-clause-err : goal.returns-in_err-options-clause-err
returns-in_err-options-clause-err c =
    let fault = c.in_err-options.field-0.0 in
    err-from c.from_residual.result _ (words_ending fault) c.from_residual.ensures.1
    (inl (unsaid (option_texts c.args.options.now) fault c.in_err-options.ensures.err))

pub returns-in-None-clause-err : goal.returns-in-None-clause-err
returns-in-None-clause-err c = inr (record {
  options = c.in_ok-options.options;
  said = c.in_ok-options.ensures.ok;
  none = sym c.in-None.ensures;
  is = refl;
})
