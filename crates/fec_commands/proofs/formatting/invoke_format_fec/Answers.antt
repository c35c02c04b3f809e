use Rattle.std.proofs.Common.{ap, inl, inr, refl, sym, ◌∙◌}
use Rattle.verity_commands.specs.declared.verity_fault.VerityFault.TheVariants.{Image, Usage}
use Rattle.command_line.specs.FormatOptions.{option_texts}
use Rattle.verity_commands.specs.Endings.{words_ending}
use Rattle.fec_commands.specs.declared.fault.FecFault.TheVariants.{Verity}
use Rattle.fec_commands.proofs.EndingLemmas.{err-from, quiet, unsaid, unwritten-quiet, verity-quiet}
use Rattle.fec_commands.proofs.formatting.invoke_format_fec.Goals as goal

pub returns-then-not-is_roots-clause-err : goal.returns-then-not-is_roots-clause-err
returns-then-not-is_roots-clause-err g c = (inl (record { cause = Usage; unsaid = inl (refl, sym c.is_roots.ensures ∙ c.if-not-is_roots.true); is = refl; same = refl }), refl)

pub returns-then-says_two_sizes-clause-err : goal.returns-then-says_two_sizes-clause-err
returns-then-says_two_sizes-clause-err g c =
    (inr (inl (record { options = c.in-Ok.said; said = c.in-Ok.ensures.ok; two = sym c.says_two_sizes.ensures ∙ c.if-says_two_sizes.true; is = refl; same = refl })), refl)

pub returns-in-Err-clause-err : goal.returns-in-Err-clause-err
returns-in-Err-clause-err g c = (inl (record { cause = words_ending c.in-Err.fault; unsaid = inr (unsaid (option_texts c.args.options.now) c.in-Err.fault c.in-Err.ensures.err); is = ap Verity c.from.ensures; same = refl }), verity-quiet c.from.result _)

pub returns-in_err-check_files-clause-err : goal.returns-in_err-check_files-clause-err
returns-in_err-check_files-clause-err g c =
    let fault = c.in_err-check_files.field-0.0 in
    err-from c.from_residual.result _ fault c.from_residual.ensures.1
    (inr (inr (c.in-Ok.said, c.in-Ok.ensures.ok, inl c.in_err-check_files.ensures.err)), quiet fault _)

pub returns-in_err-made-clause-err : goal.returns-in_err-made-clause-err
returns-in_err-made-clause-err g c =
    let cause = c.in_err-made.field-0.0 in
    err-from c.from_residual-in_err-made.result _ (Verity (Image cause)) c.from_residual-in_err-made.ensures.1 (
      inr (inr (
        c.in-Ok.said,
        c.in-Ok.ensures.ok,
        inr (inl (record { checked = c.check_files.new.images; cause = cause; checks = c.in_ok-check_files.ensures.ok; ends = c.in_err-made.ensures.err; is = refl })),
      )),
      quiet (Verity (Image cause)) _,
    )

pub returns-in_err-finish-clause-err : goal.returns-in_err-finish-clause-err
returns-in_err-finish-clause-err g c =
    let fault = c.in_err-finish.field-0.0 in
    err-from c.from_residual-in_err-finish.result _ fault c.from_residual-in_err-finish.ensures.1 (
      inr (inr (
        c.in-Ok.said,
        c.in-Ok.ensures.ok,
        inr (inr (inl (record {
          between = c.make_image.new.images;
          made = c.in_ok-made.made;
          makes = record { checked = c.check_files.new.images; checks = c.in_ok-check_files.ensures.ok; makes = c.in_ok-made.ensures.ok };
          ends = c.in_err-finish.ensures.err;
        }))),
      )),
      quiet fault _,
    )

pub returns-in_err-print_made-clause-err : goal.returns-in_err-print_made-clause-err
returns-in_err-print_made-clause-err g c =
    let cause = c.in_err-print_made.field-0.0 in
    err-from c.from_residual-in_err-print_made.result _ (Verity (Image cause)) c.from_residual-in_err-print_made.ensures.1 (
      inr (inr (
        c.in-Ok.said,
        c.in-Ok.ensures.ok,
        inr (inr (inr (record {
          made = c.in_ok-made.made;
          cause = cause;
          makes = record {
            between = c.make_image.new.images;
            makes = record { checked = c.check_files.new.images; checks = c.in_ok-check_files.ensures.ok; makes = c.in_ok-made.ensures.ok };
            finishes = c.in_ok-finish.ensures.ok;
          };
          unwritten = c.in_err-print_made.ensures.err;
          is = refl;
        }))),
      )),
      unwritten-quiet _ cause _ _ c.in_err-print_made.ensures.err,
    )

pub returns-clause-ok : goal.returns-clause-ok
returns-clause-ok g c = record {
  options = c.in-Ok.said;
  said = c.in-Ok.ensures.ok;
  made = c.in_ok-made.made;
  makes = record {
    between = c.make_image.new.images;
    makes = record { checked = c.check_files.new.images; checks = c.in_ok-check_files.ensures.ok; makes = c.in_ok-made.ensures.ok };
    finishes = c.in_ok-finish.ensures.ok;
  };
  printed = c.in_ok-print_made.ensures.ok;
}
