use Rattle.command_line.specs.FormatOptions.{option_texts}
use Rattle.verity_commands.specs.Endings.{words_ending}
use Rattle.std.proofs.Common.{inl, inr, refl}
use Rattle.verity_commands.specs.declared.verity_fault.VerityFault.TheVariants.{Image}
use Rattle.verity_commands.proofs.EndingLemmas.{err-from, quiet, unsaid, unwritten-quiet}
use Rattle.verity_commands.proofs.formatting.invoke_format.Goals as goal

pub returns-in_err-check_root_path-clause-err : goal.returns-in_err-check_root_path-clause-err
returns-in_err-check_root_path-clause-err g c =
    let fault = c.in_err-check_root_path.field-0.0 in
    let one = rw c.places_of-watched.ensures at c.in_err-check_root_path.ensures.err in
    err-from c.from_residual-in_err-check_root_path.result _ (Image fault) c.from_residual-in_err-check_root_path.ensures.1
    (inr (c.in_ok-options.options, c.in_ok-options.ensures.ok, inl (one, refl)), quiet (Image fault) _)

pub returns-in_err-made-clause-err : goal.returns-in_err-made-clause-err
returns-in_err-made-clause-err g c =
    let fault = c.in_err-made.field-0.0 in
    let path = rw c.places_of-watched.ensures at c.in_ok-check_root_path.ensures.ok in
    err-from c.from_residual-in_err-made.result _ (Image fault) c.from_residual-in_err-made.ensures.1 (
      inr (c.in_ok-options.options, c.in_ok-options.ensures.ok, inr (inl (record { between = c.check_root_path.new.images; path = path; ends = c.in_err-made.ensures.err }))),
      quiet (Image fault) _,
    )

pub returns-in_err-write_root-clause-err : goal.returns-in_err-write_root-clause-err
returns-in_err-write_root-clause-err g c =
    let fault = c.in_err-write_root.field-0.0 in
    let path = rw c.places_of-watched.ensures at c.in_ok-check_root_path.ensures.ok in
    let unwritten = rw (c.places_of-watched.ensures, c.pin_of_image-pin.ensures) at c.in_err-write_root.ensures.err in
    err-from c.from_residual-in_err-write_root.result _ (Image fault) c.from_residual-in_err-write_root.ensures.1 (
      inr (
        c.in_ok-options.options,
        c.in_ok-options.ensures.ok,
        inr (inr (inl (record {
          between = c.make_image.new.images;
          made = c.in_ok-made.made;
          makes = record { between = c.check_root_path.new.images; path = path; makes = c.in_ok-made.ensures.ok };
          unwritten = unwritten;
        }))),
      ),
      quiet (Image fault) _,
    )

pub returns-in_err-print_made-clause-err : goal.returns-in_err-print_made-clause-err
returns-in_err-print_made-clause-err g c =
    let fault = c.in_err-print_made.field-0.0 in
    let path = rw c.places_of-watched.ensures at c.in_ok-check_root_path.ensures.ok in
    let writes = rw (c.places_of-watched.ensures, c.pin_of_image-pin.ensures) at c.in_ok-write_root.ensures.ok in
    err-from c.from_residual-in_err-print_made.result _ (Image fault) c.from_residual-in_err-print_made.ensures.1 (
      inr (
        c.in_ok-options.options,
        c.in_ok-options.ensures.ok,
        inr (inr (inr (
          c.in_ok-made.made,
          record {
            between = c.make_image.new.images;
            makes = record { between = c.check_root_path.new.images; path = path; makes = c.in_ok-made.ensures.ok };
            writes = writes;
          },
          c.in_err-print_made.ensures.err,
        ))),
      ),
      unwritten-quiet _ fault _ _ c.in_err-print_made.ensures.err,
    )

pub returns-in_err-options-clause-err : goal.returns-in_err-options-clause-err
returns-in_err-options-clause-err g c =
    let fault = c.in_err-options.field-0.0 in
    err-from c.from_residual.result _ (words_ending fault) c.from_residual.ensures.1
    (inl (unsaid (option_texts c.args.options.now) fault c.in_err-options.ensures.err, refl), quiet (words_ending fault) _)
