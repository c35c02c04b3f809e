use Rattle.std.proofs.Common.{◌++◌, [], ◌∷◌, ◌∙◌, List, None, ap, append_assoc, arith, refl, inr}
use Rattle.std.specs.Prelude.{option_map}
use Rattle.command_line.specs.PartBindings.{part_record}
use Rattle.image_files.specs.declared.file_use.FileUse.{FileUse}
use Rattle.image_files.specs.Opener.{calls}
use Rattle.image_files.specs.Places.{device_part}
use Rattle.stack_files.specs.declared.opening_fault.OpeningFault.TheVariants.{NoMemory}
use Rattle.stack_files.specs.WholeFiles.{read_use}
use Rattle.stack_files.proofs.MappedLemmas.{mapped-end}
use Rattle.stack_files.proofs.OpeningLemmas.{err-from}
use Rattle.stack_files.proofs.leaves.open_with_map.Goals as goal

pub returns-in_err-image-clause-err : goal.returns-in_err-image-clause-err
returns-in_err-image-clause-err g c =
    let refused = rw (c.as_slice.ensures.value, c.named_part-part.ensures) at c.in_err-image.ensures.err in
    err-from c.from_residual.result _ c.in_err-image.field-0.0 c.from_residual.ensures.1
    (mapped-end (calls g.I.Images.relations g.I.Dev.BlockDev.state c.args.images.now c.open_mapped.new.images) c.args.files.now.items c.args.path.now c.args.map_file.now
    (option_map part_record c.args.part) c.in_err-image.field-0.0 refused)

pub returns-in_err-push-clause-err : goal.returns-in_err-push-clause-err
returns-in_err-push-clause-err g c =
    err-from c.from_residual-in_err-push.result _ NoMemory c.from_residual-in_err-push.ensures.1 (
      inr (
        c.in_ok-image.image.device,
        c.args.files.now.items ++ read_use c.in_ok-image.image.map_id None ∷ read_use c.in_ok-image.image.id (option_map device_part (option_map part_record c.args.part)) ∷ [],
        record { image = c.in_ok-image.image; opened = rw (c.as_slice.ensures.value, c.named_part-part.ensures) at c.in_ok-image.ensures.ok; is = refl; more = refl },
      ),
      (1, omega arith, c.in_err-push.ensures.err.1),
    )

pub returns-in_err-push-2-clause-err : goal.returns-in_err-push-2-clause-err
returns-in_err-push-2-clause-err g c =
    err-from c.from_residual-in_err-push-2.result _ NoMemory c.from_residual-in_err-push-2.ensures.1 (
      inr (
        c.in_ok-image.image.device,
        c.args.files.now.items ++ read_use c.in_ok-image.image.map_id None ∷ read_use c.in_ok-image.image.id (option_map device_part (option_map part_record c.args.part)) ∷ [],
        record { image = c.in_ok-image.image; opened = rw (c.as_slice.ensures.value, c.named_part-part.ensures) at c.in_ok-image.ensures.ok; is = refl; more = refl },
      ),
      (1, omega arith, c.in_err-push-2.ensures.err.1),
    )

pub returns-clause-ok : goal.returns-clause-ok
returns-clause-ok g c =
    let map_pushed = rw c.read_use.ensures at c.in_ok-push.ensures.ok in
    let image_pushed = rw (c.read_use-2.ensures, c.named_part-part.ensures) at c.in_ok-push-2.ensures.ok in
    record {
      image = c.in_ok-image.image;
      opened = rw (c.as_slice.ensures.value, c.named_part-part.ensures) at c.in_ok-image.ensures.ok;
      is = refl;
      more = image_pushed ∙ (ap (λ (l : List FileUse). l ++ read_use c.in_ok-image.image.id (option_map device_part (option_map part_record c.args.part)) ∷ []) map_pushed
          ∙ append_assoc c.args.files.now.items (read_use c.in_ok-image.image.map_id None ∷ []) (read_use c.in_ok-image.image.id (option_map device_part (option_map part_record c.args.part)) ∷ []));
    }
