use Rattle.std.proofs.Common.{◌++◌, [], ◌∷◌, arith, refl, inl, inr}
use Rattle.std.proofs.lemmas.Result.{IfErr-weaker, IfOk-weaker}
use Rattle.image_files.specs.FileUses.{image_use, part_use}
use Rattle.stack_files.specs.declared.opening_fault.OpeningFault.TheVariants.{NoMemory}
use Rattle.command_line.specs.PartBindings.{part_record}
use Rattle.image_files.specs.Places.{device_part}
use Rattle.stack_files.specs.Openings.{part_ending}
use Rattle.stack_files.proofs.OpeningLemmas.{err-from, part-refused}
use Rattle.stack_files.proofs.leaves.open_backing.Goals as goal

pub returns-in_err-push-in-File-clause-err : goal.returns-in_err-push-in-File-clause-err
returns-in_err-push-in-File-clause-err g c =
    err-from c.from_residual-in_err-push-in-File.result _ NoMemory c.from_residual-in_err-push-in-File.ensures.1
    (rw c.in-File.is (
      inr (
        c.in_ok-image-in-File.image.device,
        c.args.files.now.items ++ image_use c.in-File.writable c.in_ok-image-in-File.image ∷ [],
        record { image = c.in_ok-image-in-File.image; opened = rw c.as_slice.ensures.value at c.in_ok-image-in-File.ensures.ok; is = refl; more = refl },
      ),
      (1, omega arith, c.in_err-push-in-File.ensures.err.1),
    ))

pub returns-in_ok-push-in-File-clause-ok : goal.returns-in_ok-push-in-File-clause-ok
returns-in_ok-push-in-File-clause-ok g c =
    rw c.in-File.is (record {
      image = c.in_ok-image-in-File.image;
      opened = rw c.as_slice.ensures.value at c.in_ok-image-in-File.ensures.ok;
      is = refl;
      more = c.in_ok-push-in-File.ensures.ok;
    })

pub returns-in_err-image-in-Part-clause-err : goal.returns-in_err-image-in-Part-clause-err
returns-in_err-image-in-Part-clause-err g c =
    let refused = rw (c.as_slice-in-Part.ensures.value, c.device_part-part.ensures) at c.in_err-image-in-Part.ensures.err in
    err-from c.from_residual-in_err-image-in-Part.result _ (part_ending c.in_err-image-in-Part.field-0.0) c.from_residual-in_err-image-in-Part.ensures.1
    (rw c.in-Part.is (part-refused _ _ _ _ (part_record c.in-Part.part) c.in_err-image-in-Part.field-0.0 refused))

pub returns-in_err-push-in-Part-clause-err : goal.returns-in_err-push-in-Part-clause-err
returns-in_err-push-in-Part-clause-err g c =
    err-from c.from_residual-in_err-push-in-Part.result _ NoMemory c.from_residual-in_err-push-in-Part.ensures.1
    (rw c.in-Part.is (
      inr (
        c.in_ok-image-in-Part.image.device,
        c.args.files.now.items ++ part_use c.in-Part.writable (device_part (part_record c.in-Part.part)) c.in_ok-image-in-Part.image ∷ [],
        record {
          image = c.in_ok-image-in-Part.image;
          opened = rw (c.as_slice-in-Part.ensures.value, c.device_part-part.ensures) at c.in_ok-image-in-Part.ensures.ok;
          is = refl;
          more = refl;
        },
      ),
      (1, omega arith, c.in_err-push-in-Part.ensures.err.1),
    ))

pub returns-in_ok-push-in-Part-clause-ok : goal.returns-in_ok-push-in-Part-clause-ok
returns-in_ok-push-in-Part-clause-ok g c =
    rw c.in-Part.is (record {
      image = c.in_ok-image-in-Part.image;
      opened = rw (c.as_slice-in-Part.ensures.value, c.device_part-part.ensures) at c.in_ok-image-in-Part.ensures.ok;
      is = refl;
      more = rw c.device_part-part.ensures at c.in_ok-push-in-Part.ensures.ok;
    })

pub returns-in-Partition-clause-err : goal.returns-in-Partition-clause-err
returns-in-Partition-clause-err g c = rw c.in-Partition.is (record { path_is = refl; fault_is = refl; same = refl })

pub returns-in-Mapped-clause-ok : goal.returns-in-Mapped-clause-ok
returns-in-Mapped-clause-ok g c = rw c.in-Mapped.is (IfOk-weaker c.open_with_map.result _ _ (λ device opened. opened) c.open_with_map.ensures.ok)

pub returns-in-Mapped-clause-err : goal.returns-in-Mapped-clause-err
returns-in-Mapped-clause-err g c = rw c.in-Mapped.is (IfErr-weaker c.open_with_map.result _ _ (λ fault fails. fails) c.open_with_map.ensures.err)

pub returns-in_err-zeros-in-Zeros-clause-err : goal.returns-in_err-zeros-in-Zeros-clause-err
returns-in_err-zeros-in-Zeros-clause-err g c =
    err-from c.from_residual-in_err-zeros-in-Zeros.result _ NoMemory c.from_residual-in_err-zeros-in-Zeros.ensures.1
    (rw c.in-Zeros.is (inl refl, (c.in_err-zeros-in-Zeros.field-0.0.asked, c.in_err-zeros-in-Zeros.ensures.err, c.in_err-zeros-in-Zeros.field-0.0.refused)))

pub returns-in_err-ramp-in-Ramp-clause-err : goal.returns-in_err-ramp-in-Ramp-clause-err
returns-in_err-ramp-in-Ramp-clause-err g c =
    err-from c.from_residual-in_err-ramp-in-Ramp.result _ NoMemory c.from_residual-in_err-ramp-in-Ramp.ensures.1
    (rw c.in-Ramp.is (inl refl, (c.in_err-ramp-in-Ramp.field-0.0.asked, c.in_err-ramp-in-Ramp.ensures.err, c.in_err-ramp-in-Ramp.field-0.0.refused)))
