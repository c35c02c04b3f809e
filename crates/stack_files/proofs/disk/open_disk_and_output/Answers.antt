use Rattle.std.proofs.Common.{ℕ, [], ◌∷◌, inl, inr, refl}
use Rattle.std.proofs.Math.Path.{subst₂}
use Rattle.image_files.specs.declared.file_use.FileUse.{FileUse}
use Rattle.image_files.specs.Opener.{calls}
use Rattle.stack_files.specs.declared.opening_fault.OpeningFault.TheVariants as opening
use Rattle.stack_files.specs.declared.stack_fault.StackFault.TheVariants.{Open}
use Rattle.stack_files.specs.Disks.{LacksOutput, OpensWithRoom}
use Rattle.stack_files.specs.Endings.{opening_ending}
use Rattle.stack_files.specs.NamedDevices.{device_place}
use Rattle.stack_files.proofs.OpeningLemmas.{err-from}
use Rattle.stack_files.proofs.disk.open_disk_and_output.Goals as goal

pub returns-in_err-opened-clause-err : goal.returns-in_err-opened-clause-err
returns-in_err-opened-clause-err g c =
    let file = c.in_err-opened.field-0.0 in
    err-from c.from_residual.result _ (Open file) c.from_residual.ensures.1 (inl (inl (opening.Open file, refl, inl c.in_err-opened.ensures.err)))

pub returns-in_err-over-clause-err : goal.returns-in_err-over-clause-err
returns-in_err-over-clause-err g c =
    let cause = c.in_err-over.field-0.0 in
    err-from c.from_residual-in_err-over.result _ (opening_ending cause) c.from_residual-in_err-over.ensures.1
    (inl (inl (cause, refl, inr (record { disk = c.in_ok-opened.opened; opened = c.in_ok-opened.ensures.ok; unmade = c.in_err-over.ensures.err }))))

pub returns-in_err-stack-clause-err : goal.returns-in_err-stack-clause-err
returns-in_err-stack-clause-err g c =
    err-from c.from_residual-in_err-stack.result _ c.in_err-stack.field-0.0 c.from_residual-in_err-stack.ensures.1
    (inl (inr (
      c.in_ok-over.over,
      record { disk = c.in_ok-opened.opened; opened = c.in_ok-opened.ensures.ok; is = c.in_ok-over.ensures.ok },
      c.in_err-stack.ensures.err,
    )))

pub returns-in_err-image-clause-err : goal.returns-in_err-image-clause-err
returns-in_err-image-clause-err g c =
    let w = calls g.I.Images.relations g.I.Dev.BlockDev.state c.open_place_apart.new.images c.open_output.new.images in
    let file = c.in_err-image.field-0.0 in
    err-from c.from_residual-in_err-image.result _ (Open file) c.from_residual-in_err-image.ensures.1
    (inr (record {
      between = c.open_place_apart.new.images;
      disk = c.in_ok-opened.opened;
      over = c.in_ok-over.over;
      found = device_place c.in_ok-stack.stack c.in_ok-stack.device.0;
      file = file;
      opened = c.in_ok-opened.ensures.ok;
      is_stack = c.in_ok-over.ensures.ok;
      has = c.in_ok-stack.ensures.ok;
      lacks = subst₂ (λ (n : ℕ) (file_use : FileUse). LacksOutput w (file_use ∷ c.args.used ∷ []) c.args.disk.grow c.args.out.now n file) c.sectors-sectors.ensures.size c.place_use.ensures c.in_err-image.ensures.err;
      is = refl;
    }))

pub returns-clause-ok : goal.returns-clause-ok
returns-clause-ok g c =
    let w = calls g.I.Images.relations g.I.Dev.BlockDev.state c.open_place_apart.new.images c.open_output.new.images in
    record {
      between = c.open_place_apart.new.images;
      disk = c.in_ok-opened.opened;
      over = c.in_ok-over.over;
      opened = c.in_ok-opened.ensures.ok;
      is = c.in_ok-over.ensures.ok;
      has = c.in_ok-stack.ensures.ok;
      output = subst₂ (λ (n : ℕ) (file_use : FileUse). OpensWithRoom w (file_use ∷ c.args.used ∷ []) c.args.disk.grow c.args.out.now n c.in_ok-image.image) c.sectors-sectors.ensures.size c.place_use.ensures c.in_ok-image.ensures.ok;
    }
