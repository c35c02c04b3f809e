use Rattle.std.proofs.Common.{map, refl, subst}
use Rattle.std.proofs.lemmas.List.{take_all}
use Rattle.image_files.specs.Opener.{calls}
use Rattle.verity_commands.specs.declared.tree_fault.TreeFault.TheVariants.{Open, Survey}
use Rattle.tree_survey.specs.declared.fault.SurveyFault.TheVariants.{Image}
use Rattle.verity_format.specs.declared.verifying.VerifyFault.TheVariants.{NoMemory}
use Rattle.repair_commands.specs.Copies.{OpensEachCopy, path_in}
use Rattle.repair_commands.proofs.CopyLemmas.{opens-next, refuses-at}
use Rattle.repair_commands.proofs.EndingLemmas.{err-from}
use Rattle.repair_commands.proofs.copies.open_copies.Goals as goal

pub copies-preserved : goal.copies-preserved
copies-preserved g c =
    opens-next g.I.Images.relations g.I.Dev.BlockDev.state c.args.files.now (path_in c.args.hashes) c.args.images.now c.copies.images c.open_place_apart.new.images c.args.copies.now c.copies.copy-index _
    c.copies.devices.items c.add.new.devices.items c.in_ok-image.image.device c.copies-test.true c.copies.invariant (record { image = c.in_ok-image.image; opened = rw c.path_in.ensures at c.in_ok-image.ensures.ok; device_is = refl }) c.in-Ok.ensures.ok

pub returns-clause-ok : goal.returns-clause-ok
returns-clause-ok g c =
    subst (λ xs. OpensEachCopy (calls g.I.Images.relations g.I.Dev.BlockDev.state c.args.images.now c.copies.images) c.args.files.now (map (path_in c.args.hashes) xs) c.copies.devices.items)
    (take_all c.copies.copy-index c.args.copies.now c.copies-test.false) c.copies.invariant

pub returns-in_err-image-clause-err : goal.returns-in_err-image-clause-err
returns-in_err-image-clause-err g c =
    err-from c.from_residual.result _ (Open c.in_err-image.field-0.0) c.from_residual.ensures.1
    (refuses-at g.I.Images.relations g.I.Dev.BlockDev.state c.args.files.now (path_in c.args.hashes) c.args.images.now c.copies.images c.open_place_apart.new.images c.args.copies.now c.copies.copy-index _
    c.copies.devices.items (Open c.in_err-image.field-0.0) c.copies-test.true c.copies.invariant (rw c.path_in.ensures at c.in_err-image.ensures.err))

pub returns-in_default-clause-err : goal.returns-in_default-clause-err
returns-in_default-clause-err g c =
    refuses-at g.I.Images.relations g.I.Dev.BlockDev.state c.args.files.now (path_in c.args.hashes) c.args.images.now c.copies.images c.open_place_apart.new.images c.args.copies.now c.copies.copy-index _
    c.copies.devices.items (Survey (Image NoMemory)) c.copies-test.true c.copies.invariant ((c.in_ok-image.image.device, record { image = c.in_ok-image.image; opened = rw c.path_in.ensures at c.in_ok-image.ensures.ok; device_is = refl }), c.in_default.ensures.err)
