use Rattle.std.proofs.Common.{◌≡◌, ◌*◌, ℕ, true, List, Result, Ok, Err, IsErrAnd, OnOk, inl, inr, refl, subst, sym}
use Rattle.std.specs.Prelude.{IfErr}
use Rattle.std.specs.declared.fs.File.{File}
use Rattle.block_device.specs.declared.open_fault.OpenFault.{OpenFault}
use Rattle.block_device.specs.FileCalls.{Opened}
use Rattle.block_device.specs.FileId.{file_id, file_of}
use Rattle.block_device.specs.Identity.{IsLongEnough, IsNotLengthened}
use Rattle.image_files.specs.Calls.{FileRelations}
use Rattle.image_files.specs.FileLocks.{IsUnopenedFile}
use Rattle.image_files.specs.FileRelations.{Grows, LocksOpened, OpenerState}
use Rattle.image_files.specs.NewFiles.{FailsToMake, Makes}
use Rattle.image_files.proofs.FileLemmas.{locks_at_most, locks_opened, made}
use Rattle.image_files.proofs.file_images.FileImagesImages.grow.Goals as goal

-- a file that was made, or was there, and then is locked and has so many sectors
grows : {C F : Type 0} (r : FileRelations C F) (old new : OpenerState C) (path : List ℕ) (n : ℕ) (result : Result (Unit {0}) OpenFault) (file left : File) → Makes r old.calls path new.calls
    → Opened path true file → LocksOpened file old.locked new.locked → OnOk result (IsLongEnough file (n * 512) left) → IfErr result (IsNotLengthened file (n * 512)) → Grows r old path n result new
grows r old new path n (Ok done) file left is opened locks long refused = inr (record { makes = is; file = file; left = left; opened = opened; locks = locks; long = long })
grows r old new path n (Err fault) file left is opened locks long refused = inr (inr (is, inr (record { file = file; opened = opened; refused = refused })))

pub returns : goal.returns
returns g c = (
  made _ _ _,
  locks_at_most true (file_id c.in_ok-file.file) c.args.self.now.locks.files.items c.open_file.new.locks.files.items c.in_ok-file.ensures.locked.0,
  grows g.C.FileCalls.relations (record { calls = c.args.self.now.texts.calls; locked = c.args.self.now.locks.files.items }) (record { calls = c.make_file.new.calls; locked = c.open_file.new.locks.files.items })
      c.args.path.now c.args.sectors c.lengthen.result (file_of c.in_ok-file.file) (file_of c.lengthen.new.self) c.in_ok-make_file.ensures.ok c.in_ok-file.ensures.locked.1
      (locks_opened c.in_ok-file.file _ _ _ c.in_ok-file.ensures.size c.in_ok-file.ensures.locked.0) c.lengthen.ensures.long c.lengthen.ensures.err,
)

-- a file that wasn't made
unmade : {C F : Type 0} (r : FileRelations C F) (old new : OpenerState C) (path : List ℕ) (n : ℕ) (result : Result (Unit {0}) OpenFault) (fault : OpenFault)
    → IsErrAnd result (λ e. e ≡ fault) → FailsToMake r old.calls path fault new.calls → Grows r old path n result new
unmade r old new path n (Ok done) fault is h = absurd is
unmade r old new path n (Err e) fault is h = inr (inl (subst (λ f. FailsToMake r old.calls path f new.calls) (sym is) h))

pub returns-in_err-make_file : goal.returns-in_err-make_file
returns-in_err-make_file g c = (
  made _ _ _,
  inl refl,
  unmade g.C.FileCalls.relations (record { calls = c.args.self.now.texts.calls; locked = c.args.self.now.locks.files.items })
      (record { calls = c.make_file.new.calls; locked = c.args.self.now.locks.files.items }) c.args.path.now c.args.sectors c.from_residual.result c.in_err-make_file.field-0.0
      c.from_residual.ensures.1 c.in_err-make_file.ensures.err,
)

-- one that was made, or was there, and wasn't opened
unopened : {C F : Type 0} (r : FileRelations C F) (old new : OpenerState C) (path : List ℕ) (n : ℕ) (result : Result (Unit {0}) OpenFault) (fault : OpenFault)
    → IsErrAnd result (λ e. e ≡ fault) → Makes r old.calls path new.calls → IsUnopenedFile path true fault → Grows r old path n result new
unopened r old new path n (Ok done) fault is makes h = absurd is
unopened r old new path n (Err e) fault is makes h = inr (inr (makes, inl (subst (IsUnopenedFile path true) (sym is) h)))

pub returns-in_err-file : goal.returns-in_err-file
returns-in_err-file g c = (
  made _ _ _,
  inl c.in_err-file.ensures.same,
  unopened g.C.FileCalls.relations (record { calls = c.args.self.now.texts.calls; locked = c.args.self.now.locks.files.items })
      (record { calls = c.make_file.new.calls; locked = c.open_file.new.locks.files.items }) c.args.path.now c.args.sectors c.from_residual-in_err-file.result c.in_err-file.field-0.0
      c.from_residual-in_err-file.ensures.1 c.in_ok-make_file.ensures.ok c.in_err-file.ensures.err,
)
