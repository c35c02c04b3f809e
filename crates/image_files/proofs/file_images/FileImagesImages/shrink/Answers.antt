use Rattle.std.proofs.Common.{◌≡◌, ◌⊎◌, ℕ, Bool, true, false, List, Result, Ok, Err, IsErrAnd, inl, inr, refl, subst, sym, ◌∙◌}
use Rattle.std.proofs.lemmas.Bool.{false≢true}
use Rattle.std.specs.Prelude.{IsTrue}
use Rattle.block_device.specs.declared.open_fault.OpenFault.{OpenFault}
use Rattle.block_device.specs.FileId.{file_id, file_of}
use Rattle.image_files.specs.FileRelations.{IsUnshrunk, OpenerState, Shrinks}
use Rattle.image_files.proofs.FileLemmas.{locks_at_most, locks_opened, made}
use Rattle.image_files.proofs.file_images.FileImagesImages.shrink.Goals as goal

-- what is passed on of a fault
passes : {C : Type 0} (old : OpenerState C) (path : List ℕ) (n : ℕ) (result : Result (Unit {0}) OpenFault) (new : OpenerState C) (fault : OpenFault) → IsErrAnd result (λ e. e ≡ fault) → IsUnshrunk path n fault → Shrinks old path n result new
passes old path n (Ok done) new fault is why = absurd is
passes old path n (Err e) new fault is why = subst (IsUnshrunk path n) (sym is) why

pub returns-in_err-metadata : goal.returns-in_err-metadata
returns-in_err-metadata g c = (
  made _ _ _,
  refl,
  inl refl,
  passes (record { calls = c.args.self.now.texts.calls; locked = c.args.self.now.locks.files.items }) c.args.path.now c.args.sectors c.from_residual.result
      (record { calls = c.args.self.now.texts.calls; locked = c.args.self.now.locks.files.items }) c.in_err-metadata.field-0.0 c.from_residual.ensures.1
      (inl c.in_err-metadata.ensures.err),
)

pub returns-in_err-file : goal.returns-in_err-file
returns-in_err-file g c = (
  made _ _ _,
  refl,
  inl c.in_err-file.ensures.same,
  passes (record { calls = c.args.self.now.texts.calls; locked = c.args.self.now.locks.files.items }) c.args.path.now c.args.sectors c.from_residual-in_err-file.result
      (record { calls = c.args.self.now.texts.calls; locked = c.open_file.new.locks.files.items }) c.in_err-file.field-0.0 c.from_residual-in_err-file.ensures.1
      (inr (inr (inl c.in_err-file.ensures.err))),
)

pub returns-in_err-shorten : goal.returns-in_err-shorten
returns-in_err-shorten g c = (
  made _ _ _,
  refl,
  locks_at_most true (file_id c.in_ok-file.file) c.args.self.now.locks.files.items c.open_file.new.locks.files.items c.in_ok-file.ensures.locked.0,
  passes (record { calls = c.args.self.now.texts.calls; locked = c.args.self.now.locks.files.items }) c.args.path.now c.args.sectors c.from_residual-in_err-shorten.result
      (record { calls = c.args.self.now.texts.calls; locked = c.open_file.new.locks.files.items }) c.in_err-shorten.field-0.0 c.from_residual-in_err-shorten.ensures.1
      (inr (inr (inr (record { file = file_of c.in_ok-file.file; opened = c.in_ok-file.ensures.locked.1; refused = inl c.in_err-shorten.ensures.err })))),
)

pub returns-in-Ok : goal.returns-in-Ok
returns-in-Ok g c = (
  made _ _ _,
  refl,
  locks_at_most true (file_id c.in_ok-file.file) c.args.self.now.locks.files.items c.open_file.new.locks.files.items c.in_ok-file.ensures.locked.0,
  inr (record {
    file = file_of c.in_ok-file.file;
    left = file_of c.shorten.new.self;
    synced = file_of c.sync.new.self;
    opened = c.in_ok-file.ensures.locked.1;
    locks = locks_opened c.in_ok-file.file _ _ _ c.in_ok-file.ensures.size c.in_ok-file.ensures.locked.0;
    short = c.in_ok-shorten.ensures.short;
    syncs = c.in-Ok.ensures.call.1.0;
  }),
)

-- a file that has lost no writes isn't synced in vain without a call
called : {lost : Bool} {Same Called : Type 0} → lost ≡ false → ((IsTrue lost × Same) ⊎ Called) → Called
called none (inl given) = absurd (false≢true (sym none ∙ given.0))
called none (inr made) = made

pub returns : goal.returns
returns g c = (
  made _ _ _,
  refl,
  locks_at_most true (file_id c.in_ok-file.file) c.args.self.now.locks.files.items c.open_file.new.locks.files.items c.in_ok-file.ensures.locked.0,
  inr (inr (inr (record {
    file = file_of c.in_ok-file.file;
    opened = c.in_ok-file.ensures.locked.1;
    refused = inr (record {
      left = file_of c.shorten.new.self;
      synced = file_of c.sync.new.self;
      short = c.in_ok-shorten.ensures.short;
      failed = called (c.in_ok-shorten.ensures.lost ∙ c.in_ok-file.ensures.locked.2) c.in-Err.ensures.call.1.0;
      is = refl;
    });
  }))),
)
