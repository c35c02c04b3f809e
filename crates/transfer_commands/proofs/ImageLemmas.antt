-- Sectors of another device that are read and written, piece by piece.
use Rattle.std.proofs.Common.{◌≡◌, ℕ, ◌+◌, ◌-◌, ◌*◌, ◌/◌, true, IsTrue, List, [], ◌++◌, length, take, drop, Ok, Err, Result, refl, sym, ap, ◌∙◌, subst, arith}
use Rattle.std.specs.Prelude.{OnOk, is_ok}
use Rattle.std.specs.List.{concat}
use Rattle.std.proofs.Math.Seq.{take-add}
use Rattle.std.proofs.lemmas.List.{length-append}
use Rattle.std.proofs.lemmas.List.Folds.{concat-append}
use Rattle.block_device.specs.Device.{Device, IsRead, IsSameDevice, run_of}
use Rattle.stack_engine.specs.Stacks.{StackRecord}
use Rattle.stack_engine.specs.WritePieces.{EachWrite}
use Rattle.stack_engine.proofs.lemmas.WritePieceLemmas.{write-none, write-then}
use Rattle.stack_engine.specs.KeptBlocks.{AreChecked}
use Rattle.request_queue.specs.AtOnce.{IsNextWrite, no_step}
use Rattle.request_queue.specs.Ranges.{range_at}
use Rattle.request_queue.proofs.lemmas.AtOnceLemmas.{beside-more, next-piece}
use Rattle.transfer_commands.specs.Images.{HasStoredImage}
use Rattle.transfer_commands.specs.Stores.{IsPieceStored}
use Rattle.transfer_commands.proofs.StoreLemmas.{AreNext}

pub image-none : (d first : ℕ) (w : StackRecord) (source : Device) → HasStoredImage d first 0 w source w
image-none d first w source = record { bytes = []; count = refl; pieces = write-none w d first; steps = λ given fs. no_step; held = λ steady. refl }

-- a source that was only read
pub record IsUnchanged (old now : Device) : Type 0 where
  pub same : IsSameDevice old now
  pub failures : now.failures ≡ old.failures
  pub image : IsTrue old.steady → now.image ≡ old.image

pub unchanged-none : (source : Device) → IsUnchanged source source
unchanged-none source = record { same = record { size = refl; may_write = refl; steady = refl; never_fails = λ h. h }; failures = refl; image = λ h. refl }

module _ (old now new : Device) (u : IsUnchanged old now) (n : ℕ) (r : IsRead now n true new) where
  pub unchanged-more : IsUnchanged old new
  unchanged-more = record {
    same = record { size = r.same.size ∙ u.same.size; may_write = r.same.may_write ∙ u.same.may_write; steady = r.same.steady ∙ u.same.steady; never_fails = λ h. r.same.never_fails (u.same.never_fails h) };
    failures = r.failures ∙ u.failures;
    image = λ steady. r.image (subst IsTrue (sym u.same.steady) steady) ∙ u.image steady;
  }

-- The next piece. Its sectors are within the device, which may be written.
pub image-piece : (d first k n : ℕ) (w mid new : StackRecord) (old now : Device) (u : IsUnchanged old now) (p : HasStoredImage d first k w old mid) (piece : List ℕ) → length piece ≡ 512 * n
    → (IsTrue now.steady → piece ≡ concat (run_of now.image k n)) → AreNext mid d (first + k) (old.size - k) n → IsPieceStored mid d (first + k) piece new → AreChecked new → HasStoredImage d first (k + n) w old new
image-piece d first k n w mid new old now u p piece long held next q checked =
    let here : k ≡ length p.bytes / 512 = omega (arith, p.count) in
    let start : first + k ≡ first + length p.bytes / 512 = omega (arith, p.count) in
    let left : 512 * old.size - length p.bytes ≡ 512 * (old.size - k) = omega (arith, p.count) in
    let sectors : length piece / 512 ≡ n = omega (arith, long) in
    let paid : IsNextWrite mid d (first + k) (512 * old.size - length p.bytes) (length piece) new =
    record { next = next-piece mid.config d (first + k) (old.size - k) n (512 * old.size - length p.bytes) (length piece) next.len long left; wrote = q.wrote; needed = q.needed } in
    record {
      bytes = p.bytes ++ piece;
      count = length-append p.bytes piece ∙ omega (arith, p.count, long);
      pieces = write-then d first p.bytes piece (omega (arith, p.count)) p.pieces (subst (λ (m : ℕ). EachWrite mid d (first + m) piece (Ok tt) new) here q.written);
      steps = beside-more (range_at d first old.size) w mid new p.bytes piece next.allowed (omega (arith, start, sectors, next.inside)) checked
          (subst (λ (m : ℕ). IsNextWrite mid d m (512 * old.size - length p.bytes) (length piece) new) start paid) p.steps
          (subst (λ (m : ℕ). EachWrite mid d m piece (Ok tt) new) start q.written);
      held = λ steady.
          ap (λ (l : List ℕ). l ++ piece) (p.held steady)
          ∙ ap (λ (l : List ℕ). concat (take k old.image) ++ l) (held (subst IsTrue (sym u.same.steady) steady) ∙ ap (λ (i : List (List ℕ)). concat (run_of i k n)) (u.image steady))
          ∙ sym (concat-append (take k old.image) (take n (drop k old.image)))
          ∙ ap concat (sym (take-add k n old.image));
    }

-- what holds where a call succeeded
pub of_ok : {T E : Type 0} (r : Result T E) (P : Type 0) → is_ok r ≡ true → OnOk r P → P
of_ok (Ok x) P e p = p
of_ok (Err x) P e p = cc
