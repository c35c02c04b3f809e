-- Sectors that are copied, run by run.
use Rattle.std.proofs.Common.{◌≡◌, ◌⊎◌, ℕ, ◌+◌, ◌-◌, ◌/◌, ◌<◌, ◌≤◌, ◌^◌, IsTrue, Bool, true, List, [], Result, Ok, Err, ◌++◌, length, take, drop, All, refl, sym, ap, subst, ◌∙◌, arith, inl, inr}
use Rattle.std.specs.Prelude.{OnErr, OnOk}
use Rattle.std.specs.Result.{is_ok}
use Rattle.std.specs.List.{concat}
use Rattle.std.proofs.Math.Seq.{take-add}
use Rattle.std.proofs.lemmas.List.{length-take-le}
use Rattle.block_device.specs.Device.{Device, HasFailed, IsSameDevice, IsRead, IsWritten, IsWhole, run_of, sectors_of, spliced}
use Rattle.device_adapters.specs.Copying.{AreCopied, FailsToCopy}
use Rattle.device_adapters.proofs.PutLemmas.{bytes-stand, same-device, spliced-more, spliced-same}

pub ended-on : {T E : Type 0} {X : Type 0} (r : Result T E) → X → OnErr r X
ended-on (Ok done) holds = tt
ended-on (Err fault) holds = holds

-- what holds of a call by whether it succeeded, and what holds if it did
pub joined-ok : {T E : Type 0} {A B : Type 0} (F : Bool → Type 0) (r : Result T E) → F (is_ok r) → OnOk r A → (F true → A → B) → OnOk r B
joined-ok F (Ok done) moved holds go = go moved holds
joined-ok F (Err fault) moved holds go = tt

-- a failure after calls that didn't fail
pub failed-then : (old mid new : Device) → mid.failures ≡ old.failures → HasFailed mid new → HasFailed old new
failed-then old mid new same failed = subst (λ (n : ℕ). (n < new.failures) ⊎ (n ≡ 2 ^ 64 - 1)) same failed

-- nothing is copied yet
pub copied-none : (from to : Device) → AreCopied from to 0 0 from to
copied-none from to = record {
  from_same = record { size = refl; may_write = refl; steady = refl; never_fails = λ h. h };
  from_failures = refl;
  from_image = λ steady. refl;
  to_same = record { size = refl; may_write = refl; steady = refl; never_fails = λ h. h };
  to_failures = refl;
  image = λ one other. sym (spliced-same to.image 0 [] refl);
}

-- a run that was read and written
pub copied-run : (from to from' to' : Device) (first n m : ℕ) (out : List ℕ) → IsWhole from → first + n ≤ from.size → IsRead from m true from' → IsWritten to first n true to'
    → (IsTrue from.steady → out ≡ concat (run_of from.image first n)) → (IsTrue to.steady → to'.image ≡ spliced to.image first (sectors_of n out)) → AreCopied from to first n from' to'
copied-run from to from' to' first n m out whole inside read written gives puts = record {
  from_same = read.same;
  from_failures = read.failures;
  from_image = read.image;
  to_same = written.same;
  to_failures = written.failures;
  image = λ one other. puts other ∙ ap (λ (s : List (List ℕ)). spliced to.image first s) (bytes-stand from.image first n out whole.sectors (omega (arith, inside, whole.length)) (gives one));
}

-- some sectors, and then those after them
pub copied-more : (from to from1 to1 from2 to2 : Device) (k m : ℕ) → k + m ≤ length from.image → AreCopied from to 0 k from1 to1 → AreCopied from1 to1 k m from2 to2 → AreCopied from to 0 (k + m) from2 to2
copied-more from to from1 to1 from2 to2 k m some p q =
    let steady-from : IsTrue from.steady → IsTrue from1.steady = λ h. subst IsTrue (sym p.from_same.steady) h in
    let steady-to : IsTrue to.steady → IsTrue to1.steady = λ h. subst IsTrue (sym p.to_same.steady) h in
    let front : List (List ℕ) = take k from.image in
    let long : length front ≡ k = length-take-le k from.image (omega (arith, some)) in
    let end : k ≡ 0 + length front = omega (arith, long) in
    record {
      from_same = same-device p.from_same q.from_same;
      from_failures = q.from_failures ∙ p.from_failures;
      from_image = λ h. q.from_image (steady-from h) ∙ p.from_image h;
      to_same = same-device p.to_same q.to_same;
      to_failures = q.to_failures ∙ p.to_failures;
      image = λ one other.
          q.image (steady-from one) (steady-to other)
          ∙ ap (λ (image : List (List ℕ)). spliced to1.image k (run_of image k m)) (p.from_image one)
          ∙ ap (λ (image : List (List ℕ)). spliced image k (run_of from.image k m)) (p.image one other)
          ∙ ap (λ (j : ℕ). spliced (spliced to.image 0 front) j (run_of from.image k m)) end
          ∙ spliced-more to.image 0 front (run_of from.image k m) (omega arith)
          ∙ ap (spliced to.image 0) (sym (take-add k m from.image));
    }

-- a run that wasn't copied
pub copied-failed : (from to from1 to1 from2 to2 : Device) (k : ℕ) → AreCopied from to 0 k from1 to1 → FailsToCopy from1 to1 from2 to2 → FailsToCopy from to from2 to2
copied-failed from to from1 to1 from2 to2 k p (inl failed) = inl (failed-then from from1 from2 p.from_failures failed)
copied-failed from to from1 to1 from2 to2 k p (inr failed) = inr (failed-then to to1 to2 p.to_failures failed)
