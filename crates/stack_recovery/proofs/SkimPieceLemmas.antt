-- The pieces of a pass in large pieces, one after another.
use Rattle.std.proofs.Common.{◌≡◌, ℕ, ◌+◌, Bool, IsTrue, List, [], ◌∷◌, ◌++◌, length, refl, sym, ap, ◌∙◌, subst, arith, append_assoc}
use Rattle.std.proofs.lemmas.List.{append-nil, length-append}
use Rattle.std.proofs.lemmas.List.Concat.{flat_map-append}
use Rattle.block_device.specs.Call.{Call}
use Rattle.block_device.specs.Device.{Device, IsWritten, sectors_of, spliced}
use Rattle.stack_engine.specs.Stacks.{StackRecord}
use Rattle.stack_recovery.specs.Copies.{image_after}
use Rattle.stack_recovery.specs.FirstPasses.{IsSkimCopied}
use Rattle.stack_recovery.specs.Handing.{calls_found}
use Rattle.stack_recovery.specs.PassPieces.{Pass}
use Rattle.stack_recovery.specs.Skims.{AreSkims, IsSkimFound, IsSkimOver, Skim, failed_of, marks_of, skim_calls, skim_failed, skim_image, skim_marks, skip_from}
use Rattle.stack_recovery.specs.Skips.{skip_after}
use Rattle.stack_recovery.specs.Surveys.{IsPieceSurveyed, had}
use Rattle.stack_recovery.proofs.CopyLemmas.{same-device}

marks-after : (first : ℕ) (x : Skim) (more : List Skim) → first + length (skim_marks (x ∷ more)) ≡ first + length (marks_of x) + length (skim_marks more)
marks-after first x more = omega (arith, length-append {A = Bool} (marks_of x) (skim_marks more))

-- a piece after those so far
pub marks-push : (skims : List Skim) (s : Skim) → skim_marks (skims ++ s ∷ []) ≡ skim_marks skims ++ marks_of s
marks-push skims s = flat_map-append marks_of skims (s ∷ []) ∙ ap (λ (l : List Bool). skim_marks skims ++ l) (append-nil (marks_of s))

pub failed-push : (skims : List Skim) (s : Skim) → skim_failed (skims ++ s ∷ []) ≡ skim_failed skims ++ failed_of s
failed-push skims s = flat_map-append failed_of skims (s ∷ []) ∙ ap (λ (l : List Bool). skim_failed skims ++ l) (append-nil (failed_of s))

pub skim-push : (marks : List Bool) (d first : ℕ) (w : StackRecord) (skims : List Skim) (mid : StackRecord) (s : Skim) → IsSkimOver marks d first w skims mid
    → IsPieceSurveyed marks d (first + length (skim_marks skims)) mid s.piece → IsSkimOver marks d first w (skims ++ s ∷ []) s.piece.after
skim-push marks d first w [] mid s h p =
    let at : first + 0 ≡ first = omega arith in
    (subst (λ (v : StackRecord). IsPieceSurveyed marks d first v s.piece) h (subst (λ (k : ℕ). IsPieceSurveyed marks d k mid s.piece) at p), refl)
skim-push marks d first w (x ∷ more) mid s h p =
    (h.0, skim-push marks d (first + length (marks_of x)) x.piece.after more mid s h.1 (subst (λ (k : ℕ). IsPieceSurveyed marks d k mid s.piece) (marks-after first x more) p))

pub skims-push : (most : ℕ) (p : Pass) (first wanted : ℕ) (skims : List Skim) (s : Skim) → AreSkims most p first wanted skims
    → IsSkimFound p (first + length (skim_marks skims)) (skip_from most wanted skims) s.piece.count s.piece.found s.skip → AreSkims most p first wanted (skims ++ s ∷ [])
skims-push most p first wanted [] s h next =
    let at : first + 0 ≡ first = omega arith in
    (subst (λ (k : ℕ). IsSkimFound p k wanted s.piece.count s.piece.found s.skip) at next, tt)
skims-push most p first wanted (x ∷ more) s h next = (
  h.0,
  skims-push most p (first + length (marks_of x)) (skip_after most wanted x.piece.found) more s h.1
      (subst (λ (k : ℕ). IsSkimFound p k (skip_from most wanted (x ∷ more)) s.piece.count s.piece.found s.skip) (marks-after first x more) next),
)

pub skip-push : (most wanted : ℕ) (skims : List Skim) (s : Skim) → skip_from most wanted (skims ++ s ∷ []) ≡ skip_after most (skip_from most wanted skims) s.piece.found
skip-push most wanted [] s = refl
skip-push most wanted (x ∷ more) s = skip-push most (skip_after most wanted x.piece.found) more s

pub skim-calls-push : (first : ℕ) (skims : List Skim) (s : Skim)
    → skim_calls first (skims ++ s ∷ []) ≡ skim_calls first skims ++ calls_found (first + length (skim_marks skims)) s.piece.found
skim-calls-push first [] s =
    let at : first ≡ first + 0 = omega arith in
    append-nil (calls_found first s.piece.found) ∙ ap (λ (k : ℕ). calls_found k s.piece.found) at
skim-calls-push first (x ∷ more) s =
    ap (λ (l : List Call). calls_found first x.piece.found ++ l)
    (skim-calls-push (first + length (marks_of x)) more s
    ∙ ap (λ (k : ℕ). skim_calls (first + length (marks_of x)) more ++ calls_found k s.piece.found) (sym (marks-after first x more)))
    ∙ sym (append_assoc (calls_found first x.piece.found) (skim_calls (first + length (marks_of x)) more) (calls_found (first + length (skim_marks (x ∷ more))) s.piece.found))

skim_image-push : (first : ℕ) (skims : List Skim) (s : Skim) (image : List (List ℕ))
    → skim_image first (skims ++ s ∷ []) image ≡ image_after (first + length (skim_marks skims)) s.piece.found s.piece.count (skim_image first skims image)
skim_image-push first [] s image = let at : first ≡ first + 0 = omega arith in ap (λ (k : ℕ). image_after k s.piece.found s.piece.count image) at
skim_image-push first (x ∷ more) s image =
    let next : List (List ℕ) = image_after first x.piece.found x.piece.count image in
    skim_image-push (first + length (marks_of x)) more s next
    ∙ ap (λ (k : ℕ). image_after k s.piece.found s.piece.count (skim_image (first + length (marks_of x)) more next)) (sym (marks-after first x more))

-- ---- the output device

pub skim-copied-none : (device : Device) → IsSkimCopied [] device device
skim-copied-none device = record { same = record { size = refl; may_write = refl; steady = refl; never_fails = λ h. h }; image = λ h. refl }

-- a piece of which nothing is written
pub skim-copied-lost : (skims : List Skim) (s : Skim) (old new : Device) → ((first n : ℕ) (image : List (List ℕ)) → image_after first s.piece.found n image ≡ image) → IsSkimCopied skims old new → IsSkimCopied (skims ++ s ∷ []) old new
skim-copied-lost skims s old new none p = record {
  same = p.same;
  image = λ steady. p.image steady ∙ sym (skim_image-push 0 skims s old.image ∙ none (0 + length (skim_marks skims)) s.piece.count (skim_image 0 skims old.image));
}

-- a piece that is written at its offset
pub skim-copied-had : (skims : List Skim) (n at k : ℕ) (bytes : List ℕ) (after : StackRecord) (ok : Bool) (old mid new : Device) → at ≡ length (skim_marks skims) → k ≡ n → IsSkimCopied skims old mid
    → IsWritten mid at k ok new → (IsTrue mid.steady → new.image ≡ spliced mid.image at (sectors_of k bytes))
    → IsSkimCopied (skims ++ (record { piece = record { count = n; found = had bytes; after = after }; skip = 0 }) ∷ []) old new
skim-copied-had skims n at k bytes after ok old mid new here count p w image =
    let s : Skim = record { piece = record { count = n; found = had bytes; after = after }; skip = 0 } in
    let from : at ≡ 0 + length (skim_marks skims) = omega (arith, here) in
    record {
      same = same-device p.same w.same;
      image = λ steady.
          image (subst IsTrue (sym p.same.steady) steady)
          ∙ ap (λ (m : ℕ). spliced mid.image at (sectors_of m bytes)) count
          ∙ ap (λ (i : List (List ℕ)). spliced i at (sectors_of n bytes)) (p.image steady)
          ∙ ap (λ (f : ℕ). spliced (skim_image 0 skims old.image) f (sectors_of n bytes)) from
          ∙ sym (skim_image-push 0 skims s old.image);
    }
