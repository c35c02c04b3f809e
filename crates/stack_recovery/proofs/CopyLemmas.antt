-- A device to which sectors are copied.
use Rattle.std.proofs.Common.{◌≡◌, ℕ, ◌+◌, ◌-◌, Bool, true, IsTrue, List, [], ◌∷◌, ◌++◌, length, refl, sym, ap, ◌∙◌, subst, arith}
use Rattle.std.proofs.lemmas.List.{length-append}
use Rattle.block_device.specs.Device.{Device, IsSameDevice, IsWritten, sectors_of, spliced}
use Rattle.stack_engine.specs.Stacks.{StackRecord}
use Rattle.stack_recovery.specs.Copies.{IsCopied, copied_image, image_after}
use Rattle.stack_recovery.specs.Surveys.{had, probed, PieceRead, all_states, states_of}

copied_image-push : (first : ℕ) (reads : List PieceRead) (r : PieceRead) (image : List (List ℕ))
    → copied_image first (reads ++ r ∷ []) image ≡ image_after (first + length (all_states reads)) r.found r.count (copied_image first reads image)
copied_image-push first [] r image = let at : first ≡ first + 0 = omega arith in ap (λ (k : ℕ). image_after k r.found r.count image) at
copied_image-push first (x ∷ more) r image =
    let at : first + length (states_of x) + length (all_states more) ≡ first + length (all_states (x ∷ more)) = omega (arith, length-append (states_of x) (all_states more)) in
    let next : List (List ℕ) = image_after first x.found x.count image in
    copied_image-push (first + length (states_of x)) more r next
    ∙ ap (λ (k : ℕ). image_after k r.found r.count (copied_image (first + length (states_of x)) more next)) at

pub same-device : {a b c : Device} → IsSameDevice a b → IsSameDevice b c → IsSameDevice a c
same-device p q = record { size = q.size ∙ p.size; may_write = q.may_write ∙ p.may_write; steady = q.steady ∙ p.steady; never_fails = λ h. q.never_fails (p.never_fails h) }

pub copied-none : (device : Device) → IsCopied [] device device
copied-none device = record { same = record { size = refl; may_write = refl; steady = refl; never_fails = λ h. h }; image = λ h. refl }

-- a piece of which nothing is kept
pub copied-lost : (reads : List PieceRead) (r : PieceRead) (old new : Device) → ((first n : ℕ) (image : List (List ℕ)) → image_after first r.found n image ≡ image) → IsCopied reads old new → IsCopied (reads ++ r ∷ []) old new
copied-lost reads r old new none p = record {
  same = p.same;
  image = λ steady. p.image steady ∙ sym (copied_image-push 0 reads r old.image ∙ none (0 + length (all_states reads)) r.count (copied_image 0 reads old.image));
}

-- a piece that is written where it is stored
pub copied-had : (reads : List PieceRead) (n at k : ℕ) (bytes : List ℕ) (after : StackRecord) (ok : Bool) (old mid new : Device) → at ≡ length (all_states reads) → k ≡ n → IsCopied reads old mid
    → IsWritten mid at k ok new → (IsTrue mid.steady → new.image ≡ spliced mid.image at (sectors_of k bytes))
    → IsCopied (reads ++ (record { count = n; found = had bytes; after = after }) ∷ []) old new
copied-had reads n at k bytes after ok old mid new here count p w image =
    let r : PieceRead = record { count = n; found = had bytes; after = after } in
    let from : at ≡ 0 + length (all_states reads) = omega (arith, here) in
    record {
      same = same-device p.same w.same;
      image = λ steady.
          image (subst IsTrue (sym p.same.steady) steady)
          ∙ ap (λ (m : ℕ). spliced mid.image at (sectors_of m bytes)) count
          ∙ ap (λ (i : List (List ℕ)). spliced i at (sectors_of n bytes)) (p.image steady)
          ∙ ap (λ (s : ℕ). spliced (copied_image 0 reads old.image) s (sectors_of n bytes)) from
          ∙ sym (copied_image-push 0 reads r old.image);
    }

-- a piece after the sectors so far, that is written where it is stored
pub copied-behind : (reads : List PieceRead) (n at behind m : ℕ) (bytes : List ℕ) (after : StackRecord) (old mid new : Device) → at ≡ length (all_states reads) → m ≡ n - behind → IsCopied reads old mid
    → IsWritten mid (at + behind) m true new → (IsTrue mid.steady → new.image ≡ spliced mid.image (at + behind) (sectors_of m bytes))
    → IsCopied (reads ++ (record { count = n; found = probed behind bytes; after = after }) ∷ []) old new
copied-behind reads n at behind m bytes after old mid new here count p w image =
    let r : PieceRead = record { count = n; found = probed behind bytes; after = after } in
    let from : at ≡ 0 + length (all_states reads) = omega (arith, here) in
    record {
      same = same-device p.same w.same;
      image = λ steady.
          image (subst IsTrue (sym p.same.steady) steady)
          ∙ ap (λ (k : ℕ). spliced mid.image (at + behind) (sectors_of k bytes)) count
          ∙ ap (λ (i : List (List ℕ)). spliced i (at + behind) (sectors_of (n - behind) bytes)) (p.image steady)
          ∙ ap (λ (s : ℕ). spliced (copied_image 0 reads old.image) (s + behind) (sectors_of (n - behind) bytes)) from
          ∙ sym (copied_image-push 0 reads r old.image);
    }
