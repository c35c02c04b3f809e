-- One block that is checked.
use Rattle.std.proofs.Common.{◌≡◌, ℕ, Bool, true, false, cond, List, Ok, Err, refl, sym, ap, ◌∙◌}
use Rattle.std.proofs.lemmas.Slice.Eq.{bytes_eq-Decides}
use Rattle.std.specs.Str.{bytes_eq}
use Rattle.tree_shape.specs.Digests.{digest}
use Rattle.stack_meaning.specs.Outcomes.{Outcome, mismatch, then_outcome}
use Rattle.stack_meaning.specs.Checked.{checked}

pub then-parts : (x : Outcome) (next : List ℕ → Outcome) (bytes : List ℕ) → then_outcome x next ≡ Ok bytes → (b : List ℕ) × (x ≡ Ok b) × (next b ≡ Ok bytes)
then-parts (Ok b) next bytes e = (b, refl, e)
then-parts (Err f) next bytes e = cc

pub checked-same : (salt expected block : List ℕ) → digest salt block ≡ expected → checked salt expected block ≡ Ok block
checked-same salt expected block e = ap (λ (b : Bool). cond b (Ok block) (Err mismatch)) ((bytes_eq-Decides (digest salt block) expected).1 e)

pub checked-is : (salt expected block bytes : List ℕ) → checked salt expected block ≡ Ok bytes → block ≡ bytes
checked-is salt expected block bytes e = go (bytes_eq (digest salt block) expected) e
  where
    go : (b : Bool) → cond b (Ok block) (Err mismatch) ≡ Ok bytes → block ≡ bytes
    go true h = cc
    go false h = cc

pub checked-digest : (salt expected block bytes : List ℕ) → checked salt expected block ≡ Ok bytes → digest salt bytes ≡ expected
checked-digest salt expected block bytes e = go (bytes_eq (digest salt block) expected) refl e
  where
    go : (b : Bool) → bytes_eq (digest salt block) expected ≡ b → cond b (Ok block) (Err mismatch) ≡ Ok bytes → digest salt bytes ≡ expected
    go true same h =
        let is : block ≡ bytes = cc in
        ap (digest salt) (sym is) ∙ (bytes_eq-Decides (digest salt block) expected).0 same
    go false other h = cc
