-- What a definition by descend says in two configurations whose leaves and devices have other numbers.
use Rattle.std.proofs.Common.{ℕ, zero, suc}
use Rattle.std.specs.List.{AllByRecursion}
use Rattle.stack_rules.specs.declared.lower.Lower.{Lower}
use Rattle.stack_rules.specs.Records.{Configuration}
use Rattle.stack_rules.specs.Names.{lowers_of}
use Rattle.stack_rules.specs.Descend.{descend, after_steps, most_devices}
use Rattle.stack_rules.proofs.lemmas.UnrollLemmas.{AllOf, turn}

-- what two rules give is related, if it is for what is directly beneath
abbrev pub AreRelated {ℓ} : {A B : Type ℓ} → (A → B → Type ℓ) → Configuration → (Lower → Type 0) → (Lower → Lower) → ((Lower → A) → Lower → A) → ((Lower → B) → Lower → B) → Type ℓ
AreRelated {A = A} {B = B} Same c P number rule other =
    (f : Lower → A) (g : Lower → B) (x : Lower) → P x → AllOf (λ y. Same (f y) (g (number y))) (lowers_of c x) → Same (rule f x) (other g (number x))

pub after_steps-renumbered {ℓ} : {A B : Type ℓ} (Same : A → B → Type ℓ) (c : Configuration) (P : Lower → Type 0) (number : Lower → Lower)
    → ((x : Lower) → P x → AllByRecursion P (lowers_of c x)) → (none : A) (nothing : B) → Same none nothing
    → (rule : (Lower → A) → Lower → A) (other : (Lower → B) → Lower → B) → AreRelated Same c P number rule other
    → (n : ℕ) (x : Lower) → P x → Same (after_steps none rule n x) (after_steps nothing other n (number x))
after_steps-renumbered Same c P number beneath none nothing base rule other related zero x p = base
after_steps-renumbered Same c P number beneath none nothing base rule other related (suc n) x p =
    related (after_steps none rule n) (after_steps nothing other n) x p
    (turn (λ y q. after_steps-renumbered Same c P number beneath none nothing base rule other related n y q) (lowers_of c x) (beneath x p))

-- so what is said of a device is related to what is said of it by its other number: of each that has
-- a property that all beneath it have too
pub descend-renumbered {ℓ} : {A B : Type ℓ} (Same : A → B → Type ℓ) (c : Configuration) (P : Lower → Type 0) (number : Lower → Lower)
    → ((x : Lower) → P x → AllByRecursion P (lowers_of c x)) → (none : A) (nothing : B) → Same none nothing
    → (rule : (Lower → A) → Lower → A) (other : (Lower → B) → Lower → B) → AreRelated Same c P number rule other
    → (x : Lower) → P x → Same (descend none rule x) (descend nothing other (number x))
unfolding descend
descend-renumbered Same c P number beneath none nothing base rule other related x p =
    after_steps-renumbered Same c P number beneath none nothing base rule other related (suc most_devices) x p
