-- Faults that are the same, and how many sectors are lost or unscraped.
use Rattle.std.proofs.Common.{◌≡◌, ℕ, zero, suc, ◌+◌, ◌≤◌, true, List, [], ◌∷◌, ◌++◌, length, replicate, Some, None, refl, ap, arith}
use Rattle.std.proofs.lemmas.Bool.{eqb-true, eq-eqb}
use Rattle.runs.specs.Runs.{IsEquality}
use Rattle.stack_meaning.specs.declared.fault.IoFault.{IoFault}
use Rattle.stack_meaning.specs.declared.fault.Fault.TheVariants.{ErrorTarget, Mismatch}
use Rattle.stack_meaning.specs.declared.fault.IoFault.TheVariants.{Stack, Device, NoMemory}
use Rattle.stack_recovery.specs.declared.lost_run.Loss.{Loss}
use Rattle.stack_recovery.specs.declared.lost_run.Loss.TheVariants.{Lost, Unscraped}
use Rattle.stack_recovery.specs.LostRuns.{is_same_fault, is_same_loss, lost_count, lost_in, untried_count, untried_in}
use Rattle.stack_recovery.specs.Surveys.{SectorState}

-- ---- faults

is_same-refl : (f : IoFault) → is_same_fault f f ≡ true
is_same-refl (Stack ErrorTarget) = refl
is_same-refl (Stack Mismatch) = refl
is_same-refl (Device i) = eq-eqb i i refl
is_same-refl NoMemory = refl

is_same-true : (a b : IoFault) → is_same_fault a b ≡ true → a ≡ b
is_same-true (Stack ErrorTarget) (Stack ErrorTarget) e = refl
is_same-true (Stack ErrorTarget) (Stack Mismatch) e = cc
is_same-true (Stack ErrorTarget) (Device j) e = cc
is_same-true (Stack ErrorTarget) NoMemory e = cc
is_same-true (Stack Mismatch) (Stack ErrorTarget) e = cc
is_same-true (Stack Mismatch) (Stack Mismatch) e = refl
is_same-true (Stack Mismatch) (Device j) e = cc
is_same-true (Stack Mismatch) NoMemory e = cc
is_same-true (Device i) (Stack ErrorTarget) e = cc
is_same-true (Device i) (Stack Mismatch) e = cc
is_same-true (Device i) (Device j) e = ap (λ (k : ℕ). Device k) (eqb-true i j e)
is_same-true (Device i) NoMemory e = cc
is_same-true NoMemory (Stack ErrorTarget) e = cc
is_same-true NoMemory (Stack Mismatch) e = cc
is_same-true NoMemory (Device j) e = cc
is_same-true NoMemory NoMemory e = refl

-- ---- losses

pub same_loss-refl : (l : Loss) → is_same_loss l l ≡ true
same_loss-refl (Lost f) = is_same-refl f
same_loss-refl (Unscraped f) = is_same-refl f

pub same_loss-true : (a b : Loss) → is_same_loss a b ≡ true → a ≡ b
same_loss-true (Lost a) (Lost b) e = ap (λ (f : IoFault). Lost f) (is_same-true a b e)
same_loss-true (Lost a) (Unscraped b) e = cc
same_loss-true (Unscraped a) (Lost b) e = cc
same_loss-true (Unscraped a) (Unscraped b) e = ap (λ (f : IoFault). Unscraped f) (is_same-true a b e)

pub is_same-equality : IsEquality is_same_loss
is_same-equality = record { to_itself = same_loss-refl; equal = same_loss-true }

-- ---- how many are lost

pub lost_in-append : (xs ys : List SectorState) → lost_in (xs ++ ys) ≡ lost_in xs + lost_in ys
lost_in-append [] ys = omega arith
lost_in-append (None ∷ xs) ys = lost_in-append xs ys
lost_in-append (Some l ∷ xs) ys = omega (arith, lost_in-append xs ys)

pub lost_in-had : (n : ℕ) → lost_in (replicate n None) ≡ 0
lost_in-had zero = refl
lost_in-had (suc n) = lost_in-had n

pub lost_in-lost : (n : ℕ) (l : Loss) → lost_in (replicate n (Some l)) ≡ lost_count l n
lost_in-lost zero (Lost f) = refl
lost_in-lost zero (Unscraped f) = refl
lost_in-lost (suc n) (Lost f) = omega (arith, lost_in-lost n (Lost f))
lost_in-lost (suc n) (Unscraped f) = omega (arith, lost_in-lost n (Unscraped f))

pub untried_in-append : (xs ys : List SectorState) → untried_in (xs ++ ys) ≡ untried_in xs + untried_in ys
untried_in-append [] ys = omega arith
untried_in-append (None ∷ xs) ys = untried_in-append xs ys
untried_in-append (Some l ∷ xs) ys = omega (arith, untried_in-append xs ys)

pub untried_in-had : (n : ℕ) → untried_in (replicate n None) ≡ 0
untried_in-had zero = refl
untried_in-had (suc n) = untried_in-had n

pub untried_in-lost : (n : ℕ) (l : Loss) → untried_in (replicate n (Some l)) ≡ untried_count l n
untried_in-lost zero (Lost f) = refl
untried_in-lost zero (Unscraped f) = refl
untried_in-lost (suc n) (Lost f) = omega (arith, untried_in-lost n (Lost f))
untried_in-lost (suc n) (Unscraped f) = omega (arith, untried_in-lost n (Unscraped f))

pub lost_in-most : (xs : List SectorState) → lost_in xs + untried_in xs ≤ length xs
lost_in-most [] = omega arith
lost_in-most (None ∷ xs) = omega (arith, lost_in-most xs)
lost_in-most (Some (Lost f) ∷ xs) = omega (arith, lost_in-most xs)
lost_in-most (Some (Unscraped f) ∷ xs) = omega (arith, lost_in-most xs)
