-- The kinds of blocks, and how many blocks are of a kind.
use Rattle.std.proofs.Common.{◌≡◌, ℕ, zero, suc, ◌+◌, Bool, true, false, List, [], ◌∷◌, ◌++◌, replicate, Option, Some, None, refl, sym, ap, ◌∙◌, arith}
use Rattle.std.proofs.lemmas.Bool.{eqb-true, eq-eqb}
use Rattle.runs.specs.Runs.{IsEquality}
use Rattle.runs.specs.declared.kind.Kind.{Kind}
use Rattle.runs.specs.declared.kind.Kind.TheVariants.{Changed, Unknown, Removed, Added}
use Rattle.runs.specs.Kinds.{State, kind_number, is_same, is_state, one_if, count_of}

-- ---- kinds

kind_at : ℕ → Kind
kind_at zero = Added
kind_at (suc zero) = Changed
kind_at (suc (suc zero)) = Unknown
kind_at (suc (suc (suc zero))) = Removed
kind_at (suc (suc (suc (suc n)))) = Added

kind_at-number : (k : Kind) → kind_at (kind_number k) ≡ k
unfolding kind_at
kind_at-number Changed = refl
kind_at-number Unknown = refl
kind_at-number Removed = refl
kind_at-number Added = refl

pub is_same-refl : (k : Kind) → is_same k k ≡ true
is_same-refl k = eq-eqb (kind_number k) (kind_number k) refl

pub is_same-true : (a b : Kind) → is_same a b ≡ true → a ≡ b
is_same-true a b e = sym (kind_at-number a) ∙ ap kind_at (eqb-true (kind_number a) (kind_number b) e) ∙ kind_at-number b

pub is_same-equality : IsEquality is_same
is_same-equality = record { to_itself = is_same-refl; equal = is_same-true }

-- ---- how many are of a kind

pub count_of-append : (kind : Kind) (xs ys : List State) → count_of kind (xs ++ ys) ≡ count_of kind xs + count_of kind ys
count_of-append kind [] ys = omega arith
count_of-append kind (x ∷ xs) ys = omega (arith, count_of-append kind xs ys)

pub count_of-had : (kind : Kind) (n : ℕ) → count_of kind (replicate n None) ≡ 0
count_of-had kind zero = refl
count_of-had kind (suc n) = omega (arith, count_of-had kind n)

pub count_of-some : (n : ℕ) (kind : Kind) → count_of kind (replicate n (Some kind)) ≡ n
count_of-some zero kind = refl
count_of-some (suc n) kind = let one : one_if (is_same kind kind) ≡ 1 = ap one_if (is_same-refl kind) in omega (arith, one, count_of-some n kind)

pub count_of-others : (n : ℕ) (kind other : Kind) → is_same kind other ≡ false → count_of kind (replicate n (Some other)) ≡ 0
count_of-others zero kind other differ = refl
count_of-others (suc n) kind other differ = let none : one_if (is_same kind other) ≡ 0 = ap one_if differ in omega (arith, none, count_of-others n kind other differ)
