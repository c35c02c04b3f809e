-- The maximal runs of blocks or sectors of the same kind, given a test for equal kinds.
use Rattle.std.specs.Prelude.{◌≡◌, ℕ, suc, ◌+◌, ◌==◌, ◌&&◌, Bool, true, List, [], ◌∷◌, Option, Some, None, if◌then◌else◌}
use Rattle.runs.specs.declared.run.Run.{Run}

-- a test for equal kinds
pub record IsEquality {K : Type 0} (same : K → K → Bool) : Type 0 where
  pub to_itself : (a : K) → same a a ≡ true
  pub equal : (a b : K) → same a b ≡ true → a ≡ b

abbrev pub run : {K : Type 0} → ℕ → ℕ → K → Run K
run first count kind = record { first = first; count = count; kind = kind }

abbrev pub longer : {K : Type 0} → Run K → ℕ → Run K
longer a more = run a.first (a.count + more) a.kind

-- the second run begins at the end of the first, and has the same kind
abbrev pub follows : {K : Type 0} → (K → K → Bool) → Run K → Run K → Bool
follows same a b = (b.first == a.first + a.count) && same a.kind b.kind

-- a run in front of later ones; it is joined to the first of them if that follows it
abbrev pub run_before : {K : Type 0} → (K → K → Bool) → Run K → List (Run K) → List (Run K)
run_before same a [] = a ∷ []
run_before same a (b ∷ more) = if follows same a b then longer a b.count ∷ more else a ∷ b ∷ more

-- the runs of the blocks from `first` on with these kinds; a block without a kind is in no run
abbrev pub runs_of : {K : Type 0} → (K → K → Bool) → ℕ → List (Option K) → List (Run K)
runs_of same first [] = []
runs_of same first (None ∷ more) = runs_of same (suc first) more
runs_of same first (Some kind ∷ more) = run_before same (run first 1 kind) (runs_of same (suc first) more)
