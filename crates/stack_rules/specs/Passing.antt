-- Results of checking rules.
use Rattle.std.specs.Prelude.{◌≡◌, ◌+◌, ℕ, List, Option, Some, None, Result, Ok, Err, map, true, is_none, nat_lt, flat_map, [], ◌∷◌}
use Rattle.std.specs.List.{list_any, enumerate_from}
use Rattle.allocation.specs.Refusal.{IsOutOfMemory}
use Rattle.dm_table.specs.Names.{most_name}
use Rattle.dm_table.specs.declared.table.Line.{Line}
use Rattle.stack_rules.specs.declared.lower.Lower.{Lower}
use Rattle.stack_rules.specs.declared.refusal.LoadFault.{LoadFault}
use Rattle.stack_rules.specs.declared.refusal.LoadFault.TheVariants.{Refused, NoMemory}
use Rattle.stack_rules.specs.declared.refusal.LoadKind.{LoadKind}
use Rattle.stack_rules.specs.declared.refusal.Refusal.{Refusal}
use Rattle.stack_rules.specs.Records.{Configuration}
use Rattle.stack_rules.specs.Names.{named, names}
use Rattle.stack_rules.specs.Rules.{first, refuse, most_lines}

-- the most elements of one allocation of a check or a load
abbrev pub largest_load_allocation : ℕ
largest_load_allocation = most_lines + most_name

-- a value only if no rule refuses, otherwise the first refusal, unless an allocation failed
abbrev pub IsPassed : {A : Type 0} → Result A LoadFault → List (Option Refusal) → (A → Type 0) → Type 0
IsPassed (Ok x) rules P = (first rules ≡ None) × P x
IsPassed (Err (Refused refusal)) rules P = first rules ≡ Some refusal
IsPassed (Err NoMemory) rules P = IsOutOfMemory largest_load_allocation

-- the leaves and devices are those that the names refer to
abbrev pub Mean : Configuration → List Lower → List (List ℕ) → Type 0
Mean c lowers names = map (λ lower. Some lower) lowers ≡ map (named c) names

-- a refusal of this kind at device d and line l
abbrev pub refusal_at : ℕ → ℕ → LoadKind → Refusal
refusal_at d l kind = record { kind = kind; device = d; line = l }

-- no result if a name is unknown, and otherwise what the names refer to
abbrev pub AreFound : Configuration → Option (List Lower) → List (List ℕ) → Type 0
AreFound c None names = list_any (λ name. is_none (named c name)) names ≡ true
AreFound c (Some lowers) names = Mean c lowers names

-- each row holds the leaves and devices that the names in its line refer to
abbrev pub RowsMean : Configuration → List (List Lower) → List Line → Type 0
RowsMean c rows lines = map (map (λ lower. Some lower)) rows ≡ map (λ line. map (named c) (names line.target)) lines

-- each device, numbered from 1, with a value above the limit
abbrev pub above : LoadKind → ℕ → List ℕ → List (Option Refusal)
above kind most values = flat_map (λ p. refuse kind p.0 0 (nat_lt most p.1) ∷ []) (enumerate_from 1 values)

-- the first refusal, unless an allocation failed
abbrev pub IsFirst : LoadFault → List (Option Refusal) → Type 0
IsFirst (Refused refusal) rules = first rules ≡ Some refusal
IsFirst NoMemory rules = IsOutOfMemory largest_load_allocation
