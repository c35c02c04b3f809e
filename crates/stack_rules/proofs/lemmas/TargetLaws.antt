-- What holds of the record of a target, whatever its kind is.
use Rattle.std.proofs.Common.{◌≡◌, ℕ, Bool, true, List, [], ◌∷◌, Option, Some, None, map, refl}
use Rattle.std.specs.Prelude.{◌==◌}
use Rattle.std.specs.List.{AllByRecursion, list_any}
use Rattle.dm_table.specs.declared.table.Line.{Line}
use Rattle.stack_rules.specs.declared.refusal.LoadKind.{LoadKind}
use Rattle.stack_rules.specs.declared.refusal.LoadKind.TheVariants.{StripesDontDivide, UnitDoesntDivide, IvOffset, ParityDoesntCover, LineBeyondTree, NeedsReadOnly}
use Rattle.stack_rules.specs.FaultKinds.{load_number}
use Rattle.stack_rules.specs.Records.{Configuration}
use Rattle.stack_rules.specs.Rules.{line_faults, refuses}
use Rattle.stack_rules.specs.TargetRules.{TargetRules, Range, bare, has_fault}
use Rattle.stack_rules.proofs.lemmas.CostLaws.{CostLaws, dearest-laws}

-- the device of the range, if there is one
abbrev pub OfRange : (List ℕ → Type 0) → Option Range → Type 0
OfRange P None = Unit {0}
OfRange P (Some range) = P range.0

-- the kinds of rules that a line asks of its target
abbrev pub asked_kinds : List LoadKind
asked_kinds = StripesDontDivide ∷ UnitDoesntDivide ∷ IvOffset ∷ ParityDoesntCover ∷ LineBeyondTree ∷ NeedsReadOnly ∷ []

-- a line of a device that may be written asks for each of them
pub asks-each : (c : Configuration) (before : ℕ) (line : Line) → AllByRecursion (λ kind. has_fault kind (line_faults c true before line) ≡ refuses kind line.length line.target) asked_kinds
asks-each c before line = (refl, (refl, (refl, (refl, (refl, (refl, tt))))))

-- the rule is of such a kind, and refuses where it says so
abbrev pub IsAsked : List (LoadKind × Bool) → LoadKind × Bool → Type 0
IsAsked faults fault = (list_any (λ kind. load_number kind == load_number fault.0) asked_kinds ≡ true) × (has_fault fault.0 faults ≡ fault.1)

pub record TargetLaws (r : TargetRules) : Type 1 where
  -- each range, and that of the tree, is on a device that it names
  pub ranges : (P : List ℕ → Type 0) (len : ℕ) → AllByRecursion P (map (λ base. base.device) r.bases) → AllByRecursion (λ (range : Range). P range.0) (r.ranges len)
  pub tree : (P : List ℕ → Type 0) → AllByRecursion P (map (λ base. base.device) r.bases) → OfRange P r.tree
  -- no rule of its own is left out
  pub asked : (len : ℕ) → AllByRecursion (IsAsked (r.faults len)) (r.faults len)
  pub costs : CostLaws r.lies r.read_cost r.write_cost

pub bare-laws : TargetLaws bare
bare-laws = record { ranges = λ P len all. tt; tree = λ P all. tt; asked = λ len. tt; costs = dearest-laws (λ s. None) }
