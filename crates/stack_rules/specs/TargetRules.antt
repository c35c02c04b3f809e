-- The properties of a target that the rules use, as a record.
use Rattle.std.specs.Prelude.{ℕ, ◌+◌, ◌==◌, max, Bool, false, List, [], ◌∷◌, Option, None, if◌then◌else◌}
use Rattle.std.specs.List.{slice_index_or}
use Rattle.dm_table.specs.declared.table.Base.{Base}
use Rattle.stack_rules.specs.declared.refusal.LoadKind.{LoadKind}
use Rattle.stack_rules.specs.FaultKinds.{load_number}

-- a device by name, and the sector of that device at which a range ends
abbrev pub Range : Type 0
Range = List ℕ × ℕ

-- the properties of a target; functions of a length take the length of the line
pub record TargetRules : Type 0 where
  -- the devices that the target names, from left to right, each with its first sector
  pub bases : List Base
  -- the base, by index from 0 on, and the sector relative to the base, that sector s is mapped to
  pub lies : ℕ → Option (ℕ × ℕ)
  -- the ranges that are mapped, and the range of the hash tree
  pub ranges : ℕ → List Range
  pub tree : Option Range
  -- the target's own rules, at most one of each kind, and whether each refuses
  pub faults : ℕ → List (LoadKind × Bool)
  -- the most leaf sectors read to read a sector, given the read cost of each base in order
  pub read_cost : List ℕ → ℕ
  -- the most leaf sectors read and written to write a sector, given the read and write costs of each base
  pub write_cost : List ℕ → List ℕ → ℕ
  -- values that are computed once
  pub key : Option (List ℕ)
  pub zero_digest : Option (List ℕ)

-- the largest of the costs, or 0 if there are none
abbrev pub greatest : List ℕ → ℕ
greatest [] = 0
greatest (x ∷ xs) = max x (greatest xs)

-- a target without names and rules, whose cost is that of the most expensive base; other targets state only what
-- differs
abbrev pub bare : TargetRules
bare = record {
  bases = [];
  lies = λ s. None;
  ranges = λ len. [];
  tree = None;
  faults = λ len. [];
  read_cost = greatest;
  write_cost = λ reads. greatest;
  key = None;
  zero_digest = None;
}

-- the range of `sectors` sectors from a base on: the name of its device and the sector at which the range ends
abbrev pub range_from : ℕ → Base → Range
range_from sectors base = (base.device, base.offset + sectors)

-- the cost of base i
abbrev pub cost_at : List ℕ → ℕ → ℕ
cost_at costs i = slice_index_or costs i 0

-- whether the rule of this kind refuses; a rule that isn't in the list doesn't
abbrev pub has_fault : LoadKind → List (LoadKind × Bool) → Bool
has_fault kind [] = false
has_fault kind (fault ∷ faults) = if load_number fault.0 == load_number kind then fault.1 else has_fault kind faults
