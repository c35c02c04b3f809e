-- Which leaves a read touches.
use Rattle.std.specs.Prelude.{◌≡◌, ℕ, ◌+◌, ◌-◌, Bool, false, IsTrue, List, map, set, Result, Ok, Err, IfErr}
use Rattle.std.specs.List.{slice_index_or}
use Rattle.block_device.specs.Device.{Device, capped}
use Rattle.stack_rules.specs.declared.lower.Lower.{Lower}
use Rattle.stack_rules.specs.Records.{Configuration}
use Rattle.stack_rules.specs.Names.{mapped}
use Rattle.stack_meaning.specs.declared.fault.IoFault.{IoFault}
use Rattle.stack_meaning.specs.declared.fault.IoFault.TheVariants as io
use Rattle.stack_lines.specs.declared.source.Source.{Source}
use Rattle.stack_lines.specs.declared.source.Source.TheVariants.{Below, Units, UnitPart, Zeros, Fails, Block, Blocks}
use Rattle.stack_lines.specs.Standing.{stands_on}

-- the fault is none of a leaf, or that of one of these; numbers of leaves in faults count from 1
abbrev pub NamesOneOf : (ℕ → Bool) → IoFault → Type 0
NamesOneOf these (io.Stack fault) = Unit {0}
NamesOneOf these (io.Device i) = IsTrue (these (i - 1))
NamesOneOf these io.NoMemory = Unit {0}

-- Each leaf but these is as it was, its counters included, and a fault that ends the call names one of these.
pub record TouchesOnly {A : Type 0} (these : ℕ → Bool) (old new : List Device) (result : Result A IoFault) : Type 0 where
  pub leaf : (i : ℕ) (d : Device) → these i ≡ false → slice_index_or new i d ≡ slice_index_or old i d
  pub fault : IfErr result (NamesOneOf these)

-- ---- where a call ends

-- how often each leaf failed, in order, as its counter says
abbrev pub failures_of : List Device → List ℕ
failures_of leaves = map (λ l. l.failures) leaves

-- leaf i failed once more
abbrev pub failed_once : ℕ → List ℕ → List ℕ
failed_once i failures = set failures i (capped (slice_index_or failures i 0 + 1))

-- a fault of a leaf is one failure of that leaf, and another fault is none
abbrev pub failures_by : IoFault → List ℕ → List ℕ
failures_by (io.Stack fault) failures = failures
failures_by (io.Device i) failures = failed_once (i - 1) failures
failures_by io.NoMemory failures = failures

abbrev pub failures_behind : {A : Type 0} → Result A IoFault → List ℕ → List ℕ
failures_behind (Ok x) failures = failures
failures_behind (Err fault) failures = failures_by fault failures

-- A call ends at the first device call that fails: no leaf fails but the one that its fault names, and that one once.
abbrev pub EndsAtFailure : {A : Type 0} → List Device → List Device → Result A IoFault → Type 0
EndsAtFailure old new result = failures_of new ≡ failures_behind result (failures_of old)

-- It ends there, unless a block that can't be read may be restored, and accesses only these leaves.
pub record AsksOnly {A : Type 0} (Unhealed : Type 0) (these : ℕ → Bool) (old new : List Device) (result : Result A IoFault) : Type 0 where
  pub leaf : (i : ℕ) (d : Device) → these i ≡ false → slice_index_or new i d ≡ slice_index_or old i d
  pub fault : IfErr result (NamesOneOf these)
  pub ends : Unhealed → EndsAtFailure old new result

-- ---- which leaves there are

-- the leaves beneath a device, or the leaf itself
abbrev pub leaves_of : Configuration → Lower → ℕ → Bool
leaves_of c lower i = stands_on c i lower

-- the leaves beneath what a source reads: the lower device, or the one that has the line
abbrev pub source_leaves : Configuration → Source → ℕ → Bool
source_leaves c (Below lower first) = leaves_of c lower
source_leaves c (Units u) = leaves_of c u.lower
source_leaves c (UnitPart u) = leaves_of c u.lower
source_leaves c Zeros = λ i. false
source_leaves c Fails = λ i. false
source_leaves c (Block x) = leaves_of c (mapped x.device.0)
source_leaves c (Blocks x) = leaves_of c (mapped x.device.0)
