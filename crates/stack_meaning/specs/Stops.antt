-- Where a call that ends in a fault stops.
use Rattle.std.specs.Prelude.{◌≡◌, ℕ, ◌+◌, ◌-◌, ◌^◌, ◌<◌, ◌≤◌, List, Contains, Result, IfErr}
use Rattle.std.specs.List.{slice_index_or}
use Rattle.allocation.specs.Refusal.{IsOutOfMemory}
use Rattle.block_device.specs.Device.{Device}
use Rattle.stack_meaning.specs.declared.fault.IoFault.{IoFault}
use Rattle.stack_meaning.specs.declared.fault.IoFault.TheVariants as io
use Rattle.stack_meaning.specs.Memory.{largest_allocation}
use Rattle.stack_meaning.specs.Outcomes.{LeafSector}
use Rattle.stack_meaning.specs.Sectors.{SomeOf}
use Rattle.stack_meaning.specs.Changes.{reached}
use Rattle.stack_meaning.specs.Meaning.{Said}

-- the n sectors from s on belong to one call on leaf i's device: each reaches one of `count` consecutive sectors of
-- the leaf, and each of these is reached
pub record AreOneCall (i : ℕ) (reaches : ℕ → List LeafSector) (s n : ℕ) : Type 0 where
  pub start : ℕ
  pub count : ℕ
  pub each : (j : ℕ) → j < n → SomeOf (λ t. Contains (reaches (s + j)) (i, t)) start count
  pub own : (t : ℕ) → t < count → reached reaches s n (i, start + t)

-- the n sectors from s on failed with this fault: it is possible for each of them, they belong to the call that
-- failed, or an allocation failed
abbrev pub FailedBy : (ℕ → Said) → IoFault → ℕ → ℕ → Type 0
FailedBy said (io.Stack fault) s n = (j : ℕ) → j < n → (said (s + j)).meets fault
FailedBy said (io.Device i) s n = AreOneCall (i - 1) (λ t. (said t).reaches) s n
FailedBy said io.NoMemory s n = IsOutOfMemory largest_allocation

-- the failure counter of the leaf that the fault names, if it names one, hasn't reached its maximum
abbrev pub IsCounted : IoFault → List Device → Type 0
IsCounted (io.Stack fault) leaves = Unit {0}
IsCounted (io.Device i) leaves = (d : Device) → (slice_index_or leaves (i - 1) d).failures < 2 ^ 64 - 1
IsCounted io.NoMemory leaves = Unit {0}

-- a read of n sectors from `first` on: after the first `before` sectors the next `failed` ones failed, and a leaf
-- that only later sectors reach is unchanged, including its counters: it wasn't accessed
pub record StopsReading (said : ℕ → Said) (first n : ℕ) (fault : IoFault) (old new : List Device) : Type 0 where
  pub before : ℕ
  pub failed : ℕ
  pub some : 0 < failed
  pub inside : before + failed ≤ n
  pub by : FailedBy said fault (first + before) failed
  pub leaf : (i : ℕ) (d : Device) → ((t : ℕ) → reached (λ s. (said s).reaches) first (before + failed) (i, t) → ⊥) → slice_index_or new i d ≡ slice_index_or old i d

-- where a read stops, given its result
abbrev pub ReadStops : {A : Type 0} → (ℕ → Said) → ℕ → ℕ → List Device → List Device → Result A IoFault → Type 0
ReadStops said first n old new result = IfErr result (λ fault. IsCounted fault new → StopsReading said first n fault old new)
