-- Contracts of writes.
pub use Rattle.stack_meaning.specs.Stops.{AreOneCall, FailedBy, IsCounted}
use Rattle.std.specs.Prelude.{Bool, ◌≡◌, ℕ, ◌+◌, ◌-◌, ◌*◌, ◌/◌, ◌%◌, ◌<◌, ◌≤◌, ◌⊎◌, IsTrue, List, [], ◌∷◌, ◌++◌, length, take, drop, Result, Ok, Err, IfErr}
use Rattle.allocation.specs.Refusal.{IsOutOfMemory}
use Rattle.block_device.specs.Device.{Device, sectors_of}
use Rattle.stack_rules.specs.declared.lower.Lower.{Lower}
use Rattle.stack_rules.specs.Records.{Configuration}
use Rattle.stack_rules.specs.Names.{may_write}
use Rattle.stack_rules.specs.Descend.{by_name, read_cost, write_cost}
use Rattle.stack_meaning.specs.declared.fault.IoFault.{IoFault}
use Rattle.stack_meaning.specs.declared.units.CryptUnits.{CryptUnits}
use Rattle.stack_meaning.specs.declared.fault.Fault.TheVariants as why
use Rattle.stack_meaning.specs.declared.fault.IoFault.TheVariants as io
use Rattle.stack_lines.specs.declared.source.Source.{Source}
use Rattle.stack_lines.specs.declared.source.Source.TheVariants.{Below, Units, UnitPart, Zeros, Fails, Block, Blocks}
use Rattle.stack_meaning.specs.Memory.{largest_allocation}
use Rattle.stack_meaning.specs.Sectors.{SomeOf}
use Rattle.stack_meaning.specs.declared.fault.Fault.{Fault}
use Rattle.stack_meaning.specs.Outcomes.{error_target, Images}
use Rattle.stack_meaning.specs.Meaning.{Said, said_at}
use Rattle.stack_meaning.specs.Puts.{Put, done, stopped, Putting, none_put, runs_from, put_runs, unit_put, in_unit, put_on}
use Rattle.stack_meaning.specs.Units.{per_unit}
use Rattle.stack_meaning.specs.Leaves.{steady_images, AreSteady, LeafFailed}
use Rattle.stack_meaning.specs.Changes.{reached, KeepsOthers, AreWritten, NoneRead, DifferWithin}
use Rattle.stack_lines.specs.Sources.{source_said}
use Rattle.stack_lines.specs.Touches.{EndsAtFailure, leaves_of, source_leaves}

-- the bytes of whole sectors, at least one
pub record AreSectors (bytes : List ℕ) : Type 0 where
  pub some : 0 < length bytes
  pub whole : length bytes % 512 ≡ 0

-- bytes as whole sectors
abbrev pub sectors_in : List ℕ → List (List ℕ)
sectors_in bytes = sectors_of (length bytes / 512) bytes

-- Whatever the leaves answer: how a write may end, where these faults may come. The number of a leaf that failed
-- counts from 1. Where memory ran out an allocation was refused, and nothing was written.
abbrev pub MayEnd : (Fault → Type 0) → List Device → List Device → Result Unit IoFault → Type 0
MayEnd May old new (Ok x) = Unit {0}
MayEnd May old new (Err (io.Stack why.ErrorTarget)) = May error_target
MayEnd May old new (Err (io.Stack why.Mismatch)) = ⊥
MayEnd May old new (Err (io.Device i)) = (1 ≤ i) × LeafFailed (i - 1) old new
MayEnd May old new (Err io.NoMemory) = (new ≡ old) × IsOutOfMemory largest_allocation

-- over steady leaves: these images are what the put leaves, unless a device failed or memory ran out
abbrev pub IsPut : Put → Images → Result Unit IoFault → Type 0
IsPut put images (Ok x) = put ≡ done images
IsPut put images (Err (io.Stack fault)) = put ≡ stopped fault images
IsPut put images (Err (io.Device i)) = Unit {0}
IsPut put images (Err io.NoMemory) = Unit {0}

-- where sectors are written: what is said of each, what a put of some does, and the leaf sectors that are written
-- for one at most
pub record Destination : Type 1 where
  pub said : ℕ → Said
  pub puts : ℕ → Putting
  pub cost : ℕ
  pub leaves : ℕ → Bool

-- a leaf or device
abbrev pub destination_of : Configuration → Lower → Destination
destination_of c lower = record { said = said_at c lower; puts = put_on c lower; cost = write_cost c lower; leaves = leaves_of c lower }

-- a write encrypts some of n sectors from the first on
abbrev pub SomeEncrypt : (ℕ → Said) → ℕ → ℕ → Type 0
SomeEncrypt said first n = SomeOf (λ s. (said s).encrypts) first n

-- The bytes of a write: a buffer's, if they may be encrypted on the way, or the caller's, if none is. The
-- other ones are none.
abbrev pub AreHeld : (ℕ → Said) → ℕ → List ℕ → List ℕ → Type 0
AreHeld said first plain buffer = (plain ≡ []) ⊎ ((buffer ≡ []) × (SomeEncrypt said first (length plain / 512) → ⊥))

-- a buffer for a write of some bytes: it has all of them if some may be encrypted, and else none
pub record IsBufferFor (said : ℕ → Said) (first : ℕ) (bytes buffer : List ℕ) : Type 0 where
  pub held : AreHeld said first (drop (length buffer) bytes) buffer
  pub same : drop (length buffer) bytes ++ buffer ≡ bytes

-- ---- where a write stops that a fault ends

-- Whatever the leaves answer, of n sectors from the first on: after so many of them some failed, and what only later
-- ones reach is as it was. So is a leaf that only later ones reach, with its counters: it wasn't asked.
pub record StopsAt (said : ℕ → Said) (first n : ℕ) (fault : IoFault) (old new : List Device) : Type 0 where
  pub before : ℕ
  pub failed : ℕ
  pub some : 0 < failed
  pub inside : before + failed ≤ n
  pub by : FailedBy said fault (first + before) failed
  pub others : KeepsOthers (reached (λ s. (said s).reaches) first (before + failed)) old new

-- Over steady leaves: what is left is what a put of the first ones leaves, but for what the next ones reach, up to the
-- last that failed. Those of them before the ones that failed are encrypted, and went down together with these.
pub record StopsBehind (to : Destination) (first : ℕ) (sectors : List (List ℕ)) (fault : IoFault) (old new : List Device) : Type 0 where
  pub stop : StopsAt to.said first (length sectors) fault old new
  pub put : ℕ
  pub within : put ≤ stop.before
  pub together : (j : ℕ) → put ≤ j → j < stop.before → (to.said (first + j)).encrypts
  pub images : Images
  pub is : to.puts first (take put sectors) (steady_images old) ≡ done images
  pub others : DifferWithin (reached (λ s. (to.said s).reaches) (first + put) (stop.before + stop.failed - put)) images (steady_images new)

-- by an answer
abbrev pub StopsAtFault : (ℕ → Said) → ℕ → ℕ → List Device → List Device → Result Unit IoFault → Type 0
StopsAtFault said first n old new result = IfErr result (λ fault. IsCounted fault new → StopsAt said first n fault old new)

abbrev pub StopsBehindPut : Destination → ℕ → List (List ℕ) → List Device → List Device → Result Unit IoFault → Type 0
StopsBehindPut to first sectors old new result = IfErr result (λ fault. IsCounted fault new → StopsBehind to first sectors fault old new)

-- no sectors are put by changing nothing, on an `error` line too
abbrev pub put_some : (ℕ → Putting) → ℕ → Putting
put_some puts s [] images = done images
put_some puts s (x ∷ xs) images = puts s (x ∷ xs) images

abbrev pub with_some : Destination → Destination
with_some to = record { said = to.said; puts = put_some to.puts; cost = to.cost; leaves = to.leaves }

-- ---- one write

-- a write of sectors from the first on, all of whose growths were made before it
pub record WritesSectors (to : Destination) (first : ℕ) (sectors : List (List ℕ)) (old new : List Device) (result : Result Unit IoFault) : Type 0 where
  pub moved : AreWritten (reached (λ s. (to.said s).reaches) first (length sectors)) old (length sectors * to.cost) new
  pub ends : MayEnd (λ fault. SomeOf (λ s. (to.said s).meets fault) first (length sectors)) old new result
  pub grown : result ≡ Err io.NoMemory → ⊥
  pub exact : AreSteady to.leaves old → IsPut (to.puts first sectors (steady_images old)) (steady_images new) result
  pub stops : StopsAtFault to.said first (length sectors) old new result
  pub behind : AreSteady to.leaves old → StopsBehindPut (with_some to) first sectors old new result
  pub unread : (SomeEncrypt to.said first (length sectors) → ⊥) → NoneRead old new
  pub fails : EndsAtFailure old new result

-- ---- what the engine writes as one run

-- what a put does by the names of a configuration
abbrev pub put_by_name : Configuration → List ℕ → ℕ → Putting
put_by_name c = by_name c (λ t. none_put) (put_on c)

-- what a put of sectors from s on does to units over that device
abbrev pub crypt_put : Configuration → Lower → CryptUnits → List ℕ → ℕ → Putting
crypt_put c lower units key s sectors images = put_runs (unit_put (λ i t. (said_at c lower t).means i) (put_on c lower) units key) (runs_from (in_unit units) s sectors) images

-- what a put of sectors from its j-th on does
abbrev pub source_put : Configuration → Source → ℕ → Putting
source_put c (Below lower first) j sectors images = put_on c lower (first + j) sectors images
source_put c (Units u) j sectors images = crypt_put c u.lower u.units u.key.now (u.first + j) sectors images
source_put c (UnitPart u) j sectors images = crypt_put c u.lower u.units u.key.now (u.first + j) sectors images
source_put c Zeros j sectors images = done images
source_put c Fails j sectors images = stopped error_target images
source_put c (Block b) j sectors images = done images
source_put c (Blocks b) j sectors images = done images

-- the leaf sectors that are written for one of its sectors at most
abbrev pub source_write_cost : Configuration → Source → ℕ
source_write_cost c (Below lower first) = write_cost c lower
source_write_cost c (Units u) = write_cost c u.lower
source_write_cost c (UnitPart u) = per_unit u.units * (read_cost c u.lower + write_cost c u.lower)
source_write_cost c Zeros = 0
source_write_cost c Fails = 0
source_write_cost c (Block b) = 0
source_write_cost c (Blocks b) = 0

-- what it lies on may be written; a verity line's block never is
abbrev pub SourceMayWrite : Configuration → Source → Type 0
SourceMayWrite c (Below lower first) = IsTrue (may_write c lower)
SourceMayWrite c (Units u) = IsTrue (may_write c u.lower)
SourceMayWrite c (UnitPart u) = IsTrue (may_write c u.lower)
SourceMayWrite c Zeros = Unit {0}
SourceMayWrite c Fails = Unit {0}
SourceMayWrite c (Block b) = ⊥
SourceMayWrite c (Blocks b) = ⊥

abbrev pub source_destination : Configuration → Source → Destination
source_destination c source = record { said = source_said c source; puts = source_put c source; cost = source_write_cost c source; leaves = source_leaves c source }
