-- Where the sectors of a device come from, as the engine reads them: from a lower device, as they are or encrypted
-- there in units, as zeros, not at all, or from a data block that is checked.
use Rattle.std.specs.Prelude.{◌≡◌, ◌⊎◌, ℕ, suc, ◌+◌, ◌-◌, ◌*◌, ◌/◌, ◌%◌, ◌^◌, ◌<◌, ◌≤◌, Bool, false, IsTrue, List, Option, Some, option_and_then, Result}
use Rattle.dm_table.specs.declared.crypt.Crypt.{Crypt}
use Rattle.dm_table.specs.declared.verity.Verity.{Verity}
use Rattle.dm_table.specs.declared.table.Line.{Line}
use Rattle.dm_table.specs.declared.table.Target.{Target}
use Rattle.dm_table.specs.declared.table.Target.TheVariants.{Zero, Error, Crypt as crypt_target, Verity as verity_target}
use Rattle.stack_rules.specs.declared.lower.Lower.{Lower}
use Rattle.stack_rules.specs.Records.{Configuration}
use Rattle.stack_rules.specs.Names.{mapped, named, size}
use Rattle.stack_rules.specs.Descend.{depth, read_cost}
use Rattle.stack_rules.specs.Lines.{line_at, IsLine}
use Rattle.stack_rules.specs.Trees.{block_sectors, line_data_sectors}
use Rattle.stack_meaning.specs.declared.fault.IoFault.{IoFault}
use Rattle.stack_lines.specs.declared.source.CryptPart.{CryptPart}
use Rattle.stack_lines.specs.declared.source.Source.{Source}
use Rattle.stack_lines.specs.declared.source.VerityPart.{VerityPart}
use Rattle.stack_lines.specs.declared.units.UnitAt.{UnitAt}
use Rattle.stack_lines.specs.declared.units.WholeUnit.{WholeUnit}
use Rattle.stack_lines.specs.declared.source.Source.TheVariants.{Below, Units, UnitPart, Zeros, Fails, Block, Blocks}
use Rattle.stack_meaning.specs.Units.{units_of, per_unit, unit_first}
use Rattle.stack_meaning.specs.Puts.{together}
use Rattle.stack_meaning.specs.Beneath.{beneath, HandsOn}
use Rattle.stack_meaning.specs.Meaning.{Said, zero_said, error_said, crypt_said, line_said, said_at, said_by_name}
use Rattle.stack_meaning.specs.Agreement.{AgreesOn}
use Rattle.stack_meaning.specs.Places.{Place, LeafRead}
use Rattle.stack_lines.specs.Touches.{source_leaves}
use Rattle.stack_meaning.specs.Reading.{Finds}

-- n sectors of a line, from its sector w on, lie on those of a lower device from the first on
pub record LieOn (c : Configuration) (target : Target) (w n : ℕ) (lower : Lower) (first : ℕ) : Type 0 where
  pub name : List ℕ
  pub is : named c name ≡ Some lower
  pub under : (j : ℕ) → j < n → beneath target (w + j) ≡ Some (name, first + j)
  pub inside : first + n ≤ size c lower

-- n sectors of line l of device d, which has that target
pub record HasTarget (c : Configuration) (d l : ℕ) (target : Target) (n : ℕ) : Type 0 where
  pub line : Line
  pub is : IsLine c d l line
  pub has : line.target ≡ target
  pub fits : n ≤ line.length

-- line l of device d is a verity line of these arguments
abbrev pub HasVerity : Configuration → ℕ → ℕ → Verity → Type 0
HasVerity c d l v = HasTarget c d l (verity_target v) 0

-- the device of the parity of a verity line, if it has parity
abbrev pub parity_lower : Configuration → Verity → Option Lower
parity_lower c v = option_and_then (λ p. named c p.device) v.parity

-- a part of a verity line: what its devices mean
pub record IsVerityPart (c : Configuration) (x : VerityPart) : Type 0 where
  pub is : HasVerity c x.device.0 x.line x.verity.now
  pub on_data : named c x.verity.now.data ≡ Some x.data
  pub on_hash : named c x.verity.now.hash ≡ Some x.hash
  pub on_parity : parity_lower c x.verity.now ≡ x.parity

-- its first n sectors lie in one data block
pub record LieInBlock (c : Configuration) (x : VerityPart) (n : ℕ) : Type 0 where
  pub of : IsVerityPart c x
  pub within : x.first % block_sectors x.verity.now + n ≤ block_sectors x.verity.now
  pub inside : x.first + n ≤ line_data_sectors x.verity.now

-- its first n sectors are whole data blocks
pub record AreWholeBlocks (c : Configuration) (x : VerityPart) (n : ℕ) : Type 0 where
  pub of : IsVerityPart c x
  pub aligned : x.first % block_sectors x.verity.now ≡ 0
  pub whole : n % block_sectors x.verity.now ≡ 0
  pub inside : x.first + n ≤ line_data_sectors x.verity.now

-- a part of a crypt line: its units, its key, and what its device means
pub record IsPartOf (c : Configuration) (target : Target) (u : CryptPart) : Type 0 where
  pub crypt : Crypt
  pub is : target ≡ crypt_target crypt
  pub units : u.units ≡ units_of crypt
  pub key : u.key.now ≡ crypt.key
  pub named : named c crypt.base.device ≡ Some u.lower

-- the first n sectors of a part are whole units, which lie inside the device beneath
pub record AreUnits (c : Configuration) (u : CryptPart) (n : ℕ) : Type 0 where
  pub aligned : u.first % per_unit u.units ≡ 0
  pub whole : n % per_unit u.units ≡ 0
  pub inside : unit_first u.units u.first + n ≤ size c u.lower
  pub small : u.first + n ≤ 2 ^ 54

-- they lie in one unit and aren't all of it
pub record LieInUnit (c : Configuration) (u : CryptPart) (n : ℕ) : Type 0 where
  pub within : u.first % per_unit u.units + n ≤ per_unit u.units
  pub part : n < per_unit u.units
  pub inside : unit_first u.units u.first + per_unit u.units ≤ size c u.lower
  pub unit_small : u.first - u.first % per_unit u.units + per_unit u.units ≤ 2 ^ 54

-- where the units of a part of a crypt line lie on the lower device, and which of the line's units is the first
pub record IsUnitAt (u : CryptPart) (at : UnitAt) : Type 0 where
  pub first : at.first ≡ unit_first u.units u.first
  pub index : at.index ≡ u.first / per_unit u.units

-- the part that begins with the unit of another one's first sector
abbrev pub from_unit : CryptPart → CryptPart
from_unit u = record u { first = u.first - u.first % per_unit u.units }

-- that unit, and where in it the part begins
pub record IsWholeOf (u : CryptPart) (whole : WholeUnit) : Type 0 where
  pub from : whole.from ≡ from_unit u
  pub sectors : whole.sectors ≡ per_unit u.units
  pub within : whole.within ≡ u.first % per_unit u.units

-- the part is one of line l of device d
abbrev pub IsPlacedAt : ℕ → ℕ → VerityPart → Type 0
IsPlacedAt d l x = (x.device.0 ≡ d) × (x.line ≡ l)

-- n sectors of a line from its sector w on go down together
abbrev pub AreTogether : Target → ℕ → ℕ → Type 0
AreTogether target w n = (j : ℕ) → suc j < n → IsTrue (together target (w + j))

-- A run of n sectors from s on, of at most so many, is the longest if it has as many, or its last sector doesn't go
-- down together with the next one.
abbrev pub EndsRun : (ℕ → Bool) → ℕ → ℕ → ℕ → Type 0
EndsRun together s most n = (n ≡ most) ⊎ (together (s + n - 1) ≡ false)

-- n sectors of a line of that target, its device's and its own number at hand, from its sector w on, come from there
abbrev pub ComeFrom : Configuration → ℕ × ℕ → Target → ℕ → ℕ → Source → Type 0
ComeFrom c at target w n (Below lower first) = HandsOn target × LieOn c target w n lower first × AreTogether target w n
ComeFrom c at target w n (Units u) = IsPartOf c target u × (u.first ≡ w) × AreUnits c u n
ComeFrom c at target w n (UnitPart u) = IsPartOf c target u × (u.first ≡ w) × LieInUnit c u n
ComeFrom c at target w n Zeros = target ≡ Zero
ComeFrom c at target w n Fails = target ≡ Error
ComeFrom c at target w n (Block x) = (target ≡ verity_target x.verity.now) × IsPlacedAt at.0 at.1 x × (x.first ≡ w) × LieInBlock c x n
ComeFrom c at target w n (Blocks x) = (target ≡ verity_target x.verity.now) × IsPlacedAt at.0 at.1 x × (x.first ≡ w) × AreWholeBlocks c x n

-- n sectors of device d from s on lie in one line, and come from there
pub record IsServed (c : Configuration) (d s n : ℕ) (source : Source) : Type 0 where
  pub number : ℕ
  pub line : Line
  pub found : line_at c d s ≡ Some (number, line)
  pub is : IsLine c d number line
  pub start : line.start ≤ s
  pub fits : s + n ≤ line.start + line.length
  pub come : ComeFrom c (d, number) line.target (s - line.start) n source

abbrev pub part_said : Configuration → VerityPart → ℕ → Said
part_said c x j = line_said (said_by_name c) x.device.0 x.line (verity_target x.verity.now) (x.first + j)

-- what is said of its sector j
abbrev pub source_said : Configuration → Source → ℕ → Said
source_said c (Below lower first) j = said_at c lower (first + j)
source_said c (Units u) j = crypt_said (said_at c u.lower) u.units u.key.now (u.first + j)
source_said c (UnitPart u) j = crypt_said (said_at c u.lower) u.units u.key.now (u.first + j)
source_said c Zeros j = zero_said
source_said c Fails j = error_said
source_said c (Block x) j = part_said c x j
source_said c (Blocks x) j = part_said c x j

-- the leaf sectors that are read for one of its sectors at most
abbrev pub source_cost : Configuration → Source → ℕ
source_cost c (Below lower first) = read_cost c lower
source_cost c (Units u) = read_cost c u.lower
source_cost c (UnitPart u) = per_unit u.units * read_cost c u.lower
source_cost c Zeros = 0
source_cost c Fails = 0
source_cost c (Block x) = read_cost c (mapped x.device.0)
source_cost c (Blocks x) = read_cost c (mapped x.device.0)

abbrev pub source_place : Configuration → Source → Place
source_place c source = record { said = source_said c source; cost = source_cost c source; leaves = source_leaves c source; agrees = AgreesOn c (source_leaves c source) }

-- how deep the devices are, for the measure of the recursion
abbrev pub source_depth : Configuration → Source → ℕ
source_depth c (Below lower first) = depth c lower + 1
source_depth c (Units u) = depth c u.lower + 1
source_depth c (UnitPart u) = depth c u.lower + 1
source_depth c Zeros = 0
source_depth c Fails = 0
source_depth c (Block x) = depth c (mapped x.device.0)
source_depth c (Blocks x) = depth c (mapped x.device.0)

-- n sectors of it lie inside the lower device, are units or data blocks, or lie in one of these
abbrev pub SourceHolds : Configuration → Source → ℕ → Type 0
SourceHolds c (Below lower first) n = first + n ≤ size c lower
SourceHolds c (Units u) n = AreUnits c u n
SourceHolds c (UnitPart u) n = LieInUnit c u n
SourceHolds c Zeros n = Unit {0}
SourceHolds c Fails n = Unit {0}
SourceHolds c (Block x) n = LieInBlock c x n
SourceHolds c (Blocks x) n = AreWholeBlocks c x n

-- a read of its first n sectors
abbrev pub ReadsSource : Configuration → Source → ℕ → LeafRead → Result (List ℕ) IoFault → Type 0
ReadsSource c source n did answer = Finds (source_place c source) c 0 n did answer
