-- What Linux 6.1 refuses of a loaded configuration, and what it reads otherwise: each rule, and their order.
use Rattle.std.specs.Prelude.{◌≡◌, ℕ, ◌+◌, ◌-◌, ◌*◌, ◌/◌, ◌%◌, ◌^◌, ◌==◌, max, Bool, false, not, ◌&&◌, ◌||◌, nat_lt, is_some, List, [], ◌∷◌, length, slice_get, Option, Some, None, Result, Ok, Err, if◌then◌else◌}
use Rattle.std.specs.List.{list_any}
use Rattle.std.specs.Option.{option_map, option_map_or, option_or}
use Rattle.allocation.specs.Refusal.{IsOutOfMemory}
use Rattle.dm_table.specs.declared.table.Base.{Base}
use Rattle.dm_table.specs.declared.table.Line.{Line}
use Rattle.dm_table.specs.declared.table.Target.{Target}
use Rattle.dm_table.specs.declared.table.Target.TheVariants as targets
use Rattle.dm_table.specs.declared.verity.Verity.{Verity}
use Rattle.stack_rules.specs.declared.lower.Lower.{Lower}
use Rattle.stack_rules.specs.Records.{Configuration}
use Rattle.stack_rules.specs.Names.{mapped, table_sectors}
use Rattle.stack_rules.specs.Descend.{by_name}
use Rattle.stack_rules.specs.Rules.{ends_past}
use Rattle.stack_rules.specs.Trees.{block_sectors, verity_of}
use Rattle.stack_rules.specs.Units.{crypt_of, unit_sectors}
use Rattle.linux_rules.specs.declared.refusal.LinuxFault.{LinuxFault}
use Rattle.linux_rules.specs.declared.refusal.LinuxFault.TheVariants.{Refused, NoMemory}
use Rattle.linux_rules.specs.declared.refusal.LinuxKind.{LinuxKind}
use Rattle.linux_rules.specs.declared.refusal.LinuxKind.TheVariants.{LinuxSize, VerityBesideOthers, SmallBlock, BeginBeyondDevice, PartBlock, DividedBlock, UnitStart, DividedChunk, PartSize}
use Rattle.linux_rules.specs.declared.refusal.LinuxRefusal.{LinuxRefusal}
use Rattle.linux_rules.specs.Blocks.{line_block, lower_block, logical_block}

-- not whole blocks
abbrev pub is_part : ℕ → ℕ → Bool
is_part block sectors = not (sectors % block == 0)

-- ---- what is refused, by the lengths of lines and the types of targets

-- a device's size in bytes is a signed number of 64 bits (`loff_t`)
abbrev pub is_above_size : Line → Bool
is_above_size line = nat_lt (2 ^ 54 - 1) (line.start + line.length)

abbrev pub is_verity : Target → Bool
is_verity target = is_some (verity_of target)

-- the first line is a `verity` line
abbrev pub begins_with_verity : List Line → Bool
begins_with_verity lines = option_map_or (λ line. is_verity line.target) (slice_get lines 0) false

-- `verity` is an immutable target type, which can't be mixed with others (dm-table.c, `dm_table_add_target`)
abbrev pub is_mixed : Bool → Target → Bool
is_mixed verity_first target = if is_verity target then not verity_first else verity_first

-- ---- what is refused of a `verity` line (dm-verity-target.c, `verity_ctr`)

-- the sectors of a hash block
abbrev pub hash_sectors : Verity → ℕ
hash_sectors line = line.hash_block / 512

-- a data or hash block is smaller than a logical block of its device
abbrev pub are_smaller : Verity → ℕ → ℕ → Bool
are_smaller line data_block hash_block = nat_lt (block_sectors line) data_block || nat_lt (hash_sectors line) hash_block

abbrev pub has_small_block : (List ℕ → ℕ) → Target → Bool
has_small_block block target = option_map_or (λ line. are_smaller line (block line.data) (block line.hash)) (verity_of target) false

-- the tree, even of no block, begins past the end of the hash device
abbrev pub begins_beyond : Configuration → Target → Bool
begins_beyond c target = option_map_or (λ line. ends_past c line.hash (line.start * hash_sectors line)) (verity_of target) false

-- ---- what is refused of what a line takes of devices

-- so many sectors of some bases, or an offset there, aren't whole blocks (dm-table.c, `device_area_is_invalid`)
abbrev pub are_parts : ℕ → ℕ → List Base → Bool
are_parts block sectors bases = is_part block sectors || list_any (λ base. is_part block base.offset) bases

abbrev pub takes_parts : ℕ → ℕ → Target → Bool
takes_parts block sectors (targets.Linear base) = are_parts block sectors (base ∷ [])
takes_parts block sectors (targets.Striped chunk bases) = are_parts block (sectors / length bases) bases
takes_parts block sectors targets.Zero = false
takes_parts block sectors targets.Error = false
takes_parts block sectors (targets.Crypt line) = are_parts block sectors (line.base ∷ [])
takes_parts block sectors (targets.Verity line) = is_part block sectors
takes_parts block sectors (targets.Unstriped line) = are_parts block sectors (line.base ∷ [])

-- how many sectors of a block follow so many sectors
abbrev pub remaining : ℕ → ℕ → ℕ
remaining block sectors = if sectors % block == 0 then 0 else block - sectors % block

-- the rest of a block of the device is within the line, and isn't whole blocks of the line's devices (dm-table.c,
-- `validate_hardware_logical_block_alignment`)
abbrev pub divides_block : ℕ → ℕ → Line → Bool
divides_block block lower line = nat_lt (remaining block line.start) line.length && is_part lower (remaining block line.start)

-- ---- what is read otherwise

-- units are cut by the device's sectors, and numbered by the line's (dm-crypt.c, `crypt_map`)
abbrev pub begins_in_unit : Line → Bool
begins_in_unit line = option_map_or (λ crypt. is_part (unit_sectors crypt) line.start) (crypt_of line.target) false

-- requests are split at chunks, also within a logical block (dm-stripe.c, `stripe_ctr`; dm-unstripe.c, `unstripe_ctr`)
abbrev pub divides_chunk : ℕ → Target → Bool
divides_chunk lower (targets.Striped chunk bases) = is_part lower chunk
divides_chunk lower (targets.Unstriped line) = is_part lower line.chunk
divides_chunk lower target = false

-- ---- the rules in their order

-- the rules of a line, and whether each applies, where the blocks of the devices that it names are given, and its own device's
abbrev pub line_faults : Configuration → (List ℕ → ℕ) → ℕ → Bool → Line → List (LinuxKind × Bool)
line_faults c below block verity_first line =
    (LinuxSize, is_above_size line)
    ∷ (VerityBesideOthers, is_mixed verity_first line.target)
    ∷ (SmallBlock, has_small_block below line.target)
    ∷ (BeginBeyondDevice, begins_beyond c line.target)
    ∷ (PartBlock, takes_parts (line_block below line.target) line.length line.target)
    ∷ (DividedBlock, divides_block block (lower_block below line.target) line)
    ∷ (UnitStart, begins_in_unit line)
    ∷ (DividedChunk, divides_chunk (lower_block below line.target) line.target)
    ∷ []

-- the first that applies
abbrev pub first_kind : List (LinuxKind × Bool) → Option LinuxKind
first_kind [] = None
first_kind (fault ∷ more) = if fault.1 then Some fault.0 else first_kind more

-- the first result of a function over elements that are numbered from n
abbrev pub first_from : {X R : Type 0} → (ℕ → X → Option R) → ℕ → List X → Option R
first_from f n [] = None
first_from f n (x ∷ more) = option_or (f n x) (first_from f (n + 1) more)

-- at device d and line l
abbrev pub refusal_at : ℕ → ℕ → LinuxKind → LinuxRefusal
refusal_at d l kind = record { kind = kind; device = d; line = l }

-- the first rule that applies to a line of device d, by its logical block and those beneath
abbrev pub line_refusal : Configuration → (List ℕ → ℕ) → ℕ → List Line → ℕ → ℕ → Line → Option LinuxRefusal
line_refusal c below block lines d l line = option_map (refusal_at d l) (first_kind (line_faults c below block (begins_with_verity lines) line))

-- the rule on the size of device d
abbrev pub size_refusal : ℕ → List Line → ℕ → Option LinuxRefusal
size_refusal block lines d = if is_part block (table_sectors lines) then Some (refusal_at d 0 PartSize) else None

-- the first rule that applies to device d: to a line, and then to its size
abbrev pub device_refusal : Configuration → (List ℕ → ℕ) → ℕ → ℕ → List Line → Option LinuxRefusal
device_refusal c below block d lines = option_or (first_from (line_refusal c below block lines d) 1 lines) (size_refusal block lines d)

-- the logical block of device d, which counts from 1: at least a sector (dm-table.c, `dm_calculate_queue_limits`)
abbrev pub device_block : (Lower → ℕ) → ℕ → ℕ
device_block below d = max (below (mapped (d - 1))) 1

-- the first device with such a rule
abbrev pub stack_refusal : Configuration → (Lower → ℕ) → Option LinuxRefusal
stack_refusal c below = first_from (λ d x. device_refusal c (by_name c 0 below) (device_block below d) d x.table) 1 c.devices

-- the first rule of Linux that applies to a configuration, if one does
unfoldable pub linux_refusal : Configuration → Option LinuxRefusal
linux_refusal c = stack_refusal c (logical_block c)

-- accepted only if no rule applies, and refused by the first that does, unless an allocation was refused
abbrev pub IsChecked : Configuration → Result Unit LinuxFault → Type 0
IsChecked c (Ok done) = linux_refusal c ≡ None
IsChecked c (Err (Refused refusal)) = linux_refusal c ≡ Some refusal
IsChecked c (Err NoMemory) = IsOutOfMemory (length c.devices)
