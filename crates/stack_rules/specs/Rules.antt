-- Which loads are refused, and by which rule.
use Rattle.std.specs.Prelude.{◌≡◌, ◌≤◌, IsTrue, All, ℕ, ◌+◌, ◌-◌, ◌^◌, Bool, true, false, not, ◌&&◌, ◌||◌, ◌==◌, nat_lt, is_none, List, [], ◌∷◌, ◌++◌, length, map, take, filter, flat_map, Option, Some, None, if◌then◌else◌, find}
use Rattle.std.specs.List.{list_any, enumerate_from, starts_with, IsDistinct}
use Rattle.std.specs.Option.{option_map_or}
use Rattle.std.specs.Str.{bytes_eq}
use Rattle.dm_table.specs.declared.stack.Entry.{Entry}
use Rattle.dm_table.specs.declared.table.Base.{Base}
use Rattle.dm_table.specs.declared.table.Line.{Line}
use Rattle.dm_table.specs.declared.table.Target.{Target}
use Rattle.dm_table.specs.Grammar.{IsTableOfGrammar}
use Rattle.dm_table.specs.Names.{is_mapped_name, is_name_of, is_leaf_byte, mapper}
use Rattle.stack_rules.specs.declared.refusal.LoadKind.{LoadKind}
use Rattle.stack_rules.specs.declared.refusal.LoadKind.TheVariants.{DuplicateName, TooMany, NoSuchDevice, StandsOnItself, ZeroLength, Gap, TooLarge, StripesDontDivide, BeyondDevice, LineBeyondTree, TreeBeyondDevice, NeedsReadOnly, LowerReadOnly, TooDeep, CostTooLarge, UnitDoesntDivide, IvOffset, ParityDoesntCover}
use Rattle.stack_rules.specs.declared.refusal.Refusal.{Refusal}
use Rattle.stack_rules.specs.Records.{Configuration, DeviceRecord, LeafRecord}
use Rattle.stack_rules.specs.Names.{mapped, named, names, table_sectors, size, may_write, device_named}
pub use Rattle.stack_rules.specs.TargetRules.{range_from}
use Rattle.stack_rules.specs.TargetRules.{has_fault}
use Rattle.stack_rules.specs.RulesOf.{rules_of}
use Rattle.stack_rules.specs.Descend.{depth, read_cost, most_devices}
use Rattle.stack_rules.specs.Cycles.{is_on_cycle, IsOnCycle, IsFirstOnCycle}

-- ---- the configuration after the load

-- a device with the table and flag of the entry that has its name, if there is one
abbrev pub replacement : List Entry → DeviceRecord → DeviceRecord
replacement text d = option_map_or (λ e. record d { writable = e.writable; table = e.table }) (find (λ e. bytes_eq e.name d.name) text) d

abbrev pub new_device : Entry → DeviceRecord
new_device e = record { name = e.name; writable = e.writable; table = e.table }

-- the existing devices in order, followed by the new ones in the order of the text
abbrev pub after_load : Configuration → List Entry → Configuration
after_load c text = record c {
  devices = map (replacement text) c.devices ++ map new_device (filter (λ e. is_none (device_named c e.name)) text);
}

-- ---- the rules, each at a device and a line, numbered from 1

abbrev pub refuse : LoadKind → ℕ → ℕ → Bool → Option Refusal
refuse kind d l applies = if applies then Some (record { kind = kind; device = d; line = l }) else None

-- a refusal at each entry with the name of an earlier one
abbrev pub duplicate_names : List (List ℕ) → List Entry → List (Option Refusal)
duplicate_names earlier [] = []
duplicate_names earlier (e ∷ more) = refuse DuplicateName e.number 0 (list_any (bytes_eq e.name) earlier) ∷ duplicate_names (e.name ∷ earlier) more

abbrev pub most_lines : ℕ
most_lines = 256

-- the limits: sectors of a device, leaf sectors read for one sector, and depth
abbrev pub most_sectors : ℕ
most_sectors = 2 ^ 54

abbrev pub most_cost : ℕ
most_cost = 2 ^ 32

abbrev pub most_depth : ℕ
most_depth = 8

-- a range of the named device that ends at `end` ends after the device; so does one of an unknown name
abbrev pub ends_past : Configuration → List ℕ → ℕ → Bool
ends_past c name end = option_map_or (λ lower. nat_lt (size c lower) end) (named c name) true

-- the ranges that a line of `len` sectors maps: its sectors, the share of each stripe, or all data blocks; with parity
-- also the covered hash blocks and the parity
abbrev pub ranges : ℕ → Target → List (List ℕ × ℕ)
ranges len target = (rules_of target).ranges len

-- `sectors` sectors from a base end after its device
abbrev pub ends_beyond : Configuration → ℕ → Base → Bool
ends_beyond c sectors base = ends_past c base.device (base.offset + sectors)

-- a range of a line ends after the named device
abbrev pub is_beyond : Configuration → ℕ → Target → Bool
is_beyond c len target = list_any (λ range. ends_past c range.0 range.1) (ranges len target)

-- the target's own rule of this kind refuses a line of `len` sectors
abbrev pub refuses : LoadKind → ℕ → Target → Bool
refuses kind len target = has_fault kind ((rules_of target).faults len)

-- the length isn't a multiple of the target's stripes and chunk size, as its own rule requires
abbrev pub is_undivided : ℕ → Target → Bool
is_undivided len target = refuses StripesDontDivide len target

-- the length isn't a multiple of the encryption unit
abbrev pub cuts_unit : ℕ → Target → Bool
cuts_unit len target = refuses UnitDoesntDivide len target

-- `iv_offset` isn't a multiple of the sectors of a unit, however units are numbered
abbrev pub is_off_unit : ℕ → Target → Bool
is_off_unit len target = refuses IvOffset len target

-- the parity doesn't cover all data and hash blocks
abbrev pub is_unprotected : ℕ → Target → Bool
is_unprotected len target = refuses ParityDoesntCover len target

-- the line is longer than its data blocks
abbrev pub is_uncovered : ℕ → Target → Bool
is_uncovered len target = refuses LineBeyondTree len target

-- the tree, if it has a block, ends after the hash device
abbrev pub is_tree_beyond : Configuration → Target → Bool
is_tree_beyond c target = option_map_or (λ range. ends_past c range.0 range.1) (rules_of target).tree false

-- no sector of such a line can be written
abbrev pub needs_read_only : ℕ → Target → Bool
needs_read_only len target = refuses NeedsReadOnly len target

-- the line names a leaf or device that isn't writable
abbrev pub names_read_only : Configuration → Target → Bool
names_read_only c target = list_any (λ name. option_map_or (λ lower. not (may_write c lower)) (named c name) false) (names target)

-- the rules of a line in order, and whether each refuses it; `before` is the number of sectors in the lines before
abbrev pub line_faults : Configuration → Bool → ℕ → Line → List (LoadKind × Bool)
line_faults c writable before line =
    (ZeroLength, line.length == 0)
    ∷ (Gap, not (line.start == before))
    ∷ (TooLarge, nat_lt most_sectors (line.start + line.length))
    ∷ (StripesDontDivide, is_undivided line.length line.target)
    ∷ (UnitDoesntDivide, cuts_unit line.length line.target)
    ∷ (IvOffset, is_off_unit line.length line.target)
    ∷ (ParityDoesntCover, is_unprotected line.length line.target)
    ∷ (BeyondDevice, is_beyond c line.length line.target)
    ∷ (LineBeyondTree, is_uncovered line.length line.target)
    ∷ (TreeBeyondDevice, is_tree_beyond c line.target)
    ∷ (NeedsReadOnly, writable && needs_read_only line.length line.target)
    ∷ (LowerReadOnly, writable && names_read_only c line.target)
    ∷ []

-- the refusals by rules at line l of device d
abbrev pub refusals_at : ℕ → ℕ → List (LoadKind × Bool) → List (Option Refusal)
refusals_at d l faults = map (λ fault. refuse fault.0 d l fault.1) faults

-- the refusals by the rules of line l of device d
abbrev pub line_rules : Configuration → Bool → ℕ → ℕ → ℕ → Line → List (Option Refusal)
line_rules c writable d l before line = refusals_at d l (line_faults c writable before line)

-- the refusals by a rule that is applied to each device in order
abbrev pub each_device : Configuration → (ℕ → DeviceRecord → List (Option Refusal)) → List (Option Refusal)
each_device c rules = flat_map (λ p. rules p.0 p.1) (enumerate_from 1 c.devices)

-- a refusal of each line with an unknown name
abbrev pub unknown_in : Configuration → ℕ → List Line → List (Option Refusal)
unknown_in c d lines = flat_map (λ p. refuse NoSuchDevice d p.0 (list_any (λ name. is_none (named c name)) (names p.1.target)) ∷ []) (enumerate_from 1 lines)

abbrev pub unknown_names : Configuration → List (Option Refusal)
unknown_names c = each_device c (λ d x. unknown_in c d x.table)

-- a refusal of each device on a cycle
abbrev pub cycles : Configuration → List (Option Refusal)
cycles c = each_device c (λ d x. refuse StandsOnItself d 0 (is_on_cycle c (d - 1)) ∷ [])

-- the refusals by the rules of each line of device d
abbrev pub table_rules : Configuration → ℕ → DeviceRecord → List (Option Refusal)
table_rules c d x = flat_map (λ p. line_rules c x.writable d p.0 (table_sectors (take (p.0 - 1) x.table)) p.1) (enumerate_from 1 x.table)

-- there are too many devices, or too many lines in one
abbrev pub is_too_many : List DeviceRecord → Bool
is_too_many devices = nat_lt most_devices (length devices) || list_any (λ d. nat_lt most_lines (length d.table)) devices

-- the rules of the whole configuration, followed by those of each line
abbrev pub device_rules : Configuration → List (Option Refusal)
device_rules c = refuse TooMany 0 0 (is_too_many c.devices) ∷ unknown_names c ++ cycles c ++ each_device c (table_rules c)

-- a refusal of each device whose depth is above the limit
abbrev pub depth_rules : Configuration → List (Option Refusal)
depth_rules c = each_device c (λ d x. refuse TooDeep d 0 (nat_lt most_depth (depth c (mapped (d - 1)))) ∷ [])

-- a refusal of each device whose read cost is above the limit
abbrev pub cost_rules : Configuration → List (Option Refusal)
cost_rules c = each_device c (λ d x. refuse CostTooLarge d 0 (nat_lt most_cost (read_cost c (mapped (d - 1)))) ∷ [])

-- all rules in order, except that of the names in the text
abbrev pub rules : Configuration → List (Option Refusal)
rules c = device_rules c ++ depth_rules c ++ cost_rules c

-- the first refusal of a list
abbrev pub first : List (Option Refusal) → Option Refusal
first [] = None
first (None ∷ more) = first more
first (Some refusal ∷ more) = Some refusal

-- the rules of a load in order
abbrev pub load_rules : Configuration → List Entry → List (Option Refusal)
load_rules c text = duplicate_names [] text ++ rules (after_load c text)

-- the first refusal of a load
unfoldable pub first_refusal : Configuration → List Entry → Option Refusal
first_refusal c text = first (load_rules c text)

-- the reason why a load is refused: the first refusal; if it is about cycles, it names the first device on one
pub record IsRefusal (c : Configuration) (text : List Entry) (refusal : Refusal) : Type 0 where
  pub first : first_refusal c text ≡ Some refusal
  pub cycle : refusal.kind ≡ StandsOnItself → IsFirstOnCycle (after_load c text) refusal.device

-- no rule refuses the configuration
unfoldable pub IsValid : Configuration → Type 0
IsValid c = first (rules c) ≡ None

-- a name that a table can use for a leaf: 1 to 255 bytes that don't begin like the path of a mapped device
unfoldable pub is_leaf_name : List ℕ → Bool
is_leaf_name name = is_name_of 255 is_leaf_byte name && not (starts_with ◌==◌ name mapper)

-- the largest number of leaves
abbrev pub most_leaves : ℕ
most_leaves = 64

-- at most 64 leaves, each with a distinct leaf name and at most 2^54 sectors
pub record AreLeaves (leaves : List LeafRecord) : Type 0 where
  pub count : length leaves ≤ most_leaves
  pub distinct : IsDistinct bytes_eq (map (λ l. l.name) leaves)
  pub names : All (λ l. IsTrue (is_leaf_name l.name)) leaves
  pub sizes : All (λ l. l.sectors ≤ most_sectors) leaves

-- a configuration that results from loads: distinct names, tables of the grammar, no device on a cycle, and no
-- refusal by a rule
pub record IsLoaded (c : Configuration) : Type 0 where
  pub leaves : AreLeaves c.leaves
  pub distinct : IsDistinct bytes_eq (map (λ d. d.name) c.devices)
  pub mapped : All (λ d. IsTrue (is_mapped_name d.name)) c.devices
  pub tables : All (λ d. IsTableOfGrammar d.table) c.devices
  pub valid : IsValid c
  pub acyclic : (d : ℕ) → IsOnCycle c d → ⊥
