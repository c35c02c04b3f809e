-- The devices of a configuration over their leaves as a tree.
use Rattle.std.specs.Prelude.{ℕ, zero, suc, ◌-◌, ◌+◌, ◌==◌, nat_lt, not, ◌&&◌, Bool, true, false, List, [], ◌∷◌, ◌++◌, length, Option, Some, None, slice_get, slice_set, slice_index_or, replicate, codes, decimal, if◌then◌else◌}
use Rattle.std.specs.Option.{option_map_or}
use Rattle.dm_table.specs.declared.table.Line.{Line}
use Rattle.stack_rules.specs.declared.lower.Lower.{Lower}
use Rattle.stack_rules.specs.declared.lower.Lower.TheVariants.{Leaf as leaf, Device as device}
use Rattle.stack_rules.specs.Records.{Configuration}
use Rattle.stack_rules.specs.Names.{mapped, lines_of, names}
use Rattle.stack_rules.specs.Lines.{lower_at}
use Rattle.stack_rules.specs.Descend.{depth, most_devices}
use Rattle.stack_rules.specs.Rules.{most_depth}
use Rattle.command_line.specs.Bindings.{BindingRecord}
use Rattle.scan_commands.specs.TreeRows.{bars_text, branch_text, file_text, line_text, lower_text, offset_of}

-- a configuration, and the bindings of its leaves
pub record BoundRecord : Type 0 where
  pub config : Configuration
  pub bindings : List BindingRecord

-- a text, and of each device whether its lines were printed until then
pub record Shown : Type 0 where
  pub text : List ℕ
  pub printed : List Bool

abbrev pub Showing : Type 0
Showing = List Bool → Shown

abbrev pub says : List ℕ → Showing
says text printed = record { text = text; printed = printed }

-- what is printed next comes after a text
abbrev pub join : Shown → Showing → Shown
join before next = record { text = before.text ++ (next before.printed).text; printed = (next before.printed).printed }

-- the first n, in order
unfoldable pub each : (ℕ → Showing) → ℕ → Showing
each show zero printed = says [] printed
each show (suc n) printed = join (each show n printed) (show n)

-- where a row is: the bars at its left, and how many levels may follow
pub record PlaceRecord : Type 0 where
  pub bars : List Bool
  pub steps : ℕ

-- the place beneath a row, which has further rows after it or not
abbrev pub place_beneath : List Bool → ℕ → Bool → Option PlaceRecord
place_beneath bars zero bar = None
place_beneath bars (suc n) bar = Some (record { bars = bars ++ bar ∷ []; steps = n })

-- what is printed beneath a row, by the bars at its left and its device
abbrev pub Beneath : Type 0
Beneath = List Bool → ℕ → Showing

-- a line of a device with its number, and whether it is the last one
pub record PlacedLine : Type 0 where
  pub device : ℕ
  pub number : ℕ
  pub last : Bool
  pub line : Line

-- no row of the device follows that of name i
abbrev pub is_last_name : PlacedLine → ℕ → Bool
is_last_name at i = at.last && (i + 1 == length (names at.line.target))

-- the row of a name, up to its end
unfoldable pub name_text : Configuration → List Bool → PlacedLine → ℕ → Lower → List ℕ
name_text c bars at i lower =
    (bars_text bars ++ branch_text (is_last_name at i)) ++ (lower_text c lower ++ (codes " " ++ (line_text at.line ++ (codes " offset " ++ decimal (offset_of at.line.target i)))))

-- the row of a line without names
unfoldable pub bare_text : List Bool → PlacedLine → List ℕ
bare_text bars at = (bars_text bars ++ branch_text at.last) ++ (line_text at.line ++ codes "\n")

-- the end of a device's row, and the rows beneath, unless its lines were printed before
unfoldable pub opened : Beneath → List Bool → ℕ → Showing
opened beneath bars e printed =
    if slice_index_or printed e false then says (codes " (above)\n") printed
    else join (says (codes "\n") printed) (beneath bars e)

-- the end of a row, and the rows beneath
abbrev pub ended : BoundRecord → Beneath → List Bool → Lower → Showing
ended s beneath bars (leaf i) = says (file_text s.bindings i ++ codes "\n")
ended s beneath bars (device e) = opened beneath bars e.0

-- the row of a name that leads to a leaf or device, and the rows beneath
abbrev pub lower_shown : BoundRecord → Beneath → List Bool → PlacedLine → ℕ → Lower → Showing
lower_shown s beneath bars at i lower printed =
    join (says (name_text s.config bars at i lower) printed) (ended s beneath (bars ++ not (is_last_name at i) ∷ []) lower)

abbrev pub found_shown : BoundRecord → Beneath → List Bool → PlacedLine → ℕ → Option Lower → Showing
found_shown s beneath bars at i None = says []
found_shown s beneath bars at i (Some lower) = lower_shown s beneath bars at i lower

-- the row of name i of a line, and the rows beneath
unfoldable pub name_shown : BoundRecord → Beneath → List Bool → PlacedLine → ℕ → Showing
name_shown s beneath bars at i = found_shown s beneath bars at i (lower_at s.config at.device at.number i)

-- a row for each name of a line, or one for the line
unfoldable pub line_shown : BoundRecord → Beneath → List Bool → PlacedLine → Showing
line_shown s beneath bars at printed =
    if length (names at.line.target) == 0
    then says (bare_text bars at) printed
    else each (name_shown s beneath bars at) (length (names at.line.target)) printed

-- line l of device d, among n
abbrev pub placed : ℕ → ℕ → ℕ → Line → PlacedLine
placed d n l line = record { device = d; number = l; last = l + 1 == n; line = line }

abbrev pub line_at_shown : BoundRecord → Beneath → List Bool → ℕ → List Line → ℕ → Showing
line_at_shown s beneath bars d lines l = option_map_or (λ line. line_shown s beneath bars (placed d (length lines) l line)) (slice_get lines l) (says [])

-- the rows of the lines of a device
unfoldable pub lines_shown : BoundRecord → Beneath → List Bool → ℕ → Showing
lines_shown s beneath bars d printed = each (line_at_shown s beneath bars d (lines_of s.config d)) (length (lines_of s.config d)) (slice_set printed d true)

-- the rows of a device in so many levels
unfoldable pub beneath : BoundRecord → ℕ → Beneath
beneath s zero bars d = says []
beneath s (suc n) bars d = lines_shown s (beneath s n) bars d

-- a device of this depth whose lines weren't printed before
abbrev pub is_top : Configuration → ℕ → ℕ → List Bool → Bool
is_top c deep d printed = depth c (mapped d) == deep && not (slice_index_or printed d false)

-- such a device, at the left
unfoldable pub top_shown : BoundRecord → ℕ → ℕ → Showing
top_shown s deep d printed =
    if is_top s.config deep d printed
    then join (says (lower_text s.config (mapped d) ++ codes "\n") printed) (lines_shown s (beneath s most_depth) [] d)
    else says [] printed

-- the devices of a depth
abbrev pub tops_shown : BoundRecord → ℕ → Showing
tops_shown s deep = each (top_shown s deep) (length s.config.devices)

-- the devices of the n greatest depths, the deepest first
abbrev pub depths_shown : BoundRecord → ℕ → Showing
depths_shown s n = each (λ i. tops_shown s (most_depth - i)) n

-- A device that another one uses has a smaller depth, so that it was printed beneath that one before.
unfoldable pub tree_text : BoundRecord → List ℕ
tree_text s = (depths_shown s most_depth (replicate most_devices false)).text
