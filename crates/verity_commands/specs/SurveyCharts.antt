-- How the map of `verify --all --chart` is drawn.
use Rattle.std.specs.Prelude.{ℕ, ◌&&◌, Bool, false, List, codes, if◌then◌else◌}
use Rattle.std.specs.List.{list_any}
use Rattle.charts.specs.Charts.{Marking, is_touched}
use Rattle.runs.specs.declared.kind.Kind.{Kind}
use Rattle.runs.specs.declared.kind.Kind.TheVariants.{Changed, Unknown}
use Rattle.runs.specs.declared.line.Line.{Line}
use Rattle.runs.specs.declared.line.Line.TheVariants.{Run, More, Hash}
use Rattle.runs.specs.Kinds.{is_same}

-- the line is a run of that kind, and one of `width` blocks from `at` on is in it
abbrev pub line_touches : Kind → ℕ → ℕ → Line → Bool
line_touches kind at width (Run run) = is_same run.kind kind && is_touched at width run.first run.count
line_touches kind at width More = false
line_touches kind at width (Hash level number) = false

-- one of them is of that kind
abbrev pub has_kind : List Line → Kind → ℕ → ℕ → Bool
has_kind lines kind at width = list_any (line_touches kind at width) lines

-- `x` if one of them is changed, `?` if none is and one is unknown, and else `.`
abbrev pub damage_mark : List Line → Marking
damage_mark lines at width =
    if has_kind lines Changed at width then codes "x"
    else if has_kind lines Unknown at width then codes "?"
    else codes "."
