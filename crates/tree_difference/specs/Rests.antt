-- The last runs of a comparison.
use Rattle.std.specs.Prelude.{List, ◌++◌, Option, Some, None}
use Rattle.runs.specs.declared.run.Run.{Run}
use Rattle.runs.specs.declared.kind.Kind.{Kind}
use Rattle.runs.specs.Tallies.{closed_by, listed, opened_by}
use Rattle.runs.specs.Kinds.{is_same}

-- the open run, and a run after it
abbrev pub last_runs : Option (Run Kind) → Option (Run Kind) → List (Run Kind)
last_runs last None = listed last
last_runs last (Some next) = closed_by is_same last next ++ listed (Some (opened_by is_same last next))
