-- The printed form of runs.
use Rattle.std.specs.Prelude.{ℕ, List, [], ◌++◌, codes, decimal, Option, Some, None, take, length, nat_lt, if◌then◌else◌}
use Rattle.std.specs.List.{flat_map}
use Rattle.runs.specs.declared.kind.Kind.{Kind}
use Rattle.runs.specs.declared.kind.Kind.TheVariants.{Changed, Unknown, Removed, Added}
use Rattle.runs.specs.declared.run.Run.{Run}

abbrev pub kind_name : Kind → List ℕ
kind_name Changed = codes "changed"
kind_name Unknown = codes "unknown"
kind_name Removed = codes "removed"
kind_name Added = codes "added"

-- `KIND FIRST COUNT`
unfoldable pub run_text : Run Kind → List ℕ
run_text run = kind_name run.kind ++ (codes " " ++ (decimal run.first ++ (codes " " ++ (decimal run.count ++ codes "\n"))))

-- a line for each run
abbrev pub runs_text : List (Run Kind) → List ℕ
runs_text runs = flat_map run_text runs

-- `hash LEVEL INDEX`
unfoldable pub hash_text : ℕ → ℕ → List ℕ
hash_text level number = codes "hash " ++ (decimal level ++ (codes " " ++ (decimal number ++ codes "\n")))

unfoldable pub more_text : List ℕ
more_text = codes "more\n"

-- a line for each run; with a limit of n, only the first n lines, followed by `more` if there are more runs
abbrev pub listing_text : Option ℕ → List (Run Kind) → List ℕ
listing_text None runs = runs_text runs
listing_text (Some n) runs = runs_text (take n runs) ++ (if nat_lt n (length runs) then more_text else [])
