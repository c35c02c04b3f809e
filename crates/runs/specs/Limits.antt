-- Lines that are printed up to a limit.
use Rattle.std.specs.Prelude.{ℕ, zero, suc, ◌-◌, Bool, true, false, List, [], ◌∷◌, ◌++◌, Option, Some, None}
use Rattle.runs.specs.declared.limit.Limit.{Limit}
use Rattle.runs.specs.declared.run.Run.{Run}
use Rattle.runs.specs.declared.kind.Kind.{Kind}
use Rattle.runs.specs.Texts.{run_text, more_text}

abbrev pub begun : Option ℕ → Limit
begun most = record { left = most; told = false }

-- the line that is printed for a run
abbrev pub line_within : Option ℕ → Bool → Run Kind → List ℕ
line_within None told run = run_text run
line_within (Some zero) false run = more_text
line_within (Some zero) true run = []
line_within (Some (suc n)) told run = run_text run

abbrev pub limited_line : Limit → Run Kind → List ℕ
limited_line limit run = line_within limit.left limit.told run

abbrev pub next_within : Option ℕ → Bool → Limit
next_within None told = record { left = None; told = told }
next_within (Some zero) told = record { left = Some 0; told = true }
next_within (Some (suc n)) told = record { left = Some n; told = told }

-- the limit after the line of a run
abbrev pub limit_next : Limit → Limit
limit_next limit = next_within limit.left limit.told

abbrev pub limit_after : Limit → List (Run Kind) → Limit
limit_after limit [] = limit
limit_after limit (run ∷ more) = limit_after (limit_next limit) more

-- the lines that are printed for runs
abbrev pub limited_lines : Limit → List (Run Kind) → List ℕ
limited_lines limit [] = []
limited_lines limit (run ∷ more) = limited_line limit run ++ limited_lines (limit_next limit) more
