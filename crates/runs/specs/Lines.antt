-- Lines that are reported while trees are scanned.
use Rattle.std.specs.Prelude.{ℕ, Bool, true, false, List}
use Rattle.std.specs.List.{flat_map, list_any}
use Rattle.runs.specs.declared.line.Line.{Line}
use Rattle.runs.specs.declared.line.Line.TheVariants.{Run, More, Hash}
use Rattle.runs.specs.Texts.{run_text, more_text, hash_text}

abbrev pub listing_line : Line → List ℕ
listing_line (Run run) = run_text run
listing_line More = more_text
listing_line (Hash level number) = hash_text level number

-- the lines, concatenated
abbrev pub lines_text : List Line → List ℕ
lines_text lines = flat_map listing_line lines

abbrev pub is_more : Line → Bool
is_more More = true
is_more (Run run) = false
is_more (Hash level number) = false

-- one of the lines states that there are more runs
abbrev pub says_more : List Line → Bool
says_more lines = list_any is_more lines
