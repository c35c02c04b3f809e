-- What `find [--json] PLACE` says.
use Rattle.std.specs.Prelude.{codes, Bool, List, Ok, ℕ}
use Rattle.command_line.specs.FormatOptions.{OptionTexts}
use Rattle.command_line.specs.Misuses.{Reading, when}
use Rattle.command_line.specs.Positional.{no_more, positional}
use Rattle.command_line.specs.declared.words.find.FindWords.{FindWords}

pub record FindRecord : Type 0 where
  pub place : List ℕ
  pub json : Bool

unfoldable pub find_said : OptionTexts → List (List ℕ) → Reading FindRecord
find_said texts words =
    when (positional (codes "PLACE") words) (λ place.
    when (no_more place.1) (λ none.
    Ok (record {
      place = place.0;
      json = texts.json;
    })))

-- what the program's own value says
abbrev pub find_record : FindWords → FindRecord
find_record w = record { place = w.place.now; json = w.json }
