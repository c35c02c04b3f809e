-- What `manual [COMMAND]` says.
use Rattle.std.specs.Prelude.{List, None, Option, Some, Ok, [], ℕ, ◌∷◌}
use Rattle.command_line.specs.Misuses.{Reading, when}
use Rattle.command_line.specs.Positional.{no_more}

-- a command's name, if one is given
unfoldable pub manual_said : List (List ℕ) → Reading (Option (List ℕ))
manual_said [] = Ok None
manual_said (command ∷ words) = when (no_more words) (λ none. Ok (Some command))
