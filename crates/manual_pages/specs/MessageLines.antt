-- The line that explains why a command ends early.
use Rattle.std.specs.Prelude.{ℕ, ◌++◌, List, codes}

-- of a sentence
unfoldable pub message_line : List ℕ → List ℕ
message_line message = codes "dmstack: " ++ (message ++ codes "\n")
