-- The line of a JSON value (RFC 8259): its text without white space, as `serde_json` writes it, and a newline.
use Rattle.std.specs.Prelude.{ℕ, List, ◌++◌, codes}
use Rattle.serde_json.specs.Data.{Data}
use Rattle.serde_json.specs.Written.{compact_text}

unfoldable pub json_line : Data → List ℕ
json_line d = compact_text d ++ codes "\n"
