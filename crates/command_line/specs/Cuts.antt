-- Texts that are cut in two.
use Rattle.std.specs.Prelude.{ℕ, ◌==◌, nat_lt, List, length, Option, Some, None, if◌then◌else◌}
use Rattle.std.specs.List.{position_or_len, before_first, after_first}

-- the text before and after its first byte b, if it has one
unfoldable pub cut_first : ℕ → List ℕ → Option (List ℕ × List ℕ)
cut_first b text =
    if nat_lt (position_or_len (λ x. x == b) text) (length text)
    then Some (before_first (λ x. x == b) text, after_first (λ x. x == b) text) else None
