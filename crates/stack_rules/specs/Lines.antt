-- The lines of a device by sector and by index.
use Rattle.std.specs.Prelude.{◌≡◌, ℕ, ◌+◌, ◌≤◌, ◌<◌, List, [], ◌∷◌, find, nat_lt, slice_get, Option, Some, option_and_then}
use Rattle.std.specs.List.{enumerate_from}
use Rattle.std.specs.Option.{option_map_or}
use Rattle.dm_table.specs.declared.table.Line.{Line}
use Rattle.dm_table.specs.declared.table.Target.{Target}
use Rattle.stack_rules.specs.declared.lower.Lower.{Lower}
use Rattle.stack_rules.specs.Records.{Configuration}
use Rattle.stack_rules.specs.Names.{lines_of, names, named}
use Rattle.stack_rules.specs.RulesOf.{rules_of}

-- the first line that ends after sector s of its device, with its index from 0 on
abbrev pub line_in : List Line → ℕ → Option (ℕ × Line)
line_in lines s = find (λ p. nat_lt s (p.1.start + p.1.length)) (enumerate_from 0 lines)

abbrev pub line_at : Configuration → ℕ → ℕ → Option (ℕ × Line)
line_at c d s = line_in (lines_of c d) s

-- line l of device d is this line
abbrev pub IsLine : Configuration → ℕ → ℕ → Line → Type 0
IsLine c d l line = slice_get (lines_of c d) l ≡ Some line

-- the lines are consecutive from a sector on, and none is empty
abbrev pub Follow : ℕ → List Line → Type 0
Follow start [] = Unit {0}
Follow start (line ∷ more) = (line.start ≡ start) × (0 < line.length) × Follow (start + line.length) more

-- line l, if it exists, starts at or before sector s, or after it
abbrev pub StartsBy : List Line → ℕ → ℕ → Type 0
StartsBy lines l s = (line : Line) → slice_get lines l ≡ Some line → line.start ≤ s

abbrev pub StartsAfter : List Line → ℕ → ℕ → Type 0
StartsAfter lines l s = (line : Line) → slice_get lines l ≡ Some line → s < line.start

-- sector s of a device is in line l, with `left` sectors from s to the end of the line
pub record IsIn (lines : List Line) (s l left : ℕ) : Type 0 where
  pub line : Line
  pub is : line_in lines s ≡ Some (l, line)
  pub at : slice_get lines l ≡ Some line
  pub start : line.start ≤ s
  pub ends : s + left ≡ line.start + line.length
  pub some : 0 < left

-- the names in line l of device d, and the leaf or device that name i refers to
abbrev pub names_at : Configuration → ℕ → ℕ → List (List ℕ)
names_at c d l = option_map_or (λ line. names line.target) (slice_get (lines_of c d) l) []

abbrev pub lower_at : Configuration → ℕ → ℕ → ℕ → Option Lower
lower_at c d l i = option_and_then (named c) (slice_get (names_at c d l) i)

-- the key of a target, if it is `crypt`
abbrev pub key_of : Target → Option (List ℕ)
key_of target = (rules_of target).key

-- the key of line l of device d, if it is a `crypt` line
abbrev pub key_of_line : Configuration → ℕ → ℕ → Option (List ℕ)
key_of_line c d l = option_and_then (λ line. key_of line.target) (slice_get (lines_of c d) l)

-- the digest of a data block of zeros, if the target is `verity` with `ignore_zero_blocks`
abbrev pub zero_digest_of : Target → Option (List ℕ)
zero_digest_of target = (rules_of target).zero_digest

-- the digest of a data block of zeros for line l of device d, if it is such a line
abbrev pub zero_digest_at : Configuration → ℕ → ℕ → Option (List ℕ)
zero_digest_at c d l = option_and_then (λ line. zero_digest_of line.target) (slice_get (lines_of c d) l)
