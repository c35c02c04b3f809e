-- A table line: its start, its length, its target type and the target's arguments, checked from left to right.
use Rattle.std.specs.Prelude.{ℕ, ◌*◌, ◌&&◌, ◌==◌, nat_le, if◌then◌else◌, List, [], ◌∷◌, length, ok_or, Ok, Err}
use Rattle.dm_table.specs.declared.table.Base.{Base}
use Rattle.dm_table.specs.declared.table.Line.{Line}
use Rattle.dm_table.specs.declared.table.Target.{Target}
use Rattle.dm_table.specs.declared.table.Target.TheVariants as targets
use Rattle.dm_table.specs.declared.target_type.TargetType.{TargetType}
use Rattle.dm_table.specs.declared.target_type.TargetType.TheVariants as types
use Rattle.dm_table.specs.declared.fault.TextKind.TheVariants as kinds
use Rattle.dm_table.specs.Words.{Word}
use Rattle.dm_table.specs.Numbers.{number, number_if}
use Rattle.dm_table.specs.Reading.{Read, ◌>>=◌}
use Rattle.dm_table.specs.Arguments.{number_at, base_at}
use Rattle.dm_table.specs.Crypt.{crypt_at}
use Rattle.dm_table.specs.Verity.{verity_at}
use Rattle.dm_table.specs.Unstriped.{unstriped_at}
use Rattle.dm_table.specs.TargetTypes.{type_named}

-- exactly `<dev> <offset>`
unfoldable pub linear_at : List Word → Read Target
linear_at (name ∷ offset ∷ []) = do
  base ← base_at name offset
  Ok (targets.Linear base)
linear_at words = Err kinds.ArgCount

-- pairs `<dev> <offset>`
abbrev pub bases_at : List Word → Read (List Base)
bases_at [] = Ok []
bases_at (name ∷ []) = Err kinds.ArgCount
bases_at (name ∷ offset ∷ more) = do
  base ← base_at name offset
  bases ← bases_at more
  Ok (base ∷ bases)

-- the number of stripes: 1 to 16
abbrev pub stripes_at : Word → Read ℕ
stripes_at word = ok_or (number_if (λ n. nat_le 1 n && nat_le n 16) (number word)) kinds.StripeCount

-- a chunk size of at least one sector
abbrev pub chunk_at : Word → Read ℕ
chunk_at word = ok_or (number_if (λ n. nat_le 1 n) (number word)) kinds.ZeroChunk

-- exactly n pairs; their number is checked before their contents
abbrev pub pairs_at : ℕ → List Word → Read (List Base)
pairs_at n pairs = if length pairs == 2 * n then bases_at pairs else Err kinds.ArgCount

-- `<num devs> <chunk>`, followed by as many pairs `<dev> <offset>`
unfoldable pub striped_at : List Word → Read Target
striped_at (count ∷ size ∷ pairs) = do
  n ← stripes_at count
  chunk ← chunk_at size
  bases ← pairs_at n pairs
  Ok (targets.Striped chunk bases)
striped_at words = Err kinds.ArgCount

-- a target without arguments
unfoldable pub bare_at : Target → List Word → Read Target
bare_at target [] = Ok target
bare_at target (word ∷ more) = Err kinds.ArgCount

-- the arguments of a target of this type
abbrev pub arguments_at : TargetType → List Word → Read Target
arguments_at types.Linear words = linear_at words
arguments_at types.Striped words = striped_at words
arguments_at types.Zero words = bare_at targets.Zero words
arguments_at types.Error words = bare_at targets.Error words
arguments_at types.Crypt words = crypt_at words >>= (λ line. Ok (targets.Crypt line))
arguments_at types.Verity words = verity_at words >>= (λ line. Ok (targets.Verity line))
arguments_at types.Unstriped words = unstriped_at words >>= (λ line. Ok (targets.Unstriped line))

-- `<target_type> <target_args>`
unfoldable pub target_at : Word → List Word → Read Target
target_at word arguments = do
  type ← ok_or (type_named word) kinds.Target
  arguments_at type arguments

-- `<start_sector> <num_sectors> <target_type> <target_args>`
unfoldable pub line_of : List Word → Read Line
line_of (start ∷ count ∷ type ∷ arguments) = do
  first ← number_at start
  sectors ← number_at count
  target ← target_at type arguments
  Ok (record { start = first; length = sectors; target = target })
line_of words = Err kinds.ArgCount
