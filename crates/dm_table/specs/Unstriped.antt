-- The arguments of an `unstriped` line, as documented on the kernel's dm-unstripe page. Its three numbers have 32
-- bits.
use Rattle.std.specs.Prelude.{ℕ, ◌^◌, ◌<◌, ◌≤◌, ◌&&◌, nat_le, nat_lt, List, [], ◌∷◌, Ok, Err, ok_or}
use Rattle.dm_table.specs.declared.unstriped.Unstriped.{Unstriped}
use Rattle.dm_table.specs.declared.fault.TextKind.{TextKind}
use Rattle.dm_table.specs.declared.fault.TextKind.TheVariants as kinds
use Rattle.dm_table.specs.Words.{Word}
use Rattle.dm_table.specs.Numbers.{number, number_if}
use Rattle.dm_table.specs.Reading.{Read, ◌>>=◌}
use Rattle.dm_table.specs.Arguments.{base_at, IsBaseOfGrammar}

-- a number of at least 1, in 32 bits
abbrev pub count_at : TextKind → Word → Read ℕ
count_at kind word = ok_or (number_if (λ n. nat_le 1 n && nat_lt n (2 ^ 32)) (number word)) kind

-- the index of a stripe, from 0, below the number of stripes
abbrev pub stripe_at : ℕ → Word → Read ℕ
stripe_at stripes word = ok_or (number_if (λ n. nat_lt n stripes) (number word)) kinds.StripeNumber

-- `<number of stripes> <chunk size> <stripe number> <dev> <offset>`
unfoldable pub unstriped_at : List Word → Read Unstriped
unstriped_at (count ∷ size ∷ place ∷ name ∷ offset ∷ []) = do
  stripes ← count_at kinds.StripeCount count
  chunk ← count_at kinds.ZeroChunk size
  stripe ← stripe_at stripes place
  base ← base_at name offset
  Ok (record { stripes = stripes; chunk = chunk; stripe = stripe; base = base })
unstriped_at words = Err kinds.ArgCount

-- a stripe among at least one, and a chunk size of at least one sector, in numbers of 32 bits
pub record IsUnstripedOfGrammar (line : Unstriped) : Type 0 where
  pub stripes : line.stripes < 2 ^ 32
  pub chunk_some : 1 ≤ line.chunk
  pub chunk_fits : line.chunk < 2 ^ 32
  pub stripe : line.stripe < line.stripes
  pub base : IsBaseOfGrammar line.base
