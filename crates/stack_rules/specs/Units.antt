-- The encryption units of a `crypt` line.
use Rattle.std.specs.Prelude.{ℕ, ◌+◌, ◌*◌, ◌/◌, ◌==◌, if◌then◌else◌, Option, Some, None}
use Rattle.dm_table.specs.declared.crypt.Crypt.{Crypt}
use Rattle.dm_table.specs.declared.table.Target.{Target}
use Rattle.dm_table.specs.declared.table.Target.TheVariants.{Crypt as crypt_target}
use Rattle.dm_table.specs.Crypt.{sector_size}

-- the size of a unit in sectors: 1, 2, 4 or 8
abbrev pub unit_sectors : Crypt → ℕ
unit_sectors crypt = sector_size crypt / 512

-- leaf sectors read and written to write a sector, given the costs of reading and writing a lower sector: a unit of
-- several sectors is read, modified and written as a whole
abbrev pub unit_write_cost : ℕ → ℕ → ℕ → ℕ
unit_write_cost sectors read write = if sectors == 1 then write else sectors * (read + write)

-- the arguments of a `crypt` line
abbrev pub crypt_of : Target → Option Crypt
crypt_of (crypt_target crypt) = Some crypt
crypt_of target = None
