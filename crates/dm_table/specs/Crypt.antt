-- The arguments of a `crypt` line, as documented on the kernel's dm-crypt page.
use Rattle.std.specs.Prelude.{◌≡◌, ℕ, ◌^◌, ◌<◌, ◌⊎◌, Bool, ◌==◌, if◌then◌else◌, List, [], ◌∷◌, length, codes, Ok, Err}
use Rattle.std.specs.Str.{bytes_eq}
use Rattle.hex.specs.Hex.{IsBytes}
use Rattle.dm_table.specs.declared.crypt.Crypt.{Crypt}
use Rattle.dm_table.specs.declared.fault.TextKind.TheVariants as kinds
use Rattle.dm_table.specs.Words.{Word}
use Rattle.dm_table.specs.Reading.{Read, ◌>>=◌}
use Rattle.dm_table.specs.Arguments.{number_at, base_at, bytes_at, IsBaseOfGrammar}
use Rattle.dm_table.specs.Options.{is_one_of, options_at, AreOptionsOfGrammar}

-- options for queues and discards, the size of an encryption unit, and the numbering of units
abbrev pub crypt_options : List Word
crypt_options =
    codes "allow_discards" ∷ codes "same_cpu_crypt" ∷ codes "submit_from_crypt_cpus" ∷ codes "no_read_workqueue" ∷ codes "no_write_workqueue"
    ∷ codes "sector_size:512" ∷ codes "sector_size:1024" ∷ codes "sector_size:2048" ∷ codes "sector_size:4096" ∷ codes "iv_large_sectors" ∷ []

-- the size of an encryption unit in bytes: the largest that an option names, or 512
unfoldable pub sector_size : Crypt → ℕ
sector_size crypt =
    if is_one_of (codes "sector_size:4096") crypt.options then 4096
    else if is_one_of (codes "sector_size:2048") crypt.options then 2048
    else if is_one_of (codes "sector_size:1024") crypt.options then 1024
    else 512

-- whether units are numbered in units instead of sectors of 512 bytes
unfoldable pub iv_large_sectors : Crypt → Bool
iv_large_sectors crypt = is_one_of (codes "iv_large_sectors") crypt.options

-- AES in XTS mode; the initialization vector is the 64-bit number of the unit
abbrev pub cipher_name : Word
cipher_name = codes "aes-xts-plain64"

abbrev pub cipher_at : Word → Read Unit
cipher_at word = if bytes_eq word cipher_name then Ok tt else Err kinds.Cipher

-- a key of 32 or 64 bytes
unfoldable pub key_at : Word → Read (List ℕ)
key_at word = bytes_at (if length word == 128 then 64 else 32) kinds.Key word

-- `<cipher> <key> <iv_offset> <device path> <offset> [<#opt_params> <opt_params>]`
unfoldable pub crypt_at : List Word → Read Crypt
crypt_at (name ∷ digits ∷ iv ∷ device ∷ offset ∷ params) = do
  known ← cipher_at name
  key ← key_at digits
  first ← number_at iv
  base ← base_at device offset
  options ← options_at crypt_options [] params
  Ok (record { key = key; iv_offset = first; base = base; options = options })
crypt_at words = Err kinds.ArgCount

-- a key of 32 or 64 bytes, and known options
pub record IsCryptOfGrammar (crypt : Crypt) : Type 0 where
  pub key_size : (length crypt.key ≡ 32) ⊎ (length crypt.key ≡ 64)
  pub key_bytes : IsBytes crypt.key
  pub iv_offset : crypt.iv_offset < 2 ^ 64
  pub base : IsBaseOfGrammar crypt.base
  pub options : AreOptionsOfGrammar crypt_options crypt.options
