-- Keys, and digests of blocks of zeros, computed when a table is loaded.
use Rattle.std.specs.Prelude.{◌≡◌, ℕ, List, map, filter_map, Option}
use Rattle.std.specs.List.{enumerate_from}
use Rattle.std.specs.Option.{option_map}
use Rattle.dm_table.specs.declared.table.Line.{Line}
use Rattle.stack_config.specs.declared.keys.LineKey.{LineKey}
use Rattle.stack_rules.specs.Records.{DeviceRecord}
use Rattle.stack_rules.specs.Lines.{key_of, zero_digest_of}

-- the key of line l, if it is a `crypt` line
abbrev pub line_key : ℕ → Line → Option LineKey
line_key l line = option_map (λ key. record { line = l; key = key }) (key_of line.target)

-- the keys of the `crypt` lines among lines numbered from l
abbrev pub keys_from : ℕ → List Line → List LineKey
keys_from l lines = filter_map (λ p. line_key p.0 p.1) (enumerate_from l lines)

-- the keys of the `crypt` lines of each device
abbrev pub AreKeys : List DeviceRecord → List (List LineKey) → Type 0
AreKeys devices keys = keys ≡ map (λ d. keys_from 0 d.table) devices

-- for each line the digest of a data block of zeros, if it is a `verity` line with `ignore_zero_blocks`
abbrev pub zero_digests_of : List Line → List (Option (List ℕ))
zero_digests_of lines = map (λ line. zero_digest_of line.target) lines

-- the digests of blocks of zeros for the lines of each device
abbrev pub AreZeroDigests : List DeviceRecord → List (List (Option (List ℕ))) → Type 0
AreZeroDigests devices digests = digests ≡ map (λ d. zero_digests_of d.table) devices
