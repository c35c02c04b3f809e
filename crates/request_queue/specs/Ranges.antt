-- Ranges of a mapped device's sectors, and their pieces.
use Rattle.std.specs.Prelude.{◌≡◌, ℕ, suc, ◌+◌, ◌-◌, ◌/◌, ◌%◌, ◌^◌, ◌<◌, ◌≤◌, ◌||◌, ◌==◌, not, nat_le, nat_lt, min, List, length, Option, Some, None, Result, Ok, Err, if◌then◌else◌}
use Rattle.std.specs.Int.{div_ceil}
use Rattle.std.specs.Option.{option_map_or}
use Rattle.stack_rules.specs.Records.{Configuration}
use Rattle.stack_rules.specs.Names.{mapped, device_named, size}
use Rattle.stack_rules.specs.Lines.{line_at}
use Rattle.request_queue.specs.declared.fault.SubmitFault.{SubmitFault}
use Rattle.request_queue.specs.declared.fault.SubmitFault.TheVariants.{NoSuchDevice, OutOfRange, Length}
use Rattle.request_queue.specs.declared.range.SectorRange.{SectorRange}

abbrev pub most_piece : ℕ
most_piece = 128

-- of a read into a slice
abbrev pub most_read : ℕ
most_read = 2048

abbrev pub most_count : ℕ
most_count = 2048

-- count sectors of mapped device d, from the first on
abbrev pub range_at : ℕ → ℕ → ℕ → SectorRange
range_at d first count = record { device = record { 0 = d }; first = first; count = count }

-- the sectors that are requested by the device's name, or the first refusal
abbrev pub range_in : Configuration → Option ℕ → ℕ → ℕ → Result SectorRange SubmitFault
range_in c None first count = Err NoSuchDevice
range_in c (Some d) first count =
    if nat_lt (size c (mapped d)) (first + count) then Err OutOfRange
    else if (count == 0) || nat_lt most_count count then Err Length
    else Ok (range_at d first count)

unfoldable pub range_of : Configuration → List ℕ → ℕ → ℕ → Result SectorRange SubmitFault
range_of c name first count = range_in c (device_named c name) first count

-- some sectors that lie inside their device
pub record IsRangeInside (c : Configuration) (range : SectorRange) : Type 0 where
  pub device : range.device.0 < length c.devices
  pub some : 0 < range.count
  pub inside : range.first + range.count ≤ size c (mapped range.device.0)
  pub count : range.count ≤ most_count
  pub fits : range.first + range.count < 2 ^ 64

-- what a range has after its first n sectors
abbrev pub range_after : SectorRange → ℕ → SectorRange
range_after range n = record { device = range.device; first = range.first + n; count = range.count - n }

-- How many sectors the first piece of a range has: they stay in one line, and are at most 128.
abbrev pub piece_len : Configuration → SectorRange → ℕ
piece_len c range =
    min most_piece (min range.count (option_map_or (λ p. p.1.start + p.1.length - range.first) (line_at c range.device.0 range.first) 0))

-- a range is cut into so many pieces
pub data IsCut (c : Configuration) : SectorRange → ℕ → Type 0 where
  last_piece : {range : SectorRange} → range.count ≤ piece_len c range → IsCut c range 1
  next_piece : {range : SectorRange} {n : ℕ} → piece_len c range < range.count → IsCut c (range_after range (piece_len c range)) n → IsCut c range (suc n)

-- ---- sectors that are read or written at once

-- the sectors of so many bytes of mapped device d, from the first on, or the first reason why they aren't read or written
abbrev pub bytes_range : Configuration → ℕ → ℕ → ℕ → Result SectorRange SubmitFault
bytes_range c d first bytes =
    if nat_le (length c.devices) d then Err NoSuchDevice
    else if nat_lt (size c (mapped d)) (first + div_ceil bytes 512) then Err OutOfRange
    else if not (bytes % 512 == 0) then Err Length
    else Ok (range_at d first (bytes / 512))

-- bytes of whole sectors, which lie inside their device
pub record HaveSectors (c : Configuration) (d first bytes : ℕ) : Type 0 where
  pub device : d < length c.devices
  pub whole : bytes % 512 ≡ 0
  pub inside : first + bytes / 512 ≤ size c (mapped d)
  pub fits : first + bytes / 512 < 2 ^ 64
