-- The lines of a map file.
use Rattle.std.specs.Prelude.{ℕ, ◌+◌, ◌-◌, ◌*◌, Bool, false, ◌&&◌, ◌||◌, ◌==◌, nat_lt, List, [], ◌∷◌, length, Option, Some, None, Result, Ok, Err, if◌then◌else◌}
use Rattle.std.specs.List.{slice_index}
use Rattle.std.specs.Option.{is_some}
use Rattle.dm_table.specs.Words.{Word}
use Rattle.rescue_map.specs.declared.block.Block.{Block}
use Rattle.rescue_map.specs.declared.status.Status.{Status}
use Rattle.rescue_map.specs.declared.fault.MapFault.{MapFault}
use Rattle.rescue_map.specs.declared.fault.MapFault.TheVariants as fault
use Rattle.rescue_map.specs.Numbers.{map_number}
use Rattle.rescue_map.specs.Statuses.{status_named}

abbrev pub status_of : Word → Option Status
status_of word = if length word == 1 then status_named (slice_index word 0) else None

-- the status of the whole: a status of a block, or `F` or `G`
abbrev pub is_whole_letter : ℕ → Bool
is_whole_letter b = is_some (status_named b) || (b == 70) || (b == 71)

abbrev pub is_whole_status : Word → Bool
is_whole_status word = (length word == 1) && is_whole_letter (slice_index word 0)

-- a status line: a position, a status and, optionally, the number of a pass
abbrev pub is_status : List Word → Bool
is_status (pos ∷ state ∷ []) = is_some (map_number pos) && is_whole_status state
is_status (pos ∷ state ∷ pass ∷ []) = is_some (map_number pos) && is_whole_status state
is_status other = false

-- a block from its first byte, its number of bytes and its status
abbrev pub block_from : Option ℕ → Option ℕ → Option Status → Result Block MapFault
block_from (Some first) (Some count) (Some status) = Ok (record { first = first; count = count; status = status })
block_from first count status = Err fault.Block

-- the line of a block: its position, size and status
abbrev pub map_block : List Word → Result Block MapFault
map_block (pos ∷ size ∷ status ∷ []) = block_from (map_number pos) (map_number size) (status_of status)
map_block other = Err fault.Block

-- how many bytes a map of a device of so many sectors may have: it may end inside the sector after the device
abbrev pub most_bytes : ℕ → ℕ
most_bytes sectors = sectors * 512 + 511

-- a block that must begin at byte `at` of a map of at most `most` bytes
abbrev pub block_at : ℕ → ℕ → Block → Result Block MapFault
block_at at most block =
    if block.count == 0 then Err fault.PartSector
    else if nat_lt at block.first then Err fault.Gap
    else if nat_lt block.first at then Err fault.Overlap
    else if nat_lt (most - at) block.count then Err fault.Size
    else Ok block
