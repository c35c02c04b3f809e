-- Blocks of bytes as sectors. The status of a sector is the least advanced one of its bytes.
use Rattle.std.specs.Prelude.{◌≡◌, ℕ, ◌+◌, ◌-◌, ◌/◌, ◌%◌, ◌<◌, nat_lt, ◌==◌, List, [], ◌∷◌, ◌++◌, if◌then◌else◌}
use Rattle.rescue_map.specs.declared.block.Block.{Block}
use Rattle.rescue_map.specs.declared.map.Run.{Run}
use Rattle.rescue_map.specs.declared.status.Status.{Status}
use Rattle.rescue_map.specs.declared.status.Status.TheVariants.{Recovered}
use Rattle.rescue_map.specs.declared.tail.Tail.{Tail}
use Rattle.rescue_map.specs.Stages.{run_of}
use Rattle.rescue_map.specs.Statuses.{least}

-- no byte follows the last whole sector
abbrev pub no_tail : Tail
no_tail = record { count = 0; status = Recovered }

-- bytes that are no whole sector
pub record IsTail (tail : Tail) : Type 0 where
  pub part : tail.count < 512
  pub none : tail.count ≡ 0 → tail.status ≡ Recovered

-- the sector that the bytes of a tail and the next ones, of that status, make
abbrev pub completed : Tail → Status → List Run
completed tail status = if tail.count == 0 then [] else run_of 1 (least tail.status status) ∷ []

-- the number of bytes that complete it
abbrev pub lacking : Tail → ℕ
lacking tail = if tail.count == 0 then 0 else 512 - tail.count

-- the whole sectors of bytes of one status, and the bytes after them
abbrev pub whole_run : ℕ → Status → List Run
whole_run count status = if nat_lt count 512 then [] else run_of (count / 512) status ∷ []

abbrev pub tail_of : ℕ → Status → Tail
tail_of count status = if count % 512 == 0 then no_tail else record { count = count % 512; status = status }

-- the sectors that end with a block after a tail
abbrev pub block_runs : Tail → Block → List Run
block_runs tail block =
    if nat_lt (tail.count + block.count) 512 then []
    else completed tail block.status ++ whole_run (block.count - lacking tail) block.status

-- the tail after it
abbrev pub block_tail : Tail → Block → Tail
block_tail tail block =
    if nat_lt (tail.count + block.count) 512 then record { count = tail.count + block.count; status = least tail.status block.status }
    else tail_of (block.count - lacking tail) block.status

-- those of several blocks
abbrev pub blocks_runs : Tail → List Block → List Run
blocks_runs tail [] = []
blocks_runs tail (block ∷ more) = block_runs tail block ++ blocks_runs (block_tail tail block) more

abbrev pub blocks_tail : Tail → List Block → Tail
blocks_tail tail [] = tail
blocks_tail tail (block ∷ more) = blocks_tail (block_tail tail block) more
