-- Zeros, with the rest of the first and last sector that they touch.
use Rattle.std.specs.Prelude.{◌≡◌, ◌⊎◌, ◌≤◌, ℕ, ◌+◌, ◌-◌, ◌*◌, ◌/◌, ◌%◌, List, [], ◌++◌, length, replicate, Result, Ok, Err}
use Rattle.allocation.specs.Refusal.{IsOutOfMemory}
use Rattle.alignment.specs.Lengths.{aligned_len}
use Rattle.stack_rules.specs.Records.{Configuration}
use Rattle.request_queue.specs.declared.fault.PieceFault.{PieceFault}
use Rattle.request_queue.specs.AtOnce.{EndsSteps}
use Rattle.request_queue.specs.Ranges.{range_at}
use Rattle.request_queue.specs.World.{World}
use Rattle.nbd_server.specs.Failures.{no_memory, put_failure}
use Rattle.nbd_server.specs.declared.failure.Failure.{Failure}
use Rattle.nbd_server.specs.Sectors.{IsStored, FailsToZero, most_run_bytes}
use Rattle.nbd_server.specs.declared.zeros.Zeros.{Zeros}

-- the bytes of these sectors
abbrev pub zeros_of : Zeros → List ℕ
zeros_of z = z.before.now ++ (replicate z.count 0 ++ z.behind.now)

-- the most sectors of a run of zeros
abbrev pub most_run_sectors : ℕ
most_run_sectors = 2048

-- the size of the next run, of `left` bytes of device d from sector `first` on
pub record IsRunLen (c : Configuration) (d first left n : ℕ) : Type 0 where
  pub value : n ≡ 512 * aligned_len c d first (left / 512) most_run_sectors
  pub whole : n % 512 ≡ 0
  pub some : 512 ≤ n
  pub few : n ≤ 1048576
  pub inside : n ≤ left

-- not all of the sectors were written
abbrev pub FailsToPutZeros : World → ℕ → ℕ → Zeros → World → Failure → Type 0
FailsToPutZeros w d first z w' error = FailsToZero w d first (zeros_of z) error w'

-- ---- the runs

-- these sectors of device d were written by one write of the queue, or it ended in a fault, or no memory was left for them
abbrev pub WroteRun : World → ℕ → ℕ → List ℕ → Result Unit Failure → World → Type 0
WroteRun w d first bytes (Ok done) w' = EndsSteps (range_at d first (length bytes / 512)) w bytes (Ok tt) w'
WroteRun w d first bytes (Err error) w' =
    ((piece : PieceFault) × (error ≡ put_failure piece) × EndsSteps (range_at d first (length bytes / 512)) w bytes (Err piece) w')
    ⊎ ((error ≡ no_memory) × (w' ≡ w) × IsOutOfMemory most_run_bytes)

-- The next run, of so many bytes that are left of device d from sector `first` on. It splits no unit and no data block that fits
-- in one run, and is written by one write of the queue.
pub record IsNextRun (w : World) (d first left : ℕ) (bytes : List ℕ) (result : Result Unit PieceFault) (w' : World) : Type 0 where
  pub size : length bytes ≡ 512 * aligned_len w.stack.config d first (left / 512) most_run_sectors
  pub steps : EndsSteps (range_at d first (length bytes / 512)) w bytes result w'

-- So many bytes are written from sector `first` on, run by run, each from where the one before it ended, up to the last one or the
-- first that fails: by a fault, or because its allocation was refused. The bytes after that one aren't written.
pub data WritesInRuns (d first total : ℕ) (w : World) : List ℕ → Result Unit Failure → World → Type 0 where
  no_run : WritesInRuns d first total w [] (Ok tt) w
  a_run : {x y : List ℕ} {v w' : World} → WritesInRuns d first total w x (Ok tt) v → IsNextRun v d (first + length x / 512) (total - length x) y (Ok tt) w' → WritesInRuns d first total w (x ++ y) (Ok tt) w'
  last_run : {x y : List ℕ} {v w' : World} {piece : PieceFault} (z : List ℕ) → WritesInRuns d first total w x (Ok tt) v → IsNextRun v d (first + length x / 512) (total - length x) y (Err piece) w'
      → WritesInRuns d first total w (x ++ (y ++ z)) (Err (put_failure piece)) w'
  lacks_run : {x : List ℕ} {v : World} (z : List ℕ) → WritesInRuns d first total w x (Ok tt) v → IsOutOfMemory most_run_bytes → WritesInRuns d first total w (x ++ z) (Err no_memory) v

-- the sectors were written in runs
pub record IsStoredInRuns (w : World) (d first : ℕ) (bytes : List ℕ) (w' : World) : Type 0 where
  pub stored : IsStored w d first bytes w'
  pub runs : WritesInRuns d first (length bytes) w bytes (Ok tt) w'

-- not all of them were: a run failed, or its allocation was refused
pub record FailsToPutInRuns (w : World) (d first : ℕ) (bytes : List ℕ) (error : Failure) (w' : World) : Type 0 where
  pub fails : FailsToZero w d first bytes error w'
  pub runs : WritesInRuns d first (length bytes) w bytes (Err error) w'
