-- How many sectors a pass in large pieces skips after a read that failed.
use Rattle.std.specs.Prelude.{ℕ, ◌*◌, ◌/◌, min, max}
use Rattle.stack_recovery.specs.Surveys.{Finding, again, copied, had, kept, lost, probed, trimmed}

-- after the first failed read, and after a piece that was read: 64 KiB
abbrev pub least_skip : ℕ
least_skip = 128

-- the most sectors that are skipped at once: a hundredth of the device, in multiples of 64 KiB, but at least 64 KiB and at most 1 GiB
unfoldable pub most_skip : ℕ → ℕ
most_skip sectors = min (max (sectors / 100 / 128 * 128) 128) 2097152

-- twice as many after a failed read
abbrev pub longer_skip : ℕ → ℕ → ℕ
longer_skip most skip = min (skip * 2) most

-- how many sectors are to be skipped after the next failed read, by the result for a piece
abbrev pub skip_after : ℕ → ℕ → Finding → ℕ
skip_after most skip (had bytes) = min least_skip most
skip_after most skip (lost fault) = skip
skip_after most skip (again fault) = longer_skip most skip
skip_after most skip (probed behind bytes) = skip
skip_after most skip (trimmed behind fault) = skip
skip_after most skip copied = skip
skip_after most skip kept = skip
