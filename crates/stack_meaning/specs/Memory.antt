-- The memory that an access allocates.
use Rattle.std.specs.Prelude.{ℕ}

-- the most elements of one allocation of an access: the bytes of a piece of 128 sectors; a block of a
-- `verity` line has at most 4,096 bytes
abbrev pub largest_allocation : ℕ
largest_allocation = 65536
