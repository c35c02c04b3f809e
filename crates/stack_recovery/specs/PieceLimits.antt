-- The limit on the pieces of a transfer.
use Rattle.std.specs.Prelude.{ℕ, ◌/◌, max, nat_lt, if◌then◌else◌}
use Rattle.stack_recovery.specs.declared.piece_limit.PieceLimit.{PieceLimit}

-- no read has failed: a piece has at most 128 sectors
abbrev pub first_limit : PieceLimit
first_limit = record { most = 128; doubt = 0 }

-- After a piece of that many sectors was read, which ends before sector `at`: if the failed piece ends after `at`, the next one
-- has at most half as many; otherwise at most 128.
abbrev pub limit_after_bytes : PieceLimit → ℕ → ℕ → PieceLimit
limit_after_bytes p count at = record { most = if nat_lt at p.doubt then max (count / 2) 1 else 128; doubt = p.doubt }

-- after a piece that couldn't be read whole, which ends before sector `end`: half as many sectors
abbrev pub limit_after_failure : ℕ → ℕ → PieceLimit
limit_after_failure count end = record { most = count / 2; doubt = end }
