-- `linear`, `striped` and `unstriped`: each sector is passed through to the lower one.
use Rattle.std.specs.Prelude.{ℕ, ◌+◌, ◌%◌, Bool, true, nat_lt}
use Rattle.stack_meaning.specs.TargetMeaning.{TargetMeaning, handed}

abbrev pub mapped_meaning : (ℕ → Bool) → TargetMeaning
mapped_meaning together = record { meant = handed; together = together }

-- all sectors of the line are consecutive on the lower device
abbrev pub whole : ℕ → Bool
whole s = true

-- sector s and the next one are in the same chunk
abbrev pub in_chunk : ℕ → ℕ → Bool
in_chunk chunk s = nat_lt (s % chunk + 1) chunk
