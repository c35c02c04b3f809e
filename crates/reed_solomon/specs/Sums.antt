-- Sums of bytes, by exclusive-or.
use Rattle.std.specs.Prelude.{ℕ, ◌+◌, ◌*◌, ◌==◌, List, slice_index, if◌then◌else◌}
use Rattle.reed_solomon.specs.Field.{field_product, total}

-- the summand at k, or 0 at one position
abbrev pub summand_beside : (ℕ → ℕ) → ℕ → ℕ → ℕ
summand_beside f place k = if k == place then 0 else f k

-- the sum of the n bytes of codeword c, of a list with n bytes for each codeword
abbrev pub part_sum : ℕ → List ℕ → ℕ → ℕ
part_sum n bytes c = total (λ k. slice_index bytes (c * n + k)) n

-- of a list with n bytes for each codeword, the sum of the n bytes of codeword c, each times its factor
abbrev pub part_combination : (ℕ → ℕ) → ℕ → List ℕ → ℕ → ℕ
part_combination factor n bytes c = total (λ k. field_product (factor k) (slice_index bytes (c * n + k))) n
