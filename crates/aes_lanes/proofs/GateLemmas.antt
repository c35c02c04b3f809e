-- What a gate carries, by what its inputs carry.
use Rattle.std.proofs.Common.{ℕ, ◌+◌, ◌-◌, ◌%◌, ◌^◌, ◌<◌, List, slice_index, min, max, bit_and, bit_or, bit_xor, sym, ap, ◌∙◌}
use Rattle.std.specs.Int.{bit_at}
use Rattle.std.specs.Prelude.{replicate}
use Rattle.std.specs.Simd.Lanes.{zip2}
use Rattle.std.proofs.lemmas.Simd.{length-replicate, get_or-replicate}
use Rattle.std.proofs.lemmas.Nat.Bits.{bit_at_and, bit_at_or, bit_at_xor, bit_at_ones}
use Rattle.aes_lanes.specs.Circuit.{CarriesBit}
use Rattle.aes_lanes.proofs.LaneLemmas.{length-zipped, slice_index-zipped}

module _ {p b v : ℕ} (lane : p < 32) where
  pub Carries-xor : {x y : List ℕ} {s t : ℕ} → CarriesBit p b v x s → CarriesBit p b v y t → CarriesBit p b v (zip2 bit_xor x y) (bit_xor s t)
  Carries-xor {x} {y} {s} {t} left right = record {
    len = length-zipped bit_xor x y left.len right.len;
    bit =
        ap (λ n. bit_at n b) (slice_index-zipped bit_xor x y left.len right.len p lane)
        ∙ bit_at_xor (slice_index x p) (slice_index y p) b
        ∙ ap (λ n. (n + bit_at (slice_index y p) b) % 2) left.bit
        ∙ ap (λ n. (bit_at s v + n) % 2) right.bit
        ∙ sym (bit_at_xor s t v);
  }

  pub Carries-and : {x y : List ℕ} {s t : ℕ} → CarriesBit p b v x s → CarriesBit p b v y t → CarriesBit p b v (zip2 bit_and x y) (bit_and s t)
  Carries-and {x} {y} {s} {t} left right = record {
    len = length-zipped bit_and x y left.len right.len;
    bit =
        ap (λ n. bit_at n b) (slice_index-zipped bit_and x y left.len right.len p lane)
        ∙ bit_at_and (slice_index x p) (slice_index y p) b
        ∙ ap (λ n. min n (bit_at (slice_index y p) b)) left.bit
        ∙ ap (λ n. min (bit_at s v) n) right.bit
        ∙ sym (bit_at_and s t v);
  }

  pub Carries-or : {x y : List ℕ} {s t : ℕ} → CarriesBit p b v x s → CarriesBit p b v y t → CarriesBit p b v (zip2 bit_or x y) (bit_or s t)
  Carries-or {x} {y} {s} {t} left right = record {
    len = length-zipped bit_or x y left.len right.len;
    bit =
        ap (λ n. bit_at n b) (slice_index-zipped bit_or x y left.len right.len p lane)
        ∙ bit_at_or (slice_index x p) (slice_index y p) b
        ∙ ap (λ n. max n (bit_at (slice_index y p) b)) left.bit
        ∙ ap (λ n. max (bit_at s v) n) right.bit
        ∙ sym (bit_at_or s t v);
  }

  -- all bits set
  pub Carries-ones : b < 8 → v < 256 → CarriesBit p b v (replicate {A = ℕ} 32 255) (2 ^ 256 - 1)
  Carries-ones low byte =
      let ones : ℕ = 255 in
      record {
        len = length-replicate 32 ones;
        bit = ap (λ n. bit_at n b) (get_or-replicate 32 p ones 0 lane) ∙ bit_at_ones 8 b low ∙ sym (bit_at_ones 256 v byte);
      }
