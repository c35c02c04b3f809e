-- Blocks further up by shifts: a hash block holds a power of two of digests.
use Rattle.std.proofs.Common.{◌≡◌, ◌≤◌, ◌<◌, ◌/◌, ◌*◌, ◌^◌, ℕ, zero, suc, sym, ap, ◌∙◌, arith}
use Rattle.std.proofs.Math.Nat.{div-eq_of_lt, pow-le-pow_right, pow-suc, pow-zero, mul-suc}
use Rattle.std.proofs.lemmas.Nat.{pow-add}
use Rattle.tree_shape.specs.Shape.{ShapeRecord, per_block, ancestor}

powers : (b k : ℕ) → (2 ^ b) ^ k ≡ 2 ^ (b * k)
powers b zero = let none : b * 0 ≡ 0 = omega arith in pow-zero (2 ^ b) ∙ sym (ap (λ n. 2 ^ n) none ∙ pow-zero 2)
powers b (suc k) =
    pow-suc (2 ^ b) k
    ∙ ap (λ n. n * 2 ^ b) (powers b k)
    ∙ sym (pow-add 2 (b * k) b)
    ∙ ap (λ n. 2 ^ n) (sym (mul-suc b k))

module _ (s : ShapeRecord) (b : ℕ) (wide : 2 ^ b ≡ per_block s) where
  -- so many steps at once
  pub ancestor-shift : (steps i : ℕ) → ancestor s steps i ≡ i / 2 ^ (b * steps)
  unfolding ancestor
  ancestor-shift steps i = ap (λ p. i / p ^ steps) (sym wide) ∙ ap (λ n. i / n) (powers b steps)

  -- a number is 0 after a shift by as many bits as it has
  pub ancestor-top : (steps i n : ℕ) → i < 2 ^ n → n ≤ b * steps → ancestor s steps i ≡ 0
  ancestor-top steps i n small far =
      let wider : 2 ^ n ≤ 2 ^ (b * steps) = pow-le-pow_right (omega arith) far in
      ancestor-shift steps i ∙ div-eq_of_lt (omega (arith, small, wider))
