-- Sets of devices, bit by bit.
use Rattle.std.proofs.Common.{◌≡◌, ◌≢◌, ◌*◌, ◌%◌, ◌^◌, ◌<◌, ℕ, refl, sym, ap, ◌∙◌, Bool, true, false, ◌||◌, ◌==◌, max, arith}
use Rattle.std.specs.Int.{bit_at, w64}
use Rattle.std.specs.Int.RustNames.{bit_or}
use Rattle.std.proofs.lemmas.Bool.Decides.{nat_tests}
use Rattle.std.proofs.lemmas.Nat.Bits.{bit_at_or, bit_at_set_same, bit_at_set_other, bit_at-lt}

or-true : (b : Bool) → (b || true) ≡ true
or-true true = refl
or-true false = refl

or-false : (b : Bool) → (b || false) ≡ b
or-false true = refl
or-false false = refl

pub bit_or-at : (m n d : ℕ) → (bit_at (bit_or m n) d == 1) ≡ ((bit_at m d == 1) || (bit_at n d == 1))
bit_or-at m n d = ap (λ b. b == 1) (bit_at_or m n d) ∙ greater (bit_at m d) (bit_at n d) (bit_at-lt m d) (bit_at-lt n d)
  where
    greater : (a b : ℕ) → a < 2 → b < 2 → (max a b == 1) ≡ ((a == 1) || (b == 1))
    greater a b p q = grind (arith, nat_tests)

pub bit_set-at : (n d e : ℕ) → d < 64 → (bit_at (bit_or n (1 * 2 ^ d % 2 ^ 64)) e == 1) ≡ ((bit_at n e == 1) || (e == d))
bit_set-at n d e low = go (e == d) refl
  where
    same-of : (e == d) ≡ true → e ≡ d
    same-of h = grind (arith, nat_tests)

    other-of : (e == d) ≡ false → e ≢ d
    other-of h same = let yes : (e == d) ≡ true = grind (arith, nat_tests) in let clash : false ≡ true = sym h ∙ yes in cc

    go : (b : Bool) → (e == d) ≡ b → (bit_at (bit_or n (1 * 2 ^ d % 2 ^ 64)) e == 1) ≡ ((bit_at n e == 1) || b)
    go true h =
        ap (λ e. bit_at (bit_or n (1 * 2 ^ d % 2 ^ 64)) e == 1) (same-of h) ∙ ap (λ b. b == 1) (bit_at_set_same w64 n d low) ∙ sym (or-true (bit_at n e == 1))
    go false h = ap (λ b. b == 1) (bit_at_set_other w64 n d low e (other-of h)) ∙ sym (or-false (bit_at n e == 1))
