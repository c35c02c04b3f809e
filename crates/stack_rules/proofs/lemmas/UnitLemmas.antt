-- The units of a crypt line.
use Rattle.std.proofs.Common.{◌≡◌, ◌+◌, ◌*◌, ◌/◌, ◌≤◌, ◌==◌, ℕ, zero, suc, min, Bool, true, false, cond, ap, sym, ◌∙◌, inl, inr, arith}
use Rattle.std.proofs.Math.Decide.{dec_le}
use Rattle.std.proofs.Math.Nat.{mul-le-mul_right}
use Rattle.std.specs.Prelude.{◌⊎◌}
use Rattle.dm_table.specs.declared.crypt.Crypt.{Crypt}
use Rattle.dm_table.specs.Crypt.{sector_size}
use Rattle.dm_table.proofs.lemmas.SectorSizeLemmas.{sector_size-is}
use Rattle.stack_rules.specs.Units.{unit_sectors, unit_write_cost}

-- 1, 2, 4 or 8 sectors
pub unit_sectors-is : (crypt : Crypt) → (unit_sectors crypt ≡ 1) ⊎ ((unit_sectors crypt ≡ 2) ⊎ ((unit_sectors crypt ≡ 4) ⊎ (unit_sectors crypt ≡ 8)))
unit_sectors-is crypt = elim (sector_size-is crypt) [
  | inl size ↦ inl (ap (λ n. n / 512) size)
  | inr more ↦ elim more [
    | inl size ↦ inr (inl (ap (λ n. n / 512) size))
    | inr more ↦ elim more [
      | inl size ↦ inr (inr (inl (ap (λ n. n / 512) size)))
      | inr size ↦ inr (inr (inr (ap (λ n. n / 512) size)))
    ]
  ]
]

pub unit_sectors-some : (crypt : Crypt) → 1 ≤ unit_sectors crypt
unit_sectors-some crypt = elim (unit_sectors-is crypt) [
  | inl is ↦ omega (arith, is)
  | inr more ↦ elim more [
    | inl is ↦ omega (arith, is)
    | inr more ↦ elim more [
      | inl is ↦ omega (arith, is)
      | inr is ↦ omega (arith, is)
    ]
  ]
]

pub unit_sectors-most : (crypt : Crypt) → unit_sectors crypt ≤ 8
unit_sectors-most crypt = elim (unit_sectors-is crypt) [
  | inl is ↦ omega (arith, is)
  | inr more ↦ elim more [
    | inl is ↦ omega (arith, is)
    | inr more ↦ elim more [
      | inl is ↦ omega (arith, is)
      | inr is ↦ omega (arith, is)
    ]
  ]
]

-- ---- costs

-- a unit costs at least what one sector of it does
pub times-some : (u n : ℕ) → 1 ≤ u → n ≤ u * n
times-some u n some = let low : 1 * n ≤ u * n = mul-le-mul_right n some in omega (arith, low)

-- a write costs at least what it does on the lower device
pub unit_write-some : (u read write : ℕ) → 1 ≤ u → write ≤ unit_write_cost u read write
unit_write-some u read write some = go (u == 1)
  where
    go : (one : Bool) → write ≤ cond one write (u * (read + write))
    go true = omega arith
    go false = omega (arith, times-some u (read + write) some)

-- so many times a cost, more than k or not
times-capped : (k m a : ℕ) → min k (m * min k a) ≡ min k (m * a)
times-capped k m a = go m (dec_le a k)
  where
    go : (m : ℕ) → Dec (a ≤ k) → min k (m * min k a) ≡ min k (m * a)
    go m (yes low) = let same : min k a ≡ a = omega (arith, low) in ap (λ n. min k (m * n)) same
    go zero (no high) = omega arith
    go (suc m) (no high) =
        let above : k ≤ a = grind (arith, high) in
        let same : min k a ≡ k = omega (arith, above) in
        let first : 1 * min k a ≤ suc m * min k a = mul-le-mul_right (min k a) (omega arith) in
        let second : 1 * a ≤ suc m * a = mul-le-mul_right a (omega arith) in
        omega (arith, first, second, same, above)

pub sum-capped : (k a b x y : ℕ) → min k a ≡ min k b → min k x ≡ min k y → min k (a + x) ≡ min k (b + y)
sum-capped k a b x y p q = omega (arith, p, q)

pub product-capped : (k m a b : ℕ) → min k a ≡ min k b → min k (m * a) ≡ min k (m * b)
product-capped k m a b same = sym (times-capped k m a) ∙ ap (λ n. min k (m * n)) same ∙ times-capped k m b
