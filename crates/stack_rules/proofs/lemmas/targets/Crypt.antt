-- The laws of `crypt`.
use Rattle.std.proofs.Common.{◌≡◌, ◌+◌, ◌*◌, ◌≤◌, ◌==◌, ℕ, min, Bool, true, false, cond, List, Some, refl, subst, arith}
use Rattle.std.proofs.Math.Nat.{mul-le-mul_right}
use Rattle.dm_table.specs.declared.crypt.Crypt.{Crypt}
use Rattle.stack_rules.specs.TargetRules.{cost_at}
use Rattle.stack_rules.specs.Units.{unit_sectors, unit_write_cost}
use Rattle.stack_rules.specs.targets.Crypt.{crypt}
use Rattle.stack_rules.proofs.lemmas.CostLaws.{at-capped, at-low}
use Rattle.stack_rules.proofs.lemmas.TargetLaws.{TargetLaws}
use Rattle.stack_rules.proofs.lemmas.UnitLemmas.{times-some, product-capped, sum-capped, unit_sectors-some, unit_sectors-most, unit_write-some}

-- a sector on the first base costs no more than that base
first-covers : (most : ℕ) (costs : List ℕ) (t : ℕ) (p : ℕ × ℕ) → Some (0, t) ≡ Some p → cost_at costs 0 ≤ most → cost_at costs p.0 ≤ most
first-covers most costs t p e h = let same : (0, t) ≡ p = cc in subst (λ (q : ℕ × ℕ). cost_at costs q.0 ≤ most) same h

unit_write-capped : (k u read a b : ℕ) → min k a ≡ min k b → min k (unit_write_cost u read a) ≡ min k (unit_write_cost u read b)
unit_write-capped k u read a b same = go (u == 1)
  where
    go : (one : Bool) → min k (cond one a (u * (read + a))) ≡ min k (cond one b (u * (read + b)))
    go true = same
    go false = product-capped k u (read + a) (read + b) (sum-capped k read read a b (omega arith) same)

unit_write-low : (u read write r b : ℕ) → u ≤ 8 → read ≤ r → write ≤ b → unit_write_cost u read write ≤ 8 * (r + b)
unit_write-low u read write r b few cheap low = go (u == 1)
  where
    go : (one : Bool) → cond one write (u * (read + write)) ≤ 8 * (r + b)
    go true = omega (arith, low)
    go false = let most : u * (read + write) ≤ 8 * (read + write) = mul-le-mul_right (read + write) few in omega (arith, most, cheap, low)

pub crypt-laws : (line : Crypt) → TargetLaws (crypt line)
crypt-laws line =
    let u : ℕ = unit_sectors line in
    record {
      ranges = λ P len all. (all.0, tt);
      tree = λ P all. tt;
      asked = λ len. ((refl, refl), ((refl, refl), tt));
      costs = record {
        read_covers = λ costs s p e. first-covers (u * cost_at costs 0) costs s p e (times-some u (cost_at costs 0) (unit_sectors-some line));
        write_covers = λ reads costs s p e.
            first-covers (unit_write_cost u (cost_at reads 0) (cost_at costs 0)) costs s p e (unit_write-some u (cost_at reads 0) (cost_at costs 0) (unit_sectors-some line));
        read_caps = λ k xs ys same. product-capped k u (cost_at xs 0) (cost_at ys 0) (at-capped k xs ys 0 same);
        write_caps = λ reads k xs ys same. unit_write-capped k u (cost_at reads 0) (cost_at xs 0) (cost_at ys 0) (at-capped k xs ys 0 same);
        write_low = λ reads writes r b cheap low. unit_write-low u (cost_at reads 0) (cost_at writes 0) r b (unit_sectors-most line) (at-low r reads 0 cheap) (at-low b writes 0 low);
      };
    }
