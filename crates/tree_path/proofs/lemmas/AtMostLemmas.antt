-- How many sectors were read at most.
use Rattle.std.proofs.Common.{◌≡◌, ◌≤◌, ◌<◌, ◌+◌, ◌-◌, ◌*◌, ℕ, suc, ap, ◌∙◌, arith}
use Rattle.std.proofs.Math.Nat.{mul-le-mul_right}
use Rattle.block_device.specs.Device.{Device}
use Rattle.tree_path.specs.Steps.{HasReadAtMost}

pub at_most-none : (a : Device) (n from : ℕ) → HasReadAtMost a ((from - from) * n) a
at_most-none a n from =
    let none : from - from ≡ 0 = omega arith in
    let zero_sectors : (from - from) * n ≡ 0 = grind arith in
    omega (arith, zero_sectors)

pub at_most-more : (a b c : Device) (n from l : ℕ) → l < from → HasReadAtMost a ((from - suc l) * n) b → HasReadAtMost b n c → HasReadAtMost a ((from - l) * n) c
at_most-more a b c n from l low p q =
    let less : from - l ≡ suc (from - suc l) = omega (arith, low) in
    let next : suc (from - suc l) * n ≡ (from - suc l) * n + n = grind arith in
    let more : (from - l) * n ≡ (from - suc l) * n + n = ap (λ (k : ℕ). k * n) less ∙ next in
    omega (arith, p, q, more)

pub at_most-fewer : (a b : Device) (n m k : ℕ) → m ≤ k → HasReadAtMost a (m * n) b → HasReadAtMost a (k * n) b
at_most-fewer a b n m k few p =
    let most : m * n ≤ k * n = mul-le-mul_right n few in
    omega (arith, most, p)
