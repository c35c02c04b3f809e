-- The laws of `unstriped`.
use Rattle.std.proofs.Common.{◌≡◌, ◌+◌, ◌-◌, ◌*◌, ◌/◌, ◌%◌, ◌<◌, ◌≤◌, ◌||◌, ℕ, Bool, true, false, arith, refl}
use Rattle.std.proofs.lemmas.Nat.{div-add-mod', mod_below, div_below}
use Rattle.std.proofs.Math.Nat.{add-mul, mul-le-mul_right}
use Rattle.dm_table.specs.declared.unstriped.Unstriped.{Unstriped}
use Rattle.dm_table.specs.declared.table.Target.TheVariants.{Unstriped as unstriped_target}
use Rattle.stack_rules.specs.Records.{Configuration}
use Rattle.stack_rules.specs.Rules.{is_beyond, ends_past}
use Rattle.stack_rules.specs.targets.Unstriped.{unstriped, striped_sector, striped_span}
use Rattle.stack_rules.proofs.lemmas.CostLaws.{dearest-laws}
use Rattle.stack_rules.proofs.lemmas.TargetLaws.{TargetLaws}

pub unstriped-laws : (line : Unstriped) → TargetLaws (unstriped line)
unstriped-laws line = record { ranges = λ P len all. (all.0, tt); tree = λ P all. tt; asked = λ len. ((refl, refl), tt); costs = dearest-laws (unstriped line).lies }

-- what is before the last chunk of a line, and each sector in its chunk
pub unstriped-room : (line : Unstriped) (len s : ℕ) → 1 ≤ line.chunk → len % line.chunk ≡ 0 → s < len → (s / line.chunk * line.stripes + line.stripe) * line.chunk + line.chunk ≤ striped_span line len
unstriped-room line len s some whole inside =
    let c : ℕ = line.chunk in
    let n : ℕ = line.stripes in
    let all : len / c * c ≡ len = omega (arith, div-add-mod' len c, whole) in
    let before : s / c < len / c = div_below s c (len / c) some (omega (arith, all, inside)) in
    let chunks : s / c * n ≤ (len / c - 1) * n = mul-le-mul_right n (omega (arith, before)) in
    let ends : (s / c * n + line.stripe + 1) * c ≤ ((len / c - 1) * n + line.stripe + 1) * c = mul-le-mul_right c (omega (arith, chunks)) in
    omega (arith, ends, add-mul (s / c * n + line.stripe) 1 c)

-- each sector of a line of whole chunks lies in its range
pub unstriped-inside : (line : Unstriped) (len s : ℕ) → 1 ≤ line.chunk → len % line.chunk ≡ 0 → s < len → striped_sector line s < striped_span line len
unstriped-inside line len s some whole inside = omega (arith, unstriped-room line len s some whole inside, mod_below s line.chunk some)

or-false : (b : Bool) → (b || false) ≡ b
or-false true = refl
or-false false = refl

pub is_beyond-unstriped : (c : Configuration) (len : ℕ) (line : Unstriped) → is_beyond c len (unstriped_target line) ≡ ends_past c line.base.device (line.base.offset + striped_span line len)
is_beyond-unstriped c len line = or-false (ends_past c line.base.device (line.base.offset + striped_span line len))
