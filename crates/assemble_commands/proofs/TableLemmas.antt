-- Where the ends of a disk lie.
use Rattle.std.proofs.Common.{◌≡◌, ◌+◌, ◌-◌, ◌*◌, ◌≤◌, ◌||◌, ◌∙◌, ℕ, Bool, List, true, false, nat_lt, ap, arith, length, refl, replicate, subst}
use Rattle.std.proofs.lemmas.List.{length-replicate}
use Rattle.std.proofs.lemmas.Bool.Decides.{nat_tests}
use Rattle.block_device.specs.Device.{Device, IsInside}
use Rattle.disk_layout.specs.Ends.{back_sector}
use Rattle.disk_layout.specs.Writing.{PutsEnds}
use Rattle.partition_table.specs.declared.sector_size.SectorSize.{SectorSize}
use Rattle.partition_table.specs.declared.sector_size.SectorSize.TheVariants.{Bytes4096, Bytes512}
use Rattle.partition_table.specs.Disks.{bytes_of_size, disk_of}
use Rattle.assemble_commands.specs.Steps.{is_short}

-- a disk that isn't too small has 4,096 sectors
pub long-enough : (sectors needed : ℕ) → is_short sectors needed ≡ false → 4096 ≤ sectors
long-enough sectors needed long = go (nat_lt sectors needed) (nat_lt sectors 4096) refl long
  where
    go : (a b : Bool) → nat_lt sectors 4096 ≡ b → (a || b) ≡ false → 4096 ≤ sectors
    go false false e h = grind (arith, nat_tests)
    go false true e h = cc
    go true b e h = cc

-- zeros at both ends
pub cleared-inside : (device : Device) (needed sectors last : ℕ) (front back : List ℕ) → sectors ≡ device.size → is_short sectors needed ≡ false → last ≡ sectors - 64 → front ≡ replicate 32768 0 → back ≡ replicate 32768 0
    → IsInside device 0 (length front) × IsInside device last (length back)
cleared-inside device needed sectors last front back size long from front-is back-is =
    let enough : 4096 ≤ sectors = long-enough sectors needed long in
    let begun : length front ≡ 32768 = ap length front-is ∙ length-replicate {A = ℕ} 32768 0 in
    let ended : length back ≡ 32768 = ap length back-is ∙ length-replicate {A = ℕ} 32768 0 in (
      record { some = omega (arith, begun); whole = omega (arith, begun); inside = omega (arith, begun, enough, size) },
      record { some = omega (arith, ended); whole = omega (arith, ended); inside = omega (arith, ended, enough, size, from) },
    )

pub front-inside : (device : Device) (size : SectorSize) (len : ℕ) → 4096 ≤ device.size → len ≡ 2 * bytes_of_size size + 16384 → IsInside device 0 len
front-inside device Bytes512 len long is = record { some = omega (arith, is); whole = omega (arith, is); inside = omega (arith, is, long) }
front-inside device Bytes4096 len long is = record { some = omega (arith, is); whole = omega (arith, is); inside = omega (arith, is, long) }

pub back-inside : (device : Device) (size : SectorSize) (len : ℕ) → 4096 ≤ device.size → len ≡ bytes_of_size size + 16384 → IsInside device (back_sector (disk_of device size)) len
back-inside device Bytes512 len long is = record { some = omega (arith, is); whole = omega (arith, is); inside = omega (arith, is, long) }
back-inside device Bytes4096 len long is = record { some = omega (arith, is); whole = omega (arith, is); inside = omega (arith, is, long) }

-- equal bytes were written from the same sectors on
pub puts-same : (old new : Device) (front front' back back' : List ℕ) (last last' : ℕ) → front ≡ front' → last ≡ last' → back ≡ back' → PutsEnds old front last back new → PutsEnds old front' last' back' new
puts-same old new front front' back back' last last' f l b puts =
    subst (λ (x : List ℕ). PutsEnds old x last' back' new) f (subst (λ (x : List ℕ). PutsEnds old front last' x new) b (subst (λ (n : ℕ). PutsEnds old front n back new) l puts))
