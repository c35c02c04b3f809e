-- How often the devices are accessed to restore a block from those that aren't lost and, if that fails, to correct it.
use Rattle.std.proofs.Common.{◌≡◌, ◌≤◌, ◌+◌, ◌-◌, ◌*◌, ◌/◌, ℕ, suc, sym, ap, ◌∙◌, arith}
use Rattle.block_device.specs.Device.{Device}
use Rattle.fec_area.specs.declared.layout.Layout.{Layout}
use Rattle.fec_area.specs.Correcting.{AreReadToCorrect}
use Rattle.fec_area.specs.Layouts.{IsLayout}
use Rattle.verity_format.specs.Blocks.{AreOnlyRead, IsOnlyRead}
use Rattle.tree_repair.specs.ParityBounds.{IsAskedWithin, correct_bill, round_bill, tries_bill}
use Rattle.tree_repair.specs.Worlds.{RepairWorld, repair_world}
use Rattle.tree_repair.proofs.BillLemmas.{at_most-none}
use Rattle.tree_repair.proofs.ParityBillLemmas.{asked-more, asked-then}

-- all blocks of its round, to correct it
pub asked-correct : (l : Layout) (w : RepairWorld) (d' h' p p' : Device) → AreOnlyRead w.data_dev w.hash_dev d' h' → IsOnlyRead p p' → AreReadToCorrect l w.data_dev w.hash_dev p d' h' p'
    → IsAskedWithin (correct_bill l) w (repair_world d' h' w.data_copies w.hash_copies) p p'
asked-correct l w d' h' p p' read parity asked = record {
  data_reads = asked.image.data_most;
  hash_reads = asked.image.hash_most;
  parity_reads = asked.parity;
  data_writes = omega (arith, read.data_read.writes);
  hash_writes = omega (arith, read.hash_read.writes);
  data_copies = at_most-none w.data_copies 0;
  hash_copies = at_most-none w.hash_copies 0;
}

two-ways : (r k : ℕ) → r ≤ 24 → (255 - r) * k + (256 - r) * k ≡ (511 - 2 * r) * k
two-ways r k few =
    let next : 256 - r ≡ suc (255 - r) = omega (arith, few) in
    let both : 511 - 2 * r ≡ (255 - r) + suc (255 - r) = omega (arith, few) in
    let parts : ((255 - r) + suc (255 - r)) * k ≡ (255 - r) * k + suc (255 - r) * k = grind arith in
    ap (λ (n : ℕ). (255 - r) * k + n * k) next ∙ sym (ap (λ (n : ℕ). n * k) both ∙ parts)

-- both ways, or the first alone
pub asked-tries : {w x y : RepairWorld} {p q r : Device} (l : Layout) → IsLayout l → IsAskedWithin (round_bill l) w x p q → IsAskedWithin (correct_bill l) x y q r → IsAskedWithin (tries_bill l) w y p r
asked-tries l valid first last =
    let sum : (255 - l.roots) * (l.block / 512) + (256 - l.roots) * (l.block / 512) ≡ (511 - 2 * l.roots) * (l.block / 512) = two-ways l.roots (l.block / 512) valid.few in
    asked-more (tries_bill l) (asked-then first last) (record {
      data_reads = omega (arith, sum);
      hash_reads = omega (arith, sum);
      parity_reads = omega arith;
      data_writes = omega arith;
      hash_writes = omega arith;
      data_sought = omega arith;
      hash_sought = omega arith;
    })

pub asked-first : {w x : RepairWorld} {p q : Device} (l : Layout) → IsLayout l → IsAskedWithin (round_bill l) w x p q → IsAskedWithin (tries_bill l) w x p q
asked-first l valid first =
    let sum : (255 - l.roots) * (l.block / 512) + (256 - l.roots) * (l.block / 512) ≡ (511 - 2 * l.roots) * (l.block / 512) = two-ways l.roots (l.block / 512) valid.few in
    asked-more (tries_bill l) first (record {
      data_reads = omega (arith, sum);
      hash_reads = omega (arith, sum);
      parity_reads = omega arith;
      data_writes = omega arith;
      hash_writes = omega arith;
      data_sought = omega arith;
      hash_sought = omega arith;
    })
