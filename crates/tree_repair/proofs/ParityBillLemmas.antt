-- What a repair with parity asks of the devices, step by step.
use Rattle.std.proofs.Common.{◌≡◌, ◌≤◌, ◌+◌, ◌-◌, ◌*◌, ◌/◌, ℕ, zero, suc, Bool, List, sym, ap, ◌∙◌, arith}
use Rattle.std.proofs.Math.Nat.{mul-le-mul_right}
use Rattle.block_device.specs.Device.{Device}
use Rattle.fec_area.specs.declared.layout.Layout.{Layout}
use Rattle.fec_area.specs.Asking.{AreAskedFor, kept_data, kept_hash}
use Rattle.fec_area.specs.Layouts.{IsLayout}
use Rattle.fec_area.proofs.lemmas.KeptLemmas.{kept_data-few, kept_hash-few}
use Rattle.tree_shape.specs.Shape.{ShapeRecord, levels}
use Rattle.verity_format.specs.Blocks.{AreOnlyRead, IsOnlyRead}
use Rattle.verity_format.specs.Image.{data_sectors}
use Rattle.tree_repair.specs.AccessBudgets.{Bill, LeavesWorld, block_read, nothing_due, pass_over, reading}
use Rattle.tree_repair.specs.Bounds.{AreReadAtMost, area_block_sectors}
use Rattle.tree_repair.specs.ParityBounds.{IsAskedAlone, IsAskedWithin, IsReplacedOnce, ParityBill, along_bill, kept_bill, parity_bill, put_bill, round_bill, tries_bill}
use Rattle.tree_repair.specs.Runs.{size_at}
use Rattle.tree_repair.specs.Worlds.{RepairWorld, repair_world}
use Rattle.tree_repair.proofs.BillLemmas.{at_most-left, at_most-none}

-- ---- some devices

reads-then : (n m k : ℕ) (a b c : List Device) → AreReadAtMost a n b → AreReadAtMost b m c → n + m ≤ k → AreReadAtMost a k c
reads-then n m k a b c p q fits = record { count = q.count ∙ p.count; each = λ j low d. omega (arith, p.each j low d, q.each j (omega (arith, low, p.count)) d, fits) }

reads-more : (n k : ℕ) (a b : List Device) → AreReadAtMost a n b → n ≤ k → AreReadAtMost a k b
reads-more n k a b p fits = record { count = p.count; each = λ j low d. omega (arith, p.each j low d, fits) }

-- ---- one bill and another

pub record IsFewer (a b : ParityBill) : Type 0 where
  pub data_reads : a.data_reads ≤ b.data_reads
  pub hash_reads : a.hash_reads ≤ b.hash_reads
  pub parity_reads : a.parity_reads ≤ b.parity_reads
  pub data_writes : a.data_writes ≤ b.data_writes
  pub hash_writes : a.hash_writes ≤ b.hash_writes
  pub data_sought : a.data_sought ≤ b.data_sought
  pub hash_sought : a.hash_sought ≤ b.hash_sought

-- both together are within a third
abbrev pub both_bills : ParityBill → ParityBill → ParityBill
both_bills a b = record {
  data_reads = a.data_reads + b.data_reads;
  hash_reads = a.hash_reads + b.hash_reads;
  parity_reads = a.parity_reads + b.parity_reads;
  data_writes = a.data_writes + b.data_writes;
  hash_writes = a.hash_writes + b.hash_writes;
  data_sought = a.data_sought + b.data_sought;
  hash_sought = a.hash_sought + b.hash_sought;
}

pub asked-none : (b : ParityBill) (w : RepairWorld) (p : Device) → IsAskedWithin b w w p p
asked-none b w p = record {
  data_reads = omega arith;
  hash_reads = omega arith;
  parity_reads = omega arith;
  data_writes = omega arith;
  hash_writes = omega arith;
  data_copies = at_most-none w.data_copies b.data_sought;
  hash_copies = at_most-none w.hash_copies b.hash_sought;
}

pub asked-then : {a b : ParityBill} {w x y : RepairWorld} {p q r : Device} → IsAskedWithin a w x p q → IsAskedWithin b x y q r → IsAskedWithin (both_bills a b) w y p r
asked-then {a} {b} {w} {x} {y} {p} {q} {r} one two = record {
  data_reads = omega (arith, one.data_reads, two.data_reads);
  hash_reads = omega (arith, one.hash_reads, two.hash_reads);
  parity_reads = omega (arith, one.parity_reads, two.parity_reads);
  data_writes = omega (arith, one.data_writes, two.data_writes);
  hash_writes = omega (arith, one.hash_writes, two.hash_writes);
  data_copies = reads-then a.data_sought b.data_sought (a.data_sought + b.data_sought) w.data_copies x.data_copies y.data_copies one.data_copies two.data_copies (omega arith);
  hash_copies = reads-then a.hash_sought b.hash_sought (a.hash_sought + b.hash_sought) w.hash_copies x.hash_copies y.hash_copies one.hash_copies two.hash_copies (omega arith);
}

pub asked-more : {a : ParityBill} {w x : RepairWorld} {p q : Device} (b : ParityBill) → IsAskedWithin a w x p q → IsFewer a b → IsAskedWithin b w x p q
asked-more {a} {w} {x} {p} {q} b asked few = record {
  data_reads = omega (arith, asked.data_reads, few.data_reads);
  hash_reads = omega (arith, asked.hash_reads, few.hash_reads);
  parity_reads = omega (arith, asked.parity_reads, few.parity_reads);
  data_writes = omega (arith, asked.data_writes, few.data_writes);
  hash_writes = omega (arith, asked.hash_writes, few.hash_writes);
  data_copies = reads-more a.data_sought b.data_sought w.data_copies x.data_copies asked.data_copies few.data_sought;
  hash_copies = reads-more a.hash_sought b.hash_sought w.hash_copies x.hash_copies asked.hash_copies few.hash_sought;
}

-- ---- steps that don't ask parity

-- as much as a bill of a pass says
abbrev pub bill_of : Bill → ParityBill
bill_of b = record { data_reads = b.data_reads; hash_reads = b.hash_reads; parity_reads = 0; data_writes = b.data_once; hash_writes = b.hash_once; data_sought = b.data_once; hash_sought = b.hash_once }

pub asked-leaves : {b : Bill} {w x : RepairWorld} → LeavesWorld b nothing_due w x → (p : Device) → IsAskedWithin (bill_of b) w x p p
asked-leaves {b} {w} {x} leaves p = record {
  data_reads = omega (arith, leaves.data_reads);
  hash_reads = omega (arith, leaves.hash_reads);
  parity_reads = omega arith;
  data_writes = omega (arith, leaves.data_writes);
  hash_writes = omega (arith, leaves.hash_writes);
  data_copies = at_most-left b.data_once w.data_copies x.data_copies leaves.data_copies;
  hash_copies = at_most-left b.hash_once w.hash_copies x.hash_copies leaves.hash_copies;
}

pub asked-data : (n : ℕ) (d d' e : Device) (cs es : List Device) (p : Device) → IsReplacedOnce n d d' → IsAskedWithin (put_bill n) (repair_world d e cs es) (repair_world d' e cs es) p p
asked-data n d d' e cs es p once = record {
  data_reads = once.reads;
  hash_reads = omega arith;
  parity_reads = omega arith;
  data_writes = once.writes;
  hash_writes = omega arith;
  data_copies = at_most-none cs 0;
  hash_copies = at_most-none es 0;
}

pub asked-hash : (n : ℕ) (d d' e : Device) (cs es : List Device) (p : Device) → IsReplacedOnce n d d' → IsAskedWithin (put_bill n) (repair_world e d cs es) (repair_world e d' cs es) p p
asked-hash n d d' e cs es p once = record {
  data_reads = omega arith;
  hash_reads = once.reads;
  parity_reads = omega arith;
  data_writes = omega arith;
  hash_writes = once.writes;
  data_copies = at_most-none cs 0;
  hash_copies = at_most-none es 0;
}

-- a block that was put isn't read back, or is
pub put-unread : {n : ℕ} {w x : RepairWorld} {p q : Device} → IsAskedWithin (put_bill n) w x p q → IsAskedWithin (kept_bill n) w x p q
put-unread {n} asked =
    asked-more (kept_bill n) asked (record { data_reads = omega arith; hash_reads = omega arith; parity_reads = omega arith; data_writes = omega arith; hash_writes = omega arith; data_sought = omega arith; hash_sought = omega arith })

pub put-read : (s : ShapeRecord) (h : ℕ) (w x y : RepairWorld) → IsAskedAlone (put_bill (size_at s h / 512)) w x → LeavesWorld (block_read s h) nothing_due x y → IsAskedAlone (kept_bill (size_at s h / 512)) w y
put-read s zero w x y put read = λ p.
    asked-more (kept_bill (s.data_block / 512)) (asked-then (put p) (asked-leaves read p))
    (record { data_reads = omega arith; hash_reads = omega arith; parity_reads = omega arith; data_writes = omega arith; hash_writes = omega arith; data_sought = omega arith; hash_sought = omega arith })
put-read s (suc l) w x y put read = λ p.
    asked-more (kept_bill (s.hash_block / 512)) (asked-then (put p) (asked-leaves read p))
    (record { data_reads = omega arith; hash_reads = omega arith; parity_reads = omega arith; data_writes = omega arith; hash_writes = omega arith; data_sought = omega arith; hash_sought = omega arith })

-- ---- a block that is sought by parity

-- the others of its round and the parity, whether the call ended well or not
pub asked-round : (l : Layout) → IsLayout l → (lost : List ℕ) (index : ℕ) (ok : Bool) (w : RepairWorld) (d' h' p p' : Device) → AreOnlyRead w.data_dev w.hash_dev d' h' → IsOnlyRead p p'
    → AreAskedFor (kept_data l lost index * (l.block / 512)) (kept_hash l lost index * (l.block / 512)) (l.roots * (l.block / 512)) ok w.data_dev w.hash_dev p d' h' p'
    → IsAskedWithin (round_bill l) w (repair_world d' h' w.data_copies w.hash_copies) p p'
asked-round l valid lost index ok w d' h' p p' read parity asked =
    let k : ℕ = l.block / 512 in
    let near : kept_data l lost index * k ≤ (255 - l.roots) * k = mul-le-mul_right k (kept_data-few l valid lost index) in
    let tree : kept_hash l lost index * k ≤ (255 - l.roots) * k = mul-le-mul_right k (kept_hash-few l valid lost index) in
    record {
      data_reads = omega (arith, asked.of_data.most, near);
      hash_reads = omega (arith, asked.of_hash.most, tree);
      parity_reads = asked.of_parity.most;
      data_writes = omega (arith, read.data_read.writes);
      hash_writes = omega (arith, read.hash_read.writes);
      data_copies = at_most-none w.data_copies 0;
      hash_copies = at_most-none w.hash_copies 0;
    }

two-more : (r k : ℕ) → r ≤ 24 → (511 - 2 * r) * k + (k + k) ≡ (513 - 2 * r) * k
two-more r k few =
    let next : 513 - 2 * r ≡ suc (suc (511 - 2 * r)) = omega (arith, few) in
    let parts : suc (suc (511 - 2 * r)) * k ≡ (511 - 2 * r) * k + (k + k) = grind arith in
    sym (ap (λ (n : ℕ). n * k) next ∙ parts)

-- and then the block itself
pub asked-along : {w x y : RepairWorld} {p q r : Device} (l : Layout) → IsLayout l → (n : ℕ) → l.block ≡ n → IsAskedWithin (tries_bill l) w x p q → IsAskedWithin (kept_bill (n / 512)) x y q r → IsAskedWithin (along_bill l) w y p r
asked-along l valid n same first last =
    let k : ℕ = l.block / 512 in
    let size : k ≡ n / 512 = ap (λ (m : ℕ). m / 512) same in
    let sum : (511 - 2 * l.roots) * k + (k + k) ≡ (513 - 2 * l.roots) * k = two-more l.roots k valid.few in
    asked-more (along_bill l) (asked-then first last) (record {
      data_reads = omega (arith, sum, size);
      hash_reads = omega (arith, sum, size);
      parity_reads = omega arith;
      data_writes = omega (arith, size);
      hash_writes = omega (arith, size);
      data_sought = omega arith;
      hash_sought = omega arith;
    })

-- it wasn't put
pub asked-tries_alone : {w x : RepairWorld} {p q : Device} (l : Layout) → IsLayout l → IsAskedWithin (tries_bill l) w x p q → IsAskedWithin (along_bill l) w x p q
asked-tries_alone l valid first =
    let sum : (511 - 2 * l.roots) * (l.block / 512) + (l.block / 512 + l.block / 512) ≡ (513 - 2 * l.roots) * (l.block / 512) = two-more l.roots (l.block / 512) valid.few in
    asked-more (along_bill l) first (record {
      data_reads = omega (arith, sum);
      hash_reads = omega (arith, sum);
      parity_reads = omega arith;
      data_writes = omega arith;
      hash_writes = omega arith;
      data_sought = omega arith;
      hash_sought = omega arith;
    })

-- ---- so many of each

pub times-sum : (a b k : ℕ) → (a + b) * k ≡ a * k + b * k
times-sum a b k = grind arith

-- two kinds of steps, some of each and then some more
steps-sum : (a b c x m n k y : ℕ) → a + b ≡ c → m + n ≡ k → a * x + m * y + (b * x + n * y) ≤ c * x + k * y
steps-sum a b c x m n k y e f = omega (arith, times-sum a b x, times-sum m n y, ap (λ (z : ℕ). z * x) e, ap (λ (z : ℕ). z * y) f)

first-sum : (u v t a b c x m n k y : ℕ) → u + v ≡ t → a + b ≡ c → m + n ≡ k → u + a * x + m * y + (v + b * x + n * y) ≤ t + c * x + k * y
first-sum u v t a b c x m n k y d e f = omega (arith, d, times-sum a b x, times-sum m n y, ap (λ (z : ℕ). z * x) e, ap (λ (z : ℕ). z * y) f)

one-sum : (a b c x : ℕ) → a + b ≡ c → a * x + b * x ≤ c * x
one-sum a b c x e = omega (arith, times-sum a b x, ap (λ (z : ℕ). z * x) e)

module _ (s : ShapeRecord) (l : Layout) where
  -- the way to a block
  abbrev way_reads : ℕ
  way_reads = levels s * (s.hash_block / 512)

  abbrev around_reads : ℕ
  around_reads = (513 - 2 * l.roots) * (l.block / 512)

  pub work-then : {w x y : RepairWorld} {p q r : Device} (u v t a b c m n k : ℕ) → u + v ≡ t → a + b ≡ c → m + n ≡ k
      → IsAskedWithin (parity_bill s l u a m) w x p q → IsAskedWithin (parity_bill s l v b n) x y q r → IsAskedWithin (parity_bill s l t c k) w y p r
  work-then u v t a b c m n k d e f one two =
      asked-more (parity_bill s l t c k) (asked-then one two) (record {
        data_reads = steps-sum a b c ((levels s + 3) * data_sectors s) m n k around_reads e f;
        hash_reads = first-sum u v t a b c ((2 * levels s + 1) * area_block_sectors s) m n k (way_reads + around_reads) d e f;
        parity_reads = one-sum m n k (2 * (l.roots * (l.block / 512))) f;
        data_writes = steps-sum a b c (data_sectors s) m n k (l.block / 512) e f;
        hash_writes = steps-sum a b c (area_block_sectors s) m n k (l.block / 512) e f;
        data_sought = one-sum a b c (data_sectors s) e;
        hash_sought = one-sum a b c (area_block_sectors s) e;
      })

  -- fewer blocks were sought
  pub work-more : {w x : RepairWorld} {p q : Device} (u a m n : ℕ) → IsAskedWithin (parity_bill s l u a m) w x p q → m ≤ n → IsAskedWithin (parity_bill s l u a n) w x p q
  work-more u a m n one few =
      let around : m * around_reads ≤ n * around_reads = mul-le-mul_right around_reads few in
      let far : m * (way_reads + around_reads) ≤ n * (way_reads + around_reads) = mul-le-mul_right (way_reads + around_reads) few in
      let parity : m * (2 * (l.roots * (l.block / 512))) ≤ n * (2 * (l.roots * (l.block / 512))) = mul-le-mul_right (2 * (l.roots * (l.block / 512))) few in
      let block : m * (l.block / 512) ≤ n * (l.block / 512) = mul-le-mul_right (l.block / 512) few in
      asked-more (parity_bill s l u a n) one (record {
        data_reads = omega (arith, around);
        hash_reads = omega (arith, far);
        parity_reads = parity;
        data_writes = omega (arith, block);
        hash_writes = omega (arith, block);
        data_sought = omega arith;
        hash_sought = omega arith;
      })

  -- ---- one of each

  pub work-pass : {w x : RepairWorld} → LeavesWorld (pass_over s) nothing_due w x → (p : Device) → IsAskedWithin (parity_bill s l 0 1 0) w x p p
  work-pass leaves p =
      asked-more (parity_bill s l 0 1 0) (asked-leaves leaves p) (record {
        data_reads = omega arith;
        hash_reads = omega arith;
        parity_reads = omega arith;
        data_writes = omega arith;
        hash_writes = omega arith;
        data_sought = omega arith;
        hash_sought = omega arith;
      })

  way-few : (h : ℕ) → (levels s - h) * (s.hash_block / 512) ≤ way_reads
  way-few h = mul-le-mul_right (s.hash_block / 512) (omega arith)

  -- the way alone
  pub work-way : {w x : RepairWorld} (h : ℕ) → LeavesWorld (reading 0 ((levels s - h) * (s.hash_block / 512))) nothing_due w x → (p : Device) → IsAskedWithin (parity_bill s l 0 0 1) w x p p
  work-way h leaves p =
      asked-more (parity_bill s l 0 0 1) (asked-leaves leaves p) (record {
        data_reads = omega arith;
        hash_reads = omega (arith, way-few h);
        parity_reads = omega arith;
        data_writes = omega arith;
        hash_writes = omega arith;
        data_sought = omega arith;
        hash_sought = omega arith;
      })

  -- and the block sought along it
  pub work-along : {w x y : RepairWorld} {p q : Device} (h : ℕ) → LeavesWorld (reading 0 ((levels s - h) * (s.hash_block / 512))) nothing_due w x → IsAskedWithin (along_bill l) x y p q → IsAskedWithin (parity_bill s l 0 0 1) w y p q
  work-along {p = p} h leaves along =
      asked-more (parity_bill s l 0 0 1) (asked-then (asked-leaves leaves p) along) (record {
        data_reads = omega arith;
        hash_reads = omega (arith, way-few h);
        parity_reads = omega arith;
        data_writes = omega arith;
        hash_writes = omega arith;
        data_sought = omega arith;
        hash_sought = omega arith;
      })
