-- What each step of a pass asks of the devices, over the data blocks that are left.
use Rattle.std.proofs.Common.{◌≡◌, ◌≤◌, ◌<◌, ◌+◌, ◌-◌, ◌*◌, ◌/◌, ◌^◌, ℕ, zero, suc, Bool, List, length, refl, sym, ap, ◌∙◌, subst, arith, add-one}
use Rattle.std.proofs.Math.Nat.{mul-le-mul_right, mul_assoc, pow-succ'}
use Rattle.block_device.specs.Device.{Device}
use Rattle.tree_shape.specs.Shape.{ShapeRecord, IsShape, ancestor, per_block}
use Rattle.verity_format.specs.Blocks.{IsOnlyRead}
use Rattle.verity_format.proofs.lemmas.DeviceLemmas.{only_read-none}
use Rattle.tree_path.specs.Steps.{HasReadAtMost}
use Rattle.tree_repair.specs.AccessBudgets.{Bill, IsAskedOnce, LeavesWorld, LeavesBeneath, LeavesBlock, LeavesHashVisit, LeavesVisit, beneath_over, data_over, hash_over, hash_up_to, left_of, made_over, reading, sectors_over, visits_over}
use Rattle.tree_repair.specs.Mending.{IsFoundNowhere, BlockCheck}
use Rattle.tree_path.specs.Unused.{digests_in}
use Rattle.tree_repair.specs.Runs.{size_at}
use Rattle.tree_repair.specs.Visits.{IsTreePut, KeepsData}
use Rattle.tree_repair.specs.Worlds.{AreBothRead, RepairWorld, repair_world}
use Rattle.tree_repair.proofs.BillLemmas.{IsHashAsked, leaves-data, leaves-hash, leaves-more, leaves-read, leaves-then, put-once}
use Rattle.tree_repair.proofs.OverLemmas.{data-more, hash-more, left-above, left-next, left-some, sectors-more, sectors-next, times-more, up_to-more}

-- ---- a block that is read to make another one

module _ (s : ShapeRecord) (valid : IsShape s) (h k : ℕ) (inside : k < digests_in s h) where
  pub next-here : sectors_over s h (left_of s h (k + 1)) + size_at s h / 512 ≤ sectors_over s h (left_of s h k)
  next-here = subst (λ (n : ℕ). sectors_over s h n + size_at s h / 512 ≤ sectors_over s h (left_of s h k)) (sym (left-next s h k)) (sectors-next s valid h (left_of s h k) (left-some s valid h k inside))

pub made-data : (s : ShapeRecord) → IsShape s → (h k : ℕ) → h ≡ 0 → k < digests_in s h → (w : RepairWorld) (d' : Device) → IsOnlyRead w.data_dev d' → HasReadAtMost w.data_dev (s.data_block / 512) d'
    → LeavesBlock (made_over s h) s h k w (repair_world d' w.hash_dev w.data_copies w.hash_copies)
made-data s valid zero k none inside w d' read asked =
    leaves-more (made_over s 0 (left_of s 0 k)) (made_over s 0 (left_of s 0 (k + 1)))
    (leaves-read (s.data_block / 512) 0 w (repair_world d' w.hash_dev w.data_copies w.hash_copies)
    (record { data_read = read; hash_read = only_read-none w.hash_dev }) refl refl asked (omega arith))
    (record { data_reads = omega (arith, next-here s valid 0 k inside); hash_reads = omega arith; data_once = omega arith; hash_once = omega arith })
made-data s valid (suc l) k none inside w d' read asked = absurd (omega (arith, none))

pub made-hash : (s : ShapeRecord) → IsShape s → (h l k : ℕ) → h ≡ suc l → k < digests_in s h → (w : RepairWorld) (d' : Device) → IsOnlyRead w.hash_dev d' → HasReadAtMost w.hash_dev (s.hash_block / 512) d'
    → LeavesBlock (made_over s h) s h k w (repair_world w.data_dev d' w.data_copies w.hash_copies)
made-hash s valid zero l k some inside w d' read asked = absurd (omega (arith, some))
made-hash s valid (suc m) l k some inside w d' read asked =
    leaves-more (made_over s (suc m) (left_of s (suc m) k)) (made_over s (suc m) (left_of s (suc m) (k + 1)))
    (leaves-read 0 (s.hash_block / 512) w (repair_world w.data_dev d' w.data_copies w.hash_copies)
    (record { data_read = only_read-none w.data_dev; hash_read = read }) refl refl (omega arith) asked)
    (record { data_reads = omega arith; hash_reads = omega (arith, next-here s valid (suc m) k inside); data_once = omega arith; hash_once = omega arith })

-- ---- blocks that are read to make one

-- those beneath it, up to some of them
pub make-ends : (s : ShapeRecord) → IsShape s → (from low h number first slot : ℕ) → h ≡ suc low → first ≡ number * per_block s → slot ≤ per_block s → (w x : RepairWorld)
    → LeavesWorld (made_over s from (left_of s low first)) (made_over s from (left_of s low (first + slot))) w x → LeavesBlock (made_over s from) s h number w x
make-ends s valid from low h number first slot up at few w x leaves =
    let p : ℕ = per_block s in
    let q : ℕ = p ^ low in
    let power : p ^ h ≡ p * q = ap (λ (n : ℕ). p ^ n) up ∙ pow-succ' p low in
    let starts : number * p ^ h ≡ first * q = ap (λ (n : ℕ). number * n) power ∙ sym (mul_assoc number p q) ∙ ap (λ (n : ℕ). n * q) (sym at) in
    let whole : (number + 1) * p ^ h ≡ number * p ^ h + p * q = times-more number (p ^ h) ∙ ap (λ (n : ℕ). number * p ^ h + n) power in
    let parts : (first + slot) * q ≡ first * q + slot * q = grind arith in
    let most : slot * q ≤ p * q = mul-le-mul_right q few in
    let same : left_of s low first ≡ left_of s h number = omega (arith, starts) in
    let less : left_of s h (number + 1) ≤ left_of s low (first + slot) = omega (arith, starts, whole, parts, most) in
    leaves-more (made_over s from (left_of s h number)) (made_over s from (left_of s h (number + 1)))
    (subst (λ (n : ℕ). LeavesWorld (made_over s from n) (made_over s from (left_of s low (first + slot))) w x) same leaves)
    (record {
      data_reads = omega (arith, data-more s valid from (left_of s h (number + 1)) (left_of s low (first + slot)) less);
      hash_reads = omega (arith, hash-more s valid from (left_of s h (number + 1)) (left_of s low (first + slot)) less);
      data_once = omega arith;
      hash_once = omega arith;
    })

-- ---- heights of which a block is made, one after another

-- what is due for the heights beneath one, between n and m data blocks
abbrev pub untried_data : ShapeRecord → ℕ → ℕ → ℕ → ℕ
untried_data s n m zero = 0
untried_data s n m (suc g) = data_over s g n - data_over s g m + untried_data s n m g

abbrev pub untried_hash : ShapeRecord → ℕ → ℕ → ℕ → ℕ
untried_hash s n m zero = 0
untried_hash s n m (suc g) = hash_over s g n - hash_over s g m + untried_hash s n m g

abbrev pub untried : ShapeRecord → ℕ → ℕ → ℕ → Bill
untried s n m g = reading (untried_data s n m g) (untried_hash s n m g)

-- those of block k of height h
abbrev pub untried_of : ShapeRecord → ℕ → ℕ → ℕ → Bill
untried_of s h k g = untried s (left_of s h k) (left_of s h (k + 1)) g

pub tried-next : {a : Bill} (s : ShapeRecord) (h k g from steps : ℕ) → from ≡ suc g → g + steps ≡ h → (w x y : RepairWorld) → LeavesWorld a (untried_of s h k from) w x → LeavesBlock (made_over s g) s (g + steps) k x y → LeavesWorld a (untried_of s h k g) w y
tried-next {a} s h k g from steps up high w x y before made =
    leaves-then (subst (λ (n : ℕ). LeavesWorld a (untried_of s h k n) w x) up before)
    (leaves-more (untried_of s h k (suc g)) (untried_of s h k g) (subst (λ (n : ℕ). LeavesBlock (made_over s g) s n k x y) high made)
    (record { data_reads = omega arith; hash_reads = omega arith; data_once = omega arith; hash_once = omega arith }))

-- the block on the way to data block i
pub tried-at : {a : Bill} (s : ShapeRecord) (l i g from steps number : ℕ) → from ≡ suc g → g + steps ≡ l + 1 → number ≡ ancestor s (l + 1) i → (w x y : RepairWorld) → LeavesWorld a (untried_of s (suc l) (ancestor s (suc l) i) from) w x
    → LeavesBlock (made_over s g) s (g + steps) number x y → LeavesWorld a (untried_of s (suc l) (ancestor s (suc l) i) g) w y
tried-at {a} s l i g from steps number up high at w x y before made =
    let same : number ≡ ancestor s (suc l) i = at ∙ ap (λ (n : ℕ). ancestor s n i) (add-one l) in
    tried-next s (suc l) (ancestor s (suc l) i) g from steps up (omega (arith, high)) w x y before (subst (λ (n : ℕ). LeavesBlock (made_over s g) s (g + steps) n x y) same made)

module _ (s : ShapeRecord) (valid : IsShape s) (n m : ℕ) (less : m ≤ n) where
  tried-data : (l : ℕ) → untried_data s n m (suc l) + sectors_over s zero m ≤ sectors_over s zero n
  tried-data zero = omega (arith, sectors-more s valid zero m n less)
  tried-data (suc l) = omega (arith, tried-data l)

  tried-hash : (l : ℕ) → untried_hash s n m (suc l) + hash_up_to s l m ≤ hash_up_to s l n
  tried-hash zero = omega arith
  tried-hash (suc l) = omega (arith, tried-hash l, sectors-more s valid (suc l) m n less)

pub tried-all : {b : Bill} (s : ShapeRecord) → IsShape s → (l i : ℕ) (w x : RepairWorld) → LeavesWorld (untried_of s (suc l) (ancestor s (suc l) i) (suc l)) b w x → LeavesBeneath s l i w x
tried-all {b} s valid l i w x leaves =
    let k : ℕ = ancestor s (suc l) i in
    let n : ℕ = left_of s (suc l) k in
    let m : ℕ = left_of s (suc l) (k + 1) in
    let less : m ≤ n = omega (arith, left-next s (suc l) k) in
    leaves-more (beneath_over s l n) (beneath_over s l m) leaves
    (record { data_reads = omega (arith, tried-data s valid n m less l); hash_reads = omega (arith, tried-hash s valid n m less l); data_once = omega arith; hash_once = omega arith })

-- ---- a visit

pub visit-data : (s : ShapeRecord) → IsShape s → (i : ℕ) → i < s.blocks → (w : RepairWorld) (d' : Device) (cs' : List Device) → IsAskedOnce (s.data_block / 512) w.data_dev d' w.data_copies cs'
    → LeavesVisit s 0 i w (repair_world d' w.hash_dev cs' w.hash_copies)
visit-data s valid i inside w d' cs' once =
    let k : ℕ = ancestor s 0 i in
    let next : sectors_over s 0 (left_of s 0 (k + 1)) + s.data_block / 512 ≤ sectors_over s 0 (left_of s 0 k) =
    subst (λ (n : ℕ). sectors_over s 0 n + s.data_block / 512 ≤ sectors_over s 0 (left_of s 0 k)) (sym (left-next s 0 k)) (sectors-next s valid 0 (left_of s 0 k) (left-above s valid 0 i inside)) in
    leaves-more (visits_over s 0 (left_of s 0 k)) (visits_over s 0 (left_of s 0 (k + 1))) (leaves-data (s.data_block / 512) w d' cs' once)
    (record { data_reads = omega (arith, next); hash_reads = omega arith; data_once = omega (arith, next); hash_once = omega arith })

module _ (s : ShapeRecord) (valid : IsShape s) (l i : ℕ) (inside : i < s.blocks) where
  abbrev at_here : ℕ
  at_here = left_of s (suc l) (ancestor s (suc l) i)

  abbrev behind_here : ℕ
  behind_here = left_of s (suc l) (ancestor s (suc l) i + 1)

  -- all beneath it
  abbrev data_beneath : ℕ
  data_beneath = sectors_over s 0 at_here - sectors_over s 0 behind_here

  abbrev hash_beneath : ℕ
  hash_beneath = hash_up_to s l at_here - hash_up_to s l behind_here

  fewer : behind_here ≤ at_here
  fewer = omega (arith, left-next s (suc l) (ancestor s (suc l) i))

  pub visit-hash : (w x : RepairWorld) → IsHashAsked (s.hash_block / 512) data_beneath hash_beneath w x → LeavesHashVisit s l i w x
  visit-hash w x asked =
      let next : sectors_over s (suc l) behind_here + s.hash_block / 512 ≤ sectors_over s (suc l) at_here =
      subst (λ (n : ℕ). sectors_over s (suc l) n + s.hash_block / 512 ≤ sectors_over s (suc l) at_here) (sym (left-next s (suc l) (ancestor s (suc l) i)))
      (sectors-next s valid (suc l) at_here (left-above s valid (suc l) i inside)) in
      leaves-more (visits_over s (suc l) at_here) (visits_over s (suc l) behind_here) (leaves-hash (s.hash_block / 512) data_beneath hash_beneath w x asked)
      (record {
        data_reads = omega (arith, sectors-more s valid 0 behind_here at_here fewer);
        hash_reads = omega (arith, next, up_to-more s valid l behind_here at_here fewer);
        data_once = omega arith;
        hash_once = omega (arith, next);
      })

  -- it is good, or was found in a copy, or is lost so far
  pub visit-found : (w x : RepairWorld) → KeepsData w x → IsAskedOnce (s.hash_block / 512) w.hash_dev x.hash_dev w.hash_copies x.hash_copies → LeavesHashVisit s l i w x
  visit-found w x keeps once = visit-hash w x (record {
    data_reads = omega (arith, ap (λ (d : Device). d.reads) keeps.device_is);
    hash_reads = omega (arith, once.reads);
    data_writes = omega (arith, ap (λ (d : Device). d.writes) keeps.device_is);
    hash_writes = once.writes;
    data_copies = keeps.copies_are;
    hash_copies = once.copies_read;
  })

  -- all beneath it was read
  module _ (w x y : RepairWorld) (keeps : KeepsData w x) (once : IsAskedOnce (s.hash_block / 512) w.hash_dev x.hash_dev w.hash_copies x.hash_copies) (unwritten : x.hash_dev.writes ≡ w.hash_dev.writes) (read : AreBothRead x y) (beneath : LeavesBeneath s l i x y) where
    lost-asked : IsHashAsked (s.hash_block / 512) data_beneath hash_beneath w y
    lost-asked = record {
      data_reads = omega (arith, ap (λ (d : Device). d.reads) keeps.device_is, beneath.data_reads, sectors-more s valid 0 behind_here at_here fewer);
      hash_reads = omega (arith, once.reads, beneath.hash_reads, up_to-more s valid l behind_here at_here fewer);
      data_writes = omega (arith, ap (λ (d : Device). d.writes) keeps.device_is, read.devices.data_read.writes);
      hash_writes = omega (arith, unwritten, read.devices.hash_read.writes);
      data_copies = read.data_copies_are ∙ keeps.copies_are;
      hash_copies = rw read.hash_copies_are once.copies_read;
    }

    pub visit-lost : LeavesHashVisit s l i w y
    visit-lost = visit-hash w y lost-asked

    -- and it was written, or the write failed
    pub visit-made : (write done : Bool) (first : ℕ) (bytes : List ℕ) (z : RepairWorld) → length bytes ≡ s.hash_block → IsTreePut write first bytes done y z → LeavesHashVisit s l i w z
    visit-made write done first bytes z long put =
        let once-put = put-once write y.hash_dev first (length bytes / 512) bytes done z.hash_dev put.put in
        let size : length bytes / 512 ≡ s.hash_block / 512 = ap (λ (n : ℕ). n / 512) long in
        visit-hash w z (record {
          data_reads = omega (arith, lost-asked.data_reads, ap (λ (d : Device). d.reads) put.keeps.device_is);
          hash_reads = omega (arith, lost-asked.hash_reads, once-put.reads);
          data_writes = omega (arith, lost-asked.data_writes, ap (λ (d : Device). d.writes) put.keeps.device_is);
          hash_writes = omega (arith, unwritten, read.devices.hash_read.writes, once-put.writes, size);
          data_copies = put.keeps.copies_are ∙ lost-asked.data_copies;
          hash_copies = rw put.hash_copies_are lost-asked.hash_copies;
        })

pub nowhere-unwritten : (l : BlockCheck) → IsFoundNowhere l → l.new.writes ≡ l.old.writes
nowhere-unwritten l found = found.beneath_read.writes ∙ found.read.writes
