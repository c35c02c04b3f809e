-- What is asked of devices, step by step.
use Rattle.std.proofs.Common.{◌≡◌, ◌≢◌, ◌≤◌, ◌<◌, ◌+◌, ◌-◌, ◌*◌, ℕ, Bool, true, false, List, length, map, set, get_or, refl, sym, ap, ◌∙◌, subst, arith, inl, inr}
use Rattle.std.proofs.Math.ListN.{length-set}
use Rattle.std.proofs.lemmas.Bool.{cases_eq}
use Rattle.std.proofs.lemmas.List.{get_or-map, get_or-set_same, get_or-set_other, length-map, map-set}
use Rattle.block_device.specs.Device.{Device}
use Rattle.std.specs.Prelude.{IfSome, Option, None, Some}
use Rattle.tree_shape.specs.Shape.{ShapeRecord}
use Rattle.verity_format.specs.Blocks.{AreOnlyRead}
use Rattle.verity_format.specs.Image.{data_sectors}
use Rattle.tree_path.specs.Steps.{HasReadAtMost}
use Rattle.tree_repair.specs.AccessBudgets.{AreEachLeft, Bill, IsAskedOnce, LeavesWorld, nothing_due, pass_over, piece_of, reading}
use Rattle.tree_repair.specs.Bounds.{AreReadAtMost, HasWrittenAtMost, IsOnePass, area_block_sectors}
use Rattle.tree_repair.specs.Mending.{IsAllowedPut}
use Rattle.tree_repair.specs.Worlds.{RepairWorld, repair_world}

-- ---- one device

-- a block that was put wasn't read
pub record IsPutOnce (n : ℕ) (old new : Device) : Type 0 where
  pub reads : new.reads ≡ old.reads
  pub writes : HasWrittenAtMost old n new

pub put-once : (write : Bool) (old : Device) (first sectors : ℕ) (bytes : List ℕ) (done : Bool) (new : Device) → IsAllowedPut write old first sectors bytes done new → IsPutOnce sectors old new
put-once true old first sectors bytes done new put = record { reads = put.moved.reads; writes = omega (arith, put.moved.writes) }
put-once false old first sectors bytes done new put = record { reads = ap (λ (d : Device). d.reads) put.0; writes = omega (arith, ap (λ (d : Device). d.writes) put.0) }

-- a piece is no longer than what is left
pub piece-few : (r : Option ℕ) (first end : ℕ) → IfSome r (λ count. first + count ≤ end) → piece_of (end - first) r ≤ end - first
piece-few None first end few = omega arith
piece-few (Some count) first end few = omega (arith, few)

-- n blocks, and then m
pub at_most-then : (a b c : Device) (k n m sum : ℕ) → n + m ≡ sum → HasReadAtMost a (n * k) b → HasReadAtMost b (m * k) c → HasReadAtMost a (sum * k) c
at_most-then a b c k n m sum is p q =
    let parts : (n + m) * k ≡ n * k + m * k = grind arith in
    omega (arith, p, q, parts, ap (λ (x : ℕ). x * k) is)

-- ---- some devices

pub at_most-none : (old : List Device) (n : ℕ) → AreReadAtMost old n old
at_most-none old n = record { count = refl; each = λ j low d. omega arith }

-- of the first k of some devices n sectors were read at most, and of the others none
pub record AreReadSoFar (k : ℕ) (old : List Device) (n : ℕ) (new : List Device) : Type 0 where
  pub read : AreReadAtMost old n new
  pub behind : (j : ℕ) → k ≤ j → j < length old → (d : Device) → get_or new j d ≡ get_or old j d

pub so_far-none : (old : List Device) (n : ℕ) → AreReadSoFar 0 old n old
so_far-none old n = record { read = at_most-none old n; behind = λ j high low d. refl }

module _ {X : Type 0} (f : X → Device) (old : List Device) (n : ℕ) (xs : List X) (k : ℕ) (d v : X) (inside : k < length xs) (so_far : AreReadSoFar k old n (map f xs)) where
  low-here : k < length old
  low-here = omega (arith, inside, length-map xs f, so_far.read.count)

  was-here : (e : Device) → get_or old k e ≡ f (get_or xs k d)
  was-here e = sym (so_far.behind k (omega arith) low-here e) ∙ get_or-map f xs k d e inside

  new-here : (e : Device) → get_or (map f (set xs k v)) k e ≡ f v
  new-here e = ap (λ (l : List Device). get_or l k e) (map-set f xs k v) ∙ get_or-set_same (map f xs) k (f v) e (omega (arith, inside, length-map xs f))

  new-other : (j : ℕ) (e : Device) → j ≢ k → get_or (map f (set xs k v)) j e ≡ get_or (map f xs) j e
  new-other j e other = ap (λ (l : List Device). get_or l j e) (map-set f xs k v) ∙ get_or-set_other (map f xs) k j (f v) e other

  pub so_far-next : HasReadAtMost (f (get_or xs k d)) n (f v) → AreReadSoFar (k + 1) old n (map f (set xs k v))
  so_far-next read = record {
    read = record {
      count = length-map (set xs k v) f ∙ length-set xs k v ∙ sym (length-map xs f) ∙ so_far.read.count;
      each = λ j low e. elim (cases_eq j k) [
        | inl same ↦
            let new : (get_or (map f (set xs k v)) k e).reads ≡ (f v).reads = ap (λ (x : Device). x.reads) (new-here e) in
            let was : (get_or old k e).reads ≡ (f (get_or xs k d)).reads = ap (λ (x : Device). x.reads) (was-here e) in
            subst (λ (m : ℕ). HasReadAtMost (get_or old m e) n (get_or (map f (set xs k v)) m e)) (sym same) (omega (arith, new, was, read))
        | inr other ↦ subst (HasReadAtMost (get_or old j e) n) (sym (new-other j e other)) (so_far.read.each j low e)
      ];
    };
    behind = λ j high low e. new-other j e (λ same. omega (arith, same, high)) ∙ so_far.behind j (omega (arith, high)) low e;
  }

left-of : (a b n : ℕ) (old new : List Device) → AreReadAtMost old n new → n + b ≤ a → AreEachLeft a b old new
left-of a b n old new p fits = record { count = p.count; each = λ j low d. omega (arith, p.each j low d, fits) }

left-same : (a b : ℕ) (old new : List Device) → new ≡ old → b ≤ a → AreEachLeft a b old new
left-same a b old new same fits = left-of a b 0 old new (subst (λ (l : List Device). AreReadAtMost old 0 l) (sym same) (at_most-none old 0)) (omega (arith, fits))

left-then : (a b c : ℕ) (old now new : List Device) → AreEachLeft a b old now → AreEachLeft b c now new → AreEachLeft a c old new
left-then a b c old now new p q = record { count = q.count ∙ p.count; each = λ j low d. omega (arith, p.each j low d, q.each j (omega (arith, low, p.count)) d) }

left-more : (a b c e : ℕ) (old new : List Device) → AreEachLeft a b old new → a + e ≤ c + b → AreEachLeft c e old new
left-more a b c e old new p fits = record { count = p.count; each = λ j low d. omega (arith, p.each j low d, fits) }

pub at_most-left : (n : ℕ) (old new : List Device) → AreEachLeft n 0 old new → AreReadAtMost old n new
at_most-left n old new p = record { count = p.count; each = λ j low d. omega (arith, p.each j low d) }

-- ---- all devices of an image

-- a has at most as much more than b as c has more than e
pub record IsMore (a b c e : Bill) : Type 0 where
  pub data_reads : a.data_reads + e.data_reads ≤ c.data_reads + b.data_reads
  pub hash_reads : a.hash_reads + e.hash_reads ≤ c.hash_reads + b.hash_reads
  pub data_once : a.data_once + e.data_once ≤ c.data_once + b.data_once
  pub hash_once : a.hash_once + e.hash_once ≤ c.hash_once + b.hash_once

pub leaves-none : (a : Bill) (w : RepairWorld) → LeavesWorld a a w w
leaves-none a w = record {
  data_reads = omega arith;
  hash_reads = omega arith;
  data_writes = omega arith;
  hash_writes = omega arith;
  data_copies = left-same a.data_once a.data_once w.data_copies w.data_copies refl (omega arith);
  hash_copies = left-same a.hash_once a.hash_once w.hash_copies w.hash_copies refl (omega arith);
}

pub leaves-then : {a b c : Bill} {w x y : RepairWorld} → LeavesWorld a b w x → LeavesWorld b c x y → LeavesWorld a c w y
leaves-then {a} {b} {c} {w} {x} {y} p q = record {
  data_reads = omega (arith, p.data_reads, q.data_reads);
  hash_reads = omega (arith, p.hash_reads, q.hash_reads);
  data_writes = omega (arith, p.data_writes, q.data_writes);
  hash_writes = omega (arith, p.hash_writes, q.hash_writes);
  data_copies = left-then a.data_once b.data_once c.data_once w.data_copies x.data_copies y.data_copies p.data_copies q.data_copies;
  hash_copies = left-then a.hash_once b.hash_once c.hash_once w.hash_copies x.hash_copies y.hash_copies p.hash_copies q.hash_copies;
}

pub leaves-more : {a b : Bill} {w x : RepairWorld} (c e : Bill) → LeavesWorld a b w x → IsMore a b c e → LeavesWorld c e w x
leaves-more {a} {b} {w} {x} c e p more = record {
  data_reads = omega (arith, p.data_reads, more.data_reads);
  hash_reads = omega (arith, p.hash_reads, more.hash_reads);
  data_writes = omega (arith, p.data_writes, more.data_once);
  hash_writes = omega (arith, p.hash_writes, more.hash_once);
  data_copies = left-more a.data_once b.data_once c.data_once e.data_once w.data_copies x.data_copies p.data_copies more.data_once;
  hash_copies = left-more a.hash_once b.hash_once c.hash_once e.hash_once w.hash_copies x.hash_copies p.hash_copies more.hash_once;
}

-- what is left doesn't matter
pub leaves-end : {a b : Bill} {w x : RepairWorld} → LeavesWorld a b w x → LeavesWorld a nothing_due w x
leaves-end {a} {b} {w} {x} p = leaves-more a nothing_due p (record { data_reads = omega arith; hash_reads = omega arith; data_once = omega arith; hash_once = omega arith })

-- data device and hash device were read, and no copy
pub leaves-read : (d t : ℕ) (w x : RepairWorld) → AreOnlyRead w.data_dev w.hash_dev x.data_dev x.hash_dev → x.data_copies ≡ w.data_copies → x.hash_copies ≡ w.hash_copies
    → HasReadAtMost w.data_dev d x.data_dev → HasReadAtMost w.hash_dev t x.hash_dev → LeavesWorld (reading d t) nothing_due w x
leaves-read d t w x read data_are hash_are one two = record {
  data_reads = omega (arith, one);
  hash_reads = omega (arith, two);
  data_writes = omega (arith, read.data_read.writes);
  hash_writes = omega (arith, read.hash_read.writes);
  data_copies = left-same 0 0 w.data_copies x.data_copies data_are (omega arith);
  hash_copies = left-same 0 0 w.hash_copies x.hash_copies hash_are (omega arith);
}

-- a block of the data device was looked at
pub leaves-data : (n : ℕ) (w : RepairWorld) (d' : Device) (cs' : List Device) → IsAskedOnce n w.data_dev d' w.data_copies cs'
    → LeavesWorld (record { data_reads = n; hash_reads = 0; data_once = n; hash_once = 0 }) nothing_due w (repair_world d' w.hash_dev cs' w.hash_copies)
leaves-data n w d' cs' once = record {
  data_reads = omega (arith, once.reads);
  hash_reads = omega arith;
  data_writes = omega (arith, once.writes);
  hash_writes = omega arith;
  data_copies = left-of n 0 n w.data_copies cs' once.copies_read (omega arith);
  hash_copies = left-same 0 0 w.hash_copies w.hash_copies refl (omega arith);
}

-- one of the hash device was, and all beneath it may have been read
pub record IsHashAsked (n d t : ℕ) (w x : RepairWorld) : Type 0 where
  pub data_reads : HasReadAtMost w.data_dev d x.data_dev
  pub hash_reads : HasReadAtMost w.hash_dev (n + t) x.hash_dev
  pub data_writes : HasWrittenAtMost w.data_dev 0 x.data_dev
  pub hash_writes : HasWrittenAtMost w.hash_dev n x.hash_dev
  pub data_copies : x.data_copies ≡ w.data_copies
  pub hash_copies : AreReadAtMost w.hash_copies n x.hash_copies

pub leaves-hash : (n d t : ℕ) (w x : RepairWorld) → IsHashAsked n d t w x → LeavesWorld (record { data_reads = d; hash_reads = n + t; data_once = 0; hash_once = n }) nothing_due w x
leaves-hash n d t w x asked = record {
  data_reads = omega (arith, asked.data_reads);
  hash_reads = omega (arith, asked.hash_reads);
  data_writes = omega (arith, asked.data_writes);
  hash_writes = omega (arith, asked.hash_writes);
  data_copies = left-same 0 0 w.data_copies x.data_copies asked.data_copies (omega arith);
  hash_copies = left-of n 0 n w.hash_copies x.hash_copies asked.hash_copies (omega arith);
}

pub one-pass : (s : ShapeRecord) (w w' : RepairWorld) → LeavesWorld (pass_over s) nothing_due w w' → IsOnePass s w w'
one-pass s w w' all = record {
  data_reads = omega (arith, all.data_reads);
  hash_reads = omega (arith, all.hash_reads);
  data_writes = omega (arith, all.data_writes);
  hash_writes = omega (arith, all.hash_writes);
  data_copies = at_most-left (data_sectors s) w.data_copies w'.data_copies all.data_copies;
  hash_copies = at_most-left (area_block_sectors s) w.hash_copies w'.hash_copies all.hash_copies;
}
