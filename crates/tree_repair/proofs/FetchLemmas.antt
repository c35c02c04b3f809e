-- Blocks that the data device lacks, and reads of the copies.
use Rattle.std.proofs.Common.{◌≡◌, ◌≤◌, ◌+◌, ℕ, List, inl, inr, arith, subst}
use Rattle.std.proofs.lemmas.Bool.{cases_lt}
use Rattle.block_device.specs.Device.{Device}
use Rattle.tree_path.specs.Path.{PathRecord}
use Rattle.tree_survey.specs.Surveys.{IsWay}
use Rattle.verity_format.proofs.lemmas.DeviceLemmas.{only_read-none}
use Rattle.tree_repair.specs.Fetches.{AreLacking, IsLacking, IsNotLacking, IsNotOnData, IsWholeRun}
use Rattle.tree_repair.specs.Runs.{Job}
use Rattle.tree_repair.specs.Sources.{AreEachRead}
use Rattle.tree_repair.specs.Worlds.{IsWorldRead, RepairWorld, repair_world}
use Rattle.tree_repair.proofs.RunLemmas.{world-none, world-then}
use Rattle.tree_repair.proofs.SourceLemmas.{each-none}

-- the copies of the data were read
pub copies-read : (w : RepairWorld) (copies : List Device) → AreEachRead w.data_copies copies → IsWorldRead w (repair_world w.data_dev w.hash_dev copies w.hash_copies)
copies-read w copies read = record { data_read = only_read-none w.data_dev; hash_read = only_read-none w.hash_dev; data_more = omega arith; hash_more = omega arith; data_copies_read = read; hash_copies_read = each-none w.hash_copies }

-- ---- one block

pub lacking-here : (j : Job) (p : PathRecord) (i : ℕ) (w w' : RepairWorld) → IsWay j.tree i 0 p → IsNotOnData j p i w w' → IsLacking j i w w'
lacking-here j p i w w' way missing = record { path = p; way = way; a = w; b = w'; before = world-none w; missing = missing; behind = world-none w' }

pub lacking-before : (j : Job) (i : ℕ) (a b c : RepairWorld) → IsWorldRead a b → IsLacking j i b c → IsLacking j i a c
lacking-before j i a b c read h = record { path = h.path; way = h.way; a = h.a; b = h.b; before = world-then a b h.a read h.before; missing = h.missing; behind = h.behind }

pub lacking-behind : (j : Job) (i : ℕ) (a b c : RepairWorld) → IsLacking j i a b → IsWorldRead b c → IsLacking j i a c
lacking-behind j i a b c h read = record { path = h.path; way = h.way; a = h.a; b = h.b; before = h.before; missing = h.missing; behind = world-then h.b b c h.behind read }

-- ---- the blocks of a run

pub run-before : (j : Job) (first end : ℕ) (a b c : RepairWorld) → IsWorldRead a b → AreLacking j first end b c → AreLacking j first end a c
run-before j first end a b c read h = λ i low high. lacking-before j i a b c read (h i low high)

pub run-behind : (j : Job) (first end : ℕ) (a b c : RepairWorld) → AreLacking j first end a b → IsWorldRead b c → AreLacking j first end a c
run-behind j first end a b c h read = λ i low high. lacking-behind j i a b c (h i low high) read

pub run-next : (j : Job) (first end next : ℕ) (a b c : RepairWorld) → next ≤ end + 1 → AreLacking j first end a b → IsWorldRead a b → IsWorldRead b c → IsLacking j end b c → AreLacking j first next a c
run-next j first end next a b c most h before read here = λ i low high. elim (cases_lt i end) [
  | inl less ↦ lacking-behind j i a b c (h i low less) read
  | inr not ↦
      let at : end ≡ i = omega (arith, most, high, not) in
      subst (λ (n : ℕ). IsLacking j n a c) at (lacking-before j end a b c before here)
]

-- ---- where a run ends

pub not_lacking-before : (j : Job) (i : ℕ) (a b : RepairWorld) → IsWorldRead a b → IsNotLacking j i b → IsNotLacking j i a
not_lacking-before j i a b read h = record { a = h.a; b = h.b; before = world-then a b h.a read h.before; why = h.why }

pub whole-before : (j : Job) (size first end : ℕ) (a b : RepairWorld) → IsWorldRead a b → IsWholeRun j size first end b → IsWholeRun j size first end a
whole-before j size first end a b read (inl full) = inl full
whole-before j size first end a b read (inr h) = inr (not_lacking-before j end a b read h)
