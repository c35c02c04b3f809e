-- Runs in which no device counted a failure.
use Rattle.std.proofs.Common.{◌≡◌, ◌≤◌, ◌^◌, ◌-◌, ℕ, zero, suc, Bool, true, false, List, refl, sym, ◌∙◌, arith, inl, inr}
use Rattle.std.proofs.lemmas.Bool.{cases_lt}
use Rattle.block_device.specs.Device.{Device, HasFailed}
use Rattle.fec_area.specs.Writing.{HasAnyFailed}
use Rattle.tree_survey.specs.Failing.{HasFailedTimes}
use Rattle.tree_repair.specs.declared.mending.Mended.{Mended}
use Rattle.tree_repair.specs.declared.mending.Mended.TheVariants as mended
use Rattle.tree_repair.specs.declared.outcome.Failures.{Failures}
use Rattle.tree_repair.specs.Beyond.{HaveCountedNone}
use Rattle.tree_repair.specs.Failures.{AreUncounted}
use Rattle.tree_repair.specs.Mending.{BlockCheck, IsAllowedPut, IsBlockFound, IsMended}
use Rattle.tree_repair.specs.Runs.{Job, Visit, VisitsAll, own}
use Rattle.tree_repair.specs.Worlds.{HasCountedNone, IsImageUnfailed, IsParityRead, IsWorldRead, RepairWorld}
use Rattle.tree_repair.proofs.ExcuseLemmas.{counted-left, counted-right, more-none, runs-own}

-- ---- an image's devices

-- none was counted up to the beginning of a later run, nor from the end of an earlier one
pub sure-before : (j : Job) (us : List Visit) (a b c : RepairWorld) → VisitsAll j us b c → IsImageUnfailed a c → IsImageUnfailed a b
sure-before j us a b c runs sure = record {
  data_none = counted-left a.data_dev b.data_dev c.data_dev (runs-own j 0 us b c runs) sure.data_none;
  hash_none = counted-left a.hash_dev b.hash_dev c.hash_dev (runs-own j 1 us b c runs) sure.hash_none;
}

pub sure-after : (j : Job) (vs : List Visit) (a b c : RepairWorld) → VisitsAll j vs a b → IsImageUnfailed a c → IsImageUnfailed b c
sure-after j vs a b c runs sure = record {
  data_none = counted-right a.data_dev b.data_dev c.data_dev (runs-own j 0 vs a b runs) sure.data_none;
  hash_none = counted-right a.hash_dev b.hash_dev c.hash_dev (runs-own j 1 vs a b runs) sure.hash_none;
}

pub own-sure : (h : ℕ) (a b : RepairWorld) → IsImageUnfailed a b → HasCountedNone (own h a) (own h b)
own-sure zero a b sure = sure.data_none
own-sure (suc l) a b sure = sure.hash_none

pub image-sure : (w w' : RepairWorld) (p p' : Device) → HaveCountedNone w w' p p' → IsImageUnfailed w w'
image-sure w w' p p' none = record { data_none = none.data_none; hash_none = none.hash_none }

-- the counters are as they were
same-count : (old new : Device) → HasFailedTimes old 0 new → HasCountedNone old new → new.failures ≡ old.failures
same-count old new (inl few) none = omega (arith, few, none.none)
same-count old new (inr most) none = absurd (omega (arith, most, none.below))

pub uncounted-of : (before : Failures) (j : Job) (vs : List Visit) (w w' : RepairWorld) → before.data ≡ w.data_dev.failures → before.hash ≡ w.hash_dev.failures → VisitsAll j vs w w' → IsImageUnfailed w w' → AreUncounted before w'
uncounted-of before j vs w w' first second runs none = record {
  data_same = same-count w.data_dev w'.data_dev (runs-own j 0 vs w w' runs) none.data_none ∙ sym first;
  hash_same = same-count w.hash_dev w'.hash_dev (runs-own j 1 vs w w' runs) none.hash_none ∙ sym second;
  data_below = none.data_none.below;
  hash_below = none.hash_none.below;
}

-- ---- a write

-- so what was to be written was
pub put-done : (write : Bool) (old : Device) (first sectors : ℕ) (bytes : List ℕ) (done : Bool) (new : Device) → IsAllowedPut write old first sectors bytes done new → HasCountedNone old new → done ≡ true
put-done true old first sectors bytes true new put none = refl
put-done true old first sectors bytes false new put none = elim (cases_lt old.failures (2 ^ 64 - 1)) [
  | inl low ↦ absurd (omega (arith, low, put.moved.failures, none.none))
  | inr high ↦ absurd (omega (arith, high, put.moved.failures, none.below))
]
put-done false old first sectors bytes done new put none = put.1

-- by the failures of the whole check
module _ (l : BlockCheck) (none : HasCountedNone l.old l.new) where
  pub sure-from : (between : Device) → l.old.failures ≤ between.failures → HasCountedNone between l.new
  sure-from between more = counted-right l.old between l.new (more-none l.old between more) none

  pub look-done : (bytes : List ℕ) (done : Bool) (m : Mended) → IsMended l bytes done m → IsBlockFound m → done ≡ true
  look-done bytes done mended.Good looked found = absurd found
  look-done bytes done (mended.Copy k) looked found = put-done l.write looked.between l.first l.w.sectors bytes done l.new looked.put (sure-from looked.between looked.more)
  look-done bytes done mended.Remade looked found =
      put-done l.write looked.between l.first l.w.sectors bytes done l.new looked.put (sure-from looked.between (omega (arith, looked.more, looked.beneath_more)))
  look-done bytes done mended.Parity looked found =
      put-done l.write looked.replaced.between l.first l.w.sectors bytes done l.new looked.replaced.put (sure-from looked.replaced.between looked.replaced.more)
  look-done bytes done mended.Lost looked found = absurd found

-- ---- an image's devices and the parity device

-- the counters of the three devices didn't decrease between two states
pub record AreCounting (w w' : RepairWorld) (p p' : Device) : Type 0 where
  pub data_more : HasFailedTimes w.data_dev 0 w'.data_dev
  pub hash_more : HasFailedTimes w.hash_dev 0 w'.hash_dev
  pub parity_more : HasFailedTimes p 0 p'

parity-counting : (p q : Device) → IsParityRead p q → HasFailedTimes p 0 q
parity-counting p q read = inl (omega (arith, read.more))

pub counting-runs : (j : Job) (vs : List Visit) (a b : RepairWorld) (p q : Device) → VisitsAll j vs a b → IsParityRead p q → AreCounting a b p q
counting-runs j vs a b p q runs read = record { data_more = runs-own j 0 vs a b runs; hash_more = runs-own j 1 vs a b runs; parity_more = parity-counting p q read }

pub counting-read : (a b : RepairWorld) (p q : Device) → IsWorldRead a b → IsParityRead p q → AreCounting a b p q
counting-read a b p q world read = record { data_more = inl (omega (arith, world.data_more)); hash_more = inl (omega (arith, world.hash_more)); parity_more = parity-counting p q read }

-- none was counted between the first two of three states, nor between the last two
pub none-left : (a b c : RepairWorld) (p q r : Device) → AreCounting b c q r → HaveCountedNone a c p r → HaveCountedNone a b p q
none-left a b c p q r more none = record {
  data_none = counted-left a.data_dev b.data_dev c.data_dev more.data_more none.data_none;
  hash_none = counted-left a.hash_dev b.hash_dev c.hash_dev more.hash_more none.hash_none;
  parity_none = counted-left p q r more.parity_more none.parity_none;
}

pub none-right : (a b c : RepairWorld) (p q r : Device) → AreCounting a b p q → HaveCountedNone a c p r → HaveCountedNone b c q r
none-right a b c p q r more none = record {
  data_none = counted-right a.data_dev b.data_dev c.data_dev more.data_more none.data_none;
  hash_none = counted-right a.hash_dev b.hash_dev c.hash_dev more.hash_more none.hash_none;
  parity_none = counted-right p q r more.parity_more none.parity_none;
}

-- so none failed
pub unfailed : (old new : Device) → HasFailedTimes old 0 new → HasCountedNone old new → HasFailed old new → ⊥
unfailed old new more none (inl less) = omega (arith, less, none.none)
unfailed old new (inl few) none (inr most) = omega (arith, few, most, none.below)
unfailed old new (inr end) none (inr most) = omega (arith, end, none.below)

pub none-failed : (w w' : RepairWorld) (p p' : Device) → AreCounting w w' p p' → HaveCountedNone w w' p p' → HasAnyFailed w.data_dev w.hash_dev p w'.data_dev w'.hash_dev p' → ⊥
none-failed w w' p p' more none failed = any failed
  where
    any : HasAnyFailed w.data_dev w.hash_dev p w'.data_dev w'.hash_dev p' → ⊥
    any (inl (inl one)) = unfailed w.data_dev w'.data_dev more.data_more none.data_none one
    any (inl (inr two)) = unfailed w.hash_dev w'.hash_dev more.hash_more none.hash_none two
    any (inr three) = unfailed p p' more.parity_more none.parity_none three
