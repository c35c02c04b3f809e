-- Reads of devices that may fail, one after another.
use Rattle.std.proofs.Common.{◌≡◌, ◌≤◌, ◌+◌, ◌*◌, ◌/◌, ◌^◌, ◌-◌, ◌⊎◌, ℕ, Bool, true, false, IsTrue, List, length, refl, sym, ap, subst, ◌∙◌, arith, inl, inr}
use Rattle.std.specs.List.{concat}
use Rattle.std.proofs.lemmas.Bool.{cases_lt}
use Rattle.block_device.specs.Device.{Device, HasFailed, IsRead, run_of}
use Rattle.verity_format.specs.Blocks.{IsFullRead, IsOnlyRead, block_at}
use Rattle.tree_path.specs.Steps.{IsUnloaded, Steps}
use Rattle.verity_format.proofs.lemmas.DeviceLemmas.{full_read-none, full_read-then, only_read-none, only_read-then}
use Rattle.tree_survey.specs.Failing.{HasFailedRead, HasFailedTimes, IsAttempt, IsBlockTried, IsReadOver, IsReadThrough, IsSectorsRead}

-- ---- one read

pub over-ok : (old new : Device) (n : ℕ) → IsRead old n true new → IsReadOver old new
over-ok old new n r = record { read = record { same = r.same; writes = r.writes; image = r.image }; more = omega (arith, r.failures); sure = λ never. r.failures }

pub full-ok : (old new : Device) (n : ℕ) → IsRead old n true new → IsFullRead old n new
full-ok old new n r = record { read = record { same = r.same; writes = r.writes; image = r.image }; reads = λ few. omega (arith, few, r.reads); failures = r.failures }

pub over-err : (old new : Device) (n : ℕ) → IsRead old n false new → HasFailedRead old new → IsReadOver old new
over-err old new n r (inl more, unsure) = record { read = record { same = r.same; writes = r.writes; image = r.image }; more = omega (arith, more); sure = λ never. absurd (unsure never) }
over-err old new n r (inr most, unsure) = record { read = record { same = r.same; writes = r.writes; image = r.image }; more = omega (arith, most, r.failures); sure = λ never. absurd (unsure never) }

-- ---- several

pub over-none : (d : Device) → IsReadOver d d
over-none d = record { read = only_read-none d; more = omega arith; sure = λ never. refl }

pub over-full : {a b : Device} (n : ℕ) → IsFullRead a n b → IsReadOver a b
over-full n full = record { read = full.read; more = omega (arith, full.failures); sure = λ never. full.failures }

pub over-then : {a b c : Device} → IsReadOver a b → IsReadOver b c → IsReadOver a c
over-then p q = record {
  read = only_read-then p.read q.read;
  more = omega (arith, p.more, q.more);
  sure = λ never. q.sure (p.read.same.never_fails never) ∙ p.sure never;
}

-- a hash block that couldn't be read
pub over-unloaded : (w : Steps) → IsOnlyRead w.device w.device' → IsUnloaded w → (IsTrue w.device.never_fails → ⊥) → IsReadOver w.device w.device'
over-unloaded w read un unsure = record { read = read; more = go un.fault.failed; sure = λ never. absurd (unsure never) }
  where
    go : HasFailed w.device w.device' → w.device.failures ≤ w.device'.failures
    go (inl more) = omega (arith, more)
    go (inr most) = omega (arith, most, un.fault.counted)

-- a failure stays one after other reads, and before them
pub failed-more : (a : Device) {b c : Device} → HasFailedRead a b → IsReadOver b c → HasFailedRead a c
failed-more a (inl more, unsure) q = (inl (omega (arith, more, q.more)), unsure)
failed-more a (inr most, unsure) q = (inr most, unsure)

pub failed-later : {a b c : Device} → IsReadOver a b → IsReadOver b c → HasFailedRead b c → HasFailedRead a c
failed-later {a = a} {b = b} {c = c} p q (inl more, unsure) = (inl (omega (arith, p.more, more)), λ never. unsure (p.read.same.never_fails never))
failed-later {a = a} {b = b} {c = c} p q (inr most, unsure) = (go most, λ never. unsure (p.read.same.never_fails never))
  where
    go : b.failures ≡ 2 ^ 64 - 1 → HasFailed a c
    go most = elim (cases_lt a.failures c.failures) [
      | inl less ↦ inl less
      | inr not ↦ inr (omega (arith, most, not, p.more, q.more))
    ]

-- ---- how often

pub times-none : (d : Device) → HasFailedTimes d 0 d
times-none d = inl (omega arith)

pub times-more : (a b c : Device) (n : ℕ) → HasFailedTimes a n b → b.failures ≤ c.failures → HasFailedTimes a n c
times-more a b c n (inl few) more = inl (omega (arith, few, more))
times-more a b c n (inr most) more = inr (omega (arith, most, more))

pub times-next : (a b c : Device) (n m : ℕ) → HasFailedTimes a n b → b.failures ≤ c.failures → HasFailed b c → m ≡ n + 1 → HasFailedTimes a m c
times-next a b c n m (inr most) more failed is = inr (omega (arith, most, more))
times-next a b c n m (inl few) more (inl less) is = inl (omega (arith, few, less, is))
times-next a b c n m (inl few) more (inr most) is = inr (omega (arith, most, more))

-- twice
pub times-both : (a b c : Device) (n m : ℕ) → HasFailedTimes a n b → HasFailedTimes b m c → HasFailedTimes a (n + m) c
times-both a b c n m (inl few) (inl more) = inl (omega (arith, few, more))
times-both a b c n m (inr most) (inl more) = inr (omega (arith, most, more))
times-both a b c n m p (inr most) = inr most

-- between other reads
pub times-within : (a b c e : Device) (n : ℕ) → a.failures ≤ b.failures → HasFailedTimes b n c → c.failures ≤ e.failures → HasFailedTimes a n e
times-within a b c e n before (inl few) behind = inl (omega (arith, before, few, behind))
times-within a b c e n before (inr most) behind = inr (omega (arith, most, behind))

pub or-more : (P A B : Type 0) → (A → B) → P ⊎ A → P ⊎ B
or-more P A B f (inl p) = inl p
or-more P A B f (inr a) = inr (f a)

-- ---- all sectors

pub through-none : (d : Device) → IsReadThrough d 0 d
through-none d = record { over = over-none d; full = inl (full_read-none d) }

pub through-full : {a b c : Device} (n m k : ℕ) → IsReadThrough a n b → IsFullRead b m c → n + m ≡ k → IsReadThrough a k c
through-full {a = a} {b = b} {c = c} n m k p q sum = record { over = over-then p.over (over-full m q); full = go p.full }
  where
    go : (IsFullRead a n b ⊎ HasFailedRead a b) → IsFullRead a k c ⊎ HasFailedRead a c
    go (inl full) = inl (full_read-then n m k full q sum)
    go (inr failed) = inr (failed-more a failed (over-full m q))

pub through-failed : {a b : Device} (k : ℕ) → IsReadOver a b → HasFailedRead a b → IsReadThrough a k b
through-failed k over failed = record { over = over; full = inr failed }

pub sectors-read : (old new : Device) (first : ℕ) (buffer bytes : List ℕ) → length bytes ≡ length buffer → IsRead old (length buffer / 512) true new
    → (IsTrue old.steady → bytes ≡ concat (run_of old.image first (length buffer / 512))) → IsSectorsRead old first bytes new
sectors-read old new first buffer bytes long read are = record {
  full = full-ok old new (length bytes / 512) (subst (λ (n : ℕ). IsRead old (n / 512) true new) (sym long) read);
  bytes_are = λ steady. are steady ∙ ap (λ (n : ℕ). concat (run_of old.image first (n / 512))) (sym long);
}

-- ---- a block

pub block-tried : (old new : Device) (size i first : ℕ) (block : List ℕ) (ok : Bool) → first ≡ i * (size / 512) → length block ≡ size → IsAttempt old first block ok new → IsBlockTried old size i block ok new
unfolding block_at
block-tried old new size i first block true at long read = record {
  bytes = λ steady. read.bytes_are steady ∙ ap (λ (n : ℕ). concat (run_of old.image n (length block / 512))) at ∙ ap (λ (n : ℕ). concat (run_of old.image (i * (size / 512)) (n / 512))) long;
  full = subst (λ (n : ℕ). IsFullRead old (n / 512) new) long read.full;
}
block-tried old new size i first block false at long failed = failed
