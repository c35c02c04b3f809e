-- The calls of a repair: a read, a read and a write, and calls after others.
use Rattle.std.proofs.Common.{◌≡◌, ◌*◌, ℕ, Bool, true, false, List, [], ◌∷◌, ◌++◌, ◌∙◌, length, zero, suc, refl, ap, subst, sym, Result, Ok, Err}
use Rattle.std.specs.Prelude.{IsErrAnd, is_ok}
use Rattle.std.proofs.lemmas.Bool.{false≢true}
use Rattle.block_device.specs.Call.{Call, Calls, Read, Sync, Write}
use Rattle.block_device.specs.CallList.{AllReads}
use Rattle.block_device.specs.Device.{Device}
use Rattle.block_device.proofs.lemmas.CallLemmas.{calls-append}
use Rattle.tree_path.specs.Steps.{MakesReads}
use Rattle.tree_shape.specs.Digests.{digest}
use Rattle.tree_repair.specs.declared.fault.RepairFault.{RepairFault}
use Rattle.tree_repair.specs.Mending.{IsAllowedPut, put_calls}
use Rattle.tree_repair.specs.RepairCalls.{AreRepairCalls, HandsTo, HandsToData, HandsToHash, IsBlockWrite, IsNoWrite, IsReadOnce, MakesRepairCalls, ReadsAt, ReadsBoth, VisitsHash, CallsHash, wrote_all, wrote_before}
use Rattle.tree_repair.specs.Sources.{Wanted}
use Rattle.tree_repair.specs.Worlds.{ImageRecord}

pub are-more : (Allowed : ℕ → List ℕ → Type 0) (calls more : List Call) (done : Bool) → AreRepairCalls Allowed true calls → AreRepairCalls Allowed done more → AreRepairCalls Allowed done (calls ++ more)
are-more Allowed [] more done h last = last
are-more Allowed (Read first bytes ok ∷ rest) more done h last = are-more Allowed rest more done h last
are-more Allowed (Write first bytes true ∷ rest) more done h last = (h.0, are-more Allowed rest more done h.1 last)
are-more Allowed (Write first bytes false ∷ rest) more done h last = let clash : true ≡ false = h.1.1 in absurd (cc)
are-more Allowed (Sync ok ∷ rest) more done h last = absurd h

-- calls without a failed write, and calls after them
pub calls-more : {B : Type 0} (does : B → Call → B → Type 0) (Allowed : ℕ → List ℕ → Type 0) (done : Bool) (a b c : B) → MakesRepairCalls does Allowed true a b → MakesRepairCalls does Allowed done b c → MakesRepairCalls does Allowed done a c
calls-more does Allowed done a b c h last = record {
  calls = h.calls ++ last.calls;
  made = calls-append does a b c h.calls last.calls h.made last.made;
  valid = are-more Allowed h.calls last.calls done h.valid last.valid;
}

-- one read
pub calls-read : {B : Type 0} (does : B → Call → B → Type 0) (Allowed : ℕ → List ℕ → Type 0) (first : ℕ) (bytes : List ℕ) (a b : B) → IsReadOnce does first bytes a b → MakesRepairCalls does Allowed true a b
calls-read does Allowed first bytes a b h = record { calls = Read first bytes h.0 ∷ []; made = h.1; valid = refl }

-- the reads of a path
are-path : (calls : List Call) → AllReads calls → AreRepairCalls IsNoWrite true calls
are-path [] h = refl
are-path (Read first bytes ok ∷ rest) h = are-path rest h.1
are-path (Write first bytes ok ∷ rest) h = absurd (false≢true h.0)
are-path (Sync ok ∷ rest) h = absurd (false≢true h.0)

pub calls-path : {B : Type 0} (does : B → Call → B → Type 0) (a b : B) → MakesReads does a b → MakesRepairCalls does IsNoWrite true a b
calls-path does a b h = record { calls = h.calls; made = h.made; valid = are-path h.calls h.reads }

-- a write if the repair may write
are-put : (Allowed : ℕ → List ℕ → Type 0) (write : Bool) (old : Device) (first sectors : ℕ) (bytes : List ℕ) (done : Bool) (new : Device) → IsAllowedPut write old first sectors bytes done new → Allowed first bytes
    → AreRepairCalls Allowed done (put_calls write first bytes done)
are-put Allowed true old first sectors bytes true new put allowed = (allowed, refl)
are-put Allowed true old first sectors bytes false new put allowed = (allowed, (refl, refl))
are-put Allowed false old first sectors bytes done new put allowed = put.1

-- a block was read, and its valid bytes were written if the repair may write
pub calls-put : {B : Type 0} (does : B → Call → B → Type 0) (first : ℕ) (w : Wanted) (seen bytes : List ℕ) (write done : Bool) (a b c : B) → IsReadOnce does first seen a b
    → (old : Device) (sectors : ℕ) (new : Device) → IsAllowedPut write old first sectors bytes done new → length bytes ≡ 512 * w.sectors → digest w.salt bytes ≡ w.digest_is
    → Calls does b (put_calls write first bytes done) c → MakesRepairCalls does (IsBlockWrite first w) done a c
calls-put does first w seen bytes write done a b c read old sectors new put whole good made =
    calls-more does (IsBlockWrite first w) done a b c (calls-read does (IsBlockWrite first w) first seen a b read) (record {
      calls = put_calls write first bytes done;
      made = made;
      valid = are-put (IsBlockWrite first w) write old first sectors bytes done new put (record { here = refl; whole = whole; good = good });
    })

-- a call whose fault is returned failed
pub unfinished : {T E : Type 0} (r : Result T E) (P : E → Type 0) → IsErrAnd r P → false ≡ is_ok r
unfinished (Ok x) P is = absurd is
unfinished (Err e) P is = refl

-- the calls for a data block, and for a hash block
module _ {D H : Type 0} (asks : D → Call → D → Type 0) (does : H → Call → H → Type 0) (h : ℕ) (Allowed : ℕ → List ℕ → Type 0) (done : Bool) (i i' : ImageRecord D H) where
  pub data-handed : h ≡ 0 → HandsToData asks Allowed done i i' → HandsTo asks does h Allowed done i i'
  data-handed none made = subst (λ (n : ℕ). HandsTo asks does n Allowed done i i') (sym none) made

  pub hash-handed : (l : ℕ) → h ≡ suc l → HandsToHash does Allowed done i i' → HandsTo asks does h Allowed done i i'
  hash-handed l some made = subst (λ (n : ℕ). HandsTo asks does n Allowed done i i') (sym some) made

-- calls of which none writes
are-reads : (Allowed : ℕ → List ℕ → Type 0) (done : Bool) (calls : List Call) → AreRepairCalls IsNoWrite done calls → AreRepairCalls Allowed done calls
are-reads Allowed done [] h = h
are-reads Allowed done (Read first bytes ok ∷ rest) h = are-reads Allowed done rest h
are-reads Allowed done (Write first bytes true ∷ rest) h = absurd h.0
are-reads Allowed done (Write first bytes false ∷ rest) h = absurd h.0
are-reads Allowed done (Sync ok ∷ rest) h = absurd h

calls-reads : {B : Type 0} (does : B → Call → B → Type 0) (Allowed : ℕ → List ℕ → Type 0) (a b : B) → MakesRepairCalls does IsNoWrite true a b → MakesRepairCalls does Allowed true a b
calls-reads does Allowed a b h = record { calls = h.calls; made = h.made; valid = are-reads Allowed true h.calls h.valid }

pub calls-nothing : {B : Type 0} (does : B → Call → B → Type 0) (Allowed : ℕ → List ℕ → Type 0) (a : B) → MakesRepairCalls does Allowed true a a
calls-nothing does Allowed a = record { calls = []; made = refl; valid = refl }

-- no calls, and reads after other calls
module _ {D H : Type 0} (asks : D → Call → D → Type 0) (does : H → Call → H → Type 0) where
  pub reads-none : (h : ℕ) (i : ImageRecord D H) → ReadsAt asks does h i i
  reads-none zero i = (calls-nothing asks IsNoWrite i.data_dev, refl)
  reads-none (suc l) i = (calls-nothing does IsNoWrite i.hash_dev, refl)

  pub reads-after : (h : ℕ) (Allowed : ℕ → List ℕ → Type 0) (i j k : ImageRecord D H) → HandsTo asks does h Allowed true i j → ReadsAt asks does h j k → HandsTo asks does h Allowed true i k
  reads-after zero Allowed i j k made reads = (calls-more asks Allowed true i.data_dev j.data_dev k.data_dev made.0 (calls-reads asks Allowed j.data_dev k.data_dev reads.0), reads.1 ∙ made.1)
  reads-after (suc l) Allowed i j k made reads = (calls-more does Allowed true i.hash_dev j.hash_dev k.hash_dev made.0 (calls-reads does Allowed j.hash_dev k.hash_dev reads.0), reads.1 ∙ made.1)

  pub both-nothing : (i : ImageRecord D H) → ReadsBoth asks does i i
  both-nothing i = (calls-nothing asks IsNoWrite i.data_dev, calls-nothing does IsNoWrite i.hash_dev)

  pub both-more : (i j k : ImageRecord D H) → ReadsBoth asks does i j → ReadsBoth asks does j k → ReadsBoth asks does i k
  both-more i j k reads more = (calls-more asks IsNoWrite true i.data_dev j.data_dev k.data_dev reads.0 more.0, calls-more does IsNoWrite true i.hash_dev j.hash_dev k.hash_dev reads.1 more.1)

  pub both-at : (h : ℕ) (i j : ImageRecord D H) → ReadsAt asks does h i j → ReadsBoth asks does i j
  both-at zero i j reads = (reads.0, subst (λ x. MakesRepairCalls does IsNoWrite true i.hash_dev x) (sym reads.1) (calls-nothing does IsNoWrite i.hash_dev))
  both-at (suc l) i j reads = (subst (λ x. MakesRepairCalls asks IsNoWrite true i.data_dev x) (sym reads.1) (calls-nothing asks IsNoWrite i.data_dev), reads.0)

  -- only one device was called
  pub data-both : (i j : ImageRecord D H) → HandsToData asks IsNoWrite true i j → ReadsBoth asks does i j
  data-both i j reads = both-at zero i j reads

  pub hash-both : (i j : ImageRecord D H) → HandsToHash does IsNoWrite true i j → ReadsBoth asks does i j
  hash-both i j reads = both-at (suc zero) i j reads

-- a visit to a hash block: it was sought, then both devices were read, then it was written
module _ {D H : Type 0} (asks : D → Call → D → Type 0) (does : H → Call → H → Type 0) (Allowed : ℕ → List ℕ → Type 0) where
  pub visit-sought : (done : Bool) (i j : ImageRecord D H) → HandsToHash does Allowed done i j → VisitsHash asks does Allowed done i j
  visit-sought done i j made = (made.0, subst (λ x. MakesRepairCalls asks IsNoWrite true i.data_dev x) (sym made.1) (calls-nothing asks IsNoWrite i.data_dev))

  pub visit-read : (i j k : ImageRecord D H) → HandsToHash does Allowed true i j → ReadsBoth asks does j k → VisitsHash asks does Allowed true i k
  visit-read i j k made reads =
      let first = visit-sought true i j made in
      (calls-more does Allowed true i.hash_dev j.hash_dev k.hash_dev first.0 (calls-reads does Allowed j.hash_dev k.hash_dev reads.1), calls-more asks IsNoWrite true i.data_dev j.data_dev k.data_dev first.1 reads.0)

  pub visit-put : (write : Bool) (old : Device) (first sectors : ℕ) (bytes : List ℕ) (done : Bool) (new : Device) (i j k : ImageRecord D H) → IsAllowedPut write old first sectors bytes done new → Allowed first bytes
      → VisitsHash asks does Allowed true i j → CallsHash does (put_calls write first bytes done) j k → VisitsHash asks does Allowed done i k
  visit-put write old first sectors bytes done new i j k put allowed visited made = (
    calls-more does Allowed done i.hash_dev j.hash_dev k.hash_dev visited.0 (record { calls = put_calls write first bytes done; made = made.0; valid = are-put Allowed write old first sectors bytes done new put allowed }),
    subst (λ x. MakesRepairCalls asks IsNoWrite true i.data_dev x) (sym made.1) visited.1,
  )

-- whether a write failed, by the fault that a result hands on
pub ended-all : {T : Type 0} (r : Result T RepairFault) (fault : RepairFault) → IsErrAnd r (λ e. e ≡ fault) → wrote_before fault ≡ wrote_all r
ended-all (Ok x) fault is = absurd is
ended-all (Err e) fault is = sym (ap wrote_before is)
