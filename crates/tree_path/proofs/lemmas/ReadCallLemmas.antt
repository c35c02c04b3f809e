-- Calls that only read, one after another.
use Rattle.std.proofs.Common.{ℕ, Bool, List, [], ◌∷◌, ◌++◌, refl}
use Rattle.block_device.specs.Call.{Call, Read}
use Rattle.block_device.specs.CallList.{AllReads}
use Rattle.block_device.proofs.lemmas.CallLemmas.{calls-append}
use Rattle.tree_path.specs.Steps.{MakesReads}

all_reads-append : (calls more : List Call) → AllReads calls → AllReads more → AllReads (calls ++ more)
all_reads-append [] more none reads = reads
all_reads-append (call ∷ rest) more h reads = (h.0, all_reads-append rest more h.1 reads)

-- no call
pub reads-none : {D : Type 0} (does : D → Call → D → Type 0) (a : D) → MakesReads does a a
reads-none does a = record { calls = []; made = refl; reads = tt }

-- one call
pub reads-one : {D : Type 0} (does : D → Call → D → Type 0) (first : ℕ) (bytes : List ℕ) (ok : Bool) (a b : D) → does a (Read first bytes ok) b → MakesReads does a b
reads-one does first bytes ok a b call = record { calls = Read first bytes ok ∷ []; made = (b, call, refl); reads = (refl, tt) }

-- more calls
pub reads-then : {D : Type 0} (does : D → Call → D → Type 0) (a b c : D) → MakesReads does a b → MakesReads does b c → MakesReads does a c
reads-then does a b c h last = record {
  calls = h.calls ++ last.calls;
  made = calls-append does a b c h.calls last.calls h.made last.made;
  reads = all_reads-append h.calls last.calls h.reads last.reads;
}
