-- Calls of reads, one after another.
use Rattle.std.proofs.Common.{ℕ, List, [], ◌∷◌, ◌++◌, Result}
use Rattle.block_device.specs.Call.{Call}
use Rattle.stack_rules.specs.Records.{Configuration}
use Rattle.stack_meaning.specs.declared.fault.IoFault.{IoFault}
use Rattle.stack_engine.specs.LeafCalls.{IsLeafCall, LeafCall}
use Rattle.stack_engine.specs.Restored.{Served, serving}
use Rattle.stack_engine.specs.SectorCalls.{ReadOf, ReadCalls, ReadsBy}
use Rattle.stack_engine.proofs.LeafCallLemmas.{makes-none, makes-one, makes-as, makes-then}

module _ {D : Type 0} {does : D → Call → D → Type 0} {c : Configuration} where
  pub reads-none : {what : ReadOf} {at : Served D} {answer : Result (List ℕ) IoFault} → ReadCalls c what [] at.restored at.restored answer → ReadsBy does c what at at answer
  reads-none are = record { made = makes-none are }

  pub reads-one : {what : ReadOf} {restored : ℕ} {old new : List D} {answer : Result (List ℕ) IoFault} (i : ℕ) (call : Call) → ReadCalls c what (record { leaf = i; call = call } ∷ []) restored restored answer → IsLeafCall does i old call new
      → ReadsBy does c what (serving old restored) (serving new restored) answer
  reads-one i call are made = record { made = makes-one i call are made }

  -- calls that read one thing read another one that follows from it
  pub reads-as : {what other : ReadOf} {old new : Served D} {answer end : Result (List ℕ) IoFault} → ((calls : List LeafCall) → ReadCalls c what calls old.restored new.restored answer → ReadCalls c other calls old.restored new.restored end)
      → ReadsBy does c what old new answer → ReadsBy does c other old new end
  reads-as seen h = record { made = makes-as seen h.made }

  pub reads-then : {what rest both : ReadOf} {old mid new : Served D} {answer later end : Result (List ℕ) IoFault} → ((calls more : List LeafCall) → ReadCalls c what calls old.restored mid.restored answer → ReadCalls c rest more mid.restored new.restored later → ReadCalls c both (calls ++ more) old.restored new.restored end)
      → ReadsBy does c what old mid answer → ReadsBy does c rest mid new later → ReadsBy does c both old new end
  reads-then both h k = record { made = makes-then both h.made k.made }
