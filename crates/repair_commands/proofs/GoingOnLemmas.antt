-- Repairs that go on after a failed writer, and how they end.
use Rattle.std.proofs.Common.{ℕ, Bool, IsTrue, List, Option, None, Some, Result, Ok, Err, is_some, refl, sym, subst, inl, inr, arith}
use Rattle.std.specs.Prelude.{IfErr, IfOk, OnOk}
use Rattle.fec_area.specs.declared.layout.Layout.{Layout}
use Rattle.fec_area.specs.Layouts.{IsLaidOn}
use Rattle.tree_repair.specs.declared.fault.RepairFault.{RepairFault}
use Rattle.tree_repair.specs.declared.fault.RepairFault.TheVariants.{Image, Write}
use Rattle.tree_repair.specs.declared.outcome.Outcome.{Outcome}
use Rattle.tree_repair.specs.declared.repair.Plan.{Plan}
use Rattle.program_io.specs.Counted.{CountedRecord}
use Rattle.tree_repair.specs.Runs.{IsWriterCause}
use Rattle.tree_repair.specs.Repairs.{IsAllowed, IsUnrepairedBy}
use Rattle.tree_repair.specs.Worlds.{RepairWorld}
use Rattle.tree_repair.proofs.lemmas.SameLemmas.{unrepaired-same}
use Rattle.repair_commands.specs.Mends.{HalfMends, IsCutBy, IsEndBehind, IsOnMedium, IsRestOfUse, IsRunToEnd, IsUnsyncedCause, KeepsBothImages, ParityUse, end_of}

-- what may be written may be written after a repair that ended early
pub allowed-then : (plan : Plan) (parity : Bool) (w w' : RepairWorld) (old new : Option (List ℕ)) (fault : RepairFault) → IsUnrepairedBy plan parity w w' old new fault → IsAllowed plan.write w.data_dev w.hash_dev
    → IsAllowed plan.write w'.data_dev w'.hash_dev
allowed-then plan parity w w' old new fault run allowed =
    let same = unrepaired-same plan parity w w' old new fault run in
    record { data_writable = λ write. subst IsTrue (sym same.0.may_write) (allowed.data_writable write); hash_writable = λ write. subst IsTrue (sym same.1.may_write) (allowed.hash_writable write) }

-- and what parity covers lies on both devices
pub laid-then : (l : Layout) (plan : Plan) (parity : Bool) (w w' : RepairWorld) (old new : Option (List ℕ)) (fault : RepairFault) → IsUnrepairedBy plan parity w w' old new fault → IsLaidOn l w.data_dev w.hash_dev
    → IsLaidOn l w'.data_dev w'.hash_dev
laid-then l plan parity w w' old new fault run laid =
    let same = unrepaired-same plan parity w w' old new fault run in
    record { layout = laid.layout; data_room = omega (arith, laid.data_room, same.0.size); hash_room = omega (arith, laid.hash_room, same.1.size) }

-- a run that a fault ended, and what came after it
pub cut-then : {W : Type 0} (writer : CountedRecord W) (plan : Plan) (parity rest : Option ParityUse) (w a w' : RepairWorld) (old new : Option (List ℕ)) (fault end : RepairFault) → IsRestOfUse parity rest → IsWriterCause writer fault
    → IsUnrepairedBy plan (is_some parity) w a old new fault → IsEndBehind plan rest fault a w' end
    → IsCutBy plan parity w w' old new writer.failed end
cut-then writer plan parity rest w a w' old new (Image cause) end is_rest told run (is, stays) = inl (cause, (is, subst (λ (x : RepairWorld). IsUnrepairedBy plan (is_some parity) w x old new (Image cause)) (sym stays) run))
cut-then writer plan parity rest w a w' old new Write end is_rest told run unheard = inr (record { told = told; between = a; rest = rest; cut = run; is_rest = is_rest; unheard = unheard })

-- a run that came to its end, and was synced
pub end-ok : {Whole Mends : Outcome → Type 0} {Synced : Type 0} (r : Result Outcome RepairFault) (s : Result (Unit {0}) RepairFault) → IfOk r Whole → OnOk s Synced → ((t : Outcome) → Whole t → Synced → Mends t)
    → IfOk (end_of r s) Mends
end-ok (Ok t) (Ok done) whole synced mends = mends t whole synced
end-ok (Err fault) (Ok done) whole synced mends = tt
end-ok (Ok t) (Err unsynced) whole synced mends = tt
end-ok (Err Write) (Err unsynced) whole synced mends = tt
end-ok (Err (Image cause)) (Err unsynced) whole synced mends = tt

-- or one that didn't, or wasn't
pub end-err : {Whole : Outcome → Type 0} (plan : Plan) (parity : Option ParityUse) (w a w' : RepairWorld) (old new : Option (List ℕ)) (failed : Bool) (r : Result Outcome RepairFault) (s : Result (Unit {0}) RepairFault)
    → ((t : Outcome) → Whole t → IsRunToEnd plan parity w a old new) → IfOk r Whole → IfErr r (IsCutBy plan parity w a old new failed) → KeepsBothImages a w'
    → OnOk s (IsOnMedium plan.write w'.data_dev w'.hash_dev) → IfErr s (IsUnsyncedCause plan.write a w') → IfErr (end_of r s) (HalfMends plan parity w w' old new failed)
end-err plan parity w a w' old new failed (Ok t) (Ok done) repairs whole cut kept synced un = tt
end-err plan parity w a w' old new failed (Err fault) (Ok done) repairs whole cut kept synced un = record { mid = a; ended = Some fault; run = cut; kept = kept; synced = inl (refl, synced) }
end-err plan parity w a w' old new failed (Ok t) (Err fault) repairs whole cut kept synced un = record { mid = a; ended = None; run = repairs t whole; kept = kept; synced = inr un }
end-err plan parity w a w' old new failed (Err Write) (Err fault) repairs whole cut kept synced un = record { mid = a; ended = Some Write; run = cut; kept = kept; synced = inr un }
end-err plan parity w a w' old new failed (Err (Image cause)) (Err fault) repairs whole cut kept synced un = record { mid = a; ended = Some (Image cause); run = cut; kept = kept; synced = inr (refl, un.1) }
