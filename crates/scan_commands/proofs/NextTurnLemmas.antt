-- What a turn leaves for the next one.
use Rattle.std.proofs.Common.{ℕ, ◌≡◌, IsTrue, List, Result, sym, ap, ◌∙◌, subst, Option}
use Rattle.scan_commands.specs.declared.rescue_fault.PassFault.{PassFault}
use Rattle.rescue_map.specs.declared.map.Run.{Run}
use Rattle.scan_commands.specs.MapFiles.{MapPathRecord}
use Rattle.image_files.specs.declared.texts.ReplaceFault.{ReplaceFault}
use Rattle.scan_commands.specs.Turns.{Kept, Progressed, ReadsInTurns, IsTurn, Turns, kept as kept_by, progressed, scan_from}
use Rattle.scan_commands.specs.TurnEnds.{IsPassTurnsEnd, StopsIn}
use Rattle.scan_commands.specs.declared.phase.Phase.{Phase}
use Rattle.stack_recovery.specs.PassPieces.{Scanned}
use Rattle.stack_recovery.specs.Recoveries.{Sides}
use Rattle.scan_commands.proofs.TurnLemmas.{reads-config, reads-out, synced-size, synced-writes}

pub turn-config : {S : Type 0} (k : Kept S) (phase : Phase) (old new : Progressed S) → IsTurn k phase old new → new.sides.stack.config ≡ old.sides.stack.config
turn-config k phase old new t = ap (λ (s : Sides). s.stack.config) t.on_medium ∙ reads-config phase _ _ (scan_from k old) old.sides t.made t.left t.reads

pub turn-out : {S : Type 0} (k : Kept S) (phase : Phase) (old new : Progressed S) → IsTurn k phase old new → (new.sides.out.size ≡ old.sides.out.size) × (IsTrue old.sides.out.may_write → IsTrue new.sides.out.may_write)
turn-out k phase old new t =
    let same = reads-out phase _ _ (scan_from k old) old.sides t.made t.left t.reads in (
      ap (λ (s : Sides). s.out.size) t.on_medium ∙ synced-size k.file t.left.out ∙ same.size,
      λ h. subst IsTrue (sym (ap (λ (s : Sides). s.out.may_write) t.on_medium ∙ synced-writes k.file t.left.out ∙ same.may_write)) h,
    )

-- the size of the device as it was told
pub ends-as : {S : Type 0} (replaces : S → List ℕ → List ℕ → Result (Unit {0}) ReplaceFault → S → Type 0) (file : Option MapPathRecord) (phase : Phase) (scan : Scanned) (m n : ℕ) (first : ℕ → Progressed S) (now : Progressed S) (images : S) (new : Sides) (fault : PassFault)
    → m ≡ n → Turns (kept_by replaces file scan m) phase (first m) now → StopsIn (kept_by replaces file scan m) phase now images new fault → IsPassTurnsEnd (kept_by replaces file scan n) phase (first n) images new fault
ends-as replaces file phase scan m n first now images new fault e t s =
    subst (λ (k : ℕ). IsPassTurnsEnd (kept_by replaces file scan k) phase (first k) images new fault) e (record { now = now; turns = t; stops = s })

pub whole-as : {S : Type 0} (replaces : S → List ℕ → List ℕ → Result (Unit {0}) ReplaceFault → S → Type 0) (file : Option MapPathRecord) (phase : Phase) (scan : Scanned) (m n at skip turned : ℕ) (first : ℕ → Progressed S) (images : S) (new : Sides) (made : List Run)
    → m ≡ n → at ≡ m → Turns (kept_by replaces file scan m) phase (first m) (progressed images new made at skip turned) → ReadsInTurns (kept_by replaces file scan n) phase (first n) images new made
whole-as replaces file phase scan m n at skip turned first images new made e here t =
    subst (λ (k : ℕ). ReadsInTurns (kept_by replaces file scan k) phase (first k) images new made) e
    (skip, turned, subst (λ (k : ℕ). Turns (kept_by replaces file scan m) phase (first m) (progressed images new made k skip turned)) here t)
