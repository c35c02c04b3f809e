-- Passes in turns one after another.
use Rattle.std.proofs.Common.{◌≡◌, ℕ, List, subst, Option, suc, sym}
use Rattle.rescue_map.specs.declared.map.Run.{Run}
use Rattle.stack_rules.specs.Names.{mapped, size}
use Rattle.stack_rules.specs.Records.{Configuration}
use Rattle.stack_recovery.specs.PassPieces.{Scanned}
use Rattle.stack_recovery.specs.Recoveries.{Sides}
use Rattle.scan_commands.specs.declared.phase.Phase.{Phase}
use Rattle.scan_commands.specs.declared.rescue_fault.PassFault.{PassFault}
use Rattle.scan_commands.specs.MapFiles.{MapPathRecord}
use Rattle.scan_commands.specs.Retries.{Steps, one_more}
use Rattle.scan_commands.specs.Turns.{Progressed, ReadsInTurns, Replaces, kept}
use Rattle.scan_commands.specs.TurnEnds.{IsPassTurnsEnd}

-- one step more
pub more-steps : {A : Type 0} (Step : ℕ → A → A → Type 0) (first : A) (n m : ℕ) (now next : A) → m ≡ suc n → Steps Step first n now → Step n now next → Steps Step first m next
more-steps Step first n m now next e before step = subst (λ (k : ℕ). Steps Step first k next) (sym e) (one_more before step)

-- by the configuration that the first pass had, and a phase that is known
pub whole-turns : {S : Type 0} (replaces : Replaces S) (file : Option MapPathRecord) (scan : Scanned) (x y : Configuration) (phase phase' : Phase) (first : Phase → ℕ → Progressed S) (images : S) (new : Sides) (made : List Run)
    → x ≡ y → phase' ≡ phase → ReadsInTurns (kept replaces file scan (size x (mapped scan.d))) phase' (first phase' (size x (mapped scan.d))) images new made → ReadsInTurns (kept replaces file scan (size y (mapped scan.d))) phase (first phase (size y (mapped scan.d))) images new made
whole-turns replaces file scan x y phase phase' first images new made config is turns =
    subst (λ (p : Phase). ReadsInTurns (kept replaces file scan (size y (mapped scan.d))) p (first p (size y (mapped scan.d))) images new made) is
    (subst (λ (c : Configuration). ReadsInTurns (kept replaces file scan (size c (mapped scan.d))) phase' (first phase' (size c (mapped scan.d))) images new made) config turns)

pub ended-turns : {S : Type 0} (replaces : Replaces S) (file : Option MapPathRecord) (scan : Scanned) (x y : Configuration) (phase phase' : Phase) (first : Phase → ℕ → Progressed S) (images : S) (new : Sides) (fault : PassFault)
    → x ≡ y → phase' ≡ phase → IsPassTurnsEnd (kept replaces file scan (size x (mapped scan.d))) phase' (first phase' (size x (mapped scan.d))) images new fault → IsPassTurnsEnd (kept replaces file scan (size y (mapped scan.d))) phase (first phase (size y (mapped scan.d))) images new fault
ended-turns replaces file scan x y phase phase' first images new fault config is turns =
    subst (λ (p : Phase). IsPassTurnsEnd (kept replaces file scan (size y (mapped scan.d))) p (first p (size y (mapped scan.d))) images new fault) is
    (subst (λ (c : Configuration). IsPassTurnsEnd (kept replaces file scan (size c (mapped scan.d))) phase' (first phase' (size c (mapped scan.d))) images new fault) config turns)
