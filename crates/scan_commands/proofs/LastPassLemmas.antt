-- The last pass, whose lost runs are kept before they are reported.
use Rattle.std.proofs.Common.{◌≡◌, ℕ, Bool, false, List, subst, Option}
use Rattle.block_device.specs.Device.{Device}
use Rattle.rescue_map.specs.declared.map.Run.{Run}
use Rattle.stack_rules.specs.Names.{mapped, size}
use Rattle.stack_rules.specs.Records.{Configuration}
use Rattle.stack_engine.specs.Stacks.{StackRecord}
use Rattle.stack_recovery.specs.declared.recovery.Counts.{Counts}
use Rattle.stack_recovery.specs.Listings.{Listed, kept_runs}
use Rattle.stack_recovery.specs.LostRuns.{LostRun}
use Rattle.stack_recovery.specs.Recoveries.{Sides, sides}
use Rattle.stack_recovery.specs.PassPieces.{scanned}
use Rattle.scan_commands.specs.declared.phase.Phase.{Phase}
use Rattle.scan_commands.specs.declared.rescue_fault.PassFault.{PassFault}
use Rattle.scan_commands.specs.MapFiles.{MapPathRecord}
use Rattle.scan_commands.specs.PassesInTurns.{AfterTurns, EndsLast, ReportsLast, nothing, pass_from}
use Rattle.scan_commands.specs.Turns.{Kept, ReadsInTurns, Replaces, kept}
use Rattle.scan_commands.specs.TurnEnds.{IsPassTurnsEnd}

pub reads-kept : {S : Type 0} (k : Kept S) (phase : Phase) (old : AfterTurns S) (images : S) (stack : StackRecord) (out : Device) (made : List Run) (before : Listed) (runs : List LostRun) (failed : Bool)
    → before ≡ nothing → failed ≡ false → ReadsInTurns k phase (pass_from phase k.sectors old before) images (sides stack out (kept_runs runs failed)) made
    → ReadsInTurns k phase (pass_from phase k.sectors old nothing) images (sides stack out (kept_runs runs false)) made
reads-kept k phase old images stack out made before runs failed none whole reads =
    subst (λ (l : Listed). ReadsInTurns k phase (pass_from phase k.sectors old l) images (sides stack out (kept_runs runs false)) made) none
    (subst (λ (b : Bool). ReadsInTurns k phase (pass_from phase k.sectors old before) images (sides stack out (kept_runs runs b)) made) whole reads)

pub reads-from : {S : Type 0} (k : Kept S) (phase : Phase) (old : AfterTurns S) (images : S) (stack : StackRecord) (out : Device) (made : List Run) (before after : Listed)
    → before ≡ nothing → ReadsInTurns k phase (pass_from phase k.sectors old before) images (sides stack out after) made → ReadsInTurns k phase (pass_from phase k.sectors old nothing) images (sides stack out after) made
reads-from k phase old images stack out made before after none reads =
    subst (λ (l : Listed). ReadsInTurns k phase (pass_from phase k.sectors old l) images (sides stack out after) made) none reads

pub ends-from : {S : Type 0} (k : Kept S) (phase : Phase) (old : AfterTurns S) (images : S) (stack : StackRecord) (out : Device) (fault : PassFault) (before after : Listed)
    → before ≡ nothing → IsPassTurnsEnd k phase (pass_from phase k.sectors old before) images (sides stack out after) fault → IsPassTurnsEnd k phase (pass_from phase k.sectors old nothing) images (sides stack out after) fault
ends-from k phase old images stack out fault before after none ends =
    subst (λ (l : Listed). IsPassTurnsEnd k phase (pass_from phase k.sectors old l) images (sides stack out after) fault) none ends

-- by the configuration and the device that the first pass had, and a phase that is known
pub last-as : {S : Type 0} (replaces : Replaces S) (file file' : Option MapPathRecord) (no_scrape : Bool) (d e : ℕ) (x y : Configuration) (phase phase' : Phase) (known : List LostRun) (old : AfterTurns S) (printed told : Listed) (images : S) (new : Sides) (counts : Counts)
    → file' ≡ file → d ≡ e → x ≡ y → phase' ≡ phase → told ≡ printed → ReportsLast (kept replaces file' (scanned d no_scrape) (size x (mapped d))) phase' known old told images new counts
    → ReportsLast (kept replaces file (scanned e no_scrape) (size y (mapped e))) phase known old printed images new counts
last-as replaces file file' no_scrape d e x y phase phase' known old printed told images new counts kept_is device config is same reports =
    subst (λ (f : Option MapPathRecord). ReportsLast (kept replaces f (scanned e no_scrape) (size y (mapped e))) phase known old printed images new counts) kept_is
    (subst (λ (l : Listed). ReportsLast (kept replaces file' (scanned e no_scrape) (size y (mapped e))) phase known old l images new counts) same
    (subst (λ (p : Phase). ReportsLast (kept replaces file' (scanned e no_scrape) (size y (mapped e))) p known old told images new counts) is
    (subst (λ (c : Configuration). ReportsLast (kept replaces file' (scanned e no_scrape) (size c (mapped e))) phase' known old told images new counts) config
    (subst (λ (n : ℕ). ReportsLast (kept replaces file' (scanned n no_scrape) (size x (mapped n))) phase' known old told images new counts) device reports))))

pub last_end-as : {S : Type 0} (replaces : Replaces S) (file file' : Option MapPathRecord) (no_scrape : Bool) (d e : ℕ) (x y : Configuration) (phase phase' : Phase) (old : AfterTurns S) (images : S) (stack : StackRecord) (out : Device) (fault : PassFault)
    → file' ≡ file → d ≡ e → x ≡ y → phase' ≡ phase → EndsLast (kept replaces file' (scanned d no_scrape) (size x (mapped d))) phase' old images stack out fault
    → EndsLast (kept replaces file (scanned e no_scrape) (size y (mapped e))) phase old images stack out fault
last_end-as replaces file file' no_scrape d e x y phase phase' old images stack out fault kept_is device config is ends =
    subst (λ (f : Option MapPathRecord). EndsLast (kept replaces f (scanned e no_scrape) (size y (mapped e))) phase old images stack out fault) kept_is
    (subst (λ (p : Phase). EndsLast (kept replaces file' (scanned e no_scrape) (size y (mapped e))) p old images stack out fault) is
    (subst (λ (c : Configuration). EndsLast (kept replaces file' (scanned e no_scrape) (size c (mapped e))) phase' old images stack out fault) config
    (subst (λ (n : ℕ). EndsLast (kept replaces file' (scanned n no_scrape) (size x (mapped n))) phase' old images stack out fault) device ends)))
