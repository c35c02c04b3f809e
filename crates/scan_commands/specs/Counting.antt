-- How many sectors of a device were read, how many are lost or unscraped, and how many blocks were restored.
use Rattle.std.specs.Prelude.{◌≡◌, ℕ, ◌++◌, ◌==◌, ◌||◌, nat_lt, Bool, true, false, List, codes, decimal, Option, if◌then◌else◌}
use Rattle.std.specs.Io.KnownBytes.{Appends}
use Rattle.program_io.specs.Counted.{CountedRecord}
use Rattle.scan_commands.specs.declared.rescue_fault.PassFault.{PassFault}
use Rattle.stack_files.specs.declared.stack_fault.StackFault.{StackFault}
use Rattle.stack_recovery.specs.declared.recovery.Counts.{Counts}
use Rattle.scan_commands.specs.declared.pass_counts.PassCounts.{PassCounts}
use Rattle.stack_recovery.specs.Listings.{Listed, listed}
use Rattle.scan_commands.specs.declared.recovering_fault.RecoveringFault.{RecoveringFault}
use Rattle.scan_commands.specs.declared.recovering_fault.RecoveringFault.TheVariants.{Lost, Pass, Stack, Write}

-- relations of what a counted writer held before and holds afterwards; the second also of whether it failed, and of a fault
abbrev pub PrintedBy : {T : Type 0} → (T → Option (List ℕ)) → CountedRecord T → CountedRecord T → (Option (List ℕ) → Option (List ℕ) → Type 0) → Type 0
PrintedBy contents old new Prints = Prints (contents old.inner) (contents new.inner)

abbrev pub EndsPrintedBy : {T : Type 0} → (T → Option (List ℕ)) → CountedRecord T → CountedRecord T → (Option (List ℕ) → Option (List ℕ) → Bool → RecoveringFault → Type 0) → RecoveringFault → Type 0
EndsPrintedBy contents old new Ends fault = Ends (contents old.inner) (contents new.inner) new.failed fault

-- there is no such device
abbrev pub IsRecoveryStackless : (StackFault → Type 0) → RecoveringFault → Type 0
IsRecoveryStackless Fails (Stack fault) = Fails fault
IsRecoveryStackless Fails fault = ⊥

-- the pass over the device ended early
abbrev pub IsPassEnd : (PassFault → Type 0) → RecoveringFault → Type 0
IsPassEnd Ends (Pass fault) = Ends fault
IsPassEnd Ends fault = ⊥

-- the end of the line of the counts: how many blocks were restored, if any
abbrev pub restored_text : ℕ → List ℕ
restored_text restored = if restored == 0 then codes "\n" else codes " restored " ++ (decimal restored ++ codes "\n")

-- if no sector is unscraped, and else
abbrev pub tried_text : ℕ → ℕ → List ℕ → List ℕ
tried_text read lost end = codes "read " ++ (decimal read ++ (codes " lost " ++ (decimal lost ++ end)))

abbrev pub untried_text : ℕ → ℕ → ℕ → List ℕ → List ℕ
untried_text read lost untried end = codes "read " ++ (decimal read ++ (codes " lost " ++ (decimal lost ++ (codes " untried " ++ (decimal untried ++ end)))))

-- how many sectors of a device were read, how many are lost, how many are unscraped, and how many blocks were restored, if any
abbrev pub counts_text : PassCounts → List ℕ
counts_text c = if c.sectors.untried == 0 then tried_text c.sectors.read c.sectors.lost (restored_text c.restored) else untried_text c.sectors.read c.sectors.lost c.sectors.untried (restored_text c.restored)

-- sectors are lost or unscraped
abbrev pub has_missing : Counts → Bool
has_missing c = nat_lt 0 c.lost || nat_lt 0 c.untried

-- what a counted writer holds, and whether it failed
abbrev pub listed_by : {T : Type 0} → (T → Option (List ℕ)) → CountedRecord T → Listed
listed_by contents writer = listed (contents writer.inner) writer.failed

-- all sectors were read, and the counts were printed
abbrev pub TellsCounts : PassCounts → Option (List ℕ) → Option (List ℕ) → Type 0
TellsCounts counts old new = (has_missing counts.sectors ≡ false) × Appends old new (counts_text counts)

-- sectors are lost or unscraped, or this line or an earlier one can't be written
abbrev pub IsCountsEnd : PassCounts → Listed → Option (List ℕ) → Bool → RecoveringFault → Type 0
IsCountsEnd counts old new failed (Lost of) = (of ≡ counts) × (has_missing counts.sectors ≡ true) × (new ≡ old.text) × (old.failed ≡ false)
IsCountsEnd counts old new failed Write = failed ≡ true
IsCountsEnd counts old new failed fault = ⊥

-- why the counts weren't printed, by a counted writer before and after
abbrev pub EndsCounts : {T : Type 0} → (T → Option (List ℕ)) → CountedRecord T → CountedRecord T → PassCounts → RecoveringFault → Type 0
EndsCounts contents old new counts fault = IsCountsEnd counts (listed_by contents old) (contents new.inner) new.failed fault

abbrev pub TellsCountsBy : {T : Type 0} → (T → Option (List ℕ)) → CountedRecord T → CountedRecord T → PassCounts → Type 0
TellsCountsBy contents old new counts = (old.failed ≡ false) × TellsCounts counts (contents old.inner) (contents new.inner)
