-- Reports of passes of which more is known.
use Rattle.std.proofs.Common.{◌≡◌, ◌≤◌, ℕ, Bool, true, false, List, [], Option, Some, None, inl, inr, ap, ◌∙◌}
use Rattle.std.specs.Prelude.{is_some}
use Rattle.allocation.specs.declared.out_of_memory.OutOfMemory.{OutOfMemory}
use Rattle.allocation.specs.Asked.{refused_size}
use Rattle.allocation.proofs.lemmas.AskedLemmas.{asked-refused}
use Rattle.stack_recovery.specs.declared.listing.KeptRuns.{KeptRuns}
use Rattle.scan_commands.specs.declared.pass_counts.PassCounts.{PassCounts}
use Rattle.stack_recovery.specs.Listings.{Listed, kept_runs}
use Rattle.stack_recovery.specs.LostRuns.{LostRun}
use Rattle.charts.specs.declared.form.ReportForm.{ReportForm}
use Rattle.scan_commands.specs.declared.recovering_fault.RecoveringFault.{RecoveringFault}
use Rattle.scan_commands.specs.Reports.{AreKept, Early, IsRunRefused, IsUnreported, Reports, Whole, kept_text}

pub reports-more : (P Q : Whole) (form : ReportForm) (old new : Option (List ℕ)) → ((before : Listed) (counts : PassCounts) (told : Listed) → P before counts told → Q before counts told)
    → Reports P form old new → Reports Q form old new
reports-more P Q form old new more r = record {
  counts = r.counts;
  before = r.before;
  told = r.told;
  begun = r.begun;
  done = more r.before r.counts r.told r.done;
  reported = r.reported;
}

pub unreported-more : (S T : Early) (P Q : Whole) (form : ReportForm) (old new : Option (List ℕ)) (failed : Bool) (fault : RecoveringFault)
    → ((before told : Listed) → S before fault told → T before fault told) → ((before : Listed) (counts : PassCounts) (told : Listed) → P before counts told → Q before counts told)
    → IsUnreported S P form old new failed fault → IsUnreported T Q form old new failed fault
unreported-more S T P Q form old new failed fault stops more (inl s) = inl (record { before = s.before; told = s.told; begun = s.begun; stopped = stops s.before s.told s.stopped; kept = s.kept })
unreported-more S T P Q form old new failed fault stops more (inr l) = inr (record {
  counts = l.counts;
  before = l.before;
  told = l.told;
  begun = l.begun;
  done = more l.before l.counts l.told l.done;
  ends = l.ends;
})

-- at first no run is kept
pub none-kept : (runs : List LostRun) (refused : Option OutOfMemory) → runs ≡ [] → refused ≡ None → kept_runs runs (is_some refused) ≡ kept_runs [] false
none-kept runs refused none kept = ap (λ (rs : List LostRun). kept_runs rs (is_some refused)) none ∙ ap (λ (r : Option OutOfMemory). kept_runs [] (is_some r)) kept

-- none was refused
abbrev pub all-kept : (kept : KeptRuns) → is_some kept.refused ≡ false → AreKept (kept_text kept)
all-kept kept is = record { runs = kept.runs.items; same = ap (λ (b : Bool). kept_runs kept.runs.items b) is }

-- one was
abbrev pub one-unkept : (kept : KeptRuns) → is_some kept.refused ≡ true → IsRunRefused (kept_text kept)
one-unkept kept is = (is, asked-refused kept.refused 1 kept.few is)
