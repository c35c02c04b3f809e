-- Texts that are written one after another, and how a report with a map ends.
use Rattle.std.proofs.Common.{◌≡◌, ℕ, Bool, List, ◌++◌, Option, Some, None, sym, ap, subst, ◌∙◌}
use Rattle.std.specs.Io.KnownBytes.{Appends}
use Rattle.std.proofs.lemmas.List.{append_assoc}
use Rattle.scan_commands.specs.declared.pass_counts.PassCounts.{PassCounts}
use Rattle.stack_recovery.specs.Listings.{Listed}
use Rattle.scan_commands.specs.declared.recovering_fault.RecoveringFault.{RecoveringFault}
use Rattle.scan_commands.specs.declared.recovering_fault.RecoveringFault.TheVariants.{Lost, LostAsSaid, NoMemory, OutputTooSmall, Pass, Stack, Write}
use Rattle.scan_commands.specs.Charts.{charted_text}
use Rattle.scan_commands.specs.Counting.{IsCountsEnd}
use Rattle.scan_commands.specs.Reports.{AreKept, IsChartEnd}

pub writes-then : (a b c : Option (List ℕ)) (xs ys : List ℕ) → Appends a b xs → Appends b c ys → Appends a c (xs ++ ys)
writes-then None b c xs ys p q = tt
writes-then (Some a) None c xs ys p q = absurd p
writes-then (Some a) (Some b) None xs ys p q = absurd q
writes-then (Some a) (Some b) (Some c) xs ys p q = q ∙ ap (λ (l : List ℕ). l ++ ys) p ∙ append_assoc a xs ys

-- after the lines and the map, the counts end a report
pub chart-end : (counts : PassCounts) (told middle : Listed) (old new : Option (List ℕ)) (failed : Bool) (fault : RecoveringFault) (kept : AreKept told)
    → Appends old middle.text (charted_text kept.runs counts.sectors) → IsCountsEnd counts middle new failed fault → IsChartEnd counts told old new failed fault
chart-end counts told middle old new failed (Lost of) kept written (are, some, is, whole) =
    (kept, are, some, let P : Option (List ℕ) → Type 0 = λ text. Appends old text (charted_text kept.runs counts.sectors) in subst P (sym is) written)
chart-end counts told middle old new failed Write kept written is = (kept, is)
chart-end counts told middle old new failed NoMemory kept written is = absurd is
chart-end counts told middle old new failed (Stack fault) kept written is = absurd is
chart-end counts told middle old new failed (OutputTooSmall needed) kept written is = absurd is
chart-end counts told middle old new failed (Pass fault) kept written is = absurd is
chart-end counts told middle old new failed LostAsSaid kept written is = absurd is
