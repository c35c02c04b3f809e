-- The lines that are printed for lost sectors.
use Rattle.std.specs.Prelude.{ℕ, List, ◌++◌, codes, decimal}
use Rattle.std.specs.List.{flat_map}
use Rattle.io_fault_text.specs.Texts.{io_words}
use Rattle.stack_recovery.specs.declared.lost_run.Loss.{Loss}
use Rattle.stack_recovery.specs.declared.lost_run.Loss.TheVariants.{Lost, Unscraped}
use Rattle.stack_recovery.specs.LostRuns.{LostRun}
use Rattle.stack_recovery.specs.Surveys.{fault_of}

abbrev pub loss_word : Loss → List ℕ
loss_word (Lost fault) = codes "lost"
loss_word (Unscraped fault) = codes "unscraped"

-- `lost FIRST COUNT FAULT`, or `unscraped FIRST COUNT FAULT`
unfoldable pub lost_run_text : LostRun → List ℕ
lost_run_text run = loss_word run.kind ++ (codes " " ++ (decimal run.first ++ (codes " " ++ (decimal run.count ++ (codes " " ++ io_words (fault_of run.kind))))))

-- a line for each run
abbrev pub lost_text : List LostRun → List ℕ
lost_text runs = flat_map lost_run_text runs
