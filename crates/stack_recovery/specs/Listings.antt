-- Receivers of lost runs.
use Rattle.std.specs.Prelude.{◌≡◌, ℕ, Bool, false, List, ◌++◌, Option, Some, None}
use Rattle.std.specs.Io.KnownBytes.{Appends}
use Rattle.stack_recovery.specs.LostRuns.{LostRun}
use Rattle.stack_recovery.specs.Texts.{lost_text}

-- the text of the reported runs, if it is known; the runs themselves, if they are kept; and whether a run couldn't be reported
pub record Listed : Type 0 where
  pub text : Option (List ℕ)
  pub runs : Option (List LostRun)
  pub failed : Bool

-- a receiver that prints runs, and one that keeps them
abbrev pub listed : Option (List ℕ) → Bool → Listed
listed text failed = record { text = text; runs = None; failed = failed }

abbrev pub kept_runs : List LostRun → Bool → Listed
kept_runs runs failed = record { text = Some (lost_text runs); runs = Some runs; failed = failed }

-- runs that are kept are followed by these
abbrev pub KeepsMore : Option (List LostRun) → Option (List LostRun) → List LostRun → Type 0
KeepsMore None new more = Unit {0}
KeepsMore (Some old) None more = ⊥
KeepsMore (Some old) (Some new) more = new ≡ old ++ more

-- these runs were reported, unless a run couldn't be; that stays known
pub record Tells (old new : Listed) (more : List LostRun) : Type 0 where
  pub ok : new.failed ≡ false → Appends old.text new.text (lost_text more)
  pub listed : new.failed ≡ false → KeepsMore old.runs new.runs more
  pub kept : new.failed ≡ false → old.failed ≡ false
