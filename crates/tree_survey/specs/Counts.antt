-- Runs and counts of data blocks, updated block by block.
use Rattle.std.specs.Prelude.{◌≡◌, ℕ, suc, ◌+◌, ◌^◌, ◌<◌, List, [], ◌∷◌, Option, Some, None}
use Rattle.runs.specs.declared.kind.Kind.TheVariants.{Changed, Unknown}
use Rattle.runs.specs.declared.run.Run.{Run}
use Rattle.runs.specs.declared.kind.Kind.{Kind}
use Rattle.runs.specs.declared.tally.Tally.{Tally}
use Rattle.runs.specs.Limits.{begun, limit_after, limited_lines}
use Rattle.runs.specs.Runs.{run}
use Rattle.runs.specs.Kinds.{is_same, State, count_of}
use Rattle.runs.specs.Tallies.{closed_by, listed, opened_by}
use Rattle.tree_survey.specs.declared.counts.Counts.{Counts}
use Rattle.tree_survey.specs.declared.counts.Totals.{Totals}

-- how many of the blocks are valid
abbrev pub good_of : List State → ℕ
good_of [] = 0
good_of (None ∷ more) = suc (good_of more)
good_of (Some kind ∷ more) = good_of more

abbrev pub totals_of : List State → Totals
totals_of states = record { good = good_of states; changed = count_of Changed states; unknown = count_of Unknown states }

-- the totals with one more block
abbrev pub counted : Totals → State → Totals
counted totals None = record { good = totals.good + 1; changed = totals.changed; unknown = totals.unknown }
counted totals (Some Changed) = record { good = totals.good; changed = totals.changed + 1; unknown = totals.unknown }
counted totals (Some Unknown) = record { good = totals.good; changed = totals.changed; unknown = totals.unknown + 1 }
counted totals (Some kind) = totals

pub record AreFew (totals : Totals) : Type 0 where
  pub good : totals.good < 2 ^ 54
  pub changed : totals.changed < 2 ^ 54
  pub unknown : totals.unknown < 2 ^ 54

-- the runs that end when a block of that state follows; `opened_at` is the run that stays open
abbrev pub closed_at : Option (Run Kind) → ℕ → State → List (Run Kind)
closed_at last i None = listed last
closed_at last i (Some kind) = closed_by is_same last (run i 1 kind)

abbrev pub opened_at : Option (Run Kind) → ℕ → State → Option (Run Kind)
opened_at last i None = None
opened_at last i (Some kind) = Some (opened_by is_same last (run i 1 kind))

-- what is reported of the runs that end
abbrev pub lines_at : Tally → ℕ → State → List ℕ
lines_at tally i state = limited_lines tally.limit (closed_at tally.last i state)

-- no data block was added
abbrev pub none_yet : Counts
none_yet = record { tally = record { last = None; limit = begun None }; totals = record { good = 0; changed = 0; unknown = 0 } }

-- data block i was added
pub record IsAdded (old new : Counts) (i : ℕ) (state : State) : Type 0 where
  pub last : new.tally.last ≡ opened_at old.tally.last i state
  pub limit : new.tally.limit ≡ limit_after old.tally.limit (closed_at old.tally.last i state)
  pub totals : new.totals ≡ counted old.totals state
