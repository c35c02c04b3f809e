-- What `diff` and `verify --all` print as JSON objects has no float.
use Rattle.std.proofs.Common.{◌≡◌, false, List, refl}
use Rattle.std.proofs.lemmas.Bool.{or_from}
use Rattle.serde_json.specs.Written.{has_float}
use Rattle.runs.specs.declared.line.Line.{Line}
use Rattle.runs.proofs.lemmas.ObjectLemmas.{plain_hashes, plain_runs}
use Rattle.tree_difference.specs.declared.difference.Totals.{Totals as Differences}
use Rattle.tree_survey.specs.declared.counts.Totals.{Totals as Counts}
use Rattle.verity_commands.specs.Objects.{checked_json, difference_json, survey_json}

pub plain_difference : (lines : List Line) (t : Differences) → has_float (difference_json lines t) ≡ false
plain_difference lines t = or_from _ _ (plain_runs lines) refl

pub plain_checked : (lines : List Line) (t : Differences) → has_float (checked_json lines t) ≡ false
plain_checked lines t = or_from _ _ (plain_hashes lines) (or_from _ _ (plain_runs lines) refl)

pub plain_survey : (lines : List Line) (t : Counts) → has_float (survey_json lines t) ≡ false
plain_survey lines t = or_from _ _ (plain_hashes lines) (or_from _ _ (plain_runs lines) refl)
