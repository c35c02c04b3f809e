-- The counts as a JSON object have no float.
use Rattle.std.proofs.Common.{◌≡◌, false, refl}
use Rattle.serde_json.specs.Written.{has_float}
use Rattle.update_commands.specs.declared.counts.Counts.{Counts}
use Rattle.update_commands.specs.Counts.{counts_json}

pub plain_counts : (c : Counts) → has_float (counts_json c) ≡ false
plain_counts c = refl
