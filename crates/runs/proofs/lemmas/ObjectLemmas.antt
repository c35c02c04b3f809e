-- Lines as JSON values have no float.
use Rattle.std.proofs.Common.{◌≡◌, false, List, [], ◌∷◌, refl}
use Rattle.serde_json.specs.View.{items_of}
use Rattle.serde_json.specs.Written.{items_have_float}
use Rattle.runs.specs.declared.line.Line.{Line}
use Rattle.runs.specs.declared.line.Line.TheVariants as line
use Rattle.runs.specs.Objects.{hashes_json, runs_json}

pub plain_runs : (lines : List Line) → items_have_float (items_of (runs_json lines)) ≡ false
plain_runs [] = refl
plain_runs (line.Run run ∷ more) = plain_runs more
plain_runs (line.More ∷ more) = plain_runs more
plain_runs (line.Hash level n ∷ more) = plain_runs more

pub plain_hashes : (lines : List Line) → items_have_float (items_of (hashes_json lines)) ≡ false
plain_hashes [] = refl
plain_hashes (line.Run run ∷ more) = plain_hashes more
plain_hashes (line.More ∷ more) = plain_hashes more
plain_hashes (line.Hash level n ∷ more) = plain_hashes more
