-- Lines as JSON values.
use Rattle.std.specs.Prelude.{ℕ, List, [], ◌∷◌, codes}
use Rattle.std.specs.List.{flat_map}
use Rattle.serde_json.specs.Data.{Data, number, object, string, unsigned, member, no_members}
use Rattle.runs.specs.declared.line.Line.{Line}
use Rattle.runs.specs.declared.line.Line.TheVariants as line
use Rattle.runs.specs.declared.run.Run.{Run}
use Rattle.runs.specs.declared.kind.Kind.{Kind}
use Rattle.runs.specs.Texts.{kind_name}

-- a run by its kind, its first data block and its number of blocks
abbrev pub run_json : Run Kind → Data
run_json run =
    object
    (member (codes "count") (number (unsigned run.count))
    (member (codes "first") (number (unsigned run.first))
    (member (codes "state") (string (kind_name run.kind))
    no_members)))

-- a hash block by its level and its index within the level
abbrev pub hash_json : ℕ → ℕ → Data
hash_json level n = object (member (codes "index") (number (unsigned n)) (member (codes "level") (number (unsigned level)) no_members))

abbrev pub run_items : Line → List Data
run_items (line.Run run) = run_json run ∷ []
run_items line.More = []
run_items (line.Hash level n) = []

abbrev pub hash_items : Line → List Data
hash_items (line.Hash level n) = hash_json level n ∷ []
hash_items (line.Run run) = []
hash_items line.More = []

-- the runs and the hash blocks in the lines
abbrev pub runs_json : List Line → List Data
runs_json lines = flat_map run_items lines

abbrev pub hashes_json : List Line → List Data
hashes_json lines = flat_map hash_items lines
