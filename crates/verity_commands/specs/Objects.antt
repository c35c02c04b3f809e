-- What `diff` and `verify --all` print as JSON objects.
use Rattle.std.specs.Prelude.{List, codes}
use Rattle.serde_json.specs.Data.{Data, array, boolean, number, object, unsigned, member, no_members}
use Rattle.serde_json.specs.View.{items_of}
use Rattle.runs.specs.declared.line.Line.{Line}
use Rattle.runs.specs.Lines.{says_more}
use Rattle.runs.specs.Objects.{hashes_json, runs_json}
use Rattle.tree_difference.specs.declared.difference.Totals.{Totals as Differences}
use Rattle.tree_survey.specs.declared.counts.Totals.{Totals as Counts}

-- the runs of which the lines tell, whether there are more, and the totals
abbrev pub difference_json : List Line → Differences → Data
difference_json lines t =
    object
    (member (codes "added") (number (unsigned t.added))
    (member (codes "changed") (number (unsigned t.changed))
    (member (codes "more") (boolean (says_more lines))
    (member (codes "removed") (number (unsigned t.removed))
    (member (codes "runs") (array (items_of (runs_json lines)))
    (member (codes "same") (number (unsigned t.same))
    no_members))))))

-- the lines and totals of a comparison, with the invalid hash blocks
abbrev pub checked_json : List Line → Differences → Data
checked_json lines t =
    object
    (member (codes "added") (number (unsigned t.added))
    (member (codes "changed") (number (unsigned t.changed))
    (member (codes "hash_blocks") (array (items_of (hashes_json lines)))
    (member (codes "more") (boolean (says_more lines))
    (member (codes "removed") (number (unsigned t.removed))
    (member (codes "runs") (array (items_of (runs_json lines)))
    (member (codes "same") (number (unsigned t.same))
    no_members)))))))

-- the runs and the hash blocks of which the lines tell, and the totals
abbrev pub survey_json : List Line → Counts → Data
survey_json lines t =
    object
    (member (codes "changed") (number (unsigned t.changed))
    (member (codes "good") (number (unsigned t.good))
    (member (codes "hash_blocks") (array (items_of (hashes_json lines)))
    (member (codes "runs") (array (items_of (runs_json lines)))
    (member (codes "unknown") (number (unsigned t.unknown))
    no_members)))))
