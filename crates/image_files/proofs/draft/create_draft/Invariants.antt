use Rattle.std.proofs.Common.{Ok, string_bytes}
use Rattle.image_files.specs.Drafts.{AreTaken}
use Rattle.image_files.proofs.draft.create_draft.Given as goal

-- the path is resolved, and the names so far are taken
abbrev pub invariant-loop-number : goal.invariant-loop-number
invariant-loop-number g l = record {
  resolved : g.C.FileCalls.relations.resolves l.fn.calls l.fn.path (Ok (string_bytes l.target)) l.calls;
  taken : AreTaken g.C.FileCalls.relations l.calls (string_bytes l.target) l.number;
}
