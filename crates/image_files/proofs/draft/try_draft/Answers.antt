use Rattle.std.proofs.Common.{List, ℕ, subst}
use Rattle.image_files.proofs.draft.try_draft.Goals as goal

pub returns : goal.returns
returns g c =
    let begun = c.create_draft.new.calls in
    record {
      draft = c.in_ok-tried.tried;
      begun = begun;
      is_draft = c.in_ok-tried.ensures.ok;
      removed = subst (λ (name : List ℕ). g.C.FileCalls.relations.removes begun name c.remove.new.self) c.as_str.ensures.value c.remove.ensures;
    }
