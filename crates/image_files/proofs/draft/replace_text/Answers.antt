use Rattle.std.proofs.Common.{List, ℕ, string_bytes, Ok, Err, inl, inr, refl, ap, subst, ◌∙◌}
use Rattle.image_files.proofs.draft.replace_text.Goals as goal

pub returns-in-Err : goal.returns-in-Err
returns-in-Err g c =
    let r = g.C.FileCalls.relations in
    inr (inl (record {
      draft = c.in_ok-draft.draft;
      begun = c.create_draft.new.calls;
      failed = c.place.new.calls;
      is_draft = c.in_ok-draft.ensures.ok;
      is_unplaced = c.in-Err.ensures.err;
      removed = subst (λ (name : List ℕ). r.removes c.place.new.calls name c.remove.new.self)
          (c.as_str.ensures.value ∙ ap string_bytes c.in-Err.ensures.same.1) c.remove.ensures;
    }))

pub returns-in-Ok : goal.returns-in-Ok
returns-in-Ok g c = let r = g.C.FileCalls.relations in record {
  draft = c.in_ok-draft.draft;
  begun = c.create_draft.new.calls;
  placed = c.place.new.calls;
  is_draft = c.in_ok-draft.ensures.ok;
  is_placed = c.in_default.ensures.ok;
  listed = subst (λ (path : List ℕ). r.lists c.place.new.calls path (Ok (tt {0})) c.sync_folder.new.self)
      (c.as_str-2.ensures.value ∙ ap string_bytes c.in_default.ensures.same.0) c.in-Ok.ensures;
}

pub returns : goal.returns
returns g c =
    let r = g.C.FileCalls.relations in
    inr (inr (record {
      draft = c.in_ok-draft.draft;
      begun = c.create_draft.new.calls;
      placed = c.place.new.calls;
      cause = c.in-Err-sync_folder.field-0;
      fault_is = refl;
      is_draft = c.in_ok-draft.ensures.ok;
      is_placed = c.in_default.ensures.ok;
      failed = subst (λ (path : List ℕ). r.lists c.place.new.calls path (Err c.in-Err-sync_folder.field-0) c.sync_folder.new.self)
          (c.as_str-2.ensures.value ∙ ap string_bytes c.in_default.ensures.same.0) c.in-Err-sync_folder.ensures;
    }))
