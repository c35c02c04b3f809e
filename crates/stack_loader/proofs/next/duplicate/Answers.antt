use Rattle.std.proofs.Common.{◌∷◌, [], sym, ap, ◌∙◌}
use Rattle.std.specs.Prelude.{is_some}
use Rattle.std.specs.Str.{bytes_eq}
use Rattle.std.specs.HashMap.{get_by}
use Rattle.std.proofs.lemmas.Map.Text.{hash_map_updates_str}
use Rattle.stack_rules.specs.Rules.{first, duplicate_names}
use Rattle.stack_loader.proofs.DuplicateNameLemmas.{duplicate_more, names_more}
use Rattle.stack_loader.proofs.next.duplicate.Goals as goal

pub loop-entry-preserved : goal.loop-entry-preserved
loop-entry-preserved c =
    let earlier = c.loop-entry.invariant.0 in
    let fresh = sym (c.loop-entry.invariant.1.1 c.as_slice.result.now) ∙ ap is_some (sym c.in_ok-earlier.ensures.old) ∙ sym c.is_some.ensures ∙ c.if-is_some.false in (
      c.entry-item.result.name ∷ earlier,
      (
        duplicate_more earlier c.args.entries.now c.loop-entry.entry-index c.entry-item.result (first (duplicate_names [] c.args.entries.now)) c.loop-entry-test.true c.entry-item.is (rw c.as_slice.ensures at fresh) c.loop-entry.invariant.1.0,
        λ q. names_more c.entry-item.result.name q earlier _ (get_by (λ k. bytes_eq q k.now) c.loop-entry.names)
            (rw c.as_slice.ensures at (hash_map_updates_str c.as_slice.result.now c.loop-entry.names c.insert.new.map _ c.in_ok-earlier.ensures.updates q)) (c.loop-entry.invariant.1.1 q),
      ),
    )
