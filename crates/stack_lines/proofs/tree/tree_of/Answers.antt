use Rattle.std.proofs.Common.{◌≡◌, Result, Err, Some, None, sym, ap, ◌∙◌}
use Rattle.std.specs.Result.{result_err}
use Rattle.stack_config.proofs.lemmas.VerityLineLemmas.{verity-shape}
use Rattle.stack_lines.proofs.lemmas.VerityLineLemmas.{line-facts}
use Rattle.stack_lines.proofs.tree.tree_of.Goals as goal

not-refused : {A B : Type 0} (r : Result A B) (fault : B) → r ≡ Err fault → result_err r ≡ None → ⊥
not-refused r fault is none = let clash : Some fault ≡ None = sym (ap result_err is) ∙ none in cc

pub unreachable-requires : goal.unreachable-requires
unreachable-requires c =
    let x = c.args.part.now in
    let facts = line-facts c.args.config.now x.device.0 x.line x.verity.now c.requires.loaded c.requires.part.is in
    let none = verity-shape c.args.config.now x.device.0 c.requires.part.is.line x.verity.now facts.0 facts.1 facts.2 in
    not-refused c.new.result c.in-Err.field-0 c.in-Err.is (c.new.ensures.fault ∙ none)
