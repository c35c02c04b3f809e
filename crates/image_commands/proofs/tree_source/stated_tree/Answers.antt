use Rattle.std.proofs.Common.{ap, ◌∙◌}
use Rattle.verity_format.specs.Trees.{tree_alone}
use Rattle.image_commands.proofs.tree_source.stated_tree.Goals as goal

pub returns-in-Ok-clause-ok : goal.returns-in-Ok-clause-ok
returns-in-Ok-clause-ok c = record { shape = c.in-Ok.ensures.ok.1; is = c.tree_alone.ensures.value ∙ ap tree_alone c.in-Ok.ensures.ok.0 }

pub returns-in-Err-clause-err : goal.returns-in-Err-clause-err
returns-in-Err-clause-err c = c.in-Err.ensures.err.1
