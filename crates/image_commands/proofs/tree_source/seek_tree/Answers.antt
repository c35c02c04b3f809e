use Rattle.std.proofs.Common.{refl}
use Rattle.std.proofs.lemmas.Result.{IfErr-weaker, IfOk-weaker}
use Rattle.image_commands.proofs.tree_source.seek_tree.Goals as goal

pub returns-in-Options-clause-ok : goal.returns-in-Options-clause-ok
returns-in-Options-clause-ok g c = rw c.in-Options.is (IfOk-weaker c.stated_tree.result _ _ (λ tree stated. (stated, refl)) c.stated_tree.ensures.ok)

pub returns-in-Options-clause-err : goal.returns-in-Options-clause-err
returns-in-Options-clause-err g c = rw c.in-Options.is (IfErr-weaker c.stated_tree.result _ _ (λ fault none. (none, refl)) c.stated_tree.ensures.err)
