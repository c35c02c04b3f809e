use Rattle.std.proofs.Common.{inr, refl}
use Rattle.std.proofs.lemmas.Result.{IfErr-weaker}
use Rattle.partition_commands.proofs.LoadLemmas.{text-end}
use Rattle.partition_commands.proofs.NoteLemmas.{on_err-any}
use Rattle.partition_commands.proofs.image.say_stack.Goals as goal

pub returns-clause-ok : goal.returns-clause-ok
returns-clause-ok g c = rw (c.deref.ensures.value, c.in_ok-text.ensures.ok) at c.say_loadable.ensures.ok

pub returns-clause-err : goal.returns-clause-err
returns-clause-err g c =
    let ended = rw (c.deref.ensures.value, c.in_ok-text.ensures.ok) at c.say_loadable.ensures.err in
    IfErr-weaker c.say_loadable.result _ _ (λ fault ends. text-end _ _ _ _ c.say_loadable.new.writer.failed fault (λ memory. memory) (λ refused. inr refused) ends) ended

pub returns-in_err-text-clause-quiet : goal.returns-in_err-text-clause-quiet
returns-in_err-text-clause-quiet g c = on_err-any c.from_residual.result _ (λ fault. inr refl)
