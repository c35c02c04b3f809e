use Rattle.std.proofs.Common.{inl, inr, refl}
use Rattle.std.proofs.lemmas.Result.{IfErr-weaker, on_ok_weaker}
use Rattle.find_commands.proofs.find.invoke_find.Goals as goal

pub returns-in-Err-clause-err : goal.returns-in-Err-clause-err
returns-in-Err-clause-err g c = inl (c.in-Err.ensures.err, refl)

pub returns-clause-ok : goal.returns-clause-ok
returns-clause-ok g c =
    on_ok_weaker c.find_on.result (λ prints. record { image = c.in-Ok.image; device' = c.find_on.new.device; opened = c.in-Ok.ensures.ok; prints = prints }) c.find_on.ensures.ok

pub returns-clause-err : goal.returns-clause-err
returns-clause-err g c =
    IfErr-weaker c.find_on.result _ _ (λ fault ends. inr (record { image = c.in-Ok.image; device' = c.find_on.new.device; opened = c.in-Ok.ensures.ok; ends = ends })) c.find_on.ensures.err
