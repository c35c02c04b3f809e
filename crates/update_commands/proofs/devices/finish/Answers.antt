use Rattle.std.proofs.Common.{inl, inr, refl}
use Rattle.std.proofs.lemmas.Result.{IfErr-weaker, on_ok_weaker}
use Rattle.update_commands.proofs.devices.finish.Goals as goal

pub returns-in-Ok-clause-ok : goal.returns-in-Ok-clause-ok
returns-in-Ok-clause-ok g c = on_ok_weaker c.say_counts.result (λ counted. record { sealed = c.in-Ok.ensures.ok; counted = counted }) c.say_counts.ensures.ok

pub returns-in-Ok-clause-err : goal.returns-in-Ok-clause-err
returns-in-Ok-clause-err g c = IfErr-weaker c.say_counts.result _ _ (λ fault uncounted. inr (record { sealed = c.in-Ok.ensures.ok; uncounted = uncounted })) c.say_counts.ensures.err

pub returns-in-Err-clause-err : goal.returns-in-Err-clause-err
returns-in-Err-clause-err g c = inl (record { unsealed = c.in-Err.ensures.err; is = refl; quiet = refl })
