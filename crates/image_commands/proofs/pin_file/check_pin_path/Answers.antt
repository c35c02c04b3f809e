use Rattle.std.proofs.Common.{inl, inr, refl}
use Rattle.std.proofs.lemmas.Result.{IfErr-weaker, on_ok_weaker}
use Rattle.image_commands.proofs.pin_file.check_pin_path.Goals as goal

pub returns-in-Err-clause-err : goal.returns-in-Err-clause-err
returns-in-Err-clause-err g c = inl c.in-Err.ensures.err

pub returns-in-Ok-clause-ok : goal.returns-in-Ok-clause-ok
returns-in-Ok-clause-ok g c =
    on_ok_weaker c.check_old_text.result
    (λ old. record { told = c.check_apart.new.images; drafted = c.try_replace.new.self; apart = c.in_default.ensures.ok; tried = c.in-Ok.ensures; replaces = old })
    c.check_old_text.ensures.ok

pub returns-in-Ok-clause-err : goal.returns-in-Ok-clause-err
returns-in-Ok-clause-err g c =
    IfErr-weaker c.check_old_text.result _ _
    (λ fault other. inr (inr (record { told = c.check_apart.new.images; drafted = c.try_replace.new.self; apart = c.in_default.ensures.ok; tried = c.in-Ok.ensures; refuses = other })))
    c.check_old_text.ensures.err

pub returns-in-Err-try_replace-clause-err : goal.returns-in-Err-try_replace-clause-err
returns-in-Err-try_replace-clause-err g c =
    inr (inl (record { told = c.check_apart.new.images; cause = c.in-Err-try_replace.fault; apart = c.in_default.ensures.ok; tried = c.in-Err-try_replace.ensures; is = refl }))
