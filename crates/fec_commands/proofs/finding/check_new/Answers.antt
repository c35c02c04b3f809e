use Rattle.std.proofs.Common.{inl, inr, refl}
use Rattle.std.proofs.lemmas.Result.{IfErr-weaker, on_ok_weaker}
use Rattle.fec_commands.proofs.finding.check_new.Goals as goal

pub returns-then-twice-clause-err : goal.returns-then-twice-clause-err
returns-then-twice-clause-err g c = inr (inl (record { one = rw c.if-twice.true at c.in_ok-twice.ensures.ok; is = (refl, refl) }))

pub returns-clause-ok : goal.returns-clause-ok
returns-clause-ok g c =
    on_ok_weaker c.check_path.result
    (λ can. record { between = c.is_made_twice.new.images; apart = rw c.if-twice.false at c.in_ok-twice.ensures.ok; can = can })
    c.check_path.ensures.ok

pub returns-clause-err : goal.returns-clause-err
returns-clause-err g c =
    IfErr-weaker c.check_path.result _ _
    (λ file fails. inr (inr (record { between = c.is_made_twice.new.images; apart = rw c.if-twice.false at c.in_ok-twice.ensures.ok; fails = fails })))
    c.check_path.ensures.err
