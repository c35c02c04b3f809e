use Rattle.std.proofs.Common.{inl, inr}
use Rattle.std.proofs.lemmas.Result.{IfErr-weaker, IfOk-weaker}
use Rattle.image_files.proofs.places.open_place.Goals as goal

pub returns-in-Ok-Some-clause-ok : goal.returns-in-Ok-Some-clause-ok
returns-in-Ok-Some-clause-ok g c = inl (rw c.in-Ok-Some.field-0-is at c.in-Ok-Some.ensures.ok)

pub returns-in-Ok-Some-clause-fresh : goal.returns-in-Ok-Some-clause-fresh
returns-in-Ok-Some-clause-fresh g c = rw c.in-Ok-Some.field-0-is at c.in-Ok-Some.ensures.fresh

pub returns-in-Ok-None-clause-ok : goal.returns-in-Ok-None-clause-ok
returns-in-Ok-None-clause-ok g c =
    let missing = rw c.in-Ok-None.field-0-is at c.in-Ok-None.ensures.ok in
    IfOk-weaker c.open_named.result _ _ (λ image opened. inr (record { between = c.find_whole.new.images; missing = missing; opened = opened })) c.open_named.ensures.ok

pub returns-in-Ok-None-clause-err : goal.returns-in-Ok-None-clause-err
returns-in-Ok-None-clause-err g c =
    let missing = rw c.in-Ok-None.field-0-is at c.in-Ok-None.ensures.ok in
    IfErr-weaker c.open_named.result _ _ (λ file refused. inr (record { between = c.find_whole.new.images; missing = missing; refused = refused })) c.open_named.ensures.err
