use Rattle.std.proofs.Common.{inl, inr}
use Rattle.std.proofs.lemmas.Result.{IfErr-weaker, on_ok_weaker}
use Rattle.image_files.proofs.PlaceLemmas.{err-from}
use Rattle.image_files.proofs.places.grow_place.Goals as goal

pub returns-in_err-named-clause-err : goal.returns-in_err-named-clause-err
returns-in_err-named-clause-err g c =
    err-from c.from_residual.result _ c.in_err-named.field-0.0 c.from_residual.ensures.1 (inl c.in_err-named.ensures.err)

pub returns-then-named-clause-ok : goal.returns-then-named-clause-ok
returns-then-named-clause-ok g c =
    let named = rw c.if-named.true at c.in_ok-named.ensures.ok in
    on_ok_weaker c.grow_file.result (λ resized. inl (record { between = c.names_file.new.images; named = named; resized = resized })) c.grow_file.ensures.ok

pub returns-then-named-clause-err : goal.returns-then-named-clause-err
returns-then-named-clause-err g c =
    let named = rw c.if-named.true at c.in_ok-named.ensures.ok in
    IfErr-weaker c.grow_file.result _ _ (λ file failed. inr (record { between = c.names_file.new.images; named = named; failed = failed })) c.grow_file.ensures.err

pub returns-clause-ok : goal.returns-clause-ok
returns-clause-ok g c = inr (rw c.if-named.false at c.in_ok-named.ensures.ok)
