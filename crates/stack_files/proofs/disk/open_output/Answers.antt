use Rattle.std.proofs.Common.{inl, inr}
use Rattle.std.proofs.lemmas.Result.{IfErr-weaker, IfOk-weaker}
use Rattle.stack_files.proofs.OpeningLemmas.{err-from}
use Rattle.stack_files.proofs.disk.open_output.Goals as goal

pub returns-in_err-make_room-clause-err : goal.returns-in_err-make_room-clause-err
returns-in_err-make_room-clause-err g c =
    err-from c.from_residual.result _ c.in_err-make_room.field-0.0 c.from_residual.ensures.1 (inl c.in_err-make_room.ensures.err)

pub returns-clause-ok : goal.returns-clause-ok
returns-clause-ok g c =
    IfOk-weaker c.open_apart.result _ _
    (λ image opened. record { between = c.make_room.new.images; room = c.in_ok-make_room.ensures.ok; opened = opened }) c.open_apart.ensures.ok

pub returns-clause-writable : goal.returns-clause-writable
returns-clause-writable g c = IfOk-weaker c.open_apart.result _ _ (λ image fresh. fresh.may_write) c.open_apart.ensures.fresh

pub returns-clause-err : goal.returns-clause-err
returns-clause-err g c =
    IfErr-weaker c.open_apart.result _ _
    (λ file refused. inr (record { between = c.make_room.new.images; room = c.in_ok-make_room.ensures.ok; refused = refused })) c.open_apart.ensures.err
