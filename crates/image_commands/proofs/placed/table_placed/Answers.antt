use Rattle.std.proofs.Common.{inr}
use Rattle.std.proofs.lemmas.Result.{IfErr-weaker, on_ok_weaker}
use Rattle.image_commands.proofs.placed.table_placed.Goals as goal

pub returns-clause-ok : goal.returns-clause-ok
returns-clause-ok g c =
    on_ok_weaker c.table_behind.result (λ says. record { image = c.in_ok-image.image; opened = c.in_ok-image.ensures.ok; says = says }) c.table_behind.ensures.ok

pub returns-clause-err : goal.returns-clause-err
returns-clause-err g c =
    IfErr-weaker c.table_behind.result _ _ (λ fault ends. inr (record { image = c.in_ok-image.image; opened = c.in_ok-image.ensures.ok; ends = ends })) c.table_behind.ensures.err
