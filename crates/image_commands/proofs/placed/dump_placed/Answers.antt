use Rattle.std.proofs.Common.{inr}
use Rattle.std.proofs.lemmas.Result.{IfErr-weaker, on_ok_weaker}
use Rattle.image_commands.proofs.placed.dump_placed.Goals as goal

pub returns-clause-ok : goal.returns-clause-ok
returns-clause-ok g c =
    on_ok_weaker c.dump_behind.result (λ says. record { image = c.in_ok-image.image; opened = c.in_ok-image.ensures.ok; says = says }) c.dump_behind.ensures.ok

pub returns-clause-err : goal.returns-clause-err
returns-clause-err g c =
    IfErr-weaker c.dump_behind.result _ _ (λ fault ends. inr (record { image = c.in_ok-image.image; opened = c.in_ok-image.ensures.ok; ends = ends })) c.dump_behind.ensures.err
