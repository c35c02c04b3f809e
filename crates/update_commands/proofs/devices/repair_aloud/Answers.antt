use Rattle.std.proofs.Common.{refl}
use Rattle.std.proofs.lemmas.Result.{IfErr-weaker, on_ok_weaker}
use Rattle.update_commands.proofs.devices.repair_aloud.Goals as goal

pub returns-then-json-clause-ok : goal.returns-then-json-clause-ok
returns-then-json-clause-ok g c = rw c.if-json.true (on_ok_weaker c.repair_silently.result.3 (λ repairs. (repairs, refl)) c.repair_silently.ensures.ok)

pub returns-then-json-clause-err : goal.returns-then-json-clause-err
returns-then-json-clause-err g c = rw c.if-json.true (IfErr-weaker c.repair_silently.result.3 _ _ (λ fault ends. (ends, refl)) c.repair_silently.ensures.err)

pub returns-clause-ok : goal.returns-clause-ok
returns-clause-ok g c = rw c.if-json.false c.repair_devices.ensures.ok

pub returns-clause-err : goal.returns-clause-err
returns-clause-err g c = rw c.if-json.false c.repair_devices.ensures.err
