use Rattle.std.proofs.lemmas.Result.{IfErr-weaker}
use Rattle.update_commands.proofs.devices.repair_silently.Goals as goal

pub returns-clause-err : goal.returns-clause-err
returns-clause-err g c = IfErr-weaker c.repair_devices.result.3 _ _ (λ fault ends. (c.repair_devices.new.writer.failed, ends)) c.repair_devices.ensures.err
