use Rattle.std.proofs.Common.{string_bytes}
use Rattle.std.proofs.lemmas.Result.{IfErr-weaker, IfOk-weaker}
use Rattle.allocation.specs.Asked.{asked}
use Rattle.partition_commands.specs.Names.{numbered_name}
use Rattle.partition_commands.proofs.NameLemmas.{length-digits, room-digits}
use Rattle.partition_commands.proofs.names.numbered_name.Goals as goal

pub returns-clause-ok : goal.returns-clause-ok
unfolding numbered_name
returns-clause-ok c = rw c.format.ensures.text at c.joined.ensures.ok

pub returns-clause-err : goal.returns-clause-err
returns-clause-err c = IfErr-weaker c.joined.result _ _ (λ e was. room-digits (asked e) c.format.result.now was.0 c.format.ensures.short) c.joined.ensures.err

pub returns-clause-short : goal.returns-clause-short
returns-clause-short c = IfOk-weaker c.joined.result _ _ (λ name is. length-digits (string_bytes name) c.format.result.now is c.format.ensures.short) c.joined.ensures.ok
