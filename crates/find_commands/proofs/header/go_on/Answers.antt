use Rattle.std.proofs.lemmas.Result.{IfOk-weaker}
use Rattle.find_commands.proofs.HeaderLemmas.{goes-on-as}
use Rattle.find_commands.proofs.header.go_on.Goals as goal

pub returns-in-Some-clause-ok : goal.returns-in-Some-clause-ok
returns-in-Some-clause-ok g c =
    IfOk-weaker c.close_if_whole.result _ _
    (λ next closes. goes-on-as g.L.FindingList.receives c.args.list.now c.close_if_whole.new.list c.args.current c.in-Some.header c.grown.result next c.args.sector.now c.in-Some.is c.grown.ensures closes)
    c.close_if_whole.ensures.ok
