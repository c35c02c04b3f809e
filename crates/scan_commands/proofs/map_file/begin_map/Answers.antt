use Rattle.std.proofs.lemmas.Result.{IfOk-weaker}
use Rattle.scan_commands.proofs.MapFileLemmas.{unread-size}
use Rattle.scan_commands.proofs.map_file.begin_map.Goals as goal

pub returns-in-None-clause-sectors : goal.returns-in-None-clause-sectors
returns-in-None-clause-sectors g c = IfOk-weaker c.new_map.result _ _ (λ begun unread. unread-size c.args.sectors begun unread) c.new_map.ensures.ok
