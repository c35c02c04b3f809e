use Rattle.std.proofs.Common.{rules, append_assoc}
use Rattle.rescue_map.specs.MapText.{run_words}
use Rattle.rescue_map.proofs.print.print_run.Goals as goal

pub returns-clause-ok : goal.returns-clause-ok
unfolding run_words
returns-clause-ok c = search (rules, append_assoc)
