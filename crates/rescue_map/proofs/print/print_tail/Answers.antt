use Rattle.std.proofs.Common.{rules, append_assoc}
use Rattle.rescue_map.specs.MapText.{tail_words}
use Rattle.rescue_map.proofs.print.print_tail.Goals as goal

pub returns-clause-ok : goal.returns-clause-ok
unfolding tail_words
returns-clause-ok c = search (rules, append_assoc)
