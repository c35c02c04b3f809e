use Rattle.std.proofs.Common.{arith}
use Rattle.stack_config.proofs.LineOfLemmas.{IsIn-found}
use Rattle.stack_config.proofs.sectors.line_of.Goals as goal

pub overflow_sub-result-2 : goal.overflow_sub-result-2
overflow_sub-result-2 c =
    let all = IsIn-found c.lines-lines.result.now c.args.sector c.last_start-place.result c.index-lines-place.result (rw (← c.lines-lines.ensures.value) at c.requires.follow) (rw (← c.lines-lines.ensures.value) at c.requires.sector) c.last_start-place.ensures.within c.index-lines-place.is c.last_start-place.ensures.starts c.last_start-place.ensures.next in
    omega (arith, all.1, all.2)

pub returns : goal.returns
returns c =
    let all = IsIn-found c.lines-lines.result.now c.args.sector c.last_start-place.result c.index-lines-place.result (rw (← c.lines-lines.ensures.value) at c.requires.follow) (rw (← c.lines-lines.ensures.value) at c.requires.sector) c.last_start-place.ensures.within c.index-lines-place.is c.last_start-place.ensures.starts c.last_start-place.ensures.next in
    rw (← c.lines-lines.ensures.value) all.0
