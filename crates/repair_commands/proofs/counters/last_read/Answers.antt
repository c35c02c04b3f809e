use Rattle.std.proofs.Common.{ap, arith, sym, ◌∙◌}
use Rattle.repair_commands.proofs.CounterLemmas.{last-read}
use Rattle.repair_commands.proofs.counters.last_read.Goals as goal

pub returns : goal.returns
returns g c =
    let state = g.C.BlockDev.state in
    c.reads.ensures
    ∙ ap (λ device. (state device).reads) c.index-copies-count.is
    ∙ sym (last-read state c.args.copies.now _ _ (omega (arith, c.if-count-eq0.false)) (omega arith))
