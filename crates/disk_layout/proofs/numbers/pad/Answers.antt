use Rattle.std.proofs.Common.{ap, length, ◌∙◌}
use Rattle.disk_layout.proofs.AppendLemmas.{length-padded}
use Rattle.disk_layout.proofs.numbers.pad.Goals as goal

pub returns-clause-size : goal.returns-clause-size
returns-clause-size c =
    let text = c.args.text.now in
    ap length c.in_ok-resize.ensures.ok ∙ length-padded c.args.count _ text.items text.ok.0
