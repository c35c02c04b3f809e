use Rattle.std.proofs.Common.{ap, ◌∙◌, arith}
use Rattle.sha2.specs.Sha256.{rounds, schedule}
use Rattle.sha256_lanes.proofs.rounds.four_steps.Goals as goal

pub returns : goal.returns
returns c = λ j lt b h words held.
    let after = rounds h (schedule b 48) in
    let s1 = c.step-v.ensures j lt b h words held in
    let s2 = c.step-v-2.ensures j lt b h words s1 in
    let s3 = c.step-v-3.ensures j lt b h words (s2 ∙ ap after (omega arith)) in
    c.step.ensures j lt b h words (s3 ∙ ap after (omega arith)) ∙ ap after (omega arith)
