use Rattle.std.proofs.Common.{◌≡◌, ◌<◌, ◌≤◌, length, take, arith}
use Rattle.std.proofs.lemmas.List.{take_all}
use Rattle.stack_rules.specs.Names.{names}
use Rattle.stack_rules.proofs.lemmas.NameMeaningLemmas.{mean_more, mean_none}
use Rattle.stack_loader.proofs.resolve.line_lowers.Goals as goal

pub returns-in-None-clause-ok : goal.returns-in-None-clause-ok
returns-in-None-clause-ok c = λ c' is.
    let low : c.loop-i.i < length (names c.args.target.now) = omega (arith, c.loop-i-test.true, c.name_count-count.ensures.value) in
    mean_none c' (names c.args.target.now) c.loop-i.i c.name_at.result.now low c.name_at.ensures (c.in-None.ensures c' is)

pub loop-i-preserved : goal.loop-i-preserved
loop-i-preserved c = λ c' is.
    let low : c.loop-i.i < length (names c.args.target.now) = omega (arith, c.loop-i-test.true, c.name_count-count.ensures.value) in
    rw c.in_ok-push-in-Some.ensures.ok
    (mean_more c' c.loop-i.list.items (names c.args.target.now) c.loop-i.i c.name_at.result.now c.in-Some.lower low c.name_at.ensures (c.in-Some.ensures c' is) (c.loop-i.invariant c' is))

pub returns-clause-ok : goal.returns-clause-ok
returns-clause-ok c = λ c' is.
    let past : length (names c.args.target.now) ≤ c.loop-i.i = omega (arith, c.loop-i-test.false, c.name_count-count.ensures.value) in
    let all : take c.loop-i.i (names c.args.target.now) ≡ names c.args.target.now = take_all c.loop-i.i (names c.args.target.now) past in
    rw c.new.ensures (rw all at (c.loop-i.invariant c' is))
