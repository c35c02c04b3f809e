use Rattle.std.proofs.Common.{◌≡◌, ◌∙◌, sym, ap, arith}
use Rattle.reed_solomon.specs.Correcting.{differing}
use Rattle.reed_solomon.proofs.CorrectingLemmas.{differing-none, differing-next}
use Rattle.reed_solomon.proofs.correcting.differing.Goals as goal

pub loop-i-init : goal.loop-i-init
loop-i-init c = (sym (differing-none c.args.v.now c.args.w.now), omega arith)

pub loop-i-preserved : goal.loop-i-preserved
loop-i-preserved c = (
  cc (differing-next c.args.v.now c.args.w.now c.loop-i.i, c.loop-i.invariant.0, c.other-count.ensures.value),
  omega (arith, c.loop-i.invariant.1, c.other-count.ensures.most),
)

pub returns : goal.returns
returns c =
    let done : c.loop-i.i ≡ 255 = omega (arith, c.loop-i-test.false) in
    c.loop-i.invariant.0 ∙ ap (λ n. differing c.args.v.now c.args.w.now n) done
