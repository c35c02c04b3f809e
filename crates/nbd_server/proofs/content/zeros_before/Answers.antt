use Rattle.std.proofs.Common.{◌≤◌, ◌-◌, arith, drop, length, take}
use Rattle.nbd_server.proofs.ContentLemmas.{all-before, compared, front-more, some-before}
use Rattle.nbd_server.proofs.content.zeros_before.Goals as goal

pub returns-then-not-are_zeros : goal.returns-then-not-are_zeros
returns-then-not-are_zeros c =
    some-before c.args.bytes.now c.zeros.done c.min-end.result c.are_zeros.result c.min-end.ensures c.zeros.invariant.within (c.zeros.invariant.whole (omega (arith, c.zeros-test.true))) c.zeros.invariant.zeros
    c.are_zeros.ensures c.if-not-are_zeros.true

pub zeros-preserved : goal.zeros-preserved
zeros-preserved c =
    let above : c.zeros.done ≤ c.min-end.result = omega (arith, c.min-end.ensures, c.zeros-test.true) in
    let inside : c.min-end.result ≤ length c.args.bytes.now = omega (arith, c.min-end.ensures) in
    let block = take (c.min-end.result - c.zeros.done) (drop c.zeros.done c.args.bytes.now) in
    record {
      zeros = front-more c.args.bytes.now c.zeros.done c.min-end.result above inside c.zeros.invariant.zeros (compared block c.are_zeros.result c.are_zeros.ensures c.if-not-are_zeros.false);
      within = inside;
      whole = λ below. omega (arith, below, c.min-end.ensures, c.zeros.invariant.whole (omega (arith, c.zeros-test.true)));
    }

pub returns : goal.returns
returns c = all-before c.args.bytes.now c.zeros.done c.zeros.invariant.within c.zeros.invariant.zeros (omega (arith, c.zeros-test.false))
