use Rattle.std.proofs.Common.{◌≤◌, ◌-◌, arith, drop, take}
use Rattle.nbd_server.proofs.ContentLemmas.{behind-more, compared, data-end, short-end, zeros-behind}
use Rattle.nbd_server.proofs.content.zeros_behind.Goals as goal

pub returns-then-not-are_zeros : goal.returns-then-not-are_zeros
returns-then-not-are_zeros c =
    let rest = c.zeros.rest in
    let before = c.zeros.invariant in
    zeros-behind c.args.bytes.now rest before.within before.zeros before.whole (data-end c.args.bytes.now rest c.are_zeros.result (omega (arith, c.zeros-test.true)) before.within c.are_zeros.ensures c.if-not-are_zeros.true)

pub zeros-preserved : goal.zeros-preserved
zeros-preserved c =
    let begin = c.zeros.rest - 4096 in
    let above : begin ≤ c.zeros.rest = omega arith in
    let block = take (c.zeros.rest - begin) (drop begin c.args.bytes.now) in
    record {
      zeros = behind-more c.args.bytes.now begin c.zeros.rest above c.zeros.invariant.within c.zeros.invariant.zeros (compared block c.are_zeros.result c.are_zeros.ensures c.if-not-are_zeros.false);
      within = omega (arith, c.zeros.invariant.within);
      whole = omega (arith, c.zeros.invariant.within, c.zeros.invariant.whole, c.zeros-test.true);
    }

pub returns : goal.returns
returns c =
    let rest = c.zeros.rest in
    let before = c.zeros.invariant in
    zeros-behind c.args.bytes.now rest before.within before.zeros before.whole (short-end c.args.bytes.now rest before.within (omega (arith, c.zeros-test.false)))
