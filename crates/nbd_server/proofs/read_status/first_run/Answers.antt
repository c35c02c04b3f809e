use Rattle.std.proofs.Common.{◌<◌, ◌≤◌, ◌-◌, arith, drop, inl, inr, length, take, ◌∙◌}
use Rattle.std.proofs.lemmas.Bool.{cases_lt}
use Rattle.nbd_server.proofs.ContentLemmas.{compared, front-more}
use Rattle.nbd_server.proofs.ReadStatusLemmas.{alike, first-zeros, front-block, next-block, unlike}
use Rattle.nbd_server.proofs.read_status.first_run.Goals as goal

pub run-init : goal.run-init
run-init c =
    let done = c.min-done.result in
    let inside : done ≤ length c.args.bytes.now = omega (arith, c.min-done.ensures) in
    record {
      some = omega (arith, c.min-done.ensures, c.requires.some);
      within = inside;
      zeros = λ sure. first-zeros c.args.bytes.now done c.are_zeros-zeros.result inside c.are_zeros-zeros.ensures sure;
      blocks = λ k below. front-block c.args.at c.args.bytes.now k done c.are_zeros-zeros.result c.min-done.ensures below c.are_zeros-zeros.ensures;
      aligned = λ left. omega (arith, left, c.min-done.ensures);
    }

pub returns-then-same-zeros : goal.returns-then-same-zeros
returns-then-same-zeros c =
    let before = c.run.invariant in
    let more : c.run.done < length c.args.bytes.now = omega (arith, c.run-test.true) in
    record {
      some = before.some;
      few = before.within;
      zeros = before.zeros;
      blocks = before.blocks;
      ends = inr (next-block c.args.at c.args.bytes.now c.run.done c.run.done c.min-end.result c.are_zeros-same.result (before.aligned more) c.min-end.ensures (omega arith) (omega (arith, c.min-end.ensures, more)) c.are_zeros-same.ensures
          ∙ unlike c.are_zeros-same.result c.are_zeros-zeros.result c.if-same-zeros.true);
    }

pub run-preserved : goal.run-preserved
run-preserved c =
    let before = c.run.invariant in
    let end = c.min-end.result in
    let more : c.run.done < length c.args.bytes.now = omega (arith, c.run-test.true) in
    let above : c.run.done ≤ end = omega (arith, c.min-end.ensures, more) in
    let inside : end ≤ length c.args.bytes.now = omega (arith, c.min-end.ensures) in
    let block = take (end - c.run.done) (drop c.run.done c.args.bytes.now) in
    let same = alike c.are_zeros-same.result c.are_zeros-zeros.result c.if-same-zeros.false in
    record {
      some = omega (arith, above, before.some);
      within = inside;
      zeros = λ sure. front-more c.args.bytes.now c.run.done end above inside (before.zeros sure) (compared block c.are_zeros-same.result c.are_zeros-same.ensures (same ∙ sure));
      blocks = λ k below. elim (cases_lt k c.run.done) [
        | inl front ↦ before.blocks k front
        | inr behind ↦ next-block c.args.at c.args.bytes.now k c.run.done end c.are_zeros-same.result (before.aligned more) c.min-end.ensures (omega (arith, behind)) below c.are_zeros-same.ensures ∙ same
      ];
      aligned = λ left. omega (arith, left, c.min-end.ensures, before.aligned more);
    }

pub returns : goal.returns
returns c =
    let before = c.run.invariant in
    record { some = before.some; few = before.within; zeros = before.zeros; blocks = before.blocks; ends = inl (omega (arith, before.within, c.run-test.false)) }
