use Rattle.std.proofs.Common.{◌≡◌, ◌+◌, ◌*◌, ◌<◌, ℕ, length, sym, ap, ◌∙◌, arith}
use Rattle.std.specs.Prelude.{slice_index}
use Rattle.reed_solomon.specs.Field.{total}
use Rattle.reed_solomon.specs.Sums.{part_sum}
use Rattle.reed_solomon.proofs.CodeLemmas.{total-start, total-next}
use Rattle.reed_solomon.proofs.ColumnLemmas.{added-more}
use Rattle.reed_solomon.proofs.sums.add_parity.Goals as goal

pub loop-k-init : goal.loop-k-init
loop-k-init c = sym (total-start (λ k. slice_index c.args.parity.now (c.loop-c.c * c.args.count + k)))

pub loop-k-preserved : goal.loop-k-preserved
loop-k-preserved c = cc (total-next (λ k. slice_index c.args.parity.now (c.loop-c.c * c.args.count + k)) c.loop-k.k, c.loop-k.invariant)

pub loop-c-preserved : goal.loop-c-preserved
loop-c-preserved c =
    let bytes = λ (k : ℕ). slice_index c.args.parity.now (c.loop-c.c * c.args.count + k) in
    let done : c.loop-k.k ≡ c.args.count = omega arith in
    let value : c.loop-k.sum ≡ part_sum c.args.count c.args.parity.now c.loop-c.c = c.loop-k.invariant ∙ ap (λ n. total bytes n) done in
    let fits : c.loop-c.c < length c.loop-c.sums = omega (arith, c.loop-c-test.true, c.loop-c.auto.sums) in
    added-more c.args.sums.now c.loop-c.sums (part_sum c.args.count c.args.parity.now) c.loop-c.c c.loop-k.sum fits value c.loop-c.invariant
