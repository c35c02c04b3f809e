use Rattle.std.proofs.Common.{◌/◌, ap, ◌∙◌, arith}
use Rattle.alignment.specs.Lengths.{aligned_len}
use Rattle.stack_rules.specs.Records.{Configuration}
use Rattle.request_queue.proofs.at_once.piece_bytes.Goals as goal

pub returns : goal.returns
returns g c =
    let len = c.aligned_len.ensures in
    let is = len.value ∙ ap (λ (k : Configuration). aligned_len k c.args.device.0 c.args.first (c.args.left / 512) c.args.most) c.config.ensures.value in
    record {
      value = omega (arith, is);
      whole = omega arith;
      some = omega (arith, len.some);
      few = omega (arith, len.few);
      inside = omega (arith, len.inside);
    }
