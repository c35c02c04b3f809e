use Rattle.std.proofs.Common.{◌≡◌, ◌+◌, ◌-◌, ◌%◌, ◌<◌, ℕ, min, refl, ap, ◌∙◌, arith}
use Rattle.std.proofs.lemmas.Nat.{mod_below}
use Rattle.stack_rules.specs.Trees.{block_sectors}
use Rattle.stack_lines.proofs.StripeLemmas.{part-longest}
use Rattle.stack_lines.proofs.lemmas.VerityLineLemmas.{data-whole, line-inside}
use Rattle.stack_lines.proofs.serve.block_run.Goals as goal

pub returns : goal.returns
returns c =
    let x = c.args.part in
    let u : ℕ = block_sectors x.verity.now in
    let w : ℕ = x.first in
    let some : 0 < u = (data-whole c.args.config.now x.device.0 x.line x.verity.now c.requires.loaded c.requires.part.is).some in
    let few : c.from-sectors.result ≡ u = c.from-sectors.ensures in
    let is : c.min-count.result ≡ min c.args.count (u - w % u) = c.min-count.ensures ∙ ap (λ (k : ℕ). min c.args.count (k - w % k)) few in
    let low = mod_below w u some in
    let line = line-inside c.args.config.now c.args.at.0.0 c.args.at.1 x.verity.now (w + c.args.count) c.requires.loaded c.requires.line.has in
    record {
      come = (refl, c.requires.place, refl, record { of = c.requires.part; within = omega (arith, is, low); inside = omega (arith, is, line) });
      some = omega (arith, is, c.requires.line.some, low);
      most = omega (arith, c.min-count.ensures);
      longest = part-longest u w c.args.count c.min-count.result some c.requires.line.some is;
      units = tt;
    }
