use Rattle.std.proofs.Common.{◌/◌, ℕ, refl, subst, arith}
use Rattle.stack_lines.specs.AtOnce.{AreBefore}
use Rattle.stack_lines.proofs.lemmas.StandingLemmas.{knows-all, named-inside}
use Rattle.stack_lines.proofs.read_runs.go_at_once.Goals as goal

pub is_clear-requires : goal.is_clear-requires
is_clear-requires c = named-inside c.args.config.now c.requires.loaded c.args.part.now.verity.now.data c.args.part.now.data c.requires.blocks.of.on_data

pub returns : goal.returns
returns c sets sure =
    let x = c.args.part.now in
    let known = knows-all c.args.config.now c.requires.loaded c.args.cache.now.beneath sets x.verity.now.data x.data c.requires.blocks.of.on_data in
    record {
      few = omega (arith, c.if-count-gt-MOST.false);
      clear = c.is_clear.ensures c.args.config.now c.requires.loaded known sure;
      before = subst (λ (k : ℕ). AreBefore x.device.0 x.line (x.first / k) c.args.found.now) c.from-sectors.ensures (c.if-not-are_before.ensures refl);
    }
