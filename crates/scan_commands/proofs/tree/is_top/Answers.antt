use Rattle.std.proofs.Common.{arith}
use Rattle.stack_rules.proofs.lemmas.ValidLineLemmas.{few}
use Rattle.scan_commands.proofs.tree.is_top.Goals as goal

pub bounds-printed-d : goal.bounds-printed-d
bounds-printed-d c = omega (arith, few c.args.config.now c.count-loaded.ensures.loaded.valid, c.requires)
