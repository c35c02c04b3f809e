use Rattle.std.proofs.Common.{nat_lt, subst, sym, ap, ◌∙◌, refl, arith}
use Rattle.dm_table.specs.declared.table.Target.{Target}
use Rattle.dm_table.specs.declared.table.Target.TheVariants as target
use Rattle.stack_rules.specs.declared.lower.Lower.TheVariants.{Leaf as leaf}
use Rattle.stack_rules.specs.Records.{Configuration, configuration}
use Rattle.stack_rules.specs.Names.{names}
use Rattle.stack_rules.specs.Passing.{Mean}
use Rattle.stack_rules.specs.Rules.{is_tree_beyond}
use Rattle.stack_rules.specs.Trees.{line_tree_sectors}
use Rattle.stack_rules.proofs.lemmas.LastCaseLemmas.{verity_of-is}
use Rattle.stack_loader.proofs.LineRuleLemmas.{ends-name}
use Rattle.stack_loader.proofs.ranges.is_tree_beyond.Goals as goal

pub returns-in-Some : goal.returns-in-Some
returns-in-Some c =
    let c' : Configuration = configuration c.args.leaves.now c.args.devices.now in
    let v = c.in-Some.verity.now in
    let is = verity_of-is c.args.target.now v c.in-Some.ensures in
    let P : Target → Type 0 = λ target. Mean c' c.args.lowers.now (names target) in
    ap (nat_lt c.size_of.result) c.tree_sectors.ensures
    ∙ sym (ends-name c' c.args.lowers.now (names (target.Verity v)) 1 v.hash (leaf 0) c.size_of.result (line_tree_sectors v) (subst P is c.requires.lowers) (omega arith) refl c.size_of.ensures)
    ∙ ap (is_tree_beyond c') (sym is)
