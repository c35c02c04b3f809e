use Rattle.std.proofs.Common.{◌≤◌, ℕ, IsTrue, List, length, sym, ap, ◌∙◌, subst, arith}
use Rattle.std.specs.List.{list_any}
use Rattle.std.proofs.lemmas.List.{take_all}
use Rattle.stack_rules.specs.Lines.{names_at}
use Rattle.stack_lines.specs.Standing.{has_leaf, name_stands_on}
use Rattle.stack_lines.proofs.lemmas.StandingLemmas.{knows-lower, names-more, lower-inside}
use Rattle.stack_lines.proofs.ClearLemmas.{line-clear, names-clear-more}
use Rattle.stack_lines.proofs.leaf_sets.line_leaves.Goals as goal

pub loop-i-preserved : goal.loop-i-preserved
loop-i-preserved c =
    let config = c.args.config.now in
    let known = knows-lower config c.requires.loaded c.args.sets.now c.args.d.0 c.args.line c.loop-i.i c.lower-lower.result c.requires.below c.lower-lower.ensures in
    let has = c.lower_leaves.ensures config c.requires.loaded known in
    record {
      leaves = λ k.
          names-more config c.requires.loaded c.args.d.0 c.args.line c.loop-i.i c.lower-lower.result k (has_leaf c.loop-i.leaves k) (has_leaf c.lower_leaves.result k) (has_leaf c.union-leaves.result k)
          c.lower-lower.ensures (c.loop-i.invariant.leaves k) (has.leaves k) (c.union-leaves.ensures.leaves k);
      clear = names-clear-more config c.args.d.0 c.args.line c.loop-i.i c.args.target.now c.lower-lower.result c.loop-i.leaves.clear c.lower_leaves.result.clear c.union-leaves.result.clear c.lower-lower.ensures c.loop-i.invariant.clear has.clear c.union-leaves.ensures.clear;
    }

pub loop-i-init : goal.loop-i-init
loop-i-init c = record {
  leaves = λ k. c.empty-leaves.ensures.leaves k;
  clear = λ sure. (sym c.adds_no_fault.ensures ∙ subst IsTrue c.empty-leaves.ensures.clear sure, λ k y low is. absurd (omega (arith, low)));
}

pub lower-lower-requires-clause-name : goal.lower-lower-requires-clause-name
lower-lower-requires-clause-name c = omega (arith, c.loop-i-test.true, c.requires.names.1, ap (λ (ns : List (List ℕ)). length ns) c.requires.names.0)

pub lower_leaves-requires : goal.lower_leaves-requires
lower_leaves-requires c = lower-inside c.args.config.now c.requires.loaded c.args.d.0 c.args.line c.loop-i.i c.lower-lower.result c.lower-lower.ensures

pub returns : goal.returns
returns c =
    let all = names_at c.args.config.now c.args.d.0 c.args.line in
    let past : length all ≤ c.loop-i.i = omega (arith, c.loop-i-test.false, c.requires.names.1, ap (λ (ns : List (List ℕ)). length ns) c.requires.names.0) in
    record {
      leaves = λ k. c.loop-i.invariant.leaves k ∙ ap (list_any (name_stands_on c.args.config.now k)) (take_all c.loop-i.i all past);
      clear = λ sure.
          line-clear c.args.config.now c.args.d.0 c.args.line c.loop-i.i c.args.target.now c.requires.loaded c.requires.names.0 (omega (arith, c.loop-i-test.false, c.requires.names.1))
          (c.loop-i.invariant.clear sure);
    }
