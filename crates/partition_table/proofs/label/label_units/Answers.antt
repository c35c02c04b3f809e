use Rattle.std.proofs.Common.{◌≡◌, ◌∙◌, ap, arith, sym}
use Rattle.partition_table.specs.Labels.{units_to}
use Rattle.partition_table.proofs.LabelLemmas.{units_to-none, units_to-more}
use Rattle.partition_table.proofs.label.label_units.Goals as goal

pub loop-index-init : goal.loop-index-init
loop-index-init c = c.new-units.ensures.items ∙ sym (units_to-none c.args.label.now)

pub loop-index-preserved : goal.loop-index-preserved
loop-index-preserved c = let more = units_to-more c.args.label.now c.loop-index.index in cc (c.in_ok-push.ensures.ok, more)

pub returns-clause-ok : goal.returns-clause-ok
returns-clause-ok c =
    let all : c.loop-index.index ≡ 36 = omega arith in
    c.loop-index.invariant ∙ ap (units_to c.args.label.now) all
