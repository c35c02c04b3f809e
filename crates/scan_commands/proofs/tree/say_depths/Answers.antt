use Rattle.std.proofs.Common.{◌≡◌, ◌-◌, ℕ, refl, subst, arith}
use Rattle.stack_rules.specs.Rules.{most_depth}
use Rattle.scan_commands.specs.Trees.{depths_shown, tops_shown}
use Rattle.scan_commands.specs.TreeViews.{bound}
use Rattle.scan_commands.proofs.TreeLemmas.{IsShown, shown-more, shown-none}
use Rattle.scan_commands.proofs.tree.say_depths.Goals as goal

pub depths-init : goal.depths-init
depths-init g c = let s = bound c.args.shown.now in shown-none _ _ (λ (i : ℕ). tops_shown s (most_depth - i)) _

pub depths-preserved : goal.depths-preserved
depths-preserved g c =
    let s = bound c.args.shown.now in
    let e = c.in_ok-say_tops.ensures in
    shown-more g.W.Write.contents c.args.writer.now c.depths.writer c.say_tops.new.writer (λ (i : ℕ). tops_shown s (most_depth - i)) c.depths.i _ _ c.depths.printed _
    refl c.depths.invariant e.writes.ok e.writes.kept e.printed

pub returns : goal.returns
returns g c =
    let s = bound c.args.shown.now in
    let all : c.depths.i ≡ c.args.count = omega arith in
    let done = subst (λ (n : ℕ). IsShown g.W.Write.contents c.args.writer.now c.depths.writer (depths_shown s n c.args.printed.now) c.depths.printed) all c.depths.invariant in
    record { ok = done.written; kept = done.kept; failed = tt }
