use Rattle.std.proofs.Common.{◌≡◌, ℕ, length, refl, subst, arith}
use Rattle.stack_rules.proofs.lemmas.ValidLineLemmas.{few}
use Rattle.scan_commands.specs.Trees.{each, top_shown}
use Rattle.scan_commands.specs.TreeViews.{bound}
use Rattle.scan_commands.proofs.TreeLemmas.{IsShown, shown-more, shown-none}
use Rattle.scan_commands.proofs.tree.say_tops.Goals as goal

pub overflow_cast-d : goal.overflow_cast-d
overflow_cast-d g c = omega (arith, few c.args.shown.now.config.now c.count-d-end.ensures.loaded.valid)

pub devices-init : goal.devices-init
devices-init g c = shown-none _ _ (top_shown (bound c.args.shown.now) c.args.depth) _

pub devices-preserved : goal.devices-preserved
devices-preserved g c =
    let e = c.in_ok-say_top.ensures in
    shown-more g.W.Write.contents c.args.writer.now c.devices.writer c.say_top.new.writer (top_shown (bound c.args.shown.now) c.args.depth) c.devices.d _ _ c.devices.printed _
    refl c.devices.invariant e.writes.ok e.writes.kept e.printed

pub returns : goal.returns
returns g c =
    let s = bound c.args.shown.now in
    let all : c.devices.d ≡ length c.args.shown.now.config.now.devices = omega (arith, c.count-d-end.ensures.value) in
    let done = subst (λ (n : ℕ). IsShown g.W.Write.contents c.args.writer.now c.devices.writer (each (top_shown s c.args.depth) n c.args.printed.now) c.devices.printed) all c.devices.invariant in
    record { writes = record { ok = done.written; kept = done.kept; failed = tt }; printed = done.printed }
