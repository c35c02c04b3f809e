use Rattle.std.proofs.Common.{false, true, refl}
use Rattle.std.proofs.lemmas.Result.{IfErr-weaker, IfOk-weaker}
use Rattle.scan_commands.proofs.PassLemmas.{passes-to, seen-differing, stops-to}
use Rattle.scan_commands.proofs.copy.copy_to.Goals as goal

pub count_pass-copied-requires : goal.count_pass-copied-requires
count_pass-copied-requires g c = rw c.new-out.ensures (record { device = c.requires.device; room = c.requires.room; allowed = c.requires.allowed })

pub returns-then-plan-clause-ok : goal.returns-then-plan-clause-ok
returns-then-plan-clause-ok g c = rw c.if-plan.true (
    IfOk-weaker c.count_pass-copied.result _ _
    (λ counts passed. passes-to true _ _ _ _ _ _ (g.O.BlockDev.state c.args.passing.out) (g.O.BlockDev.state c.count_pass-copied.new.passing.out.inner) _ _ _ _ counts
    c.map_at-map.ensures (seen-differing g.O.BlockDev.state _ _ _ _ _ c.new-out.ensures) refl passed)
    c.count_pass-copied.ensures.ok)

pub returns-then-plan-clause-err : goal.returns-then-plan-clause-err
returns-then-plan-clause-err g c = rw c.if-plan.true (
    IfErr-weaker c.count_pass-copied.result _ _
    (λ fault stops. stops-to true _ _ _ _ _ _ (g.O.BlockDev.state c.args.passing.out) (g.O.BlockDev.state c.count_pass-copied.new.passing.out.inner) _ _ _ _ fault
    c.map_at-map.ensures (seen-differing g.O.BlockDev.state _ _ _ _ _ c.new-out.ensures) refl stops)
    c.count_pass-copied.ensures.err)

pub returns-clause-ok : goal.returns-clause-ok
returns-clause-ok g c = rw c.if-plan.false (
    IfOk-weaker c.count_pass-outcome.result _ _
    (λ counts passed. passes-to false _ _ _ _ _ _ (g.O.BlockDev.state c.args.passing.out) (g.O.BlockDev.state c.count_pass-outcome.new.passing.out) _ _ _ _ counts c.map_at-map.ensures refl refl passed)
    c.count_pass-outcome.ensures.ok)

pub returns-clause-err : goal.returns-clause-err
returns-clause-err g c = rw c.if-plan.false (
    IfErr-weaker c.count_pass-outcome.result _ _
    (λ fault stops. stops-to false _ _ _ _ _ _ (g.O.BlockDev.state c.args.passing.out) (g.O.BlockDev.state c.count_pass-outcome.new.passing.out) _ _ _ _ fault c.map_at-map.ensures refl refl stops)
    c.count_pass-outcome.ensures.err)
