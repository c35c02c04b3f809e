use Rattle.std.proofs.Common.{List, ap, map, subst}
use Rattle.std.proofs.lemmas.List.{take_all}
use Rattle.serde_json.specs.View.{view}
use Rattle.find_commands.specs.declared.finding.Finding.{Finding}
use Rattle.find_commands.specs.Areas.{StatesFindings}
use Rattle.find_commands.proofs.AreaLemmas.{some-first, some-tried, states-next, states-none}
use Rattle.find_commands.proofs.object.finding_values.Goals as goal

pub findings-init : goal.findings-init
findings-init g c = states-none g.D.BlockDev.state c.args.device.now (map view c.new-values.result.items) (ap (map view) c.new-values.ensures.items)

pub findings-preserved : goal.findings-preserved
findings-preserved g c =
    states-next g.D.BlockDev.state c.args.findings.now c.findings.finding-index _ c.args.device.now c.findings.device c.find_segments.new.device (map view c.findings.values.items) (map view c.add_finding.new.values.items)
    (view c.in_ok-segments.segments) c.findings-test.true c.findings.invariant c.in_ok-segments.ensures.ok c.in_ok-add_finding.ensures

pub returns-in_err-segments-clause-calls : goal.returns-in_err-segments-clause-calls
returns-in_err-segments-clause-calls g c =
    some-tried g.D.BlockDev.state c.args.findings.now c.findings.finding-index _ c.args.device.now c.findings.device c.find_segments.new.device (map view c.findings.values.items) c.findings-test.true c.findings.invariant
    c.in_err-segments.ensures.calls

pub returns-in_err-add_finding-clause-calls : goal.returns-in_err-add_finding-clause-calls
returns-in_err-add_finding-clause-calls g c =
    some-tried g.D.BlockDev.state c.args.findings.now c.findings.finding-index _ c.args.device.now c.findings.device c.find_segments.new.device (map view c.findings.values.items) c.findings-test.true c.findings.invariant
    c.in_ok-segments.ensures.calls

pub returns-clause-calls : goal.returns-clause-calls
returns-clause-calls g c = some-first g.D.BlockDev.state c.args.findings.now c.findings.finding-index c.args.device.now c.findings.device (map view c.findings.values.items) c.findings.invariant

pub returns-clause-ok : goal.returns-clause-ok
returns-clause-ok g c =
    subst (λ (found : List Finding). StatesFindings g.D.BlockDev.state c.args.device.now found c.findings.device (map view c.findings.values.items)) (take_all c.findings.finding-index c.args.findings.now c.findings-test.false)
    c.findings.invariant
