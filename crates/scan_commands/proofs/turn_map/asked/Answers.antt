use Rattle.std.proofs.Common.{true, Bool, List, length, replicate, ap, ap₂, ◌∙◌, arith}
use Rattle.std.proofs.lemmas.Result.{IfOk-weaker}
use Rattle.std.proofs.lemmas.List.{length-replicate}
use Rattle.rescue_map.specs.declared.status.Status.{Status}
use Rattle.rescue_map.specs.declared.stepping.Step.{Step}
use Rattle.rescue_map.specs.Maps.{marks, spliced_marks}
use Rattle.rescue_map.specs.Steps.{untaken_marks}
use Rattle.scan_commands.proofs.turn_map.asked.Goals as goal

pub filled-requires : goal.filled-requires
filled-requires c = omega (arith, c.requires.map, ap (λ l. length (marks l)) c.runs-runs.ensures.value, c.runs-runs.ensures.whole.few)

pub splice-requires : goal.splice-requires
splice-requires c = record {
  around = ap length c.in_ok-all.ensures.marks ∙ length-replicate {A = Bool} c.args.sectors true;
  within = omega (arith, c.in_ok-done.ensures.sectors, c.requires.map, c.requires.inside);
  inside = c.requires.inside;
}

pub returns-clause-ok : goal.returns-clause-ok
returns-clause-ok c =
    IfOk-weaker c.splice.result _ _
    (λ asked is. is ∙ ap₂ (spliced_marks c.args.span) c.in_ok-all.ensures.marks (c.in_ok-done.ensures.ok ∙ ap (λ (s : Step). untaken_marks s.takes c.args.map.now) c.step_of.ensures)) c.splice.ensures.marks
