use Rattle.std.proofs.Common.{◌≤◌, ◌<◌, ℕ, None, true, length, refl, sym, ap, ◌∙◌, subst, arith, option_map}
use Rattle.stack_rules.specs.Names.{mapped, size}
use Rattle.stack_rules.specs.Records.{Configuration}
use Rattle.stack_recovery.specs.PassPieces.{Scanned, scanned}
use Rattle.scan_commands.specs.Retries.{no_step}
use Rattle.scan_commands.proofs.RetryTurnLemmas.{ended-turns, more-steps, whole-turns}
use Rattle.scan_commands.specs.MapFiles.{map_path_of}
use Rattle.scan_commands.specs.declared.phase.Phase.{Phase}
use Rattle.stack_recovery.specs.Listings.{listed}
use Rattle.scan_commands.specs.PassesInTurns.{IsSilentTurns, after_turns, pass_from, phase_after}
use Rattle.scan_commands.specs.Turns.{kept}
use Rattle.scan_commands.proofs.TurnLemmas.{err-from}
use Rattle.scan_commands.proofs.retries.retry_in_turns.Goals as goal

pub passes-init : goal.passes-init
passes-init g c = record {
  steps = no_step;
  few = omega arith;
  left = record { map = c.requires.fits; device = refl; retries = refl; no_scrape = refl; config = refl; same_size = refl; allowed = c.requires.can.allowed };
}

pub read_in_turns-requires-clause-device : goal.read_in_turns-requires-clause-device
read_in_turns-requires-clause-device g c = subst (λ (x : Configuration). c.args.passing.now.device.0 < length x.devices) (sym c.passes.invariant.left.config) c.requires.can.device

pub read_in_turns-requires-clause-fits : goal.read_in_turns-requires-clause-fits
read_in_turns-requires-clause-fits g c = c.passes.invariant.left.map ∙ ap (λ (x : Configuration). size x (mapped c.args.passing.now.device.0)) (sym c.passes.invariant.left.config)

pub read_in_turns-requires-clause-room : goal.read_in_turns-requires-clause-room
read_in_turns-requires-clause-room g c =
    let left = c.passes.invariant.left in
    subst (λ (x : Configuration). size x (mapped c.args.passing.now.device.0) ≤ (g.O.BlockDev.state c.passes.passing.out).size) (sym left.config)
    (subst (λ (m : ℕ). size c.args.passing.now.stack.config (mapped c.args.passing.now.device.0) ≤ m) (sym left.same_size) c.requires.can.room)

pub read_in_turns-requires-clause-allowed : goal.read_in_turns-requires-clause-allowed
read_in_turns-requires-clause-allowed g c = c.passes.invariant.left.allowed

pub passes-preserved : goal.passes-preserved
passes-preserved g c =
    let u = c.passes.invariant in
    let d : ℕ = c.args.passing.now.device.0 in
    let scan : Scanned = scanned d c.args.passing.now.no_scrape in
    let file = option_map map_path_of c.args.file in
    let replaces = g.I.Images.relations.replaces in
    let goes = c.in_ok-read.ensures.goes_on in
    let now = after_turns c.passes.images c.passes.passing.stack (g.O.BlockDev.state c.passes.passing.out) c.passes.left in
    let next = after_turns c.read_in_turns.new.images c.read_in_turns.new.stack (g.O.BlockDev.state c.read_in_turns.new.out) c.in_ok-read.read in
    record {
      steps = more-steps (IsSilentTurns (kept replaces file scan (size c.args.passing.now.stack.config (mapped d)))) _ c.passes.passes _ now next (omega arith) u.steps
          (_, _, whole-turns replaces file scan _ _ (phase_after c.args.passing.now.no_scrape c.passes.passes) _ (λ (p : Phase) (n : ℕ). pass_from p n now (listed None true)) _ _ _ u.left.config c.phase_after-phase.ensures c.in_ok-read.ensures.ok);
      few = omega (arith, c.passes-test.true);
      left = record {
        map = goes.map ∙ ap (λ (x : Configuration). size x (mapped d)) u.left.config;
        device = u.left.device;
        retries = u.left.retries;
        no_scrape = u.left.no_scrape;
        config = goes.config ∙ u.left.config;
        same_size = goes.same_size ∙ u.left.same_size;
        allowed = goes.allowed;
      };
    }

pub returns-in_err-read-clause-err : goal.returns-in_err-read-clause-err
returns-in_err-read-clause-err g c =
    let u = c.passes.invariant in
    let d : ℕ = c.args.passing.now.device.0 in
    let scan : Scanned = scanned d c.args.passing.now.no_scrape in
    let file = option_map map_path_of c.args.file in
    let replaces = g.I.Images.relations.replaces in
    let now = after_turns c.passes.images c.passes.passing.stack (g.O.BlockDev.state c.passes.passing.out) c.passes.left in
    err-from c.from_residual.result _ c.in_err-read.field-0.0 c.from_residual.ensures.1 (record {
      left = now;
      passes = c.passes.passes;
      before = _;
      after = _;
      steps = u.steps;
      few = omega (arith, c.passes-test.true);
      ends = ended-turns replaces file scan _ _ (phase_after c.args.passing.now.no_scrape c.passes.passes) _ (λ (p : Phase) (n : ℕ). pass_from p n now (listed None true)) _ _ _ u.left.config c.phase_after-phase.ensures c.in_err-read.ensures.err;
    })
