use Rattle.std.proofs.Common.{◌≤◌, ◌<◌, ℕ, None, true, length, inl, inr, refl, sym, ap, ◌∙◌, subst, option_map}
use Rattle.stack_rules.specs.Names.{mapped, size}
use Rattle.stack_rules.specs.Records.{Configuration}
use Rattle.stack_recovery.specs.Listings.{listed}
use Rattle.stack_recovery.specs.PassPieces.{Scanned, scanned}
use Rattle.scan_commands.specs.declared.phase.Phase.{Phase}
use Rattle.scan_commands.specs.declared.phase.Phase.TheVariants.{Sweep}
use Rattle.scan_commands.specs.MapFiles.{map_path_of}
use Rattle.scan_commands.specs.PassesInTurns.{after_turns, pass_from}
use Rattle.scan_commands.proofs.RetryTurnLemmas.{ended-turns, whole-turns}
use Rattle.scan_commands.proofs.TurnLemmas.{err-from}
use Rattle.scan_commands.proofs.passing.read_large_in_turns.Goals as goal

pub read_in_turns-requires-2-clause-device : goal.read_in_turns-requires-2-clause-device
read_in_turns-requires-2-clause-device g c = subst (λ (x : Configuration). c.args.passing.now.device.0 < length x.devices) (sym c.in_ok-skimmed.ensures.goes_on.config) c.requires.can.device

pub read_in_turns-requires-2-clause-fits : goal.read_in_turns-requires-2-clause-fits
read_in_turns-requires-2-clause-fits g c = c.in_ok-skimmed.ensures.goes_on.map ∙ ap (λ (x : Configuration). size x (mapped c.args.passing.now.device.0)) (sym c.in_ok-skimmed.ensures.goes_on.config)

pub read_in_turns-requires-2-clause-room : goal.read_in_turns-requires-2-clause-room
read_in_turns-requires-2-clause-room g c =
    let left = c.in_ok-skimmed.ensures.goes_on in
    subst (λ (x : Configuration). size x (mapped c.args.passing.now.device.0) ≤ (g.O.BlockDev.state c.read_in_turns.new.out).size) (sym left.config)
    (subst (λ (m : ℕ). size c.args.passing.now.stack.config (mapped c.args.passing.now.device.0) ≤ m) (sym left.same_size) c.requires.can.room)

pub read_in_turns-requires-2-clause-allowed : goal.read_in_turns-requires-2-clause-allowed
read_in_turns-requires-2-clause-allowed g c = c.in_ok-skimmed.ensures.goes_on.allowed

pub returns-in_err-skimmed-clause-err : goal.returns-in_err-skimmed-clause-err
returns-in_err-skimmed-clause-err g c =
    err-from c.from_residual.result _ c.in_err-skimmed.field-0.0 c.from_residual.ensures.1 (inl (listed None true, listed None true, c.in_err-skimmed.ensures.err))

pub returns-in_err-swept-clause-err : goal.returns-in_err-swept-clause-err
returns-in_err-swept-clause-err g c =
    let scan : Scanned = scanned c.args.passing.now.device.0 c.args.passing.now.no_scrape in
    let between = after_turns c.read_in_turns.new.images c.read_in_turns.new.stack (g.O.BlockDev.state c.read_in_turns.new.out) c.in_ok-skimmed.skimmed in
    err-from c.from_residual-in_err-swept.result _ c.in_err-swept.field-0.0 c.from_residual-in_err-swept.ensures.1 (inr (
      between,
      (listed None true, listed None true, c.in_ok-skimmed.ensures.ok),
      (
        listed None true,
        listed None true,
        ended-turns g.I.Images.relations.replaces (option_map map_path_of c.args.file) scan _ _ Sweep Sweep (λ (p : Phase) (n : ℕ). pass_from p n between (listed None true)) _ _ _ c.in_ok-skimmed.ensures.goes_on.config refl c.in_err-swept.ensures.err,
      ),
    ))

pub returns-clause-ok : goal.returns-clause-ok
returns-clause-ok g c =
    let scan : Scanned = scanned c.args.passing.now.device.0 c.args.passing.now.no_scrape in
    let between = after_turns c.read_in_turns.new.images c.read_in_turns.new.stack (g.O.BlockDev.state c.read_in_turns.new.out) c.in_ok-skimmed.skimmed in
    record {
      between = between;
      skims = (listed None true, listed None true, c.in_ok-skimmed.ensures.ok);
      sweeps = (
        listed None true,
        listed None true,
        whole-turns g.I.Images.relations.replaces (option_map map_path_of c.args.file) scan _ _ Sweep Sweep (λ (p : Phase) (n : ℕ). pass_from p n between (listed None true)) _ _ _ c.in_ok-skimmed.ensures.goes_on.config refl c.in_ok-swept.ensures.ok,
      );
    }

pub returns-clause-left : goal.returns-clause-left
returns-clause-left g c =
    let skimmed = c.in_ok-skimmed.ensures.goes_on in
    let swept = c.in_ok-swept.ensures.goes_on in
    record {
      map = swept.map ∙ ap (λ (x : Configuration). size x (mapped c.args.passing.now.device.0)) skimmed.config;
      device = refl;
      retries = refl;
      no_scrape = refl;
      config = swept.config ∙ skimmed.config;
      same_size = swept.same_size ∙ skimmed.same_size;
      allowed = swept.allowed;
    }
