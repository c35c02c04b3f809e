use Rattle.std.proofs.Common.{ℕ, inl, inr, refl, ap, subst, ◌∙◌, option_map, Option}
use Rattle.std.proofs.lemmas.Result.{IfErr-weaker, IfOk-weaker}
use Rattle.image_files.specs.Opener.{calls}
use Rattle.stack_rules.specs.Names.{mapped, size}
use Rattle.stack_rules.specs.Records.{Configuration}
use Rattle.scan_commands.specs.declared.phase.Phase.TheVariants.{Trim}
use Rattle.scan_commands.specs.MapFiles.{BeginsMap, LacksMap, MapPathRecord, map_path_of, with_tail}
use Rattle.scan_commands.specs.PassesInTurns.{EndsLast, EndsRetries, EndsSweeping, KeepsTurns, RetriesInTurns, SweepsInTurns, after_turns, phase_after}
use Rattle.stack_recovery.specs.PassPieces.{scanned}
use Rattle.scan_commands.specs.Turns.{kept}
use Rattle.scan_commands.proofs.LastPassLemmas.{last-as, last_end-as}
use Rattle.scan_commands.proofs.PassingLemmas.{can-after, fits-after, kept-as}
use Rattle.scan_commands.proofs.TurnLemmas.{err-from}
use Rattle.scan_commands.proofs.passing.run_pass.Goals as goal

pub returns-in_err-map-clause-err : goal.returns-in_err-map-clause-err
returns-in_err-map-clause-err g c =
    let all = c.sectors-sectors.ensures ∙ ap (λ (x : Configuration). size x (mapped c.args.passing.now.device.0)) c.config.ensures.value in
    err-from c.from_residual.result _ c.in_err-map.field-0.0 c.from_residual.ensures.1
    (inl (refl, subst (λ (n : ℕ). LacksMap (calls g.I.Images.relations g.I.Dev.BlockDev.state c.args.images.now c.begin_map.new.images) (option_map map_path_of c.args.file) n c.in_err-map.field-0.0) all c.in_err-map.ensures.err))

pub read_large_in_turns-requires-clause-fits : goal.read_large_in_turns-requires-clause-fits
read_large_in_turns-requires-clause-fits g c =
    c.in_ok-map.ensures.sectors ∙ c.sectors-sectors.ensures ∙ ap (λ (x : Configuration). size x (mapped c.args.passing.now.device.0)) c.config.ensures.value

pub trim_in_turns-requires-clause-can : goal.trim_in_turns-requires-clause-can
trim_in_turns-requires-clause-can g c = can-after g.O.BlockDev.state c.args.passing.now c.read_large_in_turns.new.passing c.in_ok-swept.swept c.in_ok-swept.ensures.left c.requires

pub trim_in_turns-requires-clause-fits : goal.trim_in_turns-requires-clause-fits
trim_in_turns-requires-clause-fits g c = fits-after g.O.BlockDev.state c.args.passing.now c.read_large_in_turns.new.passing c.in_ok-swept.swept c.in_ok-swept.ensures.left

pub retry_in_turns-requires-clause-can : goal.retry_in_turns-requires-clause-can
retry_in_turns-requires-clause-can g c =
    can-after g.O.BlockDev.state c.read_large_in_turns.new.passing c.trim_in_turns.new.passing c.in_ok-trimmed.trimmed.map c.in_ok-trimmed.ensures.left
    (can-after g.O.BlockDev.state c.args.passing.now c.read_large_in_turns.new.passing c.in_ok-swept.swept c.in_ok-swept.ensures.left c.requires)

pub retry_in_turns-requires-clause-fits : goal.retry_in_turns-requires-clause-fits
retry_in_turns-requires-clause-fits g c = fits-after g.O.BlockDev.state c.read_large_in_turns.new.passing c.trim_in_turns.new.passing c.in_ok-trimmed.trimmed.map c.in_ok-trimmed.ensures.left

pub report_last-requires-clause-can : goal.report_last-requires-clause-can
report_last-requires-clause-can g c =
    can-after g.O.BlockDev.state c.trim_in_turns.new.passing c.retry_in_turns.new.passing c.in_ok-left.left.map c.in_ok-left.ensures.left
    (can-after g.O.BlockDev.state c.read_large_in_turns.new.passing c.trim_in_turns.new.passing c.in_ok-trimmed.trimmed.map c.in_ok-trimmed.ensures.left
    (can-after g.O.BlockDev.state c.args.passing.now c.read_large_in_turns.new.passing c.in_ok-swept.swept c.in_ok-swept.ensures.left c.requires))

pub report_last-requires-clause-fits : goal.report_last-requires-clause-fits
report_last-requires-clause-fits g c = fits-after g.O.BlockDev.state c.trim_in_turns.new.passing c.retry_in_turns.new.passing c.in_ok-left.left.map c.in_ok-left.ensures.left

pub returns-in_err-swept-clause-err : goal.returns-in_err-swept-clause-err
returns-in_err-swept-clause-err g c =
    let all = c.sectors-sectors.ensures ∙ ap (λ (x : Configuration). size x (mapped c.args.passing.now.device.0)) c.config.ensures.value in
    let kept_file = with_tail (option_map map_path_of c.args.file) c.in_ok-map.field-0.tail in
    let swept = c.read_large_in_turns.new.passing in
    err-from c.from_residual-in_err-swept.result _ c.in_err-swept.field-0.0 c.from_residual-in_err-swept.ensures.1
    (inr (record {
      found = c.in_ok-map.field-0;
      between = c.begin_map.new.images;
      read = subst (λ (n : ℕ). BeginsMap (calls g.I.Images.relations g.I.Dev.BlockDev.state c.args.images.now c.begin_map.new.images) (option_map map_path_of c.args.file) n c.in_ok-map.field-0) all c.in_ok-map.ensures.ok;
      ends = inl (subst (λ (f : Option MapPathRecord). EndsSweeping (kept g.I.Images.relations.replaces f (scanned c.args.passing.now.device.0 c.args.passing.now.no_scrape) (size c.args.passing.now.stack.config (mapped c.args.passing.now.device.0))) (after_turns c.begin_map.new.images c.args.passing.now.stack (g.O.BlockDev.state c.args.passing.now.out) c.in_ok-map.field-0.map) c.read_large_in_turns.new.images swept.stack (g.O.BlockDev.state swept.out) c.in_err-swept.field-0.0) c.with_tail-file.ensures c.in_err-swept.ensures.err, refl);
    }))

pub returns-in_err-trimmed-clause-err : goal.returns-in_err-trimmed-clause-err
returns-in_err-trimmed-clause-err g c =
    let all = c.sectors-sectors.ensures ∙ ap (λ (x : Configuration). size x (mapped c.args.passing.now.device.0)) c.config.ensures.value in
    let kept_file = with_tail (option_map map_path_of c.args.file) c.in_ok-map.field-0.tail in
    let swept = c.read_large_in_turns.new.passing in
    let first = c.in_ok-swept.ensures.left in
    let before = after_turns c.read_large_in_turns.new.images swept.stack (g.O.BlockDev.state swept.out) c.in_ok-swept.swept in
    let trimmed = c.trim_in_turns.new.passing in
    err-from c.from_residual-in_err-trimmed.result _ c.in_err-trimmed.field-0.0 c.from_residual-in_err-trimmed.ensures.1
    (inr (record {
      found = c.in_ok-map.field-0;
      between = c.begin_map.new.images;
      read = subst (λ (n : ℕ). BeginsMap (calls g.I.Images.relations g.I.Dev.BlockDev.state c.args.images.now c.begin_map.new.images) (option_map map_path_of c.args.file) n c.in_ok-map.field-0) all c.in_ok-map.ensures.ok;
      ends = inr (record {
        between = before;
        large = subst (λ (f : Option MapPathRecord). SweepsInTurns (kept g.I.Images.relations.replaces f (scanned c.args.passing.now.device.0 c.args.passing.now.no_scrape) (size c.args.passing.now.stack.config (mapped c.args.passing.now.device.0))) (after_turns c.begin_map.new.images c.args.passing.now.stack (g.O.BlockDev.state c.args.passing.now.out) c.in_ok-map.field-0.map) before) c.with_tail-file.ensures c.in_ok-swept.ensures.ok;
        later = (
          inl (kept-as g.I.Images.relations.replaces kept_file _ _ _ _ _ _ _ _ _ (λ k n. EndsLast k Trim before c.trim_in_turns.new.images trimmed.stack (g.O.BlockDev.state trimmed.out) c.in_err-trimmed.field-0.0) c.with_tail-file.ensures first.device first.no_scrape first.config first.retries c.in_err-trimmed.ensures.err),
          refl,
        );
      });
    }))

pub returns-in_err-left-clause-err : goal.returns-in_err-left-clause-err
returns-in_err-left-clause-err g c =
    let all = c.sectors-sectors.ensures ∙ ap (λ (x : Configuration). size x (mapped c.args.passing.now.device.0)) c.config.ensures.value in
    let kept_file = with_tail (option_map map_path_of c.args.file) c.in_ok-map.field-0.tail in
    let swept = c.read_large_in_turns.new.passing in
    let first = c.in_ok-swept.ensures.left in
    let before = after_turns c.read_large_in_turns.new.images swept.stack (g.O.BlockDev.state swept.out) c.in_ok-swept.swept in
    let trimmed = c.trim_in_turns.new.passing in
    let left = c.in_ok-trimmed.ensures.left in
    let between = after_turns c.trim_in_turns.new.images trimmed.stack (g.O.BlockDev.state trimmed.out) c.in_ok-trimmed.trimmed.map in
    let known = c.in_ok-trimmed.trimmed.known.runs.items in
    let new = c.retry_in_turns.new.passing in
    err-from c.from_residual-in_err-left.result _ c.in_err-left.field-0.0 c.from_residual-in_err-left.ensures.1
    (inr (record {
      found = c.in_ok-map.field-0;
      between = c.begin_map.new.images;
      read = subst (λ (n : ℕ). BeginsMap (calls g.I.Images.relations g.I.Dev.BlockDev.state c.args.images.now c.begin_map.new.images) (option_map map_path_of c.args.file) n c.in_ok-map.field-0) all c.in_ok-map.ensures.ok;
      ends = inr (record {
        between = before;
        large = subst (λ (f : Option MapPathRecord). SweepsInTurns (kept g.I.Images.relations.replaces f (scanned c.args.passing.now.device.0 c.args.passing.now.no_scrape) (size c.args.passing.now.stack.config (mapped c.args.passing.now.device.0))) (after_turns c.begin_map.new.images c.args.passing.now.stack (g.O.BlockDev.state c.args.passing.now.out) c.in_ok-map.field-0.map) before) c.with_tail-file.ensures c.in_ok-swept.ensures.ok;
        later = (
          inr (record {
            between = between;
            known = known;
            trims = kept-as g.I.Images.relations.replaces kept_file _ _ _ _ _ _ _ _ _ (λ k n. KeepsTurns k Trim before between known) c.with_tail-file.ensures first.device first.no_scrape first.config first.retries c.in_ok-trimmed.ensures.ok;
            ends = inl (kept-as g.I.Images.relations.replaces kept_file _ _ _ _ _ _ _ _ _ (λ k n. EndsRetries k n between c.retry_in_turns.new.images new.stack (g.O.BlockDev.state new.out) c.in_err-left.field-0.0) c.with_tail-file.ensures (left.device ∙ first.device) (left.no_scrape ∙ first.no_scrape) (left.config ∙ first.config) (left.retries ∙ first.retries) c.in_err-left.ensures.err);
          }),
          refl,
        );
      });
    }))

pub returns-clause-err : goal.returns-clause-err
returns-clause-err g c =
    let all = c.sectors-sectors.ensures ∙ ap (λ (x : Configuration). size x (mapped c.args.passing.now.device.0)) c.config.ensures.value in
    let kept_file = with_tail (option_map map_path_of c.args.file) c.in_ok-map.field-0.tail in
    let swept = c.read_large_in_turns.new.passing in
    let first = c.in_ok-swept.ensures.left in
    let before = after_turns c.read_large_in_turns.new.images swept.stack (g.O.BlockDev.state swept.out) c.in_ok-swept.swept in
    let trimmed = c.trim_in_turns.new.passing in
    let left = c.in_ok-trimmed.ensures.left in
    let between = after_turns c.trim_in_turns.new.images trimmed.stack (g.O.BlockDev.state trimmed.out) c.in_ok-trimmed.trimmed.map in
    let known = c.in_ok-trimmed.trimmed.known.runs.items in
    let new = c.retry_in_turns.new.passing in
    let again = c.in_ok-left.ensures.left in
    let after = after_turns c.retry_in_turns.new.images new.stack (g.O.BlockDev.state new.out) c.in_ok-left.left.map in
    IfErr-weaker c.report_last.result _ _ (λ fault ends. inr (record {
      found = c.in_ok-map.field-0;
      between = c.begin_map.new.images;
      read = subst (λ (n : ℕ). BeginsMap (calls g.I.Images.relations g.I.Dev.BlockDev.state c.args.images.now c.begin_map.new.images) (option_map map_path_of c.args.file) n c.in_ok-map.field-0) all c.in_ok-map.ensures.ok;
      ends = inr (record {
        between = before;
        large = subst (λ (f : Option MapPathRecord). SweepsInTurns (kept g.I.Images.relations.replaces f (scanned c.args.passing.now.device.0 c.args.passing.now.no_scrape) (size c.args.passing.now.stack.config (mapped c.args.passing.now.device.0))) (after_turns c.begin_map.new.images c.args.passing.now.stack (g.O.BlockDev.state c.args.passing.now.out) c.in_ok-map.field-0.map) before) c.with_tail-file.ensures c.in_ok-swept.ensures.ok;
        later = (
          inr (record {
            between = between;
            known = known;
            trims = kept-as g.I.Images.relations.replaces kept_file _ _ _ _ _ _ _ _ _ (λ k n. KeepsTurns k Trim before between known) c.with_tail-file.ensures first.device first.no_scrape first.config first.retries c.in_ok-trimmed.ensures.ok;
            ends = inr (record {
              left = after;
              passes = c.in_ok-left.left.passes;
              again = kept-as g.I.Images.relations.replaces kept_file _ _ _ _ _ _ _ _ _ (λ k n. RetriesInTurns k n between c.in_ok-left.left.passes after) c.with_tail-file.ensures (left.device ∙ first.device) (left.no_scrape ∙ first.no_scrape) (left.config ∙ first.config) (left.retries ∙ first.retries) c.in_ok-left.ensures.ok;
              ends = last_end-as g.I.Images.relations.replaces kept_file _ c.args.passing.now.no_scrape _ c.args.passing.now.device.0 _ _ (phase_after c.args.passing.now.no_scrape c.in_ok-left.left.passes) _ _ _ _ _ _ c.with_tail-file.ensures (again.device ∙ left.device ∙ first.device) (again.config ∙ left.config ∙ first.config) c.phase_after-phase.ensures ends.0;
            });
          }),
          ends.1,
        );
      });
    })) c.report_last.ensures.err

pub returns-clause-ok : goal.returns-clause-ok
returns-clause-ok g c =
    let all = c.sectors-sectors.ensures ∙ ap (λ (x : Configuration). size x (mapped c.args.passing.now.device.0)) c.config.ensures.value in
    let kept_file = with_tail (option_map map_path_of c.args.file) c.in_ok-map.field-0.tail in
    let swept = c.read_large_in_turns.new.passing in
    let first = c.in_ok-swept.ensures.left in
    let before = after_turns c.read_large_in_turns.new.images swept.stack (g.O.BlockDev.state swept.out) c.in_ok-swept.swept in
    let trimmed = c.trim_in_turns.new.passing in
    let left = c.in_ok-trimmed.ensures.left in
    let between = after_turns c.trim_in_turns.new.images trimmed.stack (g.O.BlockDev.state trimmed.out) c.in_ok-trimmed.trimmed.map in
    let known = c.in_ok-trimmed.trimmed.known.runs.items in
    let new = c.retry_in_turns.new.passing in
    let again = c.in_ok-left.ensures.left in
    let after = after_turns c.retry_in_turns.new.images new.stack (g.O.BlockDev.state new.out) c.in_ok-left.left.map in
    IfOk-weaker c.report_last.result _ _ (λ counts last. record {
      found = c.in_ok-map.field-0;
      between = c.begin_map.new.images;
      read = subst (λ (n : ℕ). BeginsMap (calls g.I.Images.relations g.I.Dev.BlockDev.state c.args.images.now c.begin_map.new.images) (option_map map_path_of c.args.file) n c.in_ok-map.field-0) all c.in_ok-map.ensures.ok;
      rescued = record {
        swept = before;
        between = between;
        known = known;
        passes = c.in_ok-left.left.passes;
        left = after;
        large = subst (λ (f : Option MapPathRecord). SweepsInTurns (kept g.I.Images.relations.replaces f (scanned c.args.passing.now.device.0 c.args.passing.now.no_scrape) (size c.args.passing.now.stack.config (mapped c.args.passing.now.device.0))) (after_turns c.begin_map.new.images c.args.passing.now.stack (g.O.BlockDev.state c.args.passing.now.out) c.in_ok-map.field-0.map) before) c.with_tail-file.ensures c.in_ok-swept.ensures.ok;
        trims = kept-as g.I.Images.relations.replaces kept_file _ _ _ _ _ _ _ _ _ (λ k n. KeepsTurns k Trim before between known) c.with_tail-file.ensures first.device first.no_scrape first.config first.retries c.in_ok-trimmed.ensures.ok;
        again = kept-as g.I.Images.relations.replaces kept_file _ _ _ _ _ _ _ _ _ (λ k n. RetriesInTurns k n between c.in_ok-left.left.passes after) c.with_tail-file.ensures (left.device ∙ first.device) (left.no_scrape ∙ first.no_scrape) (left.config ∙ first.config) (left.retries ∙ first.retries) c.in_ok-left.ensures.ok;
        last = last-as g.I.Images.relations.replaces kept_file _ c.args.passing.now.no_scrape _ c.args.passing.now.device.0 _ _ (phase_after c.args.passing.now.no_scrape c.in_ok-left.left.passes) _ known _ _ _ _ _ counts c.with_tail-file.ensures (again.device ∙ left.device ∙ first.device) (again.config ∙ left.config ∙ first.config) c.phase_after-phase.ensures refl (rw c.as_slice-known.ensures.value at last);
      };
    }) c.report_last.ensures.ok
