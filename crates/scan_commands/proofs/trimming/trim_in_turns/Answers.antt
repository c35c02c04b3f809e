use Rattle.std.proofs.Common.{◌≡◌, inl, inr, refl, sym, ap, ◌∙◌}
use Rattle.allocation.proofs.lemmas.AskedLemmas.{asked-refused}
use Rattle.scan_commands.specs.declared.phase.Phase.TheVariants.{Trim}
use Rattle.scan_commands.specs.Passes.{kept_by}
use Rattle.scan_commands.specs.PassesInTurns.{after_turns}
use Rattle.scan_commands.proofs.LastPassLemmas.{ends-from, reads-from, reads-kept}
use Rattle.scan_commands.proofs.ReportLemmas.{none-kept}
use Rattle.scan_commands.proofs.TurnLemmas.{err-from}
use Rattle.scan_commands.proofs.trimming.trim_in_turns.Goals as goal

pub returns-in_err-made-clause-err : goal.returns-in_err-made-clause-err
returns-in_err-made-clause-err g c =
    let k = kept_by g.I.Images.relations.replaces c.args.file c.args.passing.now in
    let first = after_turns c.args.images.now c.args.passing.now.stack (g.O.BlockDev.state c.args.passing.now.out) c.args.map in
    err-from c.from_residual.result _ c.in_err-made.field-0.0 c.from_residual.ensures.1
    (inl (_, ends-from k Trim first _ _ _ c.in_err-made.field-0.0 _ _ (none-kept _ _ c.new-known.ensures.runs c.new-known.ensures.refused) c.in_err-made.ensures.err))

pub returns-then-is_some-clause-err : goal.returns-then-is_some-clause-err
returns-then-is_some-clause-err g c =
    let k = kept_by g.I.Images.relations.replaces c.args.file c.args.passing.now in
    let first = after_turns c.args.images.now c.args.passing.now.stack (g.O.BlockDev.state c.args.passing.now.out) c.args.map in
    let known = c.read_in_turns.new.listing in
    let refused = sym c.is_some.ensures ∙ c.if-is_some.true in
    inr (record {
      made = c.in_ok-made.made;
      kept = _;
      reads = reads-from k Trim first _ _ _ c.in_ok-made.made _ _ (none-kept _ _ c.new-known.ensures.runs c.new-known.ensures.refused) c.in_ok-made.ensures.ok;
      refused = refused;
      may = asked-refused known.refused 1 known.few refused;
      is = refl;
    })

pub returns-clause-ok : goal.returns-clause-ok
returns-clause-ok g c =
    let k = kept_by g.I.Images.relations.replaces c.args.file c.args.passing.now in
    let first = after_turns c.args.images.now c.args.passing.now.stack (g.O.BlockDev.state c.args.passing.now.out) c.args.map in
    let known = c.read_in_turns.new.listing in
    record {
      made = c.in_ok-made.made;
      reads = reads-kept k Trim first _ _ _ c.in_ok-made.made _ known.runs.items _ (none-kept _ _ c.new-known.ensures.runs c.new-known.ensures.refused) (sym c.is_some.ensures ∙ c.if-is_some.false) c.in_ok-made.ensures.ok;
      map = refl;
    }

pub returns-clause-left : goal.returns-clause-left
returns-clause-left g c =
    let made = c.in_ok-made.ensures.goes_on in
    record {
      map = made.map;
      device = refl;
      retries = refl;
      no_scrape = refl;
      config = made.config;
      same_size = made.same_size;
      allowed = made.allowed;
    }
