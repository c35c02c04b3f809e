use Rattle.std.proofs.Common.{◌≡◌, inl, inr, refl, sym, ap, ◌∙◌}
use Rattle.scan_commands.specs.declared.rescue_fault.PassFault.TheVariants.{NoMemory}
use Rattle.scan_commands.specs.Passes.{last_kept}
use Rattle.scan_commands.specs.PassesInTurns.{after_turns, counts_of}
use Rattle.allocation.proofs.lemmas.AskedLemmas.{asked-refused}
use Rattle.scan_commands.proofs.LastPassLemmas.{ends-from, reads-from, reads-kept}
use Rattle.scan_commands.proofs.ReportLemmas.{none-kept}
use Rattle.scan_commands.proofs.TurnLemmas.{err-from}
use Rattle.scan_commands.proofs.passing.report_last.Goals as goal

pub returns-in_err-made-clause-err : goal.returns-in_err-made-clause-err
returns-in_err-made-clause-err g c =
    let k = last_kept g.I.Images.relations.replaces c.args.last c.args.passing.now in
    let old = after_turns c.args.images.now c.args.passing.now.stack (g.O.BlockDev.state c.args.passing.now.out) c.args.last.map in
    err-from c.from_residual.result _ c.in_err-made.field-0.0 c.from_residual.ensures.1
    (inl (_, ends-from k c.args.last.phase old _ _ _ c.in_err-made.field-0.0 _ _ (none-kept _ _ c.new-kept.ensures.runs c.new-kept.ensures.refused) c.in_err-made.ensures.err), refl)

pub returns-then-is_some-clause-err : goal.returns-then-is_some-clause-err
returns-then-is_some-clause-err g c =
    let k = last_kept g.I.Images.relations.replaces c.args.last c.args.passing.now in
    let old = after_turns c.args.images.now c.args.passing.now.stack (g.O.BlockDev.state c.args.passing.now.out) c.args.last.map in
    let kept = c.read_in_turns.new.listing in
    let refused = sym c.is_some.ensures ∙ c.if-is_some.true in (
      inr (record {
        made = c.in_ok-made.made;
        kept = _;
        reads = reads-from k c.args.last.phase old _ _ _ c.in_ok-made.made _ _ (none-kept _ _ c.new-kept.ensures.runs c.new-kept.ensures.refused) c.in_ok-made.ensures.ok;
        refused = refused;
        may = asked-refused kept.refused 1 kept.few refused;
        is = refl;
      }),
      refl,
    )

pub returns-clause-ok : goal.returns-clause-ok
returns-clause-ok g c =
    let k = last_kept g.I.Images.relations.replaces c.args.last c.args.passing.now in
    let old = after_turns c.args.images.now c.args.passing.now.stack (g.O.BlockDev.state c.args.passing.now.out) c.args.last.map in
    let kept = c.read_in_turns.new.listing in
    record {
      made = c.in_ok-made.made;
      found = kept.runs.items;
      reads = reads-kept k c.args.last.phase old _ _ _ c.in_ok-made.made _ kept.runs.items _ (none-kept _ _ c.new-kept.ensures.runs c.new-kept.ensures.refused) (sym c.is_some.ensures ∙ c.if-is_some.false) c.in_ok-made.ensures.ok;
      told = rw c.as_slice.ensures.value at c.tell_among_bad.ensures;
      counted = c.counts_of.ensures ∙ ap counts_of c.totals_of.ensures;
    }
