use Rattle.std.proofs.Common.{IfErr, IfOk, sym, subst, refl, ap, ap₂, ◌∙◌}
use Rattle.rescue_map.specs.Maps.{marks}
use Rattle.stack_rules.specs.Names.{mapped, size}
use Rattle.stack_rules.specs.Records.{Configuration}
use Rattle.stack_recovery.specs.Recoveries.{Sides, sides}
use Rattle.stack_recovery.specs.declared.fault.RecoveryFault.{RecoveryFault}
use Rattle.scan_commands.specs.declared.phase.Phase.{Phase}
use Rattle.scan_commands.specs.declared.phase.Phase.TheVariants.{Retry, Scrape, Skim, Sweep, Trim}
use Rattle.scan_commands.specs.declared.turn_reads.ReadMap.{ReadMap}
use Rattle.scan_commands.specs.Turns.{is_trim, most_skipped}
use Rattle.scan_commands.specs.TurnEnds.{EndsSectors}
use Rattle.scan_commands.specs.TurnCalls.{ReadsUntil, turn_scan}
use Rattle.scan_commands.proofs.TurnLemmas.{large-ends, large-reads, single-ends, single-reads}
use Rattle.scan_commands.proofs.turn_reads.read_turn.Goals as goal

pub returns-in-Skim-clause-ok : goal.returns-in-Skim-clause-ok
returns-in-Skim-clause-ok g c =
    let old : Sides = sides c.args.stack.now (g.O.BlockDev.state c.args.out.now) (g.L.Listing.told c.args.listing.now) in
    let new : Sides = sides c.skim_left.new.stack (g.O.BlockDev.state c.skim_left.new.out) (g.L.Listing.told c.args.listing.now) in
    let most = c.most_skipped.ensures ∙ ap₂ most_skipped c.in-Skim.is (c.sectors.ensures ∙ ap (λ (x : Configuration). size x (mapped c.args.d.0)) c.config.ensures.value) in
    subst (λ (p : Phase). IfOk c.skim_left.result (λ (made : ReadMap). ReadsUntil p c.args.turn.skip (marks c.args.turn.wanted.now) (turn_scan c.args.d.0 c.args.turn) c.args.turn.deadline old made new)) (sym c.in-Skim.is)
    (large-reads Skim c.skim_left.result c.args.turn.deadline c.most_skipped.result c.args.turn.skip (marks c.args.turn.wanted.now) (turn_scan c.args.d.0 c.args.turn) old new refl most refl c.skim_left.ensures.ok)

pub returns-in-Skim-clause-err : goal.returns-in-Skim-clause-err
returns-in-Skim-clause-err g c =
    let old : Sides = sides c.args.stack.now (g.O.BlockDev.state c.args.out.now) (g.L.Listing.told c.args.listing.now) in
    let new : Sides = sides c.skim_left.new.stack (g.O.BlockDev.state c.skim_left.new.out) (g.L.Listing.told c.args.listing.now) in
    let most = c.most_skipped.ensures ∙ ap₂ most_skipped c.in-Skim.is (c.sectors.ensures ∙ ap (λ (x : Configuration). size x (mapped c.args.d.0)) c.config.ensures.value) in
    subst (λ (p : Phase). IfErr c.skim_left.result (λ (fault : RecoveryFault). EndsSectors p c.args.turn.skip (marks c.args.turn.wanted.now) (turn_scan c.args.d.0 c.args.turn) old new fault)) (sym c.in-Skim.is)
    (large-ends Skim c.skim_left.result c.most_skipped.result c.args.turn.skip (marks c.args.turn.wanted.now) (turn_scan c.args.d.0 c.args.turn) old new refl most refl c.skim_left.ensures.err)

pub returns-in-Sweep-clause-ok : goal.returns-in-Sweep-clause-ok
returns-in-Sweep-clause-ok g c =
    let old : Sides = sides c.args.stack.now (g.O.BlockDev.state c.args.out.now) (g.L.Listing.told c.args.listing.now) in
    let new : Sides = sides c.skim_left-in-Sweep.new.stack (g.O.BlockDev.state c.skim_left-in-Sweep.new.out) (g.L.Listing.told c.args.listing.now) in
    let most = c.most_skipped.ensures ∙ ap₂ most_skipped c.in-Sweep.is (c.sectors.ensures ∙ ap (λ (x : Configuration). size x (mapped c.args.d.0)) c.config.ensures.value) in
    subst (λ (p : Phase). IfOk c.skim_left-in-Sweep.result (λ (made : ReadMap). ReadsUntil p c.args.turn.skip (marks c.args.turn.wanted.now) (turn_scan c.args.d.0 c.args.turn) c.args.turn.deadline old made new)) (sym c.in-Sweep.is)
    (large-reads Sweep c.skim_left-in-Sweep.result c.args.turn.deadline c.most_skipped.result c.args.turn.skip (marks c.args.turn.wanted.now) (turn_scan c.args.d.0 c.args.turn) old new refl most refl c.skim_left-in-Sweep.ensures.ok)

pub returns-in-Sweep-clause-err : goal.returns-in-Sweep-clause-err
returns-in-Sweep-clause-err g c =
    let old : Sides = sides c.args.stack.now (g.O.BlockDev.state c.args.out.now) (g.L.Listing.told c.args.listing.now) in
    let new : Sides = sides c.skim_left-in-Sweep.new.stack (g.O.BlockDev.state c.skim_left-in-Sweep.new.out) (g.L.Listing.told c.args.listing.now) in
    let most = c.most_skipped.ensures ∙ ap₂ most_skipped c.in-Sweep.is (c.sectors.ensures ∙ ap (λ (x : Configuration). size x (mapped c.args.d.0)) c.config.ensures.value) in
    subst (λ (p : Phase). IfErr c.skim_left-in-Sweep.result (λ (fault : RecoveryFault). EndsSectors p c.args.turn.skip (marks c.args.turn.wanted.now) (turn_scan c.args.d.0 c.args.turn) old new fault)) (sym c.in-Sweep.is)
    (large-ends Sweep c.skim_left-in-Sweep.result c.most_skipped.result c.args.turn.skip (marks c.args.turn.wanted.now) (turn_scan c.args.d.0 c.args.turn) old new refl most refl c.skim_left-in-Sweep.ensures.err)

pub returns-in-Trim-clause-ok : goal.returns-in-Trim-clause-ok
returns-in-Trim-clause-ok g c =
    let old : Sides = sides c.args.stack.now (g.O.BlockDev.state c.args.out.now) (g.L.Listing.told c.args.listing.now) in
    let new : Sides = sides c.read_left.new.stack (g.O.BlockDev.state c.read_left.new.out) (g.L.Listing.told c.read_left.new.listing) in
    subst (λ (p : Phase). IfOk c.read_left.result (λ (made : ReadMap). ReadsUntil p c.args.turn.skip (marks c.args.turn.wanted.now) (turn_scan c.args.d.0 c.args.turn) c.args.turn.deadline old made new)) (sym c.in-Trim.is)
    (single-reads Trim c.read_left.result c.args.turn.deadline c.args.turn.skip (marks c.args.turn.wanted.now) (turn_scan c.args.d.0 c.args.turn) c.is_trim.result old new refl (c.is_trim.ensures ∙ ap is_trim c.in-Trim.is) c.read_left.ensures.ok)

pub returns-in-Trim-clause-err : goal.returns-in-Trim-clause-err
returns-in-Trim-clause-err g c =
    let old : Sides = sides c.args.stack.now (g.O.BlockDev.state c.args.out.now) (g.L.Listing.told c.args.listing.now) in
    let new : Sides = sides c.read_left.new.stack (g.O.BlockDev.state c.read_left.new.out) (g.L.Listing.told c.read_left.new.listing) in
    subst (λ (p : Phase). IfErr c.read_left.result (λ (fault : RecoveryFault). EndsSectors p c.args.turn.skip (marks c.args.turn.wanted.now) (turn_scan c.args.d.0 c.args.turn) old new fault)) (sym c.in-Trim.is)
    (single-ends Trim c.read_left.result c.args.turn.skip (marks c.args.turn.wanted.now) (turn_scan c.args.d.0 c.args.turn) c.is_trim.result old new refl (c.is_trim.ensures ∙ ap is_trim c.in-Trim.is) c.read_left.ensures.err)

pub returns-in-Scrape-clause-ok : goal.returns-in-Scrape-clause-ok
returns-in-Scrape-clause-ok g c =
    let old : Sides = sides c.args.stack.now (g.O.BlockDev.state c.args.out.now) (g.L.Listing.told c.args.listing.now) in
    let new : Sides = sides c.read_left-in-Scrape.new.stack (g.O.BlockDev.state c.read_left-in-Scrape.new.out) (g.L.Listing.told c.read_left-in-Scrape.new.listing) in
    subst (λ (p : Phase). IfOk c.read_left-in-Scrape.result (λ (made : ReadMap). ReadsUntil p c.args.turn.skip (marks c.args.turn.wanted.now) (turn_scan c.args.d.0 c.args.turn) c.args.turn.deadline old made new)) (sym c.in-Scrape.is)
    (single-reads Scrape c.read_left-in-Scrape.result c.args.turn.deadline c.args.turn.skip (marks c.args.turn.wanted.now) (turn_scan c.args.d.0 c.args.turn) c.is_trim.result old new refl (c.is_trim.ensures ∙ ap is_trim c.in-Scrape.is) c.read_left-in-Scrape.ensures.ok)

pub returns-in-Scrape-clause-err : goal.returns-in-Scrape-clause-err
returns-in-Scrape-clause-err g c =
    let old : Sides = sides c.args.stack.now (g.O.BlockDev.state c.args.out.now) (g.L.Listing.told c.args.listing.now) in
    let new : Sides = sides c.read_left-in-Scrape.new.stack (g.O.BlockDev.state c.read_left-in-Scrape.new.out) (g.L.Listing.told c.read_left-in-Scrape.new.listing) in
    subst (λ (p : Phase). IfErr c.read_left-in-Scrape.result (λ (fault : RecoveryFault). EndsSectors p c.args.turn.skip (marks c.args.turn.wanted.now) (turn_scan c.args.d.0 c.args.turn) old new fault)) (sym c.in-Scrape.is)
    (single-ends Scrape c.read_left-in-Scrape.result c.args.turn.skip (marks c.args.turn.wanted.now) (turn_scan c.args.d.0 c.args.turn) c.is_trim.result old new refl (c.is_trim.ensures ∙ ap is_trim c.in-Scrape.is) c.read_left-in-Scrape.ensures.err)

pub returns-in-Retry-clause-ok : goal.returns-in-Retry-clause-ok
returns-in-Retry-clause-ok g c =
    let old : Sides = sides c.args.stack.now (g.O.BlockDev.state c.args.out.now) (g.L.Listing.told c.args.listing.now) in
    let new : Sides = sides c.read_left-in-Retry.new.stack (g.O.BlockDev.state c.read_left-in-Retry.new.out) (g.L.Listing.told c.read_left-in-Retry.new.listing) in
    subst (λ (p : Phase). IfOk c.read_left-in-Retry.result (λ (made : ReadMap). ReadsUntil p c.args.turn.skip (marks c.args.turn.wanted.now) (turn_scan c.args.d.0 c.args.turn) c.args.turn.deadline old made new)) (sym c.in-Retry.is)
    (single-reads Retry c.read_left-in-Retry.result c.args.turn.deadline c.args.turn.skip (marks c.args.turn.wanted.now) (turn_scan c.args.d.0 c.args.turn) c.is_trim.result old new refl (c.is_trim.ensures ∙ ap is_trim c.in-Retry.is) c.read_left-in-Retry.ensures.ok)

pub returns-in-Retry-clause-err : goal.returns-in-Retry-clause-err
returns-in-Retry-clause-err g c =
    let old : Sides = sides c.args.stack.now (g.O.BlockDev.state c.args.out.now) (g.L.Listing.told c.args.listing.now) in
    let new : Sides = sides c.read_left-in-Retry.new.stack (g.O.BlockDev.state c.read_left-in-Retry.new.out) (g.L.Listing.told c.read_left-in-Retry.new.listing) in
    subst (λ (p : Phase). IfErr c.read_left-in-Retry.result (λ (fault : RecoveryFault). EndsSectors p c.args.turn.skip (marks c.args.turn.wanted.now) (turn_scan c.args.d.0 c.args.turn) old new fault)) (sym c.in-Retry.is)
    (single-ends Retry c.read_left-in-Retry.result c.args.turn.skip (marks c.args.turn.wanted.now) (turn_scan c.args.d.0 c.args.turn) c.is_trim.result old new refl (c.is_trim.ensures ∙ ap is_trim c.in-Retry.is) c.read_left-in-Retry.ensures.err)
