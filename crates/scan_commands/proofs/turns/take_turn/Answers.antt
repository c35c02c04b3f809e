use Rattle.std.proofs.Common.{arith, ◌≡◌, ◌⊎◌, ◌<◌, ◌∙◌, ◌+◌, min, inr, ℕ, Bool, true, List, length, replicate, refl, ap, subst, sym, option_map}
use Rattle.std.proofs.lemmas.List.{length-replicate}
use Rattle.block_device.specs.Device.{Device}
use Rattle.rescue_map.specs.declared.stepping.Step.{Step}
use Rattle.rescue_map.specs.Maps.{marks}
use Rattle.rescue_map.specs.Steps.{stepped_statuses, untaken_marks}
use Rattle.rescue_map.proofs.lemmas.SpanLemmas.{spliced-length}
use Rattle.rescue_map.proofs.lemmas.StatusLemmas.{untaken-length}
use Rattle.stack_recovery.specs.PassPieces.{scanned}
use Rattle.stack_recovery.specs.Recoveries.{Sides, sides}
use Rattle.stack_recovery.specs.Ways.{is_backward}
use Rattle.scan_commands.specs.declared.rescue_fault.PassFault.TheVariants.{NoMemory, Output}
use Rattle.scan_commands.specs.MapFiles.{map_path_of, recovery_ending}
use Rattle.scan_commands.specs.Turns.{ReadsSectors, StepsBackwards, kept, progressed, span_between, step_of}
use Rattle.scan_commands.specs.TurnCalls.{turn_scan}
use Rattle.scan_commands.proofs.BackwardLemmas.{inside-from, read-past}
use Rattle.scan_commands.proofs.TurnLemmas.{err-from, failed-behind, reads-out, reads-unfailed, stops-reading, stops-unmapped, stops-unwritten, synced-failures}
use Rattle.scan_commands.proofs.turns.take_turn.Goals as goal

pub read_turn-requires-clause-fits : goal.read_turn-requires-clause-fits
read_turn-requires-clause-fits g c =
    let takes = (step_of c.args.turn.phase).takes in
    let len : length (untaken_marks takes c.args.turn.map.now) ≡ c.args.turn.sectors = untaken-length takes c.args.turn.map.now ∙ c.requires.map in
    ap length c.requires.wanted
    ∙ spliced-length c.args.turn.span c.args.turn.sectors (replicate c.args.turn.sectors true) _ (length-replicate {A = Bool} c.args.turn.sectors true) (omega (arith, len, c.requires.next.inside)) c.requires.next.inside
    ∙ c.requires.all

pub overflow_sub-count : goal.overflow_sub-count
overflow_sub-count g c =
    let past = read-past (option_map map_path_of c.args.turn.file) c.args.turn.phase c.args.turn.span c.args.turn.sectors c.args.turn.map.now c.args.turn.deadline _ _ (turn_scan c.args.d.0 c.args.turn) _ c.in_ok-read.read _ c.requires.until c.requires.next.some c.requires.next.inside c.requires.map c.requires.all c.requires.wanted c.in_ok-read.ensures.ok in
    omega (arith, c.min-at.ensures, c.sectors_of.ensures, past.least)

pub stepped-requires-clause-within : goal.stepped-requires-clause-within
stepped-requires-clause-within g c =
    let past = read-past (option_map map_path_of c.args.turn.file) c.args.turn.phase c.args.turn.span c.args.turn.sectors c.args.turn.map.now c.args.turn.deadline _ _ (turn_scan c.args.d.0 c.args.turn) _ c.in_ok-read.read _ c.requires.until c.requires.next.some c.requires.next.inside c.requires.map c.requires.all c.requires.wanted c.in_ok-read.ensures.ok in
    omega (arith, c.min-at.ensures, c.sectors_of.ensures, past.least)

pub stepped-requires-clause-inside : goal.stepped-requires-clause-inside
stepped-requires-clause-inside g c =
    let past = read-past (option_map map_path_of c.args.turn.file) c.args.turn.phase c.args.turn.span c.args.turn.sectors c.args.turn.map.now c.args.turn.deadline _ _ (turn_scan c.args.d.0 c.args.turn) _ c.in_ok-read.read _ c.requires.until c.requires.next.some c.requires.next.inside c.requires.map c.requires.all c.requires.wanted c.in_ok-read.ensures.ok in
    omega (arith, c.min-at.ensures, c.sectors_of.ensures, past.least, c.requires.next.inside)

pub stepped_backwards-requires-clause-inside : goal.stepped_backwards-requires-clause-inside
stepped_backwards-requires-clause-inside g c =
    let past = read-past (option_map map_path_of c.args.turn.file) c.args.turn.phase c.args.turn.span c.args.turn.sectors c.args.turn.map.now c.args.turn.deadline _ _ (turn_scan c.args.d.0 c.args.turn) _ c.in_ok-read.read _ c.requires.until c.requires.next.some c.requires.next.inside c.requires.map c.requires.all c.requires.wanted c.in_ok-read.ensures.ok in
    inside-from c.in_ok-read.read.way (length (marks c.in_ok-read.read.map)) c.args.turn.sectors past.behind

pub returns-in_err-read-clause-err : goal.returns-in_err-read-clause-err
returns-in_err-read-clause-err g c =
    let k = kept g.I.Images.relations.replaces (option_map map_path_of c.args.turn.file) (scanned c.args.d.0 c.args.turn.no_scrape) c.args.turn.sectors in
    let now = progressed c.args.images.now (sides c.args.stack.now (g.O.BlockDev.state c.args.out.now) (g.L.Listing.told c.args.listing.now)) c.args.turn.map.now c.args.turn.span.first c.args.turn.skip c.args.turn.turned in
    err-from c.from_residual.result _ (recovery_ending c.in_err-read.field-0.0) c.from_residual.ensures.1 (stops-reading k c.args.turn.phase now c.args.turn.span _ _ _ c.in_err-read.field-0.0 c.requires.next c.requires.wanted c.in_err-read.ensures.err)

pub returns-in_err-sync_kept-clause-err : goal.returns-in_err-sync_kept-clause-err
returns-in_err-sync_kept-clause-err g c =
    let r = c.in_ok-read.ensures.ok.reads in
    let old : Sides = sides c.args.stack.now (g.O.BlockDev.state c.args.out.now) (g.L.Listing.told c.args.listing.now) in
    let left : Sides = sides c.read_turn.new.stack (g.O.BlockDev.state c.read_turn.new.out) (g.L.Listing.told c.read_turn.new.listing) in
    err-from c.from_residual-in_err-sync_kept.result _ Output c.from_residual-in_err-sync_kept.ensures.1 (
      refl,
      failed-behind (g.O.BlockDev.state c.args.out.now) (g.O.BlockDev.state c.read_turn.new.out) (g.O.BlockDev.state c.sync_kept.new.out) (reads-unfailed c.args.turn.phase _ _ (turn_scan c.args.d.0 c.args.turn) old _ left r) c.in_err-sync_kept.ensures.err.unsynced.failed,
      λ h. c.in_err-sync_kept.ensures.err.sure ((reads-out c.args.turn.phase _ _ (turn_scan c.args.d.0 c.args.turn) old _ left r).never_fails h),
      record {
        span = c.args.turn.span;
        end = c.args.turn.span.first + c.args.turn.span.count;
        next = c.requires.next;
        fails = inr (record {
          left = left;
          made = c.in_ok-read.read;
          reads = subst (λ (l : List Bool). ReadsSectors c.args.turn.phase c.args.turn.skip l (turn_scan c.args.d.0 c.args.turn) old c.in_ok-read.read left) c.requires.wanted r;
          kept = c.in_err-sync_kept.ensures.err.kept;
          unsynced = c.in_err-sync_kept.ensures.err.unsynced;
          stack = refl;
          printed = refl;
        });
      },
    )

pub returns-in_err-forwards-clause-err : goal.returns-in_err-forwards-clause-err
returns-in_err-forwards-clause-err g c =
    let old : Sides = sides c.args.stack.now (g.O.BlockDev.state c.args.out.now) (g.L.Listing.told c.args.listing.now) in
    let left : Sides = sides c.read_turn.new.stack (g.O.BlockDev.state c.read_turn.new.out) (g.L.Listing.told c.read_turn.new.listing) in
    let k = kept g.I.Images.relations.replaces (option_map map_path_of c.args.turn.file) (scanned c.args.d.0 c.args.turn.no_scrape) c.args.turn.sectors in
    let now = progressed c.args.images.now old c.args.turn.map.now c.args.turn.span.first c.args.turn.skip c.args.turn.turned in
    err-from c.from_residual-in_err-forwards.result _ NoMemory c.from_residual-in_err-forwards.ensures.1
    (stops-unmapped k c.args.turn.phase now (sides c.read_turn.new.stack (g.O.BlockDev.state c.sync_kept.new.out) (g.L.Listing.told c.read_turn.new.listing))
    (ap (λ (o : Device). o.failures) c.in_ok-sync_kept.ensures.ok ∙ synced-failures (option_map map_path_of c.args.turn.file) (g.O.BlockDev.state c.read_turn.new.out) ∙ reads-unfailed c.args.turn.phase _ _ (turn_scan c.args.d.0 c.args.turn) old _ left c.in_ok-read.ensures.ok.reads)
    (record {
      span = c.args.turn.span;
      end = c.args.turn.span.first + c.args.turn.span.count;
      next = c.requires.next;
      left = left;
      made = c.in_ok-read.read;
      reads = subst (λ (l : List Bool). ReadsSectors c.args.turn.phase c.args.turn.skip l (turn_scan c.args.d.0 c.args.turn) old c.in_ok-read.read left) c.requires.wanted c.in_ok-read.ensures.ok.reads;
      on_medium = ap (λ (o : Device). sides c.read_turn.new.stack o (g.L.Listing.told c.read_turn.new.listing)) c.in_ok-sync_kept.ensures.ok;
    })
    c.in_err-forwards.ensures.err)

pub returns-in_err-map-clause-err : goal.returns-in_err-map-clause-err
returns-in_err-map-clause-err g c =
    let old : Sides = sides c.args.stack.now (g.O.BlockDev.state c.args.out.now) (g.L.Listing.told c.args.listing.now) in
    let left : Sides = sides c.read_turn.new.stack (g.O.BlockDev.state c.read_turn.new.out) (g.L.Listing.told c.read_turn.new.listing) in
    let k = kept g.I.Images.relations.replaces (option_map map_path_of c.args.turn.file) (scanned c.args.d.0 c.args.turn.no_scrape) c.args.turn.sectors in
    let now = progressed c.args.images.now old c.args.turn.map.now c.args.turn.span.first c.args.turn.skip c.args.turn.turned in
    err-from c.from_residual-in_err-map.result _ NoMemory c.from_residual-in_err-map.ensures.1
    (stops-unmapped k c.args.turn.phase now (sides c.read_turn.new.stack (g.O.BlockDev.state c.sync_kept.new.out) (g.L.Listing.told c.read_turn.new.listing))
    (ap (λ (o : Device). o.failures) c.in_ok-sync_kept.ensures.ok ∙ synced-failures (option_map map_path_of c.args.turn.file) (g.O.BlockDev.state c.read_turn.new.out) ∙ reads-unfailed c.args.turn.phase _ _ (turn_scan c.args.d.0 c.args.turn) old _ left c.in_ok-read.ensures.ok.reads)
    (record {
      span = c.args.turn.span;
      end = c.args.turn.span.first + c.args.turn.span.count;
      next = c.requires.next;
      left = left;
      made = c.in_ok-read.read;
      reads = subst (λ (l : List Bool). ReadsSectors c.args.turn.phase c.args.turn.skip l (turn_scan c.args.d.0 c.args.turn) old c.in_ok-read.read left) c.requires.wanted c.in_ok-read.ensures.ok.reads;
      on_medium = ap (λ (o : Device). sides c.read_turn.new.stack o (g.L.Listing.told c.read_turn.new.listing)) c.in_ok-sync_kept.ensures.ok;
    })
    c.in_err-map.ensures.err)

pub returns-in_err-keep_map-clause-err : goal.returns-in_err-keep_map-clause-err
returns-in_err-keep_map-clause-err g c =
    let old : Sides = sides c.args.stack.now (g.O.BlockDev.state c.args.out.now) (g.L.Listing.told c.args.listing.now) in
    let left : Sides = sides c.read_turn.new.stack (g.O.BlockDev.state c.read_turn.new.out) (g.L.Listing.told c.read_turn.new.listing) in
    let now = progressed c.args.images.now old c.args.turn.map.now c.args.turn.span.first c.args.turn.skip c.args.turn.turned in
    err-from c.from_residual-in_err-keep_map.result _ c.in_err-keep_map.field-0.0 c.from_residual-in_err-keep_map.ensures.1
    (stops-unwritten g.I.Images.relations.replaces (option_map map_path_of c.args.turn.file) (scanned c.args.d.0 c.args.turn.no_scrape) c.args.turn.sectors c.args.turn.phase now c.in_ok-map.map c.keep_map.new.images (sides c.read_turn.new.stack (g.O.BlockDev.state c.sync_kept.new.out) (g.L.Listing.told c.read_turn.new.listing)) c.in_err-keep_map.field-0.0
    (ap (λ (o : Device). o.failures) c.in_ok-sync_kept.ensures.ok ∙ synced-failures (option_map map_path_of c.args.turn.file) (g.O.BlockDev.state c.read_turn.new.out) ∙ reads-unfailed c.args.turn.phase _ _ (turn_scan c.args.d.0 c.args.turn) old _ left c.in_ok-read.ensures.ok.reads)
    (record {
      span = c.args.turn.span;
      end = c.args.turn.span.first + c.args.turn.span.count;
      next = c.requires.next;
      left = left;
      made = c.in_ok-read.read;
      reads = subst (λ (l : List Bool). ReadsSectors c.args.turn.phase c.args.turn.skip l (turn_scan c.args.d.0 c.args.turn) old c.in_ok-read.read left) c.requires.wanted c.in_ok-read.ensures.ok.reads;
      on_medium = ap (λ (o : Device). sides c.read_turn.new.stack o (g.L.Listing.told c.read_turn.new.listing)) c.in_ok-sync_kept.ensures.ok;
    })
    c.in_err-keep_map.ensures.err)

pub returns-clause-ok : goal.returns-clause-ok
returns-clause-ok g c =
    let old : Sides = sides c.args.stack.now (g.O.BlockDev.state c.args.out.now) (g.L.Listing.told c.args.listing.now) in
    let left : Sides = sides c.read_turn.new.stack (g.O.BlockDev.state c.read_turn.new.out) (g.L.Listing.told c.read_turn.new.listing) in
    let past = read-past (option_map map_path_of c.args.turn.file) c.args.turn.phase c.args.turn.span c.args.turn.sectors c.args.turn.map.now c.args.turn.deadline _ _ (turn_scan c.args.d.0 c.args.turn) _ c.in_ok-read.read _ c.requires.until c.requires.next.some c.requires.next.inside c.requires.map c.requires.all c.requires.wanted c.in_ok-read.ensures.ok in
    record {
      span = c.args.turn.span;
      end = c.args.turn.span.first + c.args.turn.span.count;
      next = c.requires.next;
      left = left;
      made = c.in_ok-read.read;
      reads = subst (λ (l : List Bool). ReadsSectors c.args.turn.phase c.args.turn.skip l (turn_scan c.args.d.0 c.args.turn) old c.in_ok-read.read left) c.requires.wanted c.in_ok-read.ensures.ok.reads;
      on_medium = ap (λ (o : Device). sides c.read_turn.new.stack o (g.L.Listing.told c.read_turn.new.listing)) c.in_ok-sync_kept.ensures.ok;
      least = omega (arith, c.min-at.ensures, c.sectors_of.ensures, past.least);
      some = subst (λ (n : ℕ). (c.args.turn.span.first < n) ⊎ (is_backward c.in_ok-read.read.way ≡ true)) (sym (c.min-at.ensures ∙ ap (min (c.args.turn.span.first + c.args.turn.span.count)) c.sectors_of.ensures)) past.some;
      few = past.few;
      here = c.min-at.ensures ∙ ap (min (c.args.turn.span.first + c.args.turn.span.count)) c.sectors_of.ensures;
      whole = c.in_ok-map.ensures.sectors ∙ sym c.requires.map;
      behind = past.behind;
      forwards = c.in_ok-forwards.forwards;
      same = c.in_ok-forwards.ensures.sectors ∙ sym c.requires.map;
      stepped = c.in_ok-forwards.ensures.ok ∙ ap (λ (s : Step). stepped_statuses s (span_between c.args.turn.span.first c.min-at.result) c.args.turn.map.now c.in_ok-read.read.map) c.step_of-step.ensures;
      map = subst (λ (s : Step). StepsBackwards s c.args.turn.sectors c.in_ok-read.read.way c.in_ok-forwards.forwards c.in_ok-map.map) c.step_of-step.ensures c.in_ok-map.ensures.ok;
      skip = refl;
      turned = c.turned_by.ensures;
      written = c.in_ok-keep_map.ensures.ok;
    }
