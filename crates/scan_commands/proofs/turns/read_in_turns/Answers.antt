use Rattle.std.proofs.Common.{◌≡◌, ℕ, ◌+◌, ◌≤◌, inl, refl, sym, ap, ◌∙◌, arith, option_map, min, ◌-◌}
use Rattle.stack_rules.specs.Names.{mapped, size}
use Rattle.stack_rules.specs.Records.{Configuration}
use Rattle.stack_rules.proofs.lemmas.PassingLemmas.{out_of_memory-more}
use Rattle.stack_meaning.specs.Memory.{largest_allocation}
use Rattle.scan_commands.specs.declared.rescue_fault.PassFault.TheVariants.{NoMemory}
use Rattle.stack_recovery.specs.PassPieces.{scanned}
use Rattle.stack_recovery.specs.Recoveries.{sides}
use Rattle.scan_commands.specs.MapFiles.{map_path_of}
use Rattle.scan_commands.specs.Turns.{begins, begun_with, goes_on, passes}
use Rattle.scan_commands.proofs.TurnLemmas.{err-from}
use Rattle.scan_commands.proofs.LessLemmas.{turn-less}
use Rattle.scan_commands.proofs.NextTurnLemmas.{ends-as, turn-config, turn-out, whole-as}
use Rattle.scan_commands.proofs.turns.read_in_turns.Goals.{then-is_had, else-is_had+in_ok-ended}
use Rattle.scan_commands.proofs.turns.read_in_turns.Goals as goal

pub turns-init : goal.turns-init
turns-init g c =
    let all = c.sectors-sectors.ensures ∙ ap (λ (x : Configuration). size x (mapped c.args.d.0)) c.config.ensures.value in
    record {
      turns = rw (c.min-skip.ensures, c.most_skipped.ensures) begins;
      map = c.requires.fits ∙ sym all;
      within = omega arith;
      all = all;
      config = refl;
      size = refl;
      allowed = c.requires.allowed;
    }

pub returns-in_err-wanted-clause-err : goal.returns-in_err-wanted-clause-err
returns-in_err-wanted-clause-err g c =
    let u = c.turns.invariant in
    err-from c.from_residual.result _ NoMemory c.from_residual.ensures.1
    (ends-as g.I.Images.relations.replaces (option_map map_path_of c.args.kept.file) c.args.kept.phase (scanned c.args.d.0 c.args.kept.no_scrape) c.sectors-sectors.result _
    (λ (n : ℕ). begun_with c.args.kept.phase n c.args.images.now (sides c.args.stack.now (g.O.BlockDev.state c.args.out.now) (g.L.Listing.told c.args.listing.now)) c.args.kept.map) _ c.turns.images
    (sides c.turns.stack (g.O.BlockDev.state c.turns.out) (g.L.Listing.told c.turns.listing)) NoMemory u.all u.turns (refl, refl, out_of_memory-more 1 largest_allocation (omega arith) c.in_err-wanted.ensures.err, inl refl))

pub returns-in_err-ended-clause-err : goal.returns-in_err-ended-clause-err
returns-in_err-ended-clause-err g c =
    let u = c.turns.invariant in
    err-from c.from_residual-in_err-ended.result _ c.in_err-ended.field-0.0 c.from_residual-in_err-ended.ensures.1
    (ends-as g.I.Images.relations.replaces (option_map map_path_of c.args.kept.file) c.args.kept.phase (scanned c.args.d.0 c.args.kept.no_scrape) c.sectors-sectors.result _
    (λ (n : ℕ). begun_with c.args.kept.phase n c.args.images.now (sides c.args.stack.now (g.O.BlockDev.state c.args.out.now) (g.L.Listing.told c.args.listing.now)) c.args.kept.map) _ c.take_turn.new.images
    (sides c.take_turn.new.stack (g.O.BlockDev.state c.take_turn.new.out) (g.L.Listing.told c.take_turn.new.listing)) c.in_err-ended.field-0.0 u.all u.turns c.in_err-ended.ensures.err)

pub turns-preserved : goal.turns-preserved
turns-preserved g c =
    let u = c.turns.invariant in
    let more : c.turns.at + c.min-count.result ≤ c.sectors-sectors.result = omega (arith, c.min-count.ensures, c.turns-test.true) in
    elim c.if-is_had.branch [
      | then-is_had w ↦ rw (w.images-is, w.stack-is, w.out-is, w.listing-is, w.map-is, w.at-is, w.skip-is, w.turned-is) (record {
        turns = passes u.turns (record {
          span = record { first = c.turns.at; count = c.min-count.result };
          next = record {
            first = refl;
            some = omega (arith, c.min-count.ensures, c.turns-test.true, c.turn_len.ensures.some);
            count = c.min-count.ensures ∙ ap (λ (n : ℕ). min n (c.sectors-sectors.result - c.turns.at)) c.turn_len.ensures.value;
            end = refl;
            inside = more;
          };
          runs = c.in_ok-wanted.wanted;
          asked = c.in_ok-wanted.ensures.ok;
          none = sym c.is_had.ensures ∙ w.if-is_had.true;
          same = refl;
        });
        map = u.map;
        within = more;
        all = u.all;
        config = u.config;
        size = u.size;
        allowed = u.allowed;
      })
      | else-is_had+in_ok-ended w ↦ let t = w.in_ok-ended.ensures.ok in
          rw (w.images-is, w.stack-is, w.out-is, w.listing-is, w.map-is, w.at-is, w.skip-is, w.turned-is) (record {
            turns = goes_on u.turns t;
            map = w.in_ok-ended.ensures.sectors;
            within = omega (arith, t.here, t.next.inside);
            all = u.all;
            config = turn-config _ _ _ _ t ∙ u.config;
            size = (turn-out _ _ _ _ t).0 ∙ u.size;
            allowed = (turn-out _ _ _ _ t).1 u.allowed;
          })
    ]

pub turns-smaller : goal.turns-smaller
turns-smaller g c = elim c.if-is_had.branch [
  | then-is_had w ↦ rw (w.map-is, w.at-is) (omega (arith, c.min-count.ensures, c.turns-test.true, c.turn_len.ensures.some))
  | else-is_had+in_ok-ended w ↦ rw (w.map-is, w.at-is) (turn-less _ _ _ _ w.in_ok-ended.ensures.ok c.turns.invariant.map)
]

pub returns-clause-ok : goal.returns-clause-ok
returns-clause-ok g c =
    let u = c.turns.invariant in
    let end : c.turns.at ≡ c.sectors-sectors.result = omega (arith, u.within, c.turns-test.false) in
    whole-as g.I.Images.relations.replaces (option_map map_path_of c.args.kept.file) c.args.kept.phase (scanned c.args.d.0 c.args.kept.no_scrape) c.sectors-sectors.result _ c.turns.at c.turns.skip c.turns.turned
    (λ (n : ℕ). begun_with c.args.kept.phase n c.args.images.now (sides c.args.stack.now (g.O.BlockDev.state c.args.out.now) (g.L.Listing.told c.args.listing.now)) c.args.kept.map) c.turns.images
    (sides c.turns.stack (g.O.BlockDev.state c.turns.out) (g.L.Listing.told c.turns.listing)) c.turns.map u.all end u.turns

pub returns-clause-goes_on : goal.returns-clause-goes_on
returns-clause-goes_on g c =
    let u = c.turns.invariant in
    record {
      map = u.map ∙ u.all;
      config = u.config;
      same_size = u.size;
      allowed = u.allowed;
    }
