use Rattle.std.proofs.Common.{◌≡◌, ◌++◌, ℕ, List, length, replicate, sym, ap, ◌∙◌, subst, arith}
use Rattle.rescue_map.specs.Aheads.{marks_ahead, statuses_ahead}
use Rattle.rescue_map.specs.declared.map.Run.{Run}
use Rattle.rescue_map.specs.declared.status.Status.{Status}
use Rattle.rescue_map.specs.Stages.{run_status, statuses}
use Rattle.stack_recovery.proofs.lemmas.JoinLemmas.{IsJoining, ahead-passed, joining-all, joining-more, joining-none, statuses_ahead-length}
use Rattle.stack_recovery.proofs.joining.tell_among_bad.Goals as goal

pub sectors-init : goal.sectors-init
sectors-init g c =
    let told = g.L.Listing.told c.args.listing.now in
    record {
      joining = subst (λ (l : List Status). IsJoining (statuses c.args.map.now) c.args.earlier.now c.args.found.now told told c.new-tally.result 0 l c.args.earlier.now c.args.found.now) (sym c.of_map-ahead.ensures.status)
          (joining-none (statuses c.args.map.now) c.args.earlier.now c.args.found.now told c.new-tally.result c.new-tally.ensures);
      left = omega (arith, ap length c.of_map-ahead.ensures.marks, c.sectors_of-sectors.ensures);
    }

pub sectors-preserved : goal.sectors-preserved
sectors-preserved g c =
    let u = c.sectors.invariant in
    let run : Run = c.next_run-run.result in
    let n : ℕ = c.alike_at-alike.result.count in
    let first : c.next_run-run.new.self.first ≡ run = sym c.next_run-run.ensures.first in
    let status : statuses_ahead c.sectors.ahead ≡ replicate n (run_status run) ++ statuses_ahead c.pass.new.self =
    sym c.next_run-run.ensures.status ∙ c.pass.ensures.status ∙ ap (λ (r : Run). replicate n (run_status r) ++ statuses_ahead c.pass.new.self) first in
    let had : marks_ahead c.sectors.ahead ≡ replicate n run.had ++ marks_ahead c.pass.new.self =
    sym c.next_run-run.ensures.same ∙ c.pass.ensures.marks ∙ ap (λ (r : Run). replicate n r.had ++ marks_ahead c.pass.new.self) first in
    record {
      joining = joining-more (statuses c.args.map.now) c.args.earlier.now c.args.found.now (g.L.Listing.told c.args.listing.now) (g.L.Listing.told c.sectors.listing) (g.L.Listing.told c.add.new.listing) c.sectors.tally c.add.new.tally
          c.sectors.at n (run_status run) (statuses_ahead c.sectors.ahead) (statuses_ahead c.pass.new.self) c.sectors.before.now c.from_sector-before.result.now c.sectors.rest.now c.from_sector-rest.result.now c.alike_at-alike.result.loss
          u.joining c.from_sector-before.ensures.same c.from_sector-rest.ensures.same status c.alike_at-alike.ensures.some c.alike_at-alike.ensures.state c.add.ensures.told c.add.ensures.last c.add.ensures.lost;
      left = omega (arith, u.left, ahead-passed n run.had (marks_ahead c.sectors.ahead) (marks_ahead c.pass.new.self) had);
    }

pub returns : goal.returns
returns g c =
    let u = c.sectors.invariant in
    joining-all (statuses c.args.map.now) c.args.earlier.now c.args.found.now (g.L.Listing.told c.args.listing.now) (g.L.Listing.told c.sectors.listing) (g.L.Listing.told c.close.new.listing) c.sectors.tally c.sectors.at
    (statuses_ahead c.sectors.ahead) c.sectors.before.now c.sectors.rest.now u.joining (omega (arith, statuses_ahead-length c.sectors.ahead, u.left, c.sectors-test.false)) c.close.ensures.text
