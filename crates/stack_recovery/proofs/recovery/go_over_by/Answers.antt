use Rattle.std.proofs.Common.{add-zero, ◌≡◌, ◌⊎◌, ◌+◌, ◌-◌, ◌≤◌, ◌<◌, ◌*◌, ◌/◌, ◌^◌, ℕ, Bool, true, false, List, [], ◌∷◌, ◌++◌, replicate, Ok, Err, IsErrAnd, IsTrue, arith, refl, sym, ◌∙◌, ap, subst, length, take, is_some, inl, inr}
use Rattle.std.proofs.lemmas.Bool.{false≢true}
use Rattle.std.proofs.lemmas.List.{length-take-le}
use Rattle.std.proofs.lemmas.Result.{err_from_is_err_and}
use Rattle.block_device.specs.Call.{DeviceDoes, Write}
use Rattle.block_device.specs.Device.{IsWritten}
use Rattle.block_device.proofs.lemmas.CallLemmas.{calls-last}
use Rattle.stack_rules.specs.Names.{mapped, size}
use Rattle.stack_rules.specs.Records.{Configuration}
use Rattle.stack_engine.specs.Bytes.{EachBytes}
use Rattle.stack_meaning.specs.declared.fault.IoFault.{IoFault}
use Rattle.rescue_map.specs.Aheads.{marks_ahead}
use Rattle.rescue_map.specs.Maps.{marks}
use Rattle.rescue_map.specs.declared.map.Run.{Run}
use Rattle.stack_recovery.specs.declared.fault.RecoveryFault.{RecoveryFault}
use Rattle.stack_recovery.specs.declared.fault.RecoveryFault.TheVariants.{NoMemory, Output}
use Rattle.runs.specs.Tallies.{EndsAt}
use Rattle.stack_recovery.specs.declared.tally.Tally.{Tally}
use Rattle.stack_recovery.specs.Alike.{AreAlike}
use Rattle.stack_recovery.specs.LeafReads.{CopiesLeaves, ahead, no_piece}
use Rattle.stack_recovery.specs.PassPieces.{IsNextPiece, IsProbedTo, IsUnreadTo, IsWayInside, pass_over, way_lost, way_trimmed}
use Rattle.stack_recovery.specs.Pieces.{EndsAligned}
use Rattle.stack_recovery.specs.Recoveries.{EndsEarly, Sides, scanned_by, sides}
use Rattle.stack_recovery.specs.Stretches.{BeginsOtherwise}
use Rattle.stack_recovery.specs.Surveys.{AreMarked, MayLose}
use Rattle.stack_recovery.specs.Trims.{CopiesBehind, ReadsBehind}
use Rattle.stack_recovery.specs.Ways.{is_copied, is_forward, low_of, way_past}
use Rattle.stack_recovery.specs.declared.way.Way.TheVariants.{Forward}
use Rattle.stack_recovery.proofs.AheadLemmas.{ahead-few, ahead-inside, ahead-next, ahead-some, first-run, marked-next, notes-some}
use Rattle.stack_recovery.proofs.HandingLemmas.{hands-failed, hands-in-run, hands-over, hands-part}
use Rattle.stack_recovery.proofs.LeafReadLemmas.{copies-again, copies-failed, copies-had}
use Rattle.stack_recovery.proofs.PieceLemmas.{next-piece, single-alike, unread-run}
use Rattle.stack_recovery.proofs.SurveyLemmas.{no-memory}
use Rattle.stack_recovery.proofs.TrimLemmas.{underway-trimmed}
use Rattle.stack_recovery.proofs.WayLemmas.{IsRegion, IsWayRun, called-behind, called-past, called-trimmed, forward-is, is-past, lost-any, or-left, or-right, past-any, past-smaller, probed-from, probed-some, probed-within, region-trimmed, run-behind, run-trimmed, stops-called, stops-early, stops-handing, underway-behind, underway-past, way-inside}
use Rattle.stack_recovery.proofs.UnderwayLemmas.{IsUnderway, closed-tally, counted-all, ends-in-run, fails-output, few, note-room, runs-short, underway-had, underway-lost, underway-none, underway-until}
use Rattle.stack_recovery.proofs.lemmas.WritingLemmas.{err-from}
use Rattle.stack_recovery.proofs.recovery.go_over_by.Goals as goal

pub pieces-init : goal.pieces-init
pieces-init g c =
    let old : Sides = sides c.args.stack.now (g.O.BlockDev.state c.args.out.now) (g.L.Listing.told c.args.listing.now) in
    let before : List Bool = marks_ahead c.args.ahead in
    let all = c.sectors-sectors.ensures ∙ ap (λ (x : Configuration). size x (mapped c.args.pass.device.0)) c.config.ensures.value in
    record {
      so_far = record {
        calls = [];
        under = subst (λ (t : Tally). IsUnderway (is_some c.args.noted.now) before (scanned_by c.args.pass) old old 0 t c.args.noted.now Forward []) (sym c.new-tally.ensures)
            (underway-none (is_some c.args.noted.now) before (scanned_by c.args.pass) old c.args.noted.now c.requires.begun.0 c.requires.begun.1);
        did = refl;
      };
      run = tt;
      copied_ahead = ahead 0 0;
      called = no_piece;
      region = tt;
      ahead = refl;
      config = refl;
      within = omega arith;
      all = all;
      few = omega (arith, all, c.requires.few);
      unfailed = refl;
      noted = refl;
    }

pub next_stretch-run-requires-clause-some : goal.next_stretch-run-requires-clause-some
next_stretch-run-requires-clause-some g c =
    ahead-some _ c.pieces.at c.sectors-sectors.result _ (c.requires.fits ∙ sym c.pieces.invariant.all) c.pieces.invariant.ahead (omega (arith, c.pieces-test.true, c.pass_end.ensures.few))

pub next_stretch-run-requires-clause-few : goal.next_stretch-run-requires-clause-few
next_stretch-run-requires-clause-few g c =
    let u = c.pieces.invariant in
    ahead-few _ c.pieces.at c.sectors-sectors.result (2 ^ 54) _ (c.requires.fits ∙ sym u.all) u.ahead u.few

pub note-requires-clause-room : goal.note-requires-clause-room
note-requires-clause-room g c =
    let u = c.pieces.invariant in
    let first = first-run c.pieces.ahead c.next_stretch-run.new.ahead c.next_stretch-run.result c.next_stretch-run.ensures.same c.next_stretch-run.ensures.first in
    let inside = ahead-inside (marks_ahead c.args.ahead) c.pieces.at c.sectors-sectors.result c.next_stretch-run.result.count c.next_stretch-run.result.had _ _ (c.requires.fits ∙ sym u.all) u.ahead first u.within in
    λ x e. note-room _ _ _ _ _ _ _ _ _ _ u.so_far.under c.next_stretch-run.result.count (omega (arith, inside, u.few)) x e

pub returns-in_err-note-clause-err : goal.returns-in_err-note-clause-err
returns-in_err-note-clause-err g c =
    let u = c.pieces.invariant in
    let old : Sides = sides c.args.stack.now (g.O.BlockDev.state c.args.out.now) (g.L.Listing.told c.args.listing.now) in
    let new : Sides = sides c.pieces.stack (g.O.BlockDev.state c.pieces.out) (g.L.Listing.told c.pieces.listing) in
    let makes_map : Bool = is_some c.args.noted.now in
    err-from c.from_residual.result _ _ c.from_residual.ensures.1
    (subst (EndsEarly makes_map (marks_ahead c.args.ahead) (scanned_by c.args.pass) old new) (sym c.in_err-note.ensures.err.0)
    (runs-short _ _ _ _ _ _ _ _ _ _ u.so_far.under c.pieces.stack u.unfailed (inr (sym u.noted ∙ c.in_err-note.ensures.made, c.in_err-note.ensures.err.1))))

pub overflow_add-at : goal.overflow_add-at
overflow_add-at g c =
    let u = c.pieces.invariant in
    let first = first-run c.pieces.ahead c.next_stretch-run.new.ahead c.next_stretch-run.result c.next_stretch-run.ensures.same c.next_stretch-run.ensures.first in
    let inside = ahead-inside (marks_ahead c.args.ahead) c.pieces.at c.sectors-sectors.result c.next_stretch-run.result.count c.next_stretch-run.result.had _ _ (c.requires.fits ∙ sym u.all) u.ahead first u.within in
    omega (arith, inside, u.few)

pub pieces-preserved-then-is_past : goal.pieces-preserved-then-is_past
pieces-preserved-then-is_past g c =
    let u = c.pieces.invariant in
    let before : List Bool = marks_ahead c.args.ahead in
    let config : Configuration = c.args.stack.now.config in
    let p = pass_over config c.args.pass.device.0 before in
    let here : Run = c.next_stretch-run.result in
    let first = first-run c.pieces.ahead c.next_stretch-run.new.ahead c.next_stretch-run.result c.next_stretch-run.ensures.same c.next_stretch-run.ensures.first in
    let inside = ahead-inside (marks_ahead c.args.ahead) c.pieces.at c.sectors-sectors.result c.next_stretch-run.result.count c.next_stretch-run.result.had _ _ (c.requires.fits ∙ sym u.all) u.ahead first u.within in
    let marked : AreMarked before c.pieces.at here.count here.had = marked-next before c.pieces.at here.count here.count here.had _ (omega arith) (u.ahead ∙ first) in
    let run_end : here.had ≡ false → IsUnreadTo p c.pieces.at (c.pieces.at + here.count) = λ is.
    unread-run config c.args.pass.device.0 before c.pieces.at here.count c.sectors-sectors.result (marks c.next_stretch-run.new.ahead.rest.now)
    (u.ahead ∙ subst (λ (h : Bool). marks_ahead c.pieces.ahead ≡ replicate here.count h ++ marks c.next_stretch-run.new.ahead.rest.now) is first) (c.requires.fits ∙ sym u.all) u.within
    inside u.all (subst (λ (h : Bool). BeginsOtherwise h (marks c.next_stretch-run.new.ahead.rest.now)) is c.next_stretch-run.ensures.longest) in
    let past = is-past p c.pieces.at here.count c.pieces.way here.had c.next_stretch-run.ensures.some marked (sym c.is_past.ensures ∙ c.if-is_past.true) u.run run_end in
    let tally = closed-tally c.pieces.tally c.close.new.self c.close.ensures.last c.close.ensures.lost.0 c.close.ensures.lost.1 in
    let old : Sides = sides c.args.stack.now (g.O.BlockDev.state c.args.out.now) (g.L.Listing.told c.args.listing.now) in
    let now : Sides = sides c.pieces.stack (g.O.BlockDev.state c.pieces.out) (g.L.Listing.told c.pieces.listing) in
    let new : Sides = sides c.pieces.stack (g.O.BlockDev.state c.pieces.out) (g.L.Listing.told c.close.new.listing) in
    let way = way_past (scanned_by c.args.pass) c.pieces.way (c.pieces.at + here.count) in
    rw c.way_past-way.ensures (record {
      so_far = record {
        calls = u.so_far.calls;
        under = underway-past (is_some c.args.noted.now) before (scanned_by c.args.pass) old now c.pieces.at c.pieces.tally c.pieces.noted c.pieces.way u.so_far.calls u.so_far.under here.count (g.L.Listing.told c.close.new.listing) c.close.new.self c.note.new.noted
            c.next_stretch-run.ensures.some past c.in_ok-note.ensures.ok c.in_ok-note.ensures.lost c.close.ensures.text tally;
        did = u.so_far.did;
      };
      run = past-any (λ w. IsWayRun p (c.pieces.at + here.count) w) (scanned_by c.args.pass) c.pieces.way (c.pieces.at + here.count) tt tt;
      copied_ahead = u.copied_ahead;
      called = called-past g.D.BlockDev.state g.D.BlockDev.does (DeviceDoes g.O.BlockDev.state g.O.BlockDev.does) before config c.args.pass.device.0 c.args.stack.now c.args.out.now c.pieces.at c.pieces.stack c.pieces.out c.pieces.way u.copied_ahead here.count u.called u.region past;
      region = past-any (λ w. IsRegion w u.copied_ahead) (scanned_by c.args.pass) c.pieces.way (c.pieces.at + here.count) tt tt;
      ahead = ahead-next before c.pieces.at here.count _ _ _ (u.ahead ∙ sym c.next_stretch-run.ensures.same) c.pass.ensures.marks;
      config = u.config;
      within = inside;
      all = u.all;
      few = u.few;
      unfailed = u.unfailed;
      noted = notes-some marks c.pieces.noted c.note.new.noted _ c.in_ok-note.ensures.ok ∙ u.noted;
    })

pub overflow_add-at-then-is_forward : goal.overflow_add-at-then-is_forward
overflow_add-at-then-is_forward g c =
    let u = c.pieces.invariant in
    let first = first-run c.pieces.ahead c.next_stretch-run.new.ahead c.next_stretch-run.result c.next_stretch-run.ensures.same c.next_stretch-run.ensures.first in
    let inside = ahead-inside (marks_ahead c.args.ahead) c.pieces.at c.sectors-sectors.result c.next_stretch-run.result.count c.next_stretch-run.result.had _ _ (c.requires.fits ∙ sym u.all) u.ahead first u.within in
    omega (arith, inside, u.few)

pub piece_at-piece-requires-clause-inside : goal.piece_at-piece-requires-clause-inside
piece_at-piece-requires-clause-inside g c =
    let u = c.pieces.invariant in
    let count : ℕ = c.next_stretch-run.result.count in
    let first = first-run c.pieces.ahead c.next_stretch-run.new.ahead c.next_stretch-run.result c.next_stretch-run.ensures.same c.next_stretch-run.ensures.first in
    let inside = ahead-inside (marks_ahead c.args.ahead) c.pieces.at c.sectors-sectors.result count c.next_stretch-run.result.had _ _ (c.requires.fits ∙ sym u.all) u.ahead first u.within in
    subst (λ (x : Configuration). c.pieces.at + count ≤ size x (mapped c.args.pass.device.0)) (sym (c.config-then-is_forward.ensures.value ∙ u.config)) (subst (λ (m : ℕ). c.pieces.at + count ≤ m) u.all inside)

pub read_bytes-requires-clause-inside : goal.read_bytes-requires-clause-inside
read_bytes-requires-clause-inside g c =
    let u = c.pieces.invariant in
    let count : ℕ = c.next_stretch-run.result.count in
    let n : ℕ = c.piece_at-piece.result.count in
    let first = first-run c.pieces.ahead c.next_stretch-run.new.ahead c.next_stretch-run.result c.next_stretch-run.ensures.same c.next_stretch-run.ensures.first in
    let inside = ahead-inside (marks_ahead c.args.ahead) c.pieces.at c.sectors-sectors.result count c.next_stretch-run.result.had _ _ (c.requires.fits ∙ sym u.all) u.ahead first u.within in
    let wide : length (take (n * 512) c.pieces.room) ≡ n * 512 = length-take-le (n * 512) c.pieces.room (omega (arith, c.requires.buffer, c.pieces.auto.room, c.piece_at-piece.ensures.few)) in
    let within : c.pieces.at + length (take (n * 512) c.pieces.room) / 512 ≤ c.sectors-sectors.result = omega (arith, wide, inside, c.piece_at-piece.ensures.inside) in
    subst (λ (x : Configuration). c.pieces.at + length (take (n * 512) c.pieces.room) / 512 ≤ size x (mapped c.args.pass.device.0)) (sym u.config) (subst (λ (m : ℕ). c.pieces.at + length (take (n * 512) c.pieces.room) / 512 ≤ m) u.all within)

pub note-requires-in-Ok-clause-room : goal.note-requires-in-Ok-clause-room
note-requires-in-Ok-clause-room g c =
    let u = c.pieces.invariant in
    let first = first-run c.pieces.ahead c.next_stretch-run.new.ahead c.next_stretch-run.result c.next_stretch-run.ensures.same c.next_stretch-run.ensures.first in
    let inside = ahead-inside (marks_ahead c.args.ahead) c.pieces.at c.sectors-sectors.result c.next_stretch-run.result.count c.next_stretch-run.result.had _ _ (c.requires.fits ∙ sym u.all) u.ahead first u.within in
    λ x e. note-room _ _ _ _ _ _ _ _ _ _ u.so_far.under c.from-count.result (omega (arith, inside, u.few, c.from-count.ensures, c.piece_at-piece.ensures.inside)) x e

pub returns-in_err-note-in-Ok-clause-err : goal.returns-in_err-note-in-Ok-clause-err
returns-in_err-note-in-Ok-clause-err g c =
    let u = c.pieces.invariant in
    let old : Sides = sides c.args.stack.now (g.O.BlockDev.state c.args.out.now) (g.L.Listing.told c.args.listing.now) in
    let new : Sides = sides c.read_bytes.new.self (g.O.BlockDev.state c.pieces.out) (g.L.Listing.told c.pieces.listing) in
    let makes_map : Bool = is_some c.args.noted.now in
    err-from c.from_residual-in_err-note-in-Ok.result _ _ c.from_residual-in_err-note-in-Ok.ensures.1
    (subst (EndsEarly makes_map (marks_ahead c.args.ahead) (scanned_by c.args.pass) old new) (sym c.in_err-note-in-Ok.ensures.err.0)
    (runs-short _ _ _ _ _ _ _ _ _ _ u.so_far.under c.read_bytes.new.self u.unfailed (inr (sym u.noted ∙ c.in_err-note-in-Ok.ensures.made, c.in_err-note-in-Ok.ensures.err.1))))

pub write-requires-clause-range : goal.write-requires-clause-range
write-requires-clause-range g c =
    let u = c.pieces.invariant in
    let n : ℕ = c.piece_at-piece.result.count in
    let first = first-run c.pieces.ahead c.next_stretch-run.new.ahead c.next_stretch-run.result c.next_stretch-run.ensures.same c.next_stretch-run.ensures.first in
    let inside = ahead-inside (marks_ahead c.args.ahead) c.pieces.at c.sectors-sectors.result c.next_stretch-run.result.count c.next_stretch-run.result.had _ _ (c.requires.fits ∙ sym u.all) u.ahead first u.within in
    let wide : length (take (n * 512) c.pieces.room) ≡ n * 512 = length-take-le (n * 512) c.pieces.room (omega (arith, c.requires.buffer, c.pieces.auto.room, c.piece_at-piece.ensures.few)) in
    let number : length (take (n * 512) c.pieces.room) / 512 ≡ n = omega (arith, wide) in
    let piece = subst (λ (m : ℕ). EachBytes c.pieces.stack c.args.pass.device.0 c.pieces.at m (Ok c.read_bytes.new.out) c.read_bytes.new.self) number (record { any = c.in-Ok.ensures.any; steady = c.in-Ok.ensures.steady }) in
    let len : length c.read_bytes.new.out ≡ 512 * n = piece.any.may.read.run.len in
    record {
      some = omega (arith, len, c.piece_at-piece.ensures.some);
      whole = omega (arith, len);
      inside = omega (arith, len, inside, c.piece_at-piece.ensures.inside, u.all, c.requires.room, u.so_far.under.copied.same.size);
    }

pub returns-in_err-write-in-Ok-clause-err : goal.returns-in_err-write-in-Ok-clause-err
returns-in_err-write-in-Ok-clause-err g c =
    let u = c.pieces.invariant in
    let n : ℕ = c.piece_at-piece.result.count in
    let wide : length (take (n * 512) c.pieces.room) ≡ n * 512 = length-take-le (n * 512) c.pieces.room (omega (arith, c.requires.buffer, c.pieces.auto.room, c.piece_at-piece.ensures.few)) in
    let number : length (take (n * 512) c.pieces.room) / 512 ≡ n = omega (arith, wide) in
    let bytes : List ℕ = c.read_bytes.new.out in
    let piece = subst (λ (m : ℕ). EachBytes c.pieces.stack c.args.pass.device.0 c.pieces.at m (Ok bytes) c.read_bytes.new.self) number (record { any = c.in-Ok.ensures.any; steady = c.in-Ok.ensures.steady }) in
    let len : length bytes ≡ 512 * n = piece.any.may.read.run.len in
    let count : length bytes / 512 ≡ n = omega (arith, len) in
    let first = first-run c.pieces.ahead c.next_stretch-run.new.ahead c.next_stretch-run.result c.next_stretch-run.ensures.same c.next_stretch-run.ensures.first in
    let marked : AreMarked (marks_ahead c.args.ahead) c.pieces.at n false = subst (AreMarked (marks_ahead c.args.ahead) c.pieces.at n) (or-left c.next_stretch-run.result.had (is_copied c.pieces.way c.pieces.at) (sym c.is_past.ensures ∙ c.if-is_past.false)) (marked-next (marks_ahead c.args.ahead) c.pieces.at n c.next_stretch-run.result.count c.next_stretch-run.result.had _ (omega (arith, c.piece_at-piece.ensures.inside)) (c.pieces.invariant.ahead ∙ first)) in
    err-from c.from_residual-in_err-write-in-Ok.result _ Output c.from_residual-in_err-write-in-Ok.ensures.1
    (fails-output _ _ _ _ _ _ _ _ _ _ u.so_far.under 0 n bytes c.read_bytes.new.self (g.O.BlockDev.state c.write.new.self) (subst (λ (k : ℕ). AreMarked (marks_ahead c.args.ahead) k n false) (sym (add-zero c.pieces.at)) marked)
    (subst (λ (k : ℕ). EachBytes c.pieces.stack c.args.pass.device.0 k n (Ok bytes) c.read_bytes.new.self) (sym (add-zero c.pieces.at)) piece)
    (subst (λ (k : ℕ). IsWritten (g.O.BlockDev.state c.pieces.out) k n false (g.O.BlockDev.state c.write.new.self)) (sym (add-zero c.pieces.at)) (subst (λ (m : ℕ). IsWritten (g.O.BlockDev.state c.pieces.out) c.pieces.at m false (g.O.BlockDev.state c.write.new.self)) count c.in_err-write-in-Ok.ensures.moved))
    (subst (λ (m : ℕ). (m < (g.O.BlockDev.state c.write.new.self).failures) ⊎ (m ≡ 2 ^ 64 - 1)) u.unfailed c.in_err-write-in-Ok.ensures.fault)
    (λ h. false≢true (c.in_err-write-in-Ok.ensures.sure (u.so_far.under.copied.same.never_fails h))))

pub pieces-preserved-in-Ok : goal.pieces-preserved-in-Ok
pieces-preserved-in-Ok g c =
    let u = c.pieces.invariant in
    let before : List Bool = marks_ahead c.args.ahead in
    let here : Run = c.next_stretch-run.result in
    let n : ℕ = c.piece_at-piece.result.count in
    let first = first-run c.pieces.ahead c.next_stretch-run.new.ahead here c.next_stretch-run.ensures.same c.next_stretch-run.ensures.first in
    let inside = ahead-inside before c.pieces.at c.sectors-sectors.result here.count here.had _ _ (c.requires.fits ∙ sym u.all) u.ahead first u.within in
    let marked : AreMarked before c.pieces.at n false = subst (AreMarked before c.pieces.at n) (or-left c.next_stretch-run.result.had (is_copied c.pieces.way c.pieces.at) (sym c.is_past.ensures ∙ c.if-is_past.false)) (marked-next before c.pieces.at n here.count here.had _ (omega (arith, c.piece_at-piece.ensures.inside)) (u.ahead ∙ first)) in
    let wide : length (take (n * 512) c.pieces.room) ≡ n * 512 = length-take-le (n * 512) c.pieces.room (omega (arith, c.requires.buffer, c.pieces.auto.room, c.piece_at-piece.ensures.few)) in
    let number : length (take (n * 512) c.pieces.room) / 512 ≡ n = omega (arith, wide) in
    let bytes : List ℕ = c.read_bytes.new.out in
    let piece = subst (λ (m : ℕ). EachBytes c.pieces.stack c.args.pass.device.0 c.pieces.at m (Ok bytes) c.read_bytes.new.self) number (record { any = c.in-Ok.ensures.any; steady = c.in-Ok.ensures.steady }) in
    let len : length bytes ≡ 512 * n = piece.any.may.read.run.len in
    let old : Sides = sides c.args.stack.now (g.O.BlockDev.state c.args.out.now) (g.L.Listing.told c.args.listing.now) in
    let new : Sides = sides c.read_bytes.new.self (g.O.BlockDev.state c.write.new.self) (g.L.Listing.told c.close-in-Ok.new.listing) in
    let tally = closed-tally c.pieces.tally c.close-in-Ok.new.self c.close-in-Ok.ensures.last c.close-in-Ok.ensures.lost.0 c.close-in-Ok.ensures.lost.1 in
    let k : ℕ = length bytes / 512 in
    let count : length bytes / 512 ≡ n = omega (arith, len) in
    let same : c.from-count.result ≡ n = c.from-count.ensures in
    let next : IsNextPiece (pass_over c.args.stack.now.config c.args.pass.device.0 before) c.pieces.at 1 n =
    next-piece c.args.stack.now.config c.args.pass.device.0 before c.pieces.at here.count c.sectors-sectors.result 1 n (marks c.next_stretch-run.new.ahead.rest.now)
    (u.ahead ∙ subst (λ (h : Bool). marks_ahead c.pieces.ahead ≡ replicate here.count h ++ marks c.next_stretch-run.new.ahead.rest.now) (or-left c.next_stretch-run.result.had (is_copied c.pieces.way c.pieces.at) (sym c.is_past.ensures ∙ c.if-is_past.false)) first) (c.requires.fits ∙ sym u.all) u.within
    inside u.all (subst (λ (h : Bool). BeginsOtherwise h (marks c.next_stretch-run.new.ahead.rest.now)) (or-left c.next_stretch-run.result.had (is_copied c.pieces.way c.pieces.at) (sym c.is_past.ensures ∙ c.if-is_past.false)) c.next_stretch-run.ensures.longest)
    (subst (λ (x : Configuration). EndsAligned x c.args.pass.device.0 c.pieces.at (c.pieces.at + here.count) 1 n) (c.config-then-is_forward.ensures.value ∙ u.config) c.piece_at-piece.ensures.ends) in
    let forward : c.pieces.way ≡ Forward = forward-is c.pieces.way (sym c.is_forward.ensures ∙ c.if-is_forward.true) in
    rw forward (record {
      so_far = record {
        calls = u.so_far.calls ++ Write c.pieces.at bytes true ∷ [];
        under = subst (λ (m : ℕ). IsUnderway (is_some c.args.noted.now) before (scanned_by c.args.pass) old new (c.pieces.at + m) c.close-in-Ok.new.self c.note-in-Ok.new.noted Forward (u.so_far.calls ++ Write c.pieces.at bytes true ∷ [])) (sym same)
            (underway-had _ _ _ _ _ _ _ _ _ _ u.so_far.under n bytes c.read_bytes.new.self k _ (g.O.BlockDev.state c.write.new.self) (g.L.Listing.told c.close-in-Ok.new.listing) c.close-in-Ok.new.self c.note-in-Ok.new.noted
            forward next
            c.piece_at-piece.ensures.some piece marked (rw same at c.in_ok-note-in-Ok.ensures.ok) (rw same at c.in_ok-note-in-Ok.ensures.lost) count c.in_ok-write-in-Ok.ensures.moved
            c.in_ok-write-in-Ok.ensures.image
            c.close-in-Ok.ensures.text tally);
        did = calls-last (DeviceDoes g.O.BlockDev.state g.O.BlockDev.does) c.args.out.now c.pieces.out c.write.new.self u.so_far.calls (Write c.pieces.at bytes true) u.so_far.did c.in_ok-write-in-Ok.ensures.call;
      };
      run = tt;
      copied_ahead = u.copied_ahead;
      region = tt;
      called = copies-had g.D.BlockDev.state g.D.BlockDev.does (DeviceDoes g.O.BlockDev.state g.O.BlockDev.does) before c.args.pass.device.0 c.args.stack.now c.args.out.now c.pieces.at c.pieces.stack c.read_bytes.new.self c.pieces.out u.copied_ahead u.called (length (take (n * 512) c.pieces.room) / 512) c.from-count.result bytes c.write.new.self (number ∙ sym same) c.in-Ok.ensures.given c.in_ok-write-in-Ok.ensures.call;
      ahead = ahead-next before c.pieces.at c.from-count.result _ _ _ (u.ahead ∙ sym c.next_stretch-run.ensures.same) c.pass-in-Ok.ensures.marks;
      config = c.in-Ok.ensures.any.config ∙ u.config;
      within = omega (arith, inside, same, c.piece_at-piece.ensures.inside);
      all = u.all;
      few = u.few;
      unfailed = c.in_ok-write-in-Ok.ensures.moved.failures ∙ u.unfailed;
      noted = notes-some marks c.pieces.noted c.note-in-Ok.new.noted _ c.in_ok-note-in-Ok.ensures.ok ∙ u.noted;
    })

pub returns-in_err-check_memory-in-Err-clause-err : goal.returns-in_err-check_memory-in-Err-clause-err
returns-in_err-check_memory-in-Err-clause-err g c =
    let u = c.pieces.invariant in
    let count : ℕ = length (take (c.piece_at-piece.result.count * 512) c.pieces.room) / 512 in
    let is = c.in_err-check_memory-in-Err.ensures.memory in
    let old : Sides = sides c.args.stack.now (g.O.BlockDev.state c.args.out.now) (g.L.Listing.told c.args.listing.now) in
    let new : Sides = sides c.read_bytes.new.self (g.O.BlockDev.state c.pieces.out) (g.L.Listing.told c.pieces.listing) in
    err-from c.from_residual-in_err-check_memory-in-Err.result _ _ c.from_residual-in_err-check_memory-in-Err.ensures.1
    (subst (EndsEarly (is_some c.args.noted.now) (marks_ahead c.args.ahead) (scanned_by c.args.pass) old new) (sym c.in_err-check_memory-in-Err.ensures.err)
    (runs-short _ _ _ _ _ _ _ _ _ _ u.so_far.under c.read_bytes.new.self u.unfailed (inl (no-memory c.args.pass.device.0 c.pieces.at count c.pieces.stack c.read_bytes.new.self
    (subst (λ (f : IoFault). EachBytes c.pieces.stack c.args.pass.device.0 c.pieces.at count (Err f) c.read_bytes.new.self) is (record { any = c.in-Err.ensures.any; steady = c.in-Err.ensures.steady }))
    (c.in-Err.ensures.memory (ap Err is))))))

pub returns-in_err-check_memory-in-Err-clause-stopped : goal.returns-in_err-check_memory-in-Err-clause-stopped
returns-in_err-check_memory-in-Err-clause-stopped g c =
    err-from c.from_residual-in_err-check_memory-in-Err.result _ NoMemory (subst (λ (e : RecoveryFault). IsErrAnd c.from_residual-in_err-check_memory-in-Err.result (λ f. f ≡ e)) c.in_err-check_memory-in-Err.ensures.err c.from_residual-in_err-check_memory-in-Err.ensures.1)
    (hands-part _ _ _ _ _ _ _ _ _ _ _ _ c.pieces.invariant.so_far c.args.listing.now c.pieces.listing c.read_bytes.new.self)

pub returns-in_err-check_memory-in-Err-clause-called : goal.returns-in_err-check_memory-in-Err-clause-called
returns-in_err-check_memory-in-Err-clause-called g c =
    let u = c.pieces.invariant in
    let count : ℕ = length (take (c.piece_at-piece.result.count * 512) c.pieces.room) / 512 in
    let p = err_from_is_err_and c.from_residual-in_err-check_memory-in-Err.result c.from_residual-in_err-check_memory-in-Err.ensures.1 in
    rw p.1 (inl (c.pieces.at, u.copied_ahead, copies-again g.D.BlockDev.state g.D.BlockDev.does (DeviceDoes g.O.BlockDev.state g.O.BlockDev.does) (marks_ahead c.args.ahead) c.args.pass.device.0 c.args.stack.now c.args.out.now c.pieces.at c.pieces.stack c.read_bytes.new.self c.pieces.out u.copied_ahead u.called count c.in-Err.fault c.in-Err.ensures.given))

pub lose_run-requires : goal.lose_run-requires
lose_run-requires g c =
    let u = c.pieces.invariant in
    let first = first-run c.pieces.ahead c.next_stretch-run.new.ahead c.next_stretch-run.result c.next_stretch-run.ensures.same c.next_stretch-run.ensures.first in
    let inside = ahead-inside (marks_ahead c.args.ahead) c.pieces.at c.sectors-sectors.result c.next_stretch-run.result.count c.next_stretch-run.result.had _ _ (c.requires.fits ∙ sym u.all) u.ahead first u.within in
    rw c.lost_run-lost.ensures (record {
      some = omega (arith, c.from-count.ensures, c.piece_at-piece.ensures.some);
      marks = λ x e. note-room _ _ _ _ _ _ _ _ _ _ u.so_far.under c.from-count.result (omega (arith, inside, u.few, c.from-count.ensures, c.piece_at-piece.ensures.inside)) x e;
      ends = subst (EndsAt c.pieces.tally.last) (sym u.so_far.under.here) u.so_far.under.tallied.ends;
      few = few _ _ _ _ _ _ _ _ _ _ u.so_far.under;
      room = omega (arith, inside, u.few, c.from-count.ensures, c.piece_at-piece.ensures.inside);
    })

pub returns-in_err-lose_run-in-Err-clause-err : goal.returns-in_err-lose_run-in-Err-clause-err
returns-in_err-lose_run-in-Err-clause-err g c =
    let u = c.pieces.invariant in
    err-from c.from_residual-in_err-lose_run-in-Err.result _ _ c.from_residual-in_err-lose_run-in-Err.ensures.1
    (ends-in-run _ _ _ _ _ _ _ _ _ _ u.so_far.under g.L.Listing.told c.read_bytes.new.self c.pieces.listing c.lose_run.new.listing c.in_err-lose_run-in-Err.field-0.0 refl u.unfailed u.noted c.in_err-lose_run-in-Err.ensures.err)

pub pieces-preserved-in-Err : goal.pieces-preserved-in-Err
pieces-preserved-in-Err g c =
    let u = c.pieces.invariant in
    let before : List Bool = marks_ahead c.args.ahead in
    let here : Run = c.next_stretch-run.result in
    let n : ℕ = c.piece_at-piece.result.count in
    let first = first-run c.pieces.ahead c.next_stretch-run.new.ahead here c.next_stretch-run.ensures.same c.next_stretch-run.ensures.first in
    let inside = ahead-inside before c.pieces.at c.sectors-sectors.result here.count here.had _ _ (c.requires.fits ∙ sym u.all) u.ahead first u.within in
    let marked : AreMarked before c.pieces.at n false = subst (AreMarked before c.pieces.at n) (or-left c.next_stretch-run.result.had (is_copied c.pieces.way c.pieces.at) (sym c.is_past.ensures ∙ c.if-is_past.false)) (marked-next before c.pieces.at n here.count here.had _ (omega (arith, c.piece_at-piece.ensures.inside)) (u.ahead ∙ first)) in
    let wide : length (take (n * 512) c.pieces.room) ≡ n * 512 = length-take-le (n * 512) c.pieces.room (omega (arith, c.requires.buffer, c.pieces.auto.room, c.piece_at-piece.ensures.few)) in
    let number : length (take (n * 512) c.pieces.room) / 512 ≡ n = omega (arith, wide) in
    let piece = subst (λ (m : ℕ). EachBytes c.pieces.stack c.args.pass.device.0 c.pieces.at m (Err c.in-Err.fault) c.read_bytes.new.self) number (record { any = c.in-Err.ensures.any; steady = c.in-Err.ensures.steady }) in
    let may : MayLose c.pieces.stack.config c.args.pass.device.0 c.pieces.at n c.in-Err.fault =
    (subst (λ (x : Configuration). AreAlike x c.args.pass.device.0 c.pieces.at n) c.config-then-is_forward.ensures.value (single-alike _ _ _ _ c.piece_at-piece.result c.piece_at-piece.ensures), c.in_ok-check_memory-in-Err.ensures.ok) in
    let old : Sides = sides c.args.stack.now (g.O.BlockDev.state c.args.out.now) (g.L.Listing.told c.args.listing.now) in
    let new : Sides = sides c.read_bytes.new.self (g.O.BlockDev.state c.pieces.out) (g.L.Listing.told c.lose_run.new.listing) in
    let same : c.from-count.result ≡ n = c.from-count.ensures in
    let next : IsNextPiece (pass_over c.args.stack.now.config c.args.pass.device.0 before) c.pieces.at 1 n =
    next-piece c.args.stack.now.config c.args.pass.device.0 before c.pieces.at here.count c.sectors-sectors.result 1 n (marks c.next_stretch-run.new.ahead.rest.now)
    (u.ahead ∙ subst (λ (h : Bool). marks_ahead c.pieces.ahead ≡ replicate here.count h ++ marks c.next_stretch-run.new.ahead.rest.now) (or-left c.next_stretch-run.result.had (is_copied c.pieces.way c.pieces.at) (sym c.is_past.ensures ∙ c.if-is_past.false)) first) (c.requires.fits ∙ sym u.all) u.within
    inside u.all (subst (λ (h : Bool). BeginsOtherwise h (marks c.next_stretch-run.new.ahead.rest.now)) (or-left c.next_stretch-run.result.had (is_copied c.pieces.way c.pieces.at) (sym c.is_past.ensures ∙ c.if-is_past.false)) c.next_stretch-run.ensures.longest)
    (subst (λ (x : Configuration). EndsAligned x c.args.pass.device.0 c.pieces.at (c.pieces.at + here.count) 1 n) (c.config-then-is_forward.ensures.value ∙ u.config) c.piece_at-piece.ensures.ends) in
    let noting = rw (c.lost_run-lost.ensures, same) at c.in_ok-lose_run-in-Err.ensures.noted in
    let forward : c.pieces.way ≡ Forward = forward-is c.pieces.way (sym c.is_forward.ensures ∙ c.if-is_forward.true) in
    rw c.way_lost-way.ensures (record {
      so_far = record {
        calls = u.so_far.calls;
        under = subst (λ (m : ℕ). IsUnderway (is_some c.args.noted.now) before (scanned_by c.args.pass) old new (c.pieces.at + m) c.lose_run.new.tally c.lose_run.new.noted (way_lost c.args.pass.no_scrape) u.so_far.calls) (sym same)
            (underway-lost _ _ _ _ _ _ _ _ _ _ u.so_far.under n c.in-Err.fault c.read_bytes.new.self (g.L.Listing.told c.lose_run.new.listing) c.lose_run.new.tally c.lose_run.new.noted
            forward next c.piece_at-piece.ensures.some piece marked noting may (rw (c.lost_run-lost.ensures, same) at c.in_ok-lose_run-in-Err.ensures.told) (rw (c.lost_run-lost.ensures, same) at c.in_ok-lose_run-in-Err.ensures.tallied));
        did = u.so_far.did;
      };
      run = lost-any (λ w. IsWayRun (pass_over c.args.stack.now.config c.args.pass.device.0 before) (c.pieces.at + c.from-count.result) w) c.args.pass.no_scrape tt tt;
      copied_ahead = u.copied_ahead;
      region = lost-any (λ w. IsRegion w u.copied_ahead) c.args.pass.no_scrape tt tt;
      called = copies-failed g.D.BlockDev.state g.D.BlockDev.does (DeviceDoes g.O.BlockDev.state g.O.BlockDev.does) before c.args.pass.device.0 c.args.stack.now c.args.out.now c.pieces.at c.pieces.stack c.read_bytes.new.self c.pieces.out u.copied_ahead u.called (length (take (n * 512) c.pieces.room) / 512) c.from-count.result c.in-Err.fault c.in-Err.ensures.given;
      ahead = ahead-next before c.pieces.at c.from-count.result _ _ _ (u.ahead ∙ sym c.next_stretch-run.ensures.same) c.pass-in-Err.ensures.marks;
      config = c.in-Err.ensures.any.config ∙ u.config;
      within = omega (arith, inside, same, c.piece_at-piece.ensures.inside);
      all = u.all;
      few = u.few;
      unfailed = u.unfailed;
      noted = notes-some marks c.pieces.noted c.lose_run.new.noted _ noting.0 ∙ u.noted;
    })

pub finish-counts-requires : goal.finish-counts-requires
finish-counts-requires g c = few _ _ _ _ _ _ _ _ _ _ c.pieces.invariant.so_far.under

pub returns-clause-ok : goal.returns-clause-ok
returns-clause-ok g c =
    let u = c.pieces.invariant in
    let p = pass_over c.args.stack.now.config c.args.pass.device.0 (marks_ahead c.args.ahead) in
    underway-until _ _ _ _ _ _ _ _ _ _ u.so_far.under c.args.pass.deadline (g.L.Listing.told c.finish-counts.new.listing) c.sectors-sectors.result (record { counts = c.finish-counts.result; way = c.pieces.way }) (c.pass_end.ensures.ends c.pieces-test.false) u.all
    c.finish-counts.ensures.text c.finish-counts.ensures.value refl u.unfailed (subst (λ (n : ℕ). IsWayInside c.pieces.at c.pieces.way n) (sym u.all) (way-inside p c.pieces.at c.pieces.way u.run))

pub returns-clause-handed : goal.returns-clause-handed
returns-clause-handed g c = hands-over _ _ _ _ _ _ _ _ _ _ _ _ c.pieces.invariant.so_far c.args.listing.now c.finish-counts.new.listing c.finish-counts.result c.finish-counts.ensures.value

pub returns-in_err-note-clause-stopped : goal.returns-in_err-note-clause-stopped
returns-in_err-note-clause-stopped g c =
    err-from c.from_residual.result _ NoMemory (subst (λ (e : RecoveryFault). IsErrAnd c.from_residual.result (λ f. f ≡ e)) c.in_err-note.ensures.err.0 c.from_residual.ensures.1)
    (hands-part _ _ _ _ _ _ _ _ _ _ _ _ c.pieces.invariant.so_far c.args.listing.now c.pieces.listing c.pieces.stack)

pub returns-in_err-note-in-Ok-clause-stopped : goal.returns-in_err-note-in-Ok-clause-stopped
returns-in_err-note-in-Ok-clause-stopped g c =
    err-from c.from_residual-in_err-note-in-Ok.result _ NoMemory (subst (λ (e : RecoveryFault). IsErrAnd c.from_residual-in_err-note-in-Ok.result (λ f. f ≡ e)) c.in_err-note-in-Ok.ensures.err.0 c.from_residual-in_err-note-in-Ok.ensures.1)
    (hands-part _ _ _ _ _ _ _ _ _ _ _ _ c.pieces.invariant.so_far c.args.listing.now c.pieces.listing c.read_bytes.new.self)

pub returns-in_err-write-in-Ok-clause-stopped : goal.returns-in_err-write-in-Ok-clause-stopped
returns-in_err-write-in-Ok-clause-stopped g c =
    let n : ℕ = c.piece_at-piece.result.count in
    let wide : length (take (n * 512) c.pieces.room) ≡ n * 512 = length-take-le (n * 512) c.pieces.room (omega (arith, c.requires.buffer, c.pieces.auto.room, c.piece_at-piece.ensures.few)) in
    let number : length (take (n * 512) c.pieces.room) / 512 ≡ n = omega (arith, wide) in
    let bytes : List ℕ = c.read_bytes.new.out in
    let piece = subst (λ (m : ℕ). EachBytes c.pieces.stack c.args.pass.device.0 c.pieces.at m (Ok bytes) c.read_bytes.new.self) number (record { any = c.in-Ok.ensures.any; steady = c.in-Ok.ensures.steady }) in
    let first = first-run c.pieces.ahead c.next_stretch-run.new.ahead c.next_stretch-run.result c.next_stretch-run.ensures.same c.next_stretch-run.ensures.first in
    let marked : AreMarked (marks_ahead c.args.ahead) c.pieces.at n false = subst (AreMarked (marks_ahead c.args.ahead) c.pieces.at n) (or-left c.next_stretch-run.result.had (is_copied c.pieces.way c.pieces.at) (sym c.is_past.ensures ∙ c.if-is_past.false)) (marked-next (marks_ahead c.args.ahead) c.pieces.at n c.next_stretch-run.result.count c.next_stretch-run.result.had _ (omega (arith, c.piece_at-piece.ensures.inside)) (c.pieces.invariant.ahead ∙ first)) in
    err-from c.from_residual-in_err-write-in-Ok.result _ Output c.from_residual-in_err-write-in-Ok.ensures.1
    (hands-failed _ _ _ _ _ _ _ _ _ _ _ _ c.pieces.invariant.so_far c.args.listing.now c.pieces.listing c.read_bytes.new.self c.write.new.self 0 n bytes (subst (λ (k : ℕ). AreMarked (marks_ahead c.args.ahead) k n false) (sym (add-zero c.pieces.at)) marked)
    (subst (λ (k : ℕ). EachBytes c.pieces.stack c.args.pass.device.0 k n (Ok bytes) c.read_bytes.new.self) (sym (add-zero c.pieces.at)) piece)
    (subst (λ (k : ℕ). DeviceDoes g.O.BlockDev.state g.O.BlockDev.does c.pieces.out (Write k bytes false) c.write.new.self) (sym (add-zero c.pieces.at)) c.in_err-write-in-Ok.ensures.call))

pub returns-in_err-lose_run-in-Err-clause-stopped : goal.returns-in_err-lose_run-in-Err-clause-stopped
returns-in_err-lose_run-in-Err-clause-stopped g c =
    err-from c.from_residual-in_err-lose_run-in-Err.result _ _ c.from_residual-in_err-lose_run-in-Err.ensures.1
    (hands-in-run _ _ _ _ _ _ _ _ _ _ _ _ c.pieces.invariant.so_far c.args.listing.now c.lose_run.new.listing c.read_bytes.new.self (is_some c.pieces.noted) c.pieces.listing c.lose_run.new.listing
    c.in_err-lose_run-in-Err.field-0.0 c.in_err-lose_run-in-Err.ensures.err)

pub returns-clause-called : goal.returns-clause-called
returns-clause-called g c =
    let u = c.pieces.invariant in (
      u.copied_ahead,
      subst (λ (n : ℕ). CopiesLeaves g.D.BlockDev.state g.D.BlockDev.does (DeviceDoes g.O.BlockDev.state g.O.BlockDev.does) (marks_ahead c.args.ahead) c.args.pass.device.0 c.args.stack.now c.args.out.now n u.copied_ahead c.pieces.stack c.pieces.out)
          (counted-all _ _ _ _ _ _ _ _ _ _ u.so_far.under c.finish-counts.result c.finish-counts.ensures.value) u.called,
    )

pub returns-in_err-note-clause-called : goal.returns-in_err-note-clause-called
returns-in_err-note-clause-called g c =
    let p = err_from_is_err_and c.from_residual.result c.from_residual.ensures.1 in
    rw p.1 (inl (c.pieces.at, c.pieces.invariant.copied_ahead, c.pieces.invariant.called))

pub returns-in_err-note-in-Ok-clause-called : goal.returns-in_err-note-in-Ok-clause-called
returns-in_err-note-in-Ok-clause-called g c =
    let u = c.pieces.invariant in
    let count : ℕ = length (take (c.piece_at-piece.result.count * 512) c.pieces.room) / 512 in
    let p = err_from_is_err_and c.from_residual-in_err-note-in-Ok.result c.from_residual-in_err-note-in-Ok.ensures.1 in
    rw p.1 (inr (record { at = c.pieces.at; copied = u.copied_ahead; left = c.pieces.stack; out = c.pieces.out; first = c.pieces.at; after = omega arith; count = count; bytes = c.read_bytes.new.out; so_far = u.called; given = c.in-Ok.ensures.given; rest = inl refl }))

pub returns-in_err-write-in-Ok-clause-called : goal.returns-in_err-write-in-Ok-clause-called
returns-in_err-write-in-Ok-clause-called g c =
    let u = c.pieces.invariant in
    let count : ℕ = length (take (c.piece_at-piece.result.count * 512) c.pieces.room) / 512 in
    let p = err_from_is_err_and c.from_residual-in_err-write-in-Ok.result c.from_residual-in_err-write-in-Ok.ensures.1 in
    rw p.1 (inr (record { at = c.pieces.at; copied = u.copied_ahead; left = c.pieces.stack; out = c.pieces.out; first = c.pieces.at; after = omega arith; count = count; bytes = c.read_bytes.new.out; so_far = u.called; given = c.in-Ok.ensures.given; rest = inr c.in_err-write-in-Ok.ensures.call }))

pub returns-in_err-lose_run-in-Err-clause-called : goal.returns-in_err-lose_run-in-Err-clause-called
returns-in_err-lose_run-in-Err-clause-called g c =
    let u = c.pieces.invariant in
    let count : ℕ = length (take (c.piece_at-piece.result.count * 512) c.pieces.room) / 512 in
    let p = err_from_is_err_and c.from_residual-in_err-lose_run-in-Err.result c.from_residual-in_err-lose_run-in-Err.ensures.1 in
    rw p.1 (inl (c.pieces.at, u.copied_ahead, copies-again g.D.BlockDev.state g.D.BlockDev.does (DeviceDoes g.O.BlockDev.state g.O.BlockDev.does) (marks_ahead c.args.ahead) c.args.pass.device.0 c.args.stack.now c.args.out.now c.pieces.at c.pieces.stack c.read_bytes.new.self c.pieces.out u.copied_ahead u.called count c.in-Err.fault c.in-Err.ensures.given))

pub overflow_add-end : goal.overflow_add-end
overflow_add-end g c =
    let u = c.pieces.invariant in
    let first = first-run c.pieces.ahead c.next_stretch-run.new.ahead c.next_stretch-run.result c.next_stretch-run.ensures.same c.next_stretch-run.ensures.first in
    let inside = ahead-inside (marks_ahead c.args.ahead) c.pieces.at c.sectors-sectors.result c.next_stretch-run.result.count c.next_stretch-run.result.had _ _ (c.requires.fits ∙ sym u.all) u.ahead first u.within in
    omega (arith, inside, u.few)

pub read_behind-requires-clause-inside : goal.read_behind-requires-clause-inside
read_behind-requires-clause-inside g c =
    let u = c.pieces.invariant in
    let before : List Bool = marks_ahead c.args.ahead in
    let config : Configuration = c.args.stack.now.config in
    let p = pass_over config c.args.pass.device.0 before in
    let here : Run = c.next_stretch-run.result in
    let at : ℕ = c.pieces.at in
    let first = first-run c.pieces.ahead c.next_stretch-run.new.ahead c.next_stretch-run.result c.next_stretch-run.ensures.same c.next_stretch-run.ensures.first in
    let inside = ahead-inside (marks_ahead c.args.ahead) c.pieces.at c.sectors-sectors.result c.next_stretch-run.result.count c.next_stretch-run.result.had _ _ (c.requires.fits ∙ sym u.all) u.ahead first u.within in
    let had : here.had ≡ false = (or-left c.next_stretch-run.result.had (is_copied c.pieces.way c.pieces.at) (sym c.is_past.ensures ∙ c.if-is_past.false)) in
    let run_end : IsUnreadTo p at (at + here.count) =
    unread-run config c.args.pass.device.0 before at here.count c.sectors-sectors.result (marks c.next_stretch-run.new.ahead.rest.now)
    (u.ahead ∙ subst (λ (h : Bool). marks_ahead c.pieces.ahead ≡ replicate here.count h ++ marks c.next_stretch-run.new.ahead.rest.now) had first) (c.requires.fits ∙ sym u.all) u.within
    inside u.all (subst (λ (h : Bool). BeginsOtherwise h (marks c.next_stretch-run.new.ahead.rest.now)) had c.next_stretch-run.ensures.longest) in
    let low : ℕ = low_of c.pieces.way (at + here.count) in
    let low_is : c.low_of-low.result ≡ low = c.low_of-low.ensures in
    let turned : is_forward c.pieces.way ≡ false = sym c.is_forward.ensures ∙ c.if-is_forward.false in
    let probed : IsProbedTo p at c.pieces.way low = probed-from p at here.count c.next_stretch-run.ensures.some c.pieces.way turned run_end in
    let after : at < low = probed-some p at here.count c.next_stretch-run.ensures.some c.pieces.way u.run (or-right here.had (is_copied c.pieces.way at) (sym c.is_past.ensures ∙ c.if-is_past.false)) in
    let below : low ≤ at + here.count = probed-within p at here.count c.next_stretch-run.ensures.some c.pieces.way u.run run_end in
    let marked : AreMarked before at (low - at) false = λ j less. run_end.unread j (omega (arith, less, below)) in
    (omega (arith, after, low_is), subst (λ (x : Configuration). c.low_of-low.result ≤ size x (mapped c.args.pass.device.0)) (sym u.config) (subst (λ (m : ℕ). c.low_of-low.result ≤ m) u.all (omega (arith, below, low_is, inside))))

pub read_behind-requires-clause-room : goal.read_behind-requires-clause-room
read_behind-requires-clause-room g c =
    let u = c.pieces.invariant in
    (omega (arith, c.requires.room, u.so_far.under.copied.same.size, ap (λ (x : Configuration). size x (mapped c.args.pass.device.0)) u.config), subst IsTrue (sym u.so_far.under.copied.same.may_write) c.requires.allowed)

pub returns-in_err-behind-clause-err : goal.returns-in_err-behind-clause-err
returns-in_err-behind-clause-err g c =
    let u = c.pieces.invariant in
    let before : List Bool = marks_ahead c.args.ahead in
    let config : Configuration = c.args.stack.now.config in
    let p = pass_over config c.args.pass.device.0 before in
    let here : Run = c.next_stretch-run.result in
    let at : ℕ = c.pieces.at in
    let first = first-run c.pieces.ahead c.next_stretch-run.new.ahead c.next_stretch-run.result c.next_stretch-run.ensures.same c.next_stretch-run.ensures.first in
    let inside = ahead-inside (marks_ahead c.args.ahead) c.pieces.at c.sectors-sectors.result c.next_stretch-run.result.count c.next_stretch-run.result.had _ _ (c.requires.fits ∙ sym u.all) u.ahead first u.within in
    let had : here.had ≡ false = (or-left c.next_stretch-run.result.had (is_copied c.pieces.way c.pieces.at) (sym c.is_past.ensures ∙ c.if-is_past.false)) in
    let run_end : IsUnreadTo p at (at + here.count) =
    unread-run config c.args.pass.device.0 before at here.count c.sectors-sectors.result (marks c.next_stretch-run.new.ahead.rest.now)
    (u.ahead ∙ subst (λ (h : Bool). marks_ahead c.pieces.ahead ≡ replicate here.count h ++ marks c.next_stretch-run.new.ahead.rest.now) had first) (c.requires.fits ∙ sym u.all) u.within
    inside u.all (subst (λ (h : Bool). BeginsOtherwise h (marks c.next_stretch-run.new.ahead.rest.now)) had c.next_stretch-run.ensures.longest) in
    let low : ℕ = low_of c.pieces.way (at + here.count) in
    let low_is : c.low_of-low.result ≡ low = c.low_of-low.ensures in
    let turned : is_forward c.pieces.way ≡ false = sym c.is_forward.ensures ∙ c.if-is_forward.false in
    let probed : IsProbedTo p at c.pieces.way low = probed-from p at here.count c.next_stretch-run.ensures.some c.pieces.way turned run_end in
    let after : at < low = probed-some p at here.count c.next_stretch-run.ensures.some c.pieces.way u.run (or-right here.had (is_copied c.pieces.way at) (sym c.is_past.ensures ∙ c.if-is_past.false)) in
    let below : low ≤ at + here.count = probed-within p at here.count c.next_stretch-run.ensures.some c.pieces.way u.run run_end in
    let marked : AreMarked before at (low - at) false = λ j less. run_end.unread j (omega (arith, less, below)) in
    let marked_low : AreMarked before at (c.low_of-low.result - at) false = subst (λ (k : ℕ). AreMarked before at (k - at) false) (sym low_is) marked in
    let old : Sides = sides c.args.stack.now (g.O.BlockDev.state c.args.out.now) (g.L.Listing.told c.args.listing.now) in
    let now : Sides = sides c.pieces.stack (g.O.BlockDev.state c.pieces.out) (g.L.Listing.told c.pieces.listing) in
    err-from c.from_residual-in_err-behind.result _ c.in_err-behind.field-0.0 c.from_residual-in_err-behind.ensures.1
    (stops-early (is_some c.args.noted.now) (marks_ahead c.args.ahead) (scanned_by c.args.pass) old now c.pieces.at c.pieces.tally c.pieces.noted c.pieces.way u.so_far.calls u.so_far.under g.D.BlockDev.state g.D.BlockDev.does g.O.BlockDev.state (DeviceDoes g.O.BlockDev.state g.O.BlockDev.does) c.pieces.out c.read_behind.new.out c.read_behind.new.stack c.in_err-behind.field-0.0 refl u.unfailed c.low_of-low.result marked_low c.in_err-behind.ensures.err)

pub returns-in_err-behind-clause-stopped : goal.returns-in_err-behind-clause-stopped
returns-in_err-behind-clause-stopped g c =
    let u = c.pieces.invariant in
    let before : List Bool = marks_ahead c.args.ahead in
    let config : Configuration = c.args.stack.now.config in
    let p = pass_over config c.args.pass.device.0 before in
    let here : Run = c.next_stretch-run.result in
    let at : ℕ = c.pieces.at in
    let first = first-run c.pieces.ahead c.next_stretch-run.new.ahead c.next_stretch-run.result c.next_stretch-run.ensures.same c.next_stretch-run.ensures.first in
    let inside = ahead-inside (marks_ahead c.args.ahead) c.pieces.at c.sectors-sectors.result c.next_stretch-run.result.count c.next_stretch-run.result.had _ _ (c.requires.fits ∙ sym u.all) u.ahead first u.within in
    let had : here.had ≡ false = (or-left c.next_stretch-run.result.had (is_copied c.pieces.way c.pieces.at) (sym c.is_past.ensures ∙ c.if-is_past.false)) in
    let run_end : IsUnreadTo p at (at + here.count) =
    unread-run config c.args.pass.device.0 before at here.count c.sectors-sectors.result (marks c.next_stretch-run.new.ahead.rest.now)
    (u.ahead ∙ subst (λ (h : Bool). marks_ahead c.pieces.ahead ≡ replicate here.count h ++ marks c.next_stretch-run.new.ahead.rest.now) had first) (c.requires.fits ∙ sym u.all) u.within
    inside u.all (subst (λ (h : Bool). BeginsOtherwise h (marks c.next_stretch-run.new.ahead.rest.now)) had c.next_stretch-run.ensures.longest) in
    let low : ℕ = low_of c.pieces.way (at + here.count) in
    let low_is : c.low_of-low.result ≡ low = c.low_of-low.ensures in
    let turned : is_forward c.pieces.way ≡ false = sym c.is_forward.ensures ∙ c.if-is_forward.false in
    let probed : IsProbedTo p at c.pieces.way low = probed-from p at here.count c.next_stretch-run.ensures.some c.pieces.way turned run_end in
    let after : at < low = probed-some p at here.count c.next_stretch-run.ensures.some c.pieces.way u.run (or-right here.had (is_copied c.pieces.way at) (sym c.is_past.ensures ∙ c.if-is_past.false)) in
    let below : low ≤ at + here.count = probed-within p at here.count c.next_stretch-run.ensures.some c.pieces.way u.run run_end in
    let marked : AreMarked before at (low - at) false = λ j less. run_end.unread j (omega (arith, less, below)) in
    let marked_low : AreMarked before at (c.low_of-low.result - at) false = subst (λ (k : ℕ). AreMarked before at (k - at) false) (sym low_is) marked in
    err-from c.from_residual-in_err-behind.result _ c.in_err-behind.field-0.0 c.from_residual-in_err-behind.ensures.1
    (stops-handing (DeviceDoes g.O.BlockDev.state g.O.BlockDev.does) (is_some c.args.noted.now) (marks_ahead c.args.ahead) (scanned_by c.args.pass) _ _ c.pieces.at c.pieces.tally c.pieces.noted c.pieces.way c.args.out.now c.pieces.out u.so_far c.args.listing.now c.pieces.listing g.D.BlockDev.state g.D.BlockDev.does g.O.BlockDev.state c.read_behind.new.stack c.read_behind.new.out c.in_err-behind.field-0.0 c.low_of-low.result marked_low c.in_err-behind.ensures.err)

pub returns-in_err-behind-clause-called : goal.returns-in_err-behind-clause-called
returns-in_err-behind-clause-called g c =
    let u = c.pieces.invariant in
    let q = err_from_is_err_and c.from_residual-in_err-behind.result c.from_residual-in_err-behind.ensures.1 in
    rw q.1 (stops-called g.D.BlockDev.state g.D.BlockDev.does (DeviceDoes g.O.BlockDev.state g.O.BlockDev.does) (marks_ahead c.args.ahead) c.args.pass.device.0 c.args.stack.now c.args.out.now c.pieces.at c.pieces.stack c.pieces.out u.copied_ahead u.called g.O.BlockDev.state c.read_behind.new.stack c.read_behind.new.out c.in_err-behind.field-0.0 c.low_of-low.result c.in_err-behind.ensures.err)

pub pieces-preserved-in-Copied : goal.pieces-preserved-in-Copied
pieces-preserved-in-Copied g c =
    let u = c.pieces.invariant in
    let before : List Bool = marks_ahead c.args.ahead in
    let config : Configuration = c.args.stack.now.config in
    let p = pass_over config c.args.pass.device.0 before in
    let here : Run = c.next_stretch-run.result in
    let at : ℕ = c.pieces.at in
    let first = first-run c.pieces.ahead c.next_stretch-run.new.ahead c.next_stretch-run.result c.next_stretch-run.ensures.same c.next_stretch-run.ensures.first in
    let inside = ahead-inside (marks_ahead c.args.ahead) c.pieces.at c.sectors-sectors.result c.next_stretch-run.result.count c.next_stretch-run.result.had _ _ (c.requires.fits ∙ sym u.all) u.ahead first u.within in
    let had : here.had ≡ false = (or-left c.next_stretch-run.result.had (is_copied c.pieces.way c.pieces.at) (sym c.is_past.ensures ∙ c.if-is_past.false)) in
    let run_end : IsUnreadTo p at (at + here.count) =
    unread-run config c.args.pass.device.0 before at here.count c.sectors-sectors.result (marks c.next_stretch-run.new.ahead.rest.now)
    (u.ahead ∙ subst (λ (h : Bool). marks_ahead c.pieces.ahead ≡ replicate here.count h ++ marks c.next_stretch-run.new.ahead.rest.now) had first) (c.requires.fits ∙ sym u.all) u.within
    inside u.all (subst (λ (h : Bool). BeginsOtherwise h (marks c.next_stretch-run.new.ahead.rest.now)) had c.next_stretch-run.ensures.longest) in
    let low : ℕ = low_of c.pieces.way (at + here.count) in
    let low_is : c.low_of-low.result ≡ low = c.low_of-low.ensures in
    let turned : is_forward c.pieces.way ≡ false = sym c.is_forward.ensures ∙ c.if-is_forward.false in
    let probed : IsProbedTo p at c.pieces.way low = probed-from p at here.count c.next_stretch-run.ensures.some c.pieces.way turned run_end in
    let after : at < low = probed-some p at here.count c.next_stretch-run.ensures.some c.pieces.way u.run (or-right here.had (is_copied c.pieces.way at) (sym c.is_past.ensures ∙ c.if-is_past.false)) in
    let below : low ≤ at + here.count = probed-within p at here.count c.next_stretch-run.ensures.some c.pieces.way u.run run_end in
    let marked : AreMarked before at (low - at) false = λ j less. run_end.unread j (omega (arith, less, below)) in
    let old : Sides = sides c.args.stack.now (g.O.BlockDev.state c.args.out.now) (g.L.Listing.told c.args.listing.now) in
    let now : Sides = sides c.pieces.stack (g.O.BlockDev.state c.pieces.out) (g.L.Listing.told c.pieces.listing) in
    let b : CopiesBehind g.D.BlockDev.state g.D.BlockDev.does g.O.BlockDev.state (DeviceDoes g.O.BlockDev.state g.O.BlockDev.does) c.args.pass.device.0 at low c.pieces.stack c.pieces.out c.read_behind.new.stack c.read_behind.new.out c.in-Copied.first =
    subst (λ (k : ℕ). CopiesBehind g.D.BlockDev.state g.D.BlockDev.does g.O.BlockDev.state (DeviceDoes g.O.BlockDev.state g.O.BlockDev.does) c.args.pass.device.0 at k c.pieces.stack c.pieces.out c.read_behind.new.stack c.read_behind.new.out c.in-Copied.first) low_is
    (subst (ReadsBehind g.D.BlockDev.state g.D.BlockDev.does g.O.BlockDev.state (DeviceDoes g.O.BlockDev.state g.O.BlockDev.does) c.args.pass.device.0 at c.low_of-low.result c.pieces.stack c.pieces.out c.read_behind.new.stack c.read_behind.new.out) c.in-Copied.is c.in_ok-behind.ensures.ok) in
    let x = called-behind g.D.BlockDev.state g.D.BlockDev.does (DeviceDoes g.O.BlockDev.state g.O.BlockDev.does) before config c.args.pass.device.0 c.args.stack.now c.args.out.now at c.pieces.stack c.pieces.out c.pieces.way u.copied_ahead low g.O.BlockDev.state c.in-Copied.first c.read_behind.new.stack c.read_behind.new.out u.called u.region probed b in
    rw (c.way_probed-way.ensures, low_is) (record {
      so_far = record {
        calls = u.so_far.calls ++ Write c.in-Copied.first b.bytes true ∷ [];
        under = underway-behind (is_some c.args.noted.now) before (scanned_by c.args.pass) old now at c.pieces.tally c.pieces.noted c.pieces.way u.so_far.calls u.so_far.under low probed marked g.D.BlockDev.state g.D.BlockDev.does g.O.BlockDev.state (DeviceDoes g.O.BlockDev.state g.O.BlockDev.does) c.pieces.out c.read_behind.new.out c.read_behind.new.stack c.in-Copied.first refl b;
        did = calls-last (DeviceDoes g.O.BlockDev.state g.O.BlockDev.does) c.args.out.now c.pieces.out c.read_behind.new.out u.so_far.calls (Write c.in-Copied.first b.bytes true) u.so_far.did b.did;
      };
      run = run-behind p at low c.pieces.way c.in-Copied.first u.run probed b.after b.some;
      copied_ahead = x.0;
      called = x.2;
      region = x.1;
      ahead = u.ahead ∙ sym c.next_stretch-run.ensures.same;
      config = b.answered.any.config ∙ u.config;
      within = u.within;
      all = u.all;
      few = u.few;
      unfailed = b.unfailed ∙ u.unfailed;
      noted = u.noted;
    })

pub note_end-requires-clause-some : goal.note_end-requires-clause-some
note_end-requires-clause-some g c =
    let b = subst (ReadsBehind g.D.BlockDev.state g.D.BlockDev.does g.O.BlockDev.state (DeviceDoes g.O.BlockDev.state g.O.BlockDev.does) c.args.pass.device.0 c.pieces.at c.low_of-low.result c.pieces.stack c.pieces.out c.read_behind.new.stack c.read_behind.new.out) c.in-Lost.is c.in_ok-behind.ensures.ok in
    b.0.some

pub note_end-requires-clause-marks : goal.note_end-requires-clause-marks
note_end-requires-clause-marks g c =
    let u = c.pieces.invariant in
    let before : List Bool = marks_ahead c.args.ahead in
    let config : Configuration = c.args.stack.now.config in
    let p = pass_over config c.args.pass.device.0 before in
    let here : Run = c.next_stretch-run.result in
    let at : ℕ = c.pieces.at in
    let first = first-run c.pieces.ahead c.next_stretch-run.new.ahead c.next_stretch-run.result c.next_stretch-run.ensures.same c.next_stretch-run.ensures.first in
    let inside = ahead-inside (marks_ahead c.args.ahead) c.pieces.at c.sectors-sectors.result c.next_stretch-run.result.count c.next_stretch-run.result.had _ _ (c.requires.fits ∙ sym u.all) u.ahead first u.within in
    let had : here.had ≡ false = (or-left c.next_stretch-run.result.had (is_copied c.pieces.way c.pieces.at) (sym c.is_past.ensures ∙ c.if-is_past.false)) in
    let run_end : IsUnreadTo p at (at + here.count) =
    unread-run config c.args.pass.device.0 before at here.count c.sectors-sectors.result (marks c.next_stretch-run.new.ahead.rest.now)
    (u.ahead ∙ subst (λ (h : Bool). marks_ahead c.pieces.ahead ≡ replicate here.count h ++ marks c.next_stretch-run.new.ahead.rest.now) had first) (c.requires.fits ∙ sym u.all) u.within
    inside u.all (subst (λ (h : Bool). BeginsOtherwise h (marks c.next_stretch-run.new.ahead.rest.now)) had c.next_stretch-run.ensures.longest) in
    let low : ℕ = low_of c.pieces.way (at + here.count) in
    let low_is : c.low_of-low.result ≡ low = c.low_of-low.ensures in
    let turned : is_forward c.pieces.way ≡ false = sym c.is_forward.ensures ∙ c.if-is_forward.false in
    let probed : IsProbedTo p at c.pieces.way low = probed-from p at here.count c.next_stretch-run.ensures.some c.pieces.way turned run_end in
    let after : at < low = probed-some p at here.count c.next_stretch-run.ensures.some c.pieces.way u.run (or-right here.had (is_copied c.pieces.way at) (sym c.is_past.ensures ∙ c.if-is_past.false)) in
    let below : low ≤ at + here.count = probed-within p at here.count c.next_stretch-run.ensures.some c.pieces.way u.run run_end in
    let marked : AreMarked before at (low - at) false = λ j less. run_end.unread j (omega (arith, less, below)) in
    let b = subst (ReadsBehind g.D.BlockDev.state g.D.BlockDev.does g.O.BlockDev.state (DeviceDoes g.O.BlockDev.state g.O.BlockDev.does) c.args.pass.device.0 at c.low_of-low.result c.pieces.stack c.pieces.out c.read_behind.new.stack c.read_behind.new.out) c.in-Lost.is c.in_ok-behind.ensures.ok in
    let e = b.0 in
    let ends : at + (c.in-Lost.last.before + c.in-Lost.last.count) ≡ low = e.ends ∙ low_is in
    λ x e. note-room _ _ _ _ _ _ _ _ _ _ u.so_far.under (c.in-Lost.last.before + c.in-Lost.last.count) (omega (arith, inside, u.few, below, ends)) x e

pub returns-in_err-note_end-in-Lost-clause-err : goal.returns-in_err-note_end-in-Lost-clause-err
returns-in_err-note_end-in-Lost-clause-err g c =
    let u = c.pieces.invariant in
    let before : List Bool = marks_ahead c.args.ahead in
    let old : Sides = sides c.args.stack.now (g.O.BlockDev.state c.args.out.now) (g.L.Listing.told c.args.listing.now) in
    let new : Sides = sides c.read_behind.new.stack (g.O.BlockDev.state c.pieces.out) (g.L.Listing.told c.pieces.listing) in
    let b = subst (ReadsBehind g.D.BlockDev.state g.D.BlockDev.does g.O.BlockDev.state (DeviceDoes g.O.BlockDev.state g.O.BlockDev.does) c.args.pass.device.0 c.pieces.at c.low_of-low.result c.pieces.stack c.pieces.out c.read_behind.new.stack c.read_behind.new.out) c.in-Lost.is c.in_ok-behind.ensures.ok in
    err-from c.from_residual-in_err-note_end-in-Lost.result _ _ c.from_residual-in_err-note_end-in-Lost.ensures.1
    (subst (EndsEarly (is_some c.args.noted.now) before (scanned_by c.args.pass) old (sides c.read_behind.new.stack (g.O.BlockDev.state c.read_behind.new.out) (g.L.Listing.told c.pieces.listing))) (sym c.in_err-note_end-in-Lost.ensures.err.0)
    (rw b.1 (runs-short _ _ _ _ _ _ _ _ _ _ u.so_far.under c.read_behind.new.stack u.unfailed (inr (sym u.noted ∙ c.in_err-note_end-in-Lost.ensures.err.1.0, c.in_err-note_end-in-Lost.ensures.err.1.1)))))

pub returns-in_err-note_end-in-Lost-clause-stopped : goal.returns-in_err-note_end-in-Lost-clause-stopped
returns-in_err-note_end-in-Lost-clause-stopped g c =
    let u = c.pieces.invariant in
    let b = subst (ReadsBehind g.D.BlockDev.state g.D.BlockDev.does g.O.BlockDev.state (DeviceDoes g.O.BlockDev.state g.O.BlockDev.does) c.args.pass.device.0 c.pieces.at c.low_of-low.result c.pieces.stack c.pieces.out c.read_behind.new.stack c.read_behind.new.out) c.in-Lost.is c.in_ok-behind.ensures.ok in
    err-from c.from_residual-in_err-note_end-in-Lost.result _ NoMemory (subst (λ (e : RecoveryFault). IsErrAnd c.from_residual-in_err-note_end-in-Lost.result (λ f. f ≡ e)) c.in_err-note_end-in-Lost.ensures.err.0 c.from_residual-in_err-note_end-in-Lost.ensures.1)
    (rw b.1 (hands-part _ _ _ _ _ _ _ _ _ _ _ _ u.so_far c.args.listing.now c.pieces.listing c.read_behind.new.stack))

pub returns-in_err-note_end-in-Lost-clause-called : goal.returns-in_err-note_end-in-Lost-clause-called
returns-in_err-note_end-in-Lost-clause-called g c =
    let u = c.pieces.invariant in
    let b = subst (ReadsBehind g.D.BlockDev.state g.D.BlockDev.does g.O.BlockDev.state (DeviceDoes g.O.BlockDev.state g.O.BlockDev.does) c.args.pass.device.0 c.pieces.at c.low_of-low.result c.pieces.stack c.pieces.out c.read_behind.new.stack c.read_behind.new.out) c.in-Lost.is c.in_ok-behind.ensures.ok in
    let q = err_from_is_err_and c.from_residual-in_err-note_end-in-Lost.result c.from_residual-in_err-note_end-in-Lost.ensures.1 in
    rw (q.1, b.1) (inl (c.pieces.at + 0, u.copied_ahead, called-trimmed g.D.BlockDev.state g.D.BlockDev.does (DeviceDoes g.O.BlockDev.state g.O.BlockDev.does) (marks_ahead c.args.ahead) c.args.stack.now.config c.args.pass.device.0 c.args.stack.now c.args.out.now c.pieces.at c.pieces.stack c.pieces.out u.copied_ahead c.low_of-low.result 0 c.read_behind.new.stack c.in-Lost.last u.called b.0))

pub tell_end-requires-clause-few : goal.tell_end-requires-clause-few
tell_end-requires-clause-few g c =
    let u = c.pieces.invariant in
    few _ _ _ _ _ _ _ _ _ _ u.so_far.under

pub tell_end-requires-clause-room : goal.tell_end-requires-clause-room
tell_end-requires-clause-room g c =
    let u = c.pieces.invariant in
    let before : List Bool = marks_ahead c.args.ahead in
    let config : Configuration = c.args.stack.now.config in
    let p = pass_over config c.args.pass.device.0 before in
    let here : Run = c.next_stretch-run.result in
    let at : ℕ = c.pieces.at in
    let first = first-run c.pieces.ahead c.next_stretch-run.new.ahead c.next_stretch-run.result c.next_stretch-run.ensures.same c.next_stretch-run.ensures.first in
    let inside = ahead-inside (marks_ahead c.args.ahead) c.pieces.at c.sectors-sectors.result c.next_stretch-run.result.count c.next_stretch-run.result.had _ _ (c.requires.fits ∙ sym u.all) u.ahead first u.within in
    let had : here.had ≡ false = (or-left c.next_stretch-run.result.had (is_copied c.pieces.way c.pieces.at) (sym c.is_past.ensures ∙ c.if-is_past.false)) in
    let run_end : IsUnreadTo p at (at + here.count) =
    unread-run config c.args.pass.device.0 before at here.count c.sectors-sectors.result (marks c.next_stretch-run.new.ahead.rest.now)
    (u.ahead ∙ subst (λ (h : Bool). marks_ahead c.pieces.ahead ≡ replicate here.count h ++ marks c.next_stretch-run.new.ahead.rest.now) had first) (c.requires.fits ∙ sym u.all) u.within
    inside u.all (subst (λ (h : Bool). BeginsOtherwise h (marks c.next_stretch-run.new.ahead.rest.now)) had c.next_stretch-run.ensures.longest) in
    let low : ℕ = low_of c.pieces.way (at + here.count) in
    let low_is : c.low_of-low.result ≡ low = c.low_of-low.ensures in
    let turned : is_forward c.pieces.way ≡ false = sym c.is_forward.ensures ∙ c.if-is_forward.false in
    let probed : IsProbedTo p at c.pieces.way low = probed-from p at here.count c.next_stretch-run.ensures.some c.pieces.way turned run_end in
    let after : at < low = probed-some p at here.count c.next_stretch-run.ensures.some c.pieces.way u.run (or-right here.had (is_copied c.pieces.way at) (sym c.is_past.ensures ∙ c.if-is_past.false)) in
    let below : low ≤ at + here.count = probed-within p at here.count c.next_stretch-run.ensures.some c.pieces.way u.run run_end in
    let marked : AreMarked before at (low - at) false = λ j less. run_end.unread j (omega (arith, less, below)) in
    let b = subst (ReadsBehind g.D.BlockDev.state g.D.BlockDev.does g.O.BlockDev.state (DeviceDoes g.O.BlockDev.state g.O.BlockDev.does) c.args.pass.device.0 at c.low_of-low.result c.pieces.stack c.pieces.out c.read_behind.new.stack c.read_behind.new.out) c.in-Lost.is c.in_ok-behind.ensures.ok in
    let e = b.0 in
    let ends : at + (c.in-Lost.last.before + c.in-Lost.last.count) ≡ low = e.ends ∙ low_is in
    omega (arith, inside, u.few, below, ends)

pub overflow_add-last : goal.overflow_add-last
overflow_add-last g c =
    let u = c.pieces.invariant in
    let before : List Bool = marks_ahead c.args.ahead in
    let config : Configuration = c.args.stack.now.config in
    let p = pass_over config c.args.pass.device.0 before in
    let here : Run = c.next_stretch-run.result in
    let at : ℕ = c.pieces.at in
    let first = first-run c.pieces.ahead c.next_stretch-run.new.ahead c.next_stretch-run.result c.next_stretch-run.ensures.same c.next_stretch-run.ensures.first in
    let inside = ahead-inside (marks_ahead c.args.ahead) c.pieces.at c.sectors-sectors.result c.next_stretch-run.result.count c.next_stretch-run.result.had _ _ (c.requires.fits ∙ sym u.all) u.ahead first u.within in
    let had : here.had ≡ false = (or-left c.next_stretch-run.result.had (is_copied c.pieces.way c.pieces.at) (sym c.is_past.ensures ∙ c.if-is_past.false)) in
    let run_end : IsUnreadTo p at (at + here.count) =
    unread-run config c.args.pass.device.0 before at here.count c.sectors-sectors.result (marks c.next_stretch-run.new.ahead.rest.now)
    (u.ahead ∙ subst (λ (h : Bool). marks_ahead c.pieces.ahead ≡ replicate here.count h ++ marks c.next_stretch-run.new.ahead.rest.now) had first) (c.requires.fits ∙ sym u.all) u.within
    inside u.all (subst (λ (h : Bool). BeginsOtherwise h (marks c.next_stretch-run.new.ahead.rest.now)) had c.next_stretch-run.ensures.longest) in
    let low : ℕ = low_of c.pieces.way (at + here.count) in
    let low_is : c.low_of-low.result ≡ low = c.low_of-low.ensures in
    let turned : is_forward c.pieces.way ≡ false = sym c.is_forward.ensures ∙ c.if-is_forward.false in
    let probed : IsProbedTo p at c.pieces.way low = probed-from p at here.count c.next_stretch-run.ensures.some c.pieces.way turned run_end in
    let after : at < low = probed-some p at here.count c.next_stretch-run.ensures.some c.pieces.way u.run (or-right here.had (is_copied c.pieces.way at) (sym c.is_past.ensures ∙ c.if-is_past.false)) in
    let below : low ≤ at + here.count = probed-within p at here.count c.next_stretch-run.ensures.some c.pieces.way u.run run_end in
    let marked : AreMarked before at (low - at) false = λ j less. run_end.unread j (omega (arith, less, below)) in
    let b = subst (ReadsBehind g.D.BlockDev.state g.D.BlockDev.does g.O.BlockDev.state (DeviceDoes g.O.BlockDev.state g.O.BlockDev.does) c.args.pass.device.0 at c.low_of-low.result c.pieces.stack c.pieces.out c.read_behind.new.stack c.read_behind.new.out) c.in-Lost.is c.in_ok-behind.ensures.ok in
    let e = b.0 in
    let ends : at + (c.in-Lost.last.before + c.in-Lost.last.count) ≡ low = e.ends ∙ low_is in
    omega (arith, inside, u.few, below, ends)

pub overflow_add-at-in-Lost : goal.overflow_add-at-in-Lost
overflow_add-at-in-Lost g c =
    let u = c.pieces.invariant in
    let before : List Bool = marks_ahead c.args.ahead in
    let config : Configuration = c.args.stack.now.config in
    let p = pass_over config c.args.pass.device.0 before in
    let here : Run = c.next_stretch-run.result in
    let at : ℕ = c.pieces.at in
    let first = first-run c.pieces.ahead c.next_stretch-run.new.ahead c.next_stretch-run.result c.next_stretch-run.ensures.same c.next_stretch-run.ensures.first in
    let inside = ahead-inside (marks_ahead c.args.ahead) c.pieces.at c.sectors-sectors.result c.next_stretch-run.result.count c.next_stretch-run.result.had _ _ (c.requires.fits ∙ sym u.all) u.ahead first u.within in
    let had : here.had ≡ false = (or-left c.next_stretch-run.result.had (is_copied c.pieces.way c.pieces.at) (sym c.is_past.ensures ∙ c.if-is_past.false)) in
    let run_end : IsUnreadTo p at (at + here.count) =
    unread-run config c.args.pass.device.0 before at here.count c.sectors-sectors.result (marks c.next_stretch-run.new.ahead.rest.now)
    (u.ahead ∙ subst (λ (h : Bool). marks_ahead c.pieces.ahead ≡ replicate here.count h ++ marks c.next_stretch-run.new.ahead.rest.now) had first) (c.requires.fits ∙ sym u.all) u.within
    inside u.all (subst (λ (h : Bool). BeginsOtherwise h (marks c.next_stretch-run.new.ahead.rest.now)) had c.next_stretch-run.ensures.longest) in
    let low : ℕ = low_of c.pieces.way (at + here.count) in
    let low_is : c.low_of-low.result ≡ low = c.low_of-low.ensures in
    let turned : is_forward c.pieces.way ≡ false = sym c.is_forward.ensures ∙ c.if-is_forward.false in
    let probed : IsProbedTo p at c.pieces.way low = probed-from p at here.count c.next_stretch-run.ensures.some c.pieces.way turned run_end in
    let after : at < low = probed-some p at here.count c.next_stretch-run.ensures.some c.pieces.way u.run (or-right here.had (is_copied c.pieces.way at) (sym c.is_past.ensures ∙ c.if-is_past.false)) in
    let below : low ≤ at + here.count = probed-within p at here.count c.next_stretch-run.ensures.some c.pieces.way u.run run_end in
    let marked : AreMarked before at (low - at) false = λ j less. run_end.unread j (omega (arith, less, below)) in
    let b = subst (ReadsBehind g.D.BlockDev.state g.D.BlockDev.does g.O.BlockDev.state (DeviceDoes g.O.BlockDev.state g.O.BlockDev.does) c.args.pass.device.0 at c.low_of-low.result c.pieces.stack c.pieces.out c.read_behind.new.stack c.read_behind.new.out) c.in-Lost.is c.in_ok-behind.ensures.ok in
    let e = b.0 in
    let ends : at + (c.in-Lost.last.before + c.in-Lost.last.count) ≡ low = e.ends ∙ low_is in
    omega (arith, inside, u.few, below, ends)

pub overflow_add-at-in-Lost-2 : goal.overflow_add-at-in-Lost-2
overflow_add-at-in-Lost-2 g c =
    let u = c.pieces.invariant in
    let before : List Bool = marks_ahead c.args.ahead in
    let config : Configuration = c.args.stack.now.config in
    let p = pass_over config c.args.pass.device.0 before in
    let here : Run = c.next_stretch-run.result in
    let at : ℕ = c.pieces.at in
    let first = first-run c.pieces.ahead c.next_stretch-run.new.ahead c.next_stretch-run.result c.next_stretch-run.ensures.same c.next_stretch-run.ensures.first in
    let inside = ahead-inside (marks_ahead c.args.ahead) c.pieces.at c.sectors-sectors.result c.next_stretch-run.result.count c.next_stretch-run.result.had _ _ (c.requires.fits ∙ sym u.all) u.ahead first u.within in
    let had : here.had ≡ false = (or-left c.next_stretch-run.result.had (is_copied c.pieces.way c.pieces.at) (sym c.is_past.ensures ∙ c.if-is_past.false)) in
    let run_end : IsUnreadTo p at (at + here.count) =
    unread-run config c.args.pass.device.0 before at here.count c.sectors-sectors.result (marks c.next_stretch-run.new.ahead.rest.now)
    (u.ahead ∙ subst (λ (h : Bool). marks_ahead c.pieces.ahead ≡ replicate here.count h ++ marks c.next_stretch-run.new.ahead.rest.now) had first) (c.requires.fits ∙ sym u.all) u.within
    inside u.all (subst (λ (h : Bool). BeginsOtherwise h (marks c.next_stretch-run.new.ahead.rest.now)) had c.next_stretch-run.ensures.longest) in
    let low : ℕ = low_of c.pieces.way (at + here.count) in
    let low_is : c.low_of-low.result ≡ low = c.low_of-low.ensures in
    let turned : is_forward c.pieces.way ≡ false = sym c.is_forward.ensures ∙ c.if-is_forward.false in
    let probed : IsProbedTo p at c.pieces.way low = probed-from p at here.count c.next_stretch-run.ensures.some c.pieces.way turned run_end in
    let after : at < low = probed-some p at here.count c.next_stretch-run.ensures.some c.pieces.way u.run (or-right here.had (is_copied c.pieces.way at) (sym c.is_past.ensures ∙ c.if-is_past.false)) in
    let below : low ≤ at + here.count = probed-within p at here.count c.next_stretch-run.ensures.some c.pieces.way u.run run_end in
    let marked : AreMarked before at (low - at) false = λ j less. run_end.unread j (omega (arith, less, below)) in
    let b = subst (ReadsBehind g.D.BlockDev.state g.D.BlockDev.does g.O.BlockDev.state (DeviceDoes g.O.BlockDev.state g.O.BlockDev.does) c.args.pass.device.0 at c.low_of-low.result c.pieces.stack c.pieces.out c.read_behind.new.stack c.read_behind.new.out) c.in-Lost.is c.in_ok-behind.ensures.ok in
    let e = b.0 in
    let ends : at + (c.in-Lost.last.before + c.in-Lost.last.count) ≡ low = e.ends ∙ low_is in
    omega (arith, inside, u.few, below, ends)

pub pass-requires-in-Lost : goal.pass-requires-in-Lost
pass-requires-in-Lost g c =
    let u = c.pieces.invariant in
    let before : List Bool = marks_ahead c.args.ahead in
    let config : Configuration = c.args.stack.now.config in
    let p = pass_over config c.args.pass.device.0 before in
    let here : Run = c.next_stretch-run.result in
    let at : ℕ = c.pieces.at in
    let first = first-run c.pieces.ahead c.next_stretch-run.new.ahead c.next_stretch-run.result c.next_stretch-run.ensures.same c.next_stretch-run.ensures.first in
    let inside = ahead-inside (marks_ahead c.args.ahead) c.pieces.at c.sectors-sectors.result c.next_stretch-run.result.count c.next_stretch-run.result.had _ _ (c.requires.fits ∙ sym u.all) u.ahead first u.within in
    let had : here.had ≡ false = (or-left c.next_stretch-run.result.had (is_copied c.pieces.way c.pieces.at) (sym c.is_past.ensures ∙ c.if-is_past.false)) in
    let run_end : IsUnreadTo p at (at + here.count) =
    unread-run config c.args.pass.device.0 before at here.count c.sectors-sectors.result (marks c.next_stretch-run.new.ahead.rest.now)
    (u.ahead ∙ subst (λ (h : Bool). marks_ahead c.pieces.ahead ≡ replicate here.count h ++ marks c.next_stretch-run.new.ahead.rest.now) had first) (c.requires.fits ∙ sym u.all) u.within
    inside u.all (subst (λ (h : Bool). BeginsOtherwise h (marks c.next_stretch-run.new.ahead.rest.now)) had c.next_stretch-run.ensures.longest) in
    let low : ℕ = low_of c.pieces.way (at + here.count) in
    let low_is : c.low_of-low.result ≡ low = c.low_of-low.ensures in
    let turned : is_forward c.pieces.way ≡ false = sym c.is_forward.ensures ∙ c.if-is_forward.false in
    let probed : IsProbedTo p at c.pieces.way low = probed-from p at here.count c.next_stretch-run.ensures.some c.pieces.way turned run_end in
    let after : at < low = probed-some p at here.count c.next_stretch-run.ensures.some c.pieces.way u.run (or-right here.had (is_copied c.pieces.way at) (sym c.is_past.ensures ∙ c.if-is_past.false)) in
    let below : low ≤ at + here.count = probed-within p at here.count c.next_stretch-run.ensures.some c.pieces.way u.run run_end in
    let marked : AreMarked before at (low - at) false = λ j less. run_end.unread j (omega (arith, less, below)) in
    let b = subst (ReadsBehind g.D.BlockDev.state g.D.BlockDev.does g.O.BlockDev.state (DeviceDoes g.O.BlockDev.state g.O.BlockDev.does) c.args.pass.device.0 at c.low_of-low.result c.pieces.stack c.pieces.out c.read_behind.new.stack c.read_behind.new.out) c.in-Lost.is c.in_ok-behind.ensures.ok in
    let e = b.0 in
    let ends : at + (c.in-Lost.last.before + c.in-Lost.last.count) ≡ low = e.ends ∙ low_is in
    subst (λ (r : Run). (c.in-Lost.last.before + c.in-Lost.last.count) ≤ r.count) c.next_stretch-run.ensures.first (omega (arith, below, ends))

pub pieces-preserved : goal.pieces-preserved
pieces-preserved g c =
    let u = c.pieces.invariant in
    let before : List Bool = marks_ahead c.args.ahead in
    let config : Configuration = c.args.stack.now.config in
    let p = pass_over config c.args.pass.device.0 before in
    let here : Run = c.next_stretch-run.result in
    let at : ℕ = c.pieces.at in
    let first = first-run c.pieces.ahead c.next_stretch-run.new.ahead c.next_stretch-run.result c.next_stretch-run.ensures.same c.next_stretch-run.ensures.first in
    let inside = ahead-inside (marks_ahead c.args.ahead) c.pieces.at c.sectors-sectors.result c.next_stretch-run.result.count c.next_stretch-run.result.had _ _ (c.requires.fits ∙ sym u.all) u.ahead first u.within in
    let had : here.had ≡ false = (or-left c.next_stretch-run.result.had (is_copied c.pieces.way c.pieces.at) (sym c.is_past.ensures ∙ c.if-is_past.false)) in
    let run_end : IsUnreadTo p at (at + here.count) =
    unread-run config c.args.pass.device.0 before at here.count c.sectors-sectors.result (marks c.next_stretch-run.new.ahead.rest.now)
    (u.ahead ∙ subst (λ (h : Bool). marks_ahead c.pieces.ahead ≡ replicate here.count h ++ marks c.next_stretch-run.new.ahead.rest.now) had first) (c.requires.fits ∙ sym u.all) u.within
    inside u.all (subst (λ (h : Bool). BeginsOtherwise h (marks c.next_stretch-run.new.ahead.rest.now)) had c.next_stretch-run.ensures.longest) in
    let low : ℕ = low_of c.pieces.way (at + here.count) in
    let low_is : c.low_of-low.result ≡ low = c.low_of-low.ensures in
    let turned : is_forward c.pieces.way ≡ false = sym c.is_forward.ensures ∙ c.if-is_forward.false in
    let probed : IsProbedTo p at c.pieces.way low = probed-from p at here.count c.next_stretch-run.ensures.some c.pieces.way turned run_end in
    let after : at < low = probed-some p at here.count c.next_stretch-run.ensures.some c.pieces.way u.run (or-right here.had (is_copied c.pieces.way at) (sym c.is_past.ensures ∙ c.if-is_past.false)) in
    let below : low ≤ at + here.count = probed-within p at here.count c.next_stretch-run.ensures.some c.pieces.way u.run run_end in
    let marked : AreMarked before at (low - at) false = λ j less. run_end.unread j (omega (arith, less, below)) in
    let old : Sides = sides c.args.stack.now (g.O.BlockDev.state c.args.out.now) (g.L.Listing.told c.args.listing.now) in
    let now : Sides = sides c.pieces.stack (g.O.BlockDev.state c.pieces.out) (g.L.Listing.told c.pieces.listing) in
    let b = subst (ReadsBehind g.D.BlockDev.state g.D.BlockDev.does g.O.BlockDev.state (DeviceDoes g.O.BlockDev.state g.O.BlockDev.does) c.args.pass.device.0 at c.low_of-low.result c.pieces.stack c.pieces.out c.read_behind.new.stack c.read_behind.new.out) c.in-Lost.is c.in_ok-behind.ensures.ok in
    let e = b.0 in
    let ends : at + (c.in-Lost.last.before + c.in-Lost.last.count) ≡ low = e.ends ∙ low_is in
    let count : ℕ = c.in-Lost.last.before + c.in-Lost.last.count in
    let skipped : AreMarked before at count false = λ j less. run_end.unread j (omega (arith, less, ends, below)) in
    rw (c.way_trimmed-way.ensures, b.1) (record {
      so_far = record {
        calls = u.so_far.calls;
        under = subst (λ (l : Tally). IsUnderway (is_some c.args.noted.now) before (scanned_by c.args.pass) old (sides c.read_behind.new.stack (g.O.BlockDev.state c.pieces.out) (g.L.Listing.told c.tell_end.new.listing)) (at + count) l c.note_end.new.noted (way_trimmed c.pieces.way) u.so_far.calls) (sym c.tell_end.ensures.tallied)
            (underway-trimmed (is_some c.args.noted.now) before (scanned_by c.args.pass) old now at c.pieces.tally c.pieces.noted c.pieces.way u.so_far.calls u.so_far.under c.in-Lost.last c.read_behind.new.stack (g.L.Listing.told c.tell_end.new.listing) c.note_end.new.noted
            (subst (λ (k : ℕ). IsProbedTo p at c.pieces.way k) (sym ends) probed) e.some e.answered e.may skipped c.in_ok-note_end-in-Lost.ensures.ok c.tell_end.ensures.told);
        did = u.so_far.did;
      };
      run = subst (λ (k : ℕ). IsWayRun p k (way_trimmed c.pieces.way)) (sym ends) (run-trimmed p at low c.pieces.way u.run probed (omega (arith, after)));
      copied_ahead = u.copied_ahead;
      called = called-trimmed g.D.BlockDev.state g.D.BlockDev.does (DeviceDoes g.O.BlockDev.state g.O.BlockDev.does) before config c.args.pass.device.0 c.args.stack.now c.args.out.now at c.pieces.stack c.pieces.out u.copied_ahead c.low_of-low.result count c.read_behind.new.stack c.in-Lost.last u.called e;
      region = region-trimmed p at low c.pieces.way u.copied_ahead u.region;
      ahead = ahead-next before at count _ _ _ (u.ahead ∙ sym c.next_stretch-run.ensures.same) c.pass-in-Lost.ensures.marks;
      config = e.answered.any.config ∙ u.config;
      within = omega (arith, inside, ends, below);
      all = u.all;
      few = u.few;
      unfailed = u.unfailed;
      noted = notes-some marks c.pieces.noted c.note_end.new.noted _ c.in_ok-note_end-in-Lost.ensures.ok.0 ∙ u.noted;
    })

pub pieces-smaller-then-is_past : goal.pieces-smaller-then-is_past
pieces-smaller-then-is_past g c =
    let u = c.pieces.invariant in
    let before : List Bool = marks_ahead c.args.ahead in
    let config : Configuration = c.args.stack.now.config in
    let p = pass_over config c.args.pass.device.0 before in
    let here : Run = c.next_stretch-run.result in
    let first = first-run c.pieces.ahead c.next_stretch-run.new.ahead c.next_stretch-run.result c.next_stretch-run.ensures.same c.next_stretch-run.ensures.first in
    let inside = ahead-inside (marks_ahead c.args.ahead) c.pieces.at c.sectors-sectors.result c.next_stretch-run.result.count c.next_stretch-run.result.had _ _ (c.requires.fits ∙ sym u.all) u.ahead first u.within in
    let marked : AreMarked before c.pieces.at here.count here.had = marked-next before c.pieces.at here.count here.count here.had _ (omega arith) (u.ahead ∙ first) in
    let run_end : here.had ≡ false → IsUnreadTo p c.pieces.at (c.pieces.at + here.count) = λ is.
    unread-run config c.args.pass.device.0 before c.pieces.at here.count c.sectors-sectors.result (marks c.next_stretch-run.new.ahead.rest.now)
    (u.ahead ∙ subst (λ (h : Bool). marks_ahead c.pieces.ahead ≡ replicate here.count h ++ marks c.next_stretch-run.new.ahead.rest.now) is first) (c.requires.fits ∙ sym u.all) u.within
    inside u.all (subst (λ (h : Bool). BeginsOtherwise h (marks c.next_stretch-run.new.ahead.rest.now)) is c.next_stretch-run.ensures.longest) in
    let past = is-past p c.pieces.at here.count c.pieces.way here.had c.next_stretch-run.ensures.some marked (sym c.is_past.ensures ∙ c.if-is_past.true) u.run run_end in
    rw c.way_past-way.ensures (past-smaller p (scanned_by c.args.pass) c.pieces.at here.count c.sectors-sectors.result c.pieces.way c.next_stretch-run.ensures.some inside past)
