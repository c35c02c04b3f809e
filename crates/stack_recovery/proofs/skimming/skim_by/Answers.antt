use Rattle.std.proofs.Common.{◌≡◌, ◌⊎◌, ◌+◌, ◌-◌, ◌≤◌, ◌<◌, ◌*◌, ◌/◌, ◌^◌, ℕ, min, Bool, true, false, List, ◌++◌, replicate, Ok, Err, IsErrAnd, arith, refl, sym, ◌∙◌, ap, subst, length, take, inl, inr, append_assoc}
use Rattle.std.proofs.lemmas.Bool.{false≢true}
use Rattle.std.proofs.lemmas.List.{length-take-le}
use Rattle.std.proofs.lemmas.Result.{err_from_is_err_and}
use Rattle.block_device.specs.Call.{DeviceDoes}
use Rattle.block_device.specs.Device.{IsWritten}
use Rattle.stack_rules.specs.Names.{mapped, size}
use Rattle.stack_rules.specs.Records.{Configuration}
use Rattle.stack_engine.specs.Bytes.{EachBytes}
use Rattle.stack_meaning.specs.declared.fault.IoFault.{IoFault}
use Rattle.rescue_map.specs.Aheads.{marks_ahead}
use Rattle.rescue_map.specs.Maps.{losts, marks}
use Rattle.rescue_map.specs.declared.map.Run.{Run}
use Rattle.stack_recovery.specs.declared.fault.RecoveryFault.{RecoveryFault}
use Rattle.stack_recovery.specs.declared.fault.RecoveryFault.TheVariants.{NoMemory, Output}
use Rattle.stack_recovery.specs.FirstPasses.{skipping_of, transfer}
use Rattle.stack_recovery.specs.LeafReads.{CopiesLeaves, ahead, no_piece, sectors_had}
use Rattle.stack_recovery.specs.PassPieces.{IsNextPiece, pass_over}
use Rattle.stack_recovery.specs.Pieces.{EndsAligned}
use Rattle.stack_recovery.specs.Skims.{IsSkimFound}
use Rattle.stack_recovery.specs.Stretches.{BeginsOtherwise}
use Rattle.stack_recovery.specs.Surveys.{AreMarked, again}
use Rattle.stack_recovery.proofs.AheadLemmas.{ahead-few, ahead-inside, ahead-next, ahead-some, first-run, marked-next}
use Rattle.stack_recovery.proofs.LeafReadLemmas.{copies-again, copies-failed, copies-had}
use Rattle.stack_recovery.proofs.PieceLemmas.{next-piece, skipped-piece}
use Rattle.stack_recovery.proofs.SurveyLemmas.{no-memory}
use Rattle.stack_recovery.proofs.SkimLemmas.{IsSkimming, fails-skim, hands-short, hands-skims, hands-unwritten, skim-room, skimming-had, skimming-kept, skimming-none, skimming-skipped, skims-short, skims-until}
use Rattle.stack_recovery.proofs.lemmas.WritingLemmas.{err-from}
use Rattle.stack_recovery.proofs.skimming.skim_by.Goals as goal

pub pieces-init : goal.pieces-init
pieces-init g c =
    let all = c.sectors-sectors.ensures ∙ ap (λ (x : Configuration). size x (mapped c.args.pass.device.0)) c.config.ensures.value in
    record {
      so_far = subst (λ (m : List Run). IsSkimming g.O.BlockDev.state (DeviceDoes g.O.BlockDev.state g.O.BlockDev.does) (skipping_of c.args.pass) (marks_ahead c.args.ahead) c.args.pass.device.0 (transfer c.args.stack.now c.args.out.now) (transfer c.args.stack.now c.args.out.now) 0 m c.args.pass.skip) (sym c.requires.begun)
          (skimming-none g.O.BlockDev.state (DeviceDoes g.O.BlockDev.state g.O.BlockDev.does) (skipping_of c.args.pass) (marks_ahead c.args.ahead) c.args.pass.device.0 (transfer c.args.stack.now c.args.out.now));
      called = no_piece;
      ahead = refl;
      config = refl;
      within = omega arith;
      all = all;
      few = omega (arith, all, c.requires.few);
      unfailed = refl;
    }

pub next_stretch-run-requires-clause-some : goal.next_stretch-run-requires-clause-some
next_stretch-run-requires-clause-some g c =
    let u = c.pieces.invariant in
    ahead-some (marks_ahead c.args.ahead) c.pieces.at c.sectors-sectors.result (marks_ahead c.pieces.ahead) (c.requires.fits ∙ sym u.all) u.ahead (omega (arith, c.pieces-test.true, c.pass_end.ensures.few))

pub next_stretch-run-requires-clause-few : goal.next_stretch-run-requires-clause-few
next_stretch-run-requires-clause-few g c =
    let u = c.pieces.invariant in
    ahead-few (marks_ahead c.args.ahead) c.pieces.at c.sectors-sectors.result (2 ^ 54) (marks_ahead c.pieces.ahead) (c.requires.fits ∙ sym u.all) u.ahead u.few

pub mark-requires-clause-room : goal.mark-requires-clause-room
mark-requires-clause-room g c =
    let u = c.pieces.invariant in
    let first = first-run c.pieces.ahead c.next_stretch-run.new.ahead c.next_stretch-run.result c.next_stretch-run.ensures.same c.next_stretch-run.ensures.first in
    let inside = ahead-inside (marks_ahead c.args.ahead) c.pieces.at c.sectors-sectors.result c.next_stretch-run.result.count c.next_stretch-run.result.had _ _ (c.requires.fits ∙ sym u.all) u.ahead first u.within in
    skim-room _ _ _ _ _ _ _ _ _ _ u.so_far c.next_stretch-run.result.count (omega (arith, inside, u.few))

pub returns-in_err-mark-clause-err : goal.returns-in_err-mark-clause-err
returns-in_err-mark-clause-err g c =
    let u = c.pieces.invariant in
    err-from c.from_residual.result _ NoMemory (subst (λ (e : RecoveryFault). IsErrAnd c.from_residual.result (λ f. f ≡ e)) c.in_err-mark.ensures.err.0 c.from_residual.ensures.1)
    (skims-short _ _ _ _ _ _ _ _ _ _ u.so_far c.pieces.stack u.unfailed (inr c.in_err-mark.ensures.err.1))

pub returns-in_err-mark-clause-stopped : goal.returns-in_err-mark-clause-stopped
returns-in_err-mark-clause-stopped g c =
    err-from c.from_residual.result _ NoMemory (subst (λ (e : RecoveryFault). IsErrAnd c.from_residual.result (λ f. f ≡ e)) c.in_err-mark.ensures.err.0 c.from_residual.ensures.1)
    (hands-short _ _ _ _ _ _ _ _ _ _ c.pieces.invariant.so_far c.pieces.stack)

pub overflow_add-at : goal.overflow_add-at
overflow_add-at g c =
    let u = c.pieces.invariant in
    let first = first-run c.pieces.ahead c.next_stretch-run.new.ahead c.next_stretch-run.result c.next_stretch-run.ensures.same c.next_stretch-run.ensures.first in
    let inside = ahead-inside (marks_ahead c.args.ahead) c.pieces.at c.sectors-sectors.result c.next_stretch-run.result.count c.next_stretch-run.result.had _ _ (c.requires.fits ∙ sym u.all) u.ahead first u.within in
    omega (arith, inside, u.few)

pub pieces-preserved-then-run : goal.pieces-preserved-then-run
pieces-preserved-then-run g c =
    let u = c.pieces.invariant in
    let before : List Bool = marks_ahead c.args.ahead in
    let here : Run = c.next_stretch-run.result in
    let first = first-run c.pieces.ahead c.next_stretch-run.new.ahead here c.next_stretch-run.ensures.same c.next_stretch-run.ensures.first in
    let inside = ahead-inside before c.pieces.at c.sectors-sectors.result here.count here.had _ _ (c.requires.fits ∙ sym u.all) u.ahead first u.within in
    let marked : AreMarked before c.pieces.at here.count true = subst (AreMarked before c.pieces.at here.count) c.if-run.true (marked-next before c.pieces.at here.count here.count here.had _ (omega arith) (u.ahead ∙ first)) in
    record {
      so_far = skimming-kept _ _ _ _ _ _ _ _ _ _ u.so_far here.count c.mark.new.map c.next_stretch-run.ensures.some marked c.in_ok-mark.ensures.ok c.in_ok-mark.ensures.lost;
      called = sectors_had here.count u.called marked;
      ahead = ahead-next before c.pieces.at here.count _ _ _ (u.ahead ∙ sym c.next_stretch-run.ensures.same) c.pass.ensures.marks;
      config = u.config;
      within = inside;
      all = u.all;
      few = u.few;
      unfailed = u.unfailed;
    }

pub overflow_add-at-else-run : goal.overflow_add-at-else-run
overflow_add-at-else-run g c =
    let u = c.pieces.invariant in
    let first = first-run c.pieces.ahead c.next_stretch-run.new.ahead c.next_stretch-run.result c.next_stretch-run.ensures.same c.next_stretch-run.ensures.first in
    let inside = ahead-inside (marks_ahead c.args.ahead) c.pieces.at c.sectors-sectors.result c.next_stretch-run.result.count c.next_stretch-run.result.had _ _ (c.requires.fits ∙ sym u.all) u.ahead first u.within in
    omega (arith, inside, u.few)

pub piece_at-piece-requires-clause-inside : goal.piece_at-piece-requires-clause-inside
piece_at-piece-requires-clause-inside g c =
    let u = c.pieces.invariant in
    let count : ℕ = c.next_stretch-run.result.count in
    let first = first-run c.pieces.ahead c.next_stretch-run.new.ahead c.next_stretch-run.result c.next_stretch-run.ensures.same c.next_stretch-run.ensures.first in
    let inside = ahead-inside (marks_ahead c.args.ahead) c.pieces.at c.sectors-sectors.result count c.next_stretch-run.result.had _ _ (c.requires.fits ∙ sym u.all) u.ahead first u.within in
    subst (λ (x : Configuration). c.pieces.at + count ≤ size x (mapped c.args.pass.device.0)) (sym (c.config-else-run.ensures.value ∙ u.config)) (subst (λ (m : ℕ). c.pieces.at + count ≤ m) u.all inside)

pub read_bytes-requires-clause-inside : goal.read_bytes-requires-clause-inside
read_bytes-requires-clause-inside g c =
    let u = c.pieces.invariant in
    let count : ℕ = c.next_stretch-run.result.count in
    let n : ℕ = c.piece_at-piece.result.count in
    let first = first-run c.pieces.ahead c.next_stretch-run.new.ahead c.next_stretch-run.result c.next_stretch-run.ensures.same c.next_stretch-run.ensures.first in
    let inside = ahead-inside (marks_ahead c.args.ahead) c.pieces.at c.sectors-sectors.result count c.next_stretch-run.result.had _ _ (c.requires.fits ∙ sym u.all) u.ahead first u.within in
    let wide : length (take (n * 512) c.pieces.room) ≡ n * 512 = length-take-le (n * 512) c.pieces.room (omega (arith, c.requires.buffer, c.pieces.auto.room, c.piece_at-piece.ensures.few)) in
    let within : c.pieces.at + length (take (n * 512) c.pieces.room) / 512 ≤ c.sectors-sectors.result = omega (arith, wide, inside, c.piece_at-piece.ensures.inside) in
    subst (λ (x : Configuration). c.pieces.at + length (take (n * 512) c.pieces.room) / 512 ≤ size x (mapped c.args.pass.device.0)) (sym u.config) (subst (λ (m : ℕ). c.pieces.at + length (take (n * 512) c.pieces.room) / 512 ≤ m) u.all within)

pub mark-requires-in-Ok-clause-room : goal.mark-requires-in-Ok-clause-room
mark-requires-in-Ok-clause-room g c =
    let u = c.pieces.invariant in
    let first = first-run c.pieces.ahead c.next_stretch-run.new.ahead c.next_stretch-run.result c.next_stretch-run.ensures.same c.next_stretch-run.ensures.first in
    let inside = ahead-inside (marks_ahead c.args.ahead) c.pieces.at c.sectors-sectors.result c.next_stretch-run.result.count c.next_stretch-run.result.had _ _ (c.requires.fits ∙ sym u.all) u.ahead first u.within in
    skim-room _ _ _ _ _ _ _ _ _ _ u.so_far c.from-count.result (omega (arith, inside, u.few, c.from-count.ensures, c.piece_at-piece.ensures.inside))

pub returns-in_err-mark-in-Ok-clause-err : goal.returns-in_err-mark-in-Ok-clause-err
returns-in_err-mark-in-Ok-clause-err g c =
    let u = c.pieces.invariant in
    err-from c.from_residual-in_err-mark-in-Ok.result _ NoMemory (subst (λ (e : RecoveryFault). IsErrAnd c.from_residual-in_err-mark-in-Ok.result (λ f. f ≡ e)) c.in_err-mark-in-Ok.ensures.err.0 c.from_residual-in_err-mark-in-Ok.ensures.1)
    (skims-short _ _ _ _ _ _ _ _ _ _ u.so_far c.read_bytes.new.self u.unfailed (inr c.in_err-mark-in-Ok.ensures.err.1))

pub returns-in_err-mark-in-Ok-clause-stopped : goal.returns-in_err-mark-in-Ok-clause-stopped
returns-in_err-mark-in-Ok-clause-stopped g c =
    err-from c.from_residual-in_err-mark-in-Ok.result _ NoMemory (subst (λ (e : RecoveryFault). IsErrAnd c.from_residual-in_err-mark-in-Ok.result (λ f. f ≡ e)) c.in_err-mark-in-Ok.ensures.err.0 c.from_residual-in_err-mark-in-Ok.ensures.1)
    (hands-short _ _ _ _ _ _ _ _ _ _ c.pieces.invariant.so_far c.read_bytes.new.self)

pub write-requires-clause-range : goal.write-requires-clause-range
write-requires-clause-range g c =
    let u = c.pieces.invariant in
    let n : ℕ = c.piece_at-piece.result.count in
    let first = first-run c.pieces.ahead c.next_stretch-run.new.ahead c.next_stretch-run.result c.next_stretch-run.ensures.same c.next_stretch-run.ensures.first in
    let inside = ahead-inside (marks_ahead c.args.ahead) c.pieces.at c.sectors-sectors.result c.next_stretch-run.result.count c.next_stretch-run.result.had _ _ (c.requires.fits ∙ sym u.all) u.ahead first u.within in
    let wide : length (take (n * 512) c.pieces.room) ≡ n * 512 = length-take-le (n * 512) c.pieces.room (omega (arith, c.requires.buffer, c.pieces.auto.room, c.piece_at-piece.ensures.few)) in
    let number : length (take (n * 512) c.pieces.room) / 512 ≡ n = omega (arith, wide) in
    let piece = subst (λ (m : ℕ). EachBytes c.pieces.stack c.args.pass.device.0 c.pieces.at m (Ok c.read_bytes.new.out) c.read_bytes.new.self) number (record { any = c.in-Ok.ensures.any; steady = c.in-Ok.ensures.steady }) in
    let len : length c.read_bytes.new.out ≡ 512 * n = piece.any.may.read.run.len in
    record {
      some = omega (arith, len, c.piece_at-piece.ensures.some);
      whole = omega (arith, len);
      inside = omega (arith, len, inside, c.piece_at-piece.ensures.inside, u.all, c.requires.room, u.so_far.copied.same.size);
    }

pub returns-in_err-write-in-Ok-clause-err : goal.returns-in_err-write-in-Ok-clause-err
returns-in_err-write-in-Ok-clause-err g c =
    let u = c.pieces.invariant in
    let n : ℕ = c.piece_at-piece.result.count in
    let wide : length (take (n * 512) c.pieces.room) ≡ n * 512 = length-take-le (n * 512) c.pieces.room (omega (arith, c.requires.buffer, c.pieces.auto.room, c.piece_at-piece.ensures.few)) in
    let number : length (take (n * 512) c.pieces.room) / 512 ≡ n = omega (arith, wide) in
    let bytes : List ℕ = c.read_bytes.new.out in
    let piece = subst (λ (m : ℕ). EachBytes c.pieces.stack c.args.pass.device.0 c.pieces.at m (Ok bytes) c.read_bytes.new.self) number (record { any = c.in-Ok.ensures.any; steady = c.in-Ok.ensures.steady }) in
    let len : length bytes ≡ 512 * n = piece.any.may.read.run.len in
    let count : length bytes / 512 ≡ n = omega (arith, len) in
    err-from c.from_residual-in_err-write-in-Ok.result _ Output c.from_residual-in_err-write-in-Ok.ensures.1
    (fails-skim _ _ _ _ _ _ _ _ _ _ u.so_far n bytes c.read_bytes.new.self (g.O.BlockDev.state c.write.new.self) piece
    (subst (λ (m : ℕ). IsWritten (g.O.BlockDev.state c.pieces.out) c.pieces.at m false (g.O.BlockDev.state c.write.new.self)) count c.in_err-write-in-Ok.ensures.moved)
    (subst (λ (m : ℕ). (m < (g.O.BlockDev.state c.write.new.self).failures) ⊎ (m ≡ 2 ^ 64 - 1)) u.unfailed c.in_err-write-in-Ok.ensures.fault)
    (λ h. false≢true (c.in_err-write-in-Ok.ensures.sure (u.so_far.copied.same.never_fails h))))

pub returns-in_err-write-in-Ok-clause-stopped : goal.returns-in_err-write-in-Ok-clause-stopped
returns-in_err-write-in-Ok-clause-stopped g c =
    let n : ℕ = c.piece_at-piece.result.count in
    let wide : length (take (n * 512) c.pieces.room) ≡ n * 512 = length-take-le (n * 512) c.pieces.room (omega (arith, c.requires.buffer, c.pieces.auto.room, c.piece_at-piece.ensures.few)) in
    let number : length (take (n * 512) c.pieces.room) / 512 ≡ n = omega (arith, wide) in
    let bytes : List ℕ = c.read_bytes.new.out in
    let piece = subst (λ (m : ℕ). EachBytes c.pieces.stack c.args.pass.device.0 c.pieces.at m (Ok bytes) c.read_bytes.new.self) number (record { any = c.in-Ok.ensures.any; steady = c.in-Ok.ensures.steady }) in
    err-from c.from_residual-in_err-write-in-Ok.result _ Output c.from_residual-in_err-write-in-Ok.ensures.1
    (hands-unwritten _ _ _ _ _ _ _ _ _ _ c.pieces.invariant.so_far c.read_bytes.new.self c.write.new.self n bytes piece c.in_err-write-in-Ok.ensures.call)

pub pieces-preserved-in-Ok : goal.pieces-preserved-in-Ok
pieces-preserved-in-Ok g c =
    let u = c.pieces.invariant in
    let before : List Bool = marks_ahead c.args.ahead in
    let here : Run = c.next_stretch-run.result in
    let n : ℕ = c.piece_at-piece.result.count in
    let first = first-run c.pieces.ahead c.next_stretch-run.new.ahead here c.next_stretch-run.ensures.same c.next_stretch-run.ensures.first in
    let inside = ahead-inside before c.pieces.at c.sectors-sectors.result here.count here.had _ _ (c.requires.fits ∙ sym u.all) u.ahead first u.within in
    let marked : AreMarked before c.pieces.at n false = subst (AreMarked before c.pieces.at n) c.if-run.false (marked-next before c.pieces.at n here.count here.had _ (omega (arith, c.piece_at-piece.ensures.inside)) (u.ahead ∙ first)) in
    let wide : length (take (n * 512) c.pieces.room) ≡ n * 512 = length-take-le (n * 512) c.pieces.room (omega (arith, c.requires.buffer, c.pieces.auto.room, c.piece_at-piece.ensures.few)) in
    let number : length (take (n * 512) c.pieces.room) / 512 ≡ n = omega (arith, wide) in
    let bytes : List ℕ = c.read_bytes.new.out in
    let piece = subst (λ (m : ℕ). EachBytes c.pieces.stack c.args.pass.device.0 c.pieces.at m (Ok bytes) c.read_bytes.new.self) number (record { any = c.in-Ok.ensures.any; steady = c.in-Ok.ensures.steady }) in
    let len : length bytes ≡ 512 * n = piece.any.may.read.run.len in
    let k : ℕ = length bytes / 512 in
    let count : length bytes / 512 ≡ n = omega (arith, len) in
    let same : c.from-count.result ≡ n = c.from-count.ensures in
    let next : IsNextPiece (pass_over c.args.stack.now.config c.args.pass.device.0 before) c.pieces.at 128 n =
    next-piece c.args.stack.now.config c.args.pass.device.0 before c.pieces.at here.count c.sectors-sectors.result 128 n (marks c.next_stretch-run.new.ahead.rest.now)
    (u.ahead ∙ subst (λ (h : Bool). marks_ahead c.pieces.ahead ≡ replicate here.count h ++ marks c.next_stretch-run.new.ahead.rest.now) c.if-run.false first) (c.requires.fits ∙ sym u.all) u.within
    inside u.all (subst (λ (h : Bool). BeginsOtherwise h (marks c.next_stretch-run.new.ahead.rest.now)) c.if-run.false c.next_stretch-run.ensures.longest)
    (subst (λ (x : Configuration). EndsAligned x c.args.pass.device.0 c.pieces.at (c.pieces.at + here.count) 128 n) (c.config-else-run.ensures.value ∙ u.config) c.piece_at-piece.ensures.ends) in
    record {
      so_far = subst (λ (m : ℕ). IsSkimming g.O.BlockDev.state (DeviceDoes g.O.BlockDev.state g.O.BlockDev.does) (skipping_of c.args.pass) before c.args.pass.device.0 (transfer c.args.stack.now c.args.out.now) (transfer c.read_bytes.new.self c.write.new.self) (c.pieces.at + m) c.mark-in-Ok.new.map c.min-skip.result) (sym same)
          (rw c.min-skip.ensures (skimming-had _ _ _ _ _ _ _ _ _ _ u.so_far n bytes c.read_bytes.new.self k _ c.write.new.self c.mark-in-Ok.new.map next piece marked (rw same at c.in_ok-mark-in-Ok.ensures.ok) (rw same at c.in_ok-mark-in-Ok.ensures.lost) count
          c.in_ok-write-in-Ok.ensures.moved c.in_ok-write-in-Ok.ensures.image c.in_ok-write-in-Ok.ensures.call));
      called = copies-had g.D.BlockDev.state g.D.BlockDev.does (DeviceDoes g.O.BlockDev.state g.O.BlockDev.does) before c.args.pass.device.0 c.args.stack.now c.args.out.now c.pieces.at c.pieces.stack c.read_bytes.new.self c.pieces.out (ahead 0 0) u.called (length (take (n * 512) c.pieces.room) / 512) c.from-count.result bytes c.write.new.self (number ∙ sym same) c.in-Ok.ensures.given c.in_ok-write-in-Ok.ensures.call;
      ahead = ahead-next before c.pieces.at c.from-count.result _ _ _ (u.ahead ∙ sym c.next_stretch-run.ensures.same) c.pass-in-Ok.ensures.marks;
      config = c.in-Ok.ensures.any.config ∙ u.config;
      within = omega (arith, inside, same, c.piece_at-piece.ensures.inside);
      all = u.all;
      few = u.few;
      unfailed = c.in_ok-write-in-Ok.ensures.moved.failures ∙ u.unfailed;
    }

pub returns-in_err-check_memory-in-Err-clause-err : goal.returns-in_err-check_memory-in-Err-clause-err
returns-in_err-check_memory-in-Err-clause-err g c =
    let u = c.pieces.invariant in
    let count : ℕ = length (take (c.piece_at-piece.result.count * 512) c.pieces.room) / 512 in
    let is = c.in_err-check_memory-in-Err.ensures.memory in
    err-from c.from_residual-in_err-check_memory-in-Err.result _ NoMemory (subst (λ (e : RecoveryFault). IsErrAnd c.from_residual-in_err-check_memory-in-Err.result (λ f. f ≡ e)) c.in_err-check_memory-in-Err.ensures.err c.from_residual-in_err-check_memory-in-Err.ensures.1)
    (skims-short _ _ _ _ _ _ _ _ _ _ u.so_far c.read_bytes.new.self u.unfailed (inl (no-memory c.args.pass.device.0 c.pieces.at count c.pieces.stack c.read_bytes.new.self
    (subst (λ (f : IoFault). EachBytes c.pieces.stack c.args.pass.device.0 c.pieces.at count (Err f) c.read_bytes.new.self) is (record { any = c.in-Err.ensures.any; steady = c.in-Err.ensures.steady }))
    (c.in-Err.ensures.memory (ap Err is)))))

pub returns-in_err-check_memory-in-Err-clause-stopped : goal.returns-in_err-check_memory-in-Err-clause-stopped
returns-in_err-check_memory-in-Err-clause-stopped g c =
    err-from c.from_residual-in_err-check_memory-in-Err.result _ NoMemory (subst (λ (e : RecoveryFault). IsErrAnd c.from_residual-in_err-check_memory-in-Err.result (λ f. f ≡ e)) c.in_err-check_memory-in-Err.ensures.err c.from_residual-in_err-check_memory-in-Err.ensures.1)
    (hands-short _ _ _ _ _ _ _ _ _ _ c.pieces.invariant.so_far c.read_bytes.new.self)

pub leave-requires-clause-room : goal.leave-requires-clause-room
leave-requires-clause-room g c =
    let u = c.pieces.invariant in
    let first = first-run c.pieces.ahead c.next_stretch-run.new.ahead c.next_stretch-run.result c.next_stretch-run.ensures.same c.next_stretch-run.ensures.first in
    let inside = ahead-inside (marks_ahead c.args.ahead) c.pieces.at c.sectors-sectors.result c.next_stretch-run.result.count c.next_stretch-run.result.had _ _ (c.requires.fits ∙ sym u.all) u.ahead first u.within in
    let room = skim-room _ _ _ _ _ _ _ _ _ _ u.so_far (c.from-count.result + c.min-skipped.result) (omega (arith, inside, u.few, c.from-count.ensures, c.min-skipped.ensures, c.piece_at-piece.ensures.inside)) in
    omega (arith, room)

pub overflow_add-at-in-Err : goal.overflow_add-at-in-Err
overflow_add-at-in-Err g c =
    let u = c.pieces.invariant in
    let first = first-run c.pieces.ahead c.next_stretch-run.new.ahead c.next_stretch-run.result c.next_stretch-run.ensures.same c.next_stretch-run.ensures.first in
    let inside = ahead-inside (marks_ahead c.args.ahead) c.pieces.at c.sectors-sectors.result c.next_stretch-run.result.count c.next_stretch-run.result.had _ _ (c.requires.fits ∙ sym u.all) u.ahead first u.within in
    omega (arith, inside, u.few, c.from-count.ensures, c.min-skipped.ensures, c.piece_at-piece.ensures.inside)

pub overflow_add-at-in-Err-2 : goal.overflow_add-at-in-Err-2
overflow_add-at-in-Err-2 g c =
    let u = c.pieces.invariant in
    let first = first-run c.pieces.ahead c.next_stretch-run.new.ahead c.next_stretch-run.result c.next_stretch-run.ensures.same c.next_stretch-run.ensures.first in
    let inside = ahead-inside (marks_ahead c.args.ahead) c.pieces.at c.sectors-sectors.result c.next_stretch-run.result.count c.next_stretch-run.result.had _ _ (c.requires.fits ∙ sym u.all) u.ahead first u.within in
    omega (arith, inside, u.few, c.from-count.ensures, c.min-skipped.ensures, c.piece_at-piece.ensures.inside)

pub returns-in_err-leave-in-Err-clause-err : goal.returns-in_err-leave-in-Err-clause-err
returns-in_err-leave-in-Err-clause-err g c =
    let u = c.pieces.invariant in
    err-from c.from_residual-in_err-leave-in-Err.result _ NoMemory (subst (λ (e : RecoveryFault). IsErrAnd c.from_residual-in_err-leave-in-Err.result (λ f. f ≡ e)) c.in_err-leave-in-Err.ensures.err.0 c.from_residual-in_err-leave-in-Err.ensures.1)
    (skims-short _ _ _ _ _ _ _ _ _ _ u.so_far c.read_bytes.new.self u.unfailed (inr c.in_err-leave-in-Err.ensures.err.1))

pub returns-in_err-leave-in-Err-clause-stopped : goal.returns-in_err-leave-in-Err-clause-stopped
returns-in_err-leave-in-Err-clause-stopped g c =
    err-from c.from_residual-in_err-leave-in-Err.result _ NoMemory (subst (λ (e : RecoveryFault). IsErrAnd c.from_residual-in_err-leave-in-Err.result (λ f. f ≡ e)) c.in_err-leave-in-Err.ensures.err.0 c.from_residual-in_err-leave-in-Err.ensures.1)
    (hands-short _ _ _ _ _ _ _ _ _ _ c.pieces.invariant.so_far c.read_bytes.new.self)

pub pieces-preserved : goal.pieces-preserved
pieces-preserved g c =
    let u = c.pieces.invariant in
    let before : List Bool = marks_ahead c.args.ahead in
    let here : Run = c.next_stretch-run.result in
    let n : ℕ = c.piece_at-piece.result.count in
    let first = first-run c.pieces.ahead c.next_stretch-run.new.ahead here c.next_stretch-run.ensures.same c.next_stretch-run.ensures.first in
    let inside = ahead-inside before c.pieces.at c.sectors-sectors.result here.count here.had _ _ (c.requires.fits ∙ sym u.all) u.ahead first u.within in
    let marked : AreMarked before c.pieces.at n false = subst (AreMarked before c.pieces.at n) c.if-run.false (marked-next before c.pieces.at n here.count here.had _ (omega (arith, c.piece_at-piece.ensures.inside)) (u.ahead ∙ first)) in
    let wide : length (take (n * 512) c.pieces.room) ≡ n * 512 = length-take-le (n * 512) c.pieces.room (omega (arith, c.requires.buffer, c.pieces.auto.room, c.piece_at-piece.ensures.few)) in
    let number : length (take (n * 512) c.pieces.room) / 512 ≡ n = omega (arith, wide) in
    let piece = subst (λ (m : ℕ). EachBytes c.pieces.stack c.args.pass.device.0 c.pieces.at m (Err c.in-Err.fault) c.read_bytes.new.self) number (record { any = c.in-Err.ensures.any; steady = c.in-Err.ensures.steady }) in
    let same : c.from-count.result ≡ n = c.from-count.ensures in
    let skip : ℕ = c.min-skipped.result in
    let skipped : skip ≡ min c.pieces.skip (here.count - n) = c.min-skipped.ensures ∙ ap (λ (m : ℕ). min c.pieces.skip (here.count - m)) same in
    let found : IsSkimFound (pass_over c.args.stack.now.config c.args.pass.device.0 before) c.pieces.at c.pieces.skip n (again c.in-Err.fault) skip =
    skipped-piece c.args.stack.now.config c.args.pass.device.0 before c.pieces.at here.count c.sectors-sectors.result n c.pieces.skip skip c.in-Err.fault (marks c.next_stretch-run.new.ahead.rest.now) c.in_ok-check_memory-in-Err.ensures.ok
    (u.ahead ∙ subst (λ (h : Bool). marks_ahead c.pieces.ahead ≡ replicate here.count h ++ marks c.next_stretch-run.new.ahead.rest.now) c.if-run.false first) (c.requires.fits ∙ sym u.all) u.within
    inside u.all (subst (λ (h : Bool). BeginsOtherwise h (marks c.next_stretch-run.new.ahead.rest.now)) c.if-run.false c.next_stretch-run.ensures.longest)
    (subst (λ (x : Configuration). EndsAligned x c.args.pass.device.0 c.pieces.at (c.pieces.at + here.count) 128 n) (c.config-else-run.ensures.value ∙ u.config) c.piece_at-piece.ensures.ends) skipped in
    record {
      so_far = rw (same, c.longer_skip-skip.ensures) (skimming-skipped _ _ _ _ _ _ _ _ _ _ u.so_far n skip c.in-Err.fault c.read_bytes.new.self c.leave.new.map found piece marked ((rw same at c.in_ok-leave-in-Err.ensures.ok) ∙ append_assoc (marks c.pieces.map) (replicate n false) (replicate skip false)) ((rw same at c.in_ok-leave-in-Err.ensures.failed) ∙ append_assoc (losts c.pieces.map) (replicate n true) (replicate skip false)));
      called = copies-failed g.D.BlockDev.state g.D.BlockDev.does (DeviceDoes g.O.BlockDev.state g.O.BlockDev.does) before c.args.pass.device.0 c.args.stack.now c.args.out.now c.pieces.at c.pieces.stack c.read_bytes.new.self c.pieces.out (ahead 0 0) u.called (length (take (n * 512) c.pieces.room) / 512) (c.from-count.result + skip) c.in-Err.fault c.in-Err.ensures.given;
      ahead = ahead-next before c.pieces.at (c.from-count.result + skip) _ _ _ (u.ahead ∙ sym c.next_stretch-run.ensures.same) c.pass-in-Err.ensures.marks;
      config = c.in-Err.ensures.any.config ∙ u.config;
      within = omega (arith, inside, same, skipped, c.piece_at-piece.ensures.inside);
      all = u.all;
      few = u.few;
      unfailed = u.unfailed;
    }

pub returns-clause-ok : goal.returns-clause-ok
returns-clause-ok g c =
    let u = c.pieces.invariant in
    skims-until _ _ _ _ _ _ _ _ _ _ u.so_far c.args.pass.deadline c.sectors-sectors.result (c.pass_end.ensures.ends c.pieces-test.false) u.all u.unfailed

pub returns-clause-handed : goal.returns-clause-handed
returns-clause-handed g c = hands-skims _ _ _ _ _ _ _ _ _ _ c.pieces.invariant.so_far

pub returns-clause-called : goal.returns-clause-called
returns-clause-called g c =
    let u = c.pieces.invariant in (
      ahead 0 0,
      subst (λ (n : ℕ). CopiesLeaves g.D.BlockDev.state g.D.BlockDev.does (DeviceDoes g.O.BlockDev.state g.O.BlockDev.does) (marks_ahead c.args.ahead) c.args.pass.device.0 c.args.stack.now c.args.out.now n (ahead 0 0) c.pieces.stack c.pieces.out)
          (u.so_far.here ∙ sym (ap (λ (l : List Bool). length l) u.so_far.noted)) u.called,
    )

pub returns-in_err-mark-clause-called : goal.returns-in_err-mark-clause-called
returns-in_err-mark-clause-called g c =
    let p = err_from_is_err_and c.from_residual.result c.from_residual.ensures.1 in
    rw p.1 (inl (c.pieces.at, ahead 0 0, c.pieces.invariant.called))

pub returns-in_err-mark-in-Ok-clause-called : goal.returns-in_err-mark-in-Ok-clause-called
returns-in_err-mark-in-Ok-clause-called g c =
    let u = c.pieces.invariant in
    let count : ℕ = length (take (c.piece_at-piece.result.count * 512) c.pieces.room) / 512 in
    let p = err_from_is_err_and c.from_residual-in_err-mark-in-Ok.result c.from_residual-in_err-mark-in-Ok.ensures.1 in
    rw p.1 (inr (record { at = c.pieces.at; copied = ahead 0 0; left = c.pieces.stack; out = c.pieces.out; first = c.pieces.at; after = omega arith; count = count; bytes = c.read_bytes.new.out; so_far = u.called; given = c.in-Ok.ensures.given; rest = inl refl }))

pub returns-in_err-write-in-Ok-clause-called : goal.returns-in_err-write-in-Ok-clause-called
returns-in_err-write-in-Ok-clause-called g c =
    let u = c.pieces.invariant in
    let count : ℕ = length (take (c.piece_at-piece.result.count * 512) c.pieces.room) / 512 in
    let p = err_from_is_err_and c.from_residual-in_err-write-in-Ok.result c.from_residual-in_err-write-in-Ok.ensures.1 in
    rw p.1 (inr (record { at = c.pieces.at; copied = ahead 0 0; left = c.pieces.stack; out = c.pieces.out; first = c.pieces.at; after = omega arith; count = count; bytes = c.read_bytes.new.out; so_far = u.called; given = c.in-Ok.ensures.given; rest = inr c.in_err-write-in-Ok.ensures.call }))

pub returns-in_err-check_memory-in-Err-clause-called : goal.returns-in_err-check_memory-in-Err-clause-called
returns-in_err-check_memory-in-Err-clause-called g c =
    let u = c.pieces.invariant in
    let count : ℕ = length (take (c.piece_at-piece.result.count * 512) c.pieces.room) / 512 in
    let p = err_from_is_err_and c.from_residual-in_err-check_memory-in-Err.result c.from_residual-in_err-check_memory-in-Err.ensures.1 in
    rw p.1 (inl (c.pieces.at, ahead 0 0, copies-again g.D.BlockDev.state g.D.BlockDev.does (DeviceDoes g.O.BlockDev.state g.O.BlockDev.does) (marks_ahead c.args.ahead) c.args.pass.device.0 c.args.stack.now c.args.out.now c.pieces.at c.pieces.stack c.read_bytes.new.self c.pieces.out (ahead 0 0) u.called count c.in-Err.fault c.in-Err.ensures.given))

pub returns-in_err-leave-in-Err-clause-called : goal.returns-in_err-leave-in-Err-clause-called
returns-in_err-leave-in-Err-clause-called g c =
    let u = c.pieces.invariant in
    let count : ℕ = length (take (c.piece_at-piece.result.count * 512) c.pieces.room) / 512 in
    let p = err_from_is_err_and c.from_residual-in_err-leave-in-Err.result c.from_residual-in_err-leave-in-Err.ensures.1 in
    rw p.1 (inl (c.pieces.at, ahead 0 0, copies-again g.D.BlockDev.state g.D.BlockDev.does (DeviceDoes g.O.BlockDev.state g.O.BlockDev.does) (marks_ahead c.args.ahead) c.args.pass.device.0 c.args.stack.now c.args.out.now c.pieces.at c.pieces.stack c.read_bytes.new.self c.pieces.out (ahead 0 0) u.called count c.in-Err.fault c.in-Err.ensures.given))
