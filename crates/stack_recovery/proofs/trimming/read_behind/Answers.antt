use Rattle.std.proofs.Common.{◌≡◌, ◌-◌, ◌+◌, ◌*◌, ◌/◌, ℕ, IsTrue, false, true, length, take, Ok, Err, IsErrAnd, refl, ap, subst, arith}
use Rattle.std.proofs.lemmas.Bool.{false≢true}
use Rattle.std.proofs.lemmas.List.{length-take-le}
use Rattle.block_device.specs.Call.{DeviceDoes, Write}
use Rattle.block_device.specs.Device.{IsWritten, sectors_of, spliced}
use Rattle.stack_rules.specs.Names.{mapped}
use Rattle.stack_rules.specs.Records.{Configuration}
use Rattle.stack_meaning.specs.declared.fault.IoFault.{IoFault}
use Rattle.stack_meaning.specs.declared.fault.IoFault.TheVariants as io
use Rattle.stack_meaning.specs.Meaning.{said_at}
use Rattle.stack_meaning.specs.Reading.{MeetVerity}
use Rattle.stack_recovery.specs.Alike.{AreAlike}
use Rattle.stack_recovery.specs.declared.fault.RecoveryFault.{RecoveryFault}
use Rattle.stack_recovery.specs.declared.fault.RecoveryFault.TheVariants.{NoMemory, Output}
use Rattle.stack_engine.specs.Bytes.{EachBytes}
use Rattle.stack_engine.specs.Pieces.{PieceGives}
use Rattle.stack_recovery.proofs.lemmas.WritingLemmas.{err-from}
use Rattle.stack_recovery.proofs.trimming.read_behind.Goals as goal

pub write-requires-clause-range : goal.write-requires-clause-range
write-requires-clause-range g c =
    let first : ℕ = c.last_piece-first.result in
    let n : ℕ = c.args.low - first in
    let wide : length (take (n * 512) c.args.room.now) ≡ n * 512 = length-take-le (n * 512) c.args.room.now (omega (arith, c.requires.buffer, c.last_piece-first.ensures.few)) in
    let number : length (take (n * 512) c.args.room.now) / 512 ≡ n = omega (arith, wide) in
    let piece = subst (λ (m : ℕ). EachBytes c.args.stack.now c.args.d.0 first m (Ok c.read_bytes.new.out) c.read_bytes.new.self) number (record { any = c.in-Ok.ensures.any; steady = c.in-Ok.ensures.steady }) in
    let len : length c.read_bytes.new.out ≡ 512 * n = piece.any.may.read.run.len in
    record {
      some = omega (arith, len, c.last_piece-first.ensures.some.1);
      whole = omega (arith, len);
      inside = omega (arith, len, c.last_piece-first.ensures.some.1, c.requires.inside.1, c.requires.room.0);
    }

pub returns-in_err-write-in-Ok-clause-err : goal.returns-in_err-write-in-Ok-clause-err
returns-in_err-write-in-Ok-clause-err g c =
    let first : ℕ = c.last_piece-first.result in
    let n : ℕ = c.args.low - first in
    let bytes = c.read_bytes.new.out in
    let here : first ≡ c.args.at + (first - c.args.at) = omega (arith, c.last_piece-first.ensures.some.0) in
    let wide : length (take (n * 512) c.args.room.now) ≡ n * 512 = length-take-le (n * 512) c.args.room.now (omega (arith, c.requires.buffer, c.last_piece-first.ensures.few)) in
    let number : length (take (n * 512) c.args.room.now) / 512 ≡ n = omega (arith, wide) in
    let piece = subst (λ (m : ℕ). EachBytes c.args.stack.now c.args.d.0 first m (Ok bytes) c.read_bytes.new.self) number (record { any = c.in-Ok.ensures.any; steady = c.in-Ok.ensures.steady }) in
    let len : length bytes ≡ 512 * n = piece.any.may.read.run.len in
    let count : length bytes / 512 ≡ n = omega (arith, len) in
    err-from c.from_residual.result _ Output c.from_residual.ensures.1 (record {
      behind = first - c.args.at;
      count = n;
      bytes = bytes;
      ends = omega (arith, c.last_piece-first.ensures.some.0, c.last_piece-first.ensures.some.1);
      answered = subst (λ (k : ℕ). EachBytes c.args.stack.now c.args.d.0 k n (Ok bytes) c.read_bytes.new.self) here piece;
      given = subst (λ (k : ℕ). PieceGives g.D.BlockDev.state g.D.BlockDev.does c.args.stack.now (c.args.d.0, k) n (Ok bytes) c.read_bytes.new.self) here
          (subst (λ (m : ℕ). PieceGives g.D.BlockDev.state g.D.BlockDev.does c.args.stack.now (c.args.d.0, first) m (Ok bytes) c.read_bytes.new.self) number c.in-Ok.ensures.given);
      written = subst (λ (k : ℕ). IsWritten (g.O.BlockDev.state c.args.out.now) k n false (g.O.BlockDev.state c.write.new.self)) here
          (subst (λ (m : ℕ). IsWritten (g.O.BlockDev.state c.args.out.now) first m false (g.O.BlockDev.state c.write.new.self)) count c.in_err-write-in-Ok.ensures.moved);
      failed = c.in_err-write-in-Ok.ensures.fault;
      sure = λ h. false≢true (c.in_err-write-in-Ok.ensures.sure h);
      did = subst (λ (k : ℕ). DeviceDoes g.O.BlockDev.state g.O.BlockDev.does c.args.out.now (Write k bytes false) c.write.new.self) here c.in_err-write-in-Ok.ensures.call;
    })

pub returns-in_ok-write-in-Ok-clause-ok : goal.returns-in_ok-write-in-Ok-clause-ok
returns-in_ok-write-in-Ok-clause-ok g c =
    let first : ℕ = c.last_piece-first.result in
    let n : ℕ = c.args.low - first in
    let bytes = c.read_bytes.new.out in
    let wide : length (take (n * 512) c.args.room.now) ≡ n * 512 = length-take-le (n * 512) c.args.room.now (omega (arith, c.requires.buffer, c.last_piece-first.ensures.few)) in
    let number : length (take (n * 512) c.args.room.now) / 512 ≡ n = omega (arith, wide) in
    let piece = subst (λ (m : ℕ). EachBytes c.args.stack.now c.args.d.0 first m (Ok bytes) c.read_bytes.new.self) number (record { any = c.in-Ok.ensures.any; steady = c.in-Ok.ensures.steady }) in
    let len : length bytes ≡ 512 * n = piece.any.may.read.run.len in
    let count : length bytes / 512 ≡ n = omega (arith, len) in
    record {
      bytes = bytes;
      after = c.last_piece-first.ensures.some.0;
      some = c.last_piece-first.ensures.some.1;
      alike = subst (λ (x : Configuration). AreAlike x c.args.d.0 first n) c.config.ensures.value c.last_piece-first.ensures.alike;
      answered = piece;
      given = subst (λ (m : ℕ). PieceGives g.D.BlockDev.state g.D.BlockDev.does c.args.stack.now (c.args.d.0, first) m (Ok bytes) c.read_bytes.new.self) number c.in-Ok.ensures.given;
      written = subst (λ (m : ℕ). IsWritten (g.O.BlockDev.state c.args.out.now) first m true (g.O.BlockDev.state c.write.new.self)) count c.in_ok-write-in-Ok.ensures.moved;
      image = subst (λ (m : ℕ). IsTrue (g.O.BlockDev.state c.args.out.now).steady → (g.O.BlockDev.state c.write.new.self).image ≡ spliced (g.O.BlockDev.state c.args.out.now).image first (sectors_of m bytes)) count c.in_ok-write-in-Ok.ensures.image;
      unfailed = c.in_ok-write-in-Ok.ensures.moved.failures;
      did = c.in_ok-write-in-Ok.ensures.call;
    }

pub returns-in_ok-check_memory-in-Err-clause-ok : goal.returns-in_ok-check_memory-in-Err-clause-ok
returns-in_ok-check_memory-in-Err-clause-ok g c =
    let first : ℕ = c.last_piece-first.result in
    let n : ℕ = c.args.low - first in
    let wide : length (take (n * 512) c.args.room.now) ≡ n * 512 = length-take-le (n * 512) c.args.room.now (omega (arith, c.requires.buffer, c.last_piece-first.ensures.few)) in
    let number : length (take (n * 512) c.args.room.now) / 512 ≡ n = omega (arith, wide) in
    let here : first ≡ c.args.at + (first - c.args.at) = omega (arith, c.last_piece-first.ensures.some.0) in (
      record {
        some = omega (arith, c.last_piece-first.ensures.some.1);
        ends = omega (arith, c.last_piece-first.ensures.some.0, c.last_piece-first.ensures.some.1);
        may = (subst (λ (k : ℕ). AreAlike c.args.stack.now.config c.args.d.0 k n) here (subst (λ (x : Configuration). AreAlike x c.args.d.0 first n) c.config.ensures.value c.last_piece-first.ensures.alike), c.in_ok-check_memory-in-Err.ensures.ok);
        answered = subst (λ (k : ℕ). EachBytes c.args.stack.now c.args.d.0 k n (Err c.in-Err.fault) c.read_bytes.new.self) here
            (subst (λ (m : ℕ). EachBytes c.args.stack.now c.args.d.0 first m (Err c.in-Err.fault) c.read_bytes.new.self) number (record { any = c.in-Err.ensures.any; steady = c.in-Err.ensures.steady }));
        given = subst (λ (k : ℕ). PieceGives g.D.BlockDev.state g.D.BlockDev.does c.args.stack.now (c.args.d.0, k) n (Err c.in-Err.fault) c.read_bytes.new.self) here
            (subst (λ (m : ℕ). PieceGives g.D.BlockDev.state g.D.BlockDev.does c.args.stack.now (c.args.d.0, first) m (Err c.in-Err.fault) c.read_bytes.new.self) number c.in-Err.ensures.given);
      },
      refl,
    )

pub returns-in_err-check_memory-in-Err-clause-err : goal.returns-in_err-check_memory-in-Err-clause-err
returns-in_err-check_memory-in-Err-clause-err g c =
    let first : ℕ = c.last_piece-first.result in
    let behind : ℕ = first - c.args.at in
    let count : ℕ = length (take ((c.args.low - first) * 512) c.args.room.now) / 512 in
    let here : first ≡ c.args.at + behind = omega (arith, c.last_piece-first.ensures.some.0) in
    let is = c.in_err-check_memory-in-Err.ensures.memory in
    err-from c.from_residual-in_err-check_memory-in-Err.result _ NoMemory (subst (λ (e : RecoveryFault). IsErrAnd c.from_residual-in_err-check_memory-in-Err.result (λ f. f ≡ e)) c.in_err-check_memory-in-Err.ensures.err c.from_residual-in_err-check_memory-in-Err.ensures.1) (
      record {
        read = record {
          behind = behind;
          count = count;
          answered = subst (λ (k : ℕ). EachBytes c.args.stack.now c.args.d.0 k count (Err io.NoMemory) c.read_bytes.new.self) here
              (subst (λ (f : IoFault). EachBytes c.args.stack.now c.args.d.0 first count (Err f) c.read_bytes.new.self) is (record { any = c.in-Err.ensures.any; steady = c.in-Err.ensures.steady }));
          met = subst (λ (k : ℕ). MeetVerity (said_at c.args.stack.now.config (mapped c.args.d.0)) k count) here (c.in-Err.ensures.memory (ap Err is));
        };
        behind = behind;
        count = count;
        fault = c.in-Err.fault;
        given = subst (λ (k : ℕ). PieceGives g.D.BlockDev.state g.D.BlockDev.does c.args.stack.now (c.args.d.0, k) count (Err c.in-Err.fault) c.read_bytes.new.self) here c.in-Err.ensures.given;
      },
      refl,
    )
