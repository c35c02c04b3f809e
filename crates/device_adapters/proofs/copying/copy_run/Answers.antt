use Rattle.std.proofs.Common.{ℕ, ◌/◌, ap, inl, inr, length}
use Rattle.std.proofs.lemmas.Result.{on_err_weaker}
use Rattle.block_device.specs.Device.{IsWritten, run_of, sectors_of, spliced}
use Rattle.device_adapters.proofs.CopyLemmas.{copied-run, ended-on, joined-ok}
use Rattle.device_adapters.proofs.copying.copy_run.Goals as goal

pub returns-in_err-read-clause-err : goal.returns-in_err-read-clause-err
returns-in_err-read-clause-err g c = ended-on c.from_residual.result (inl c.in_err-read.ensures.fault)

pub returns-clause-ok : goal.returns-clause-ok
returns-clause-ok g c =
    let from = g.D.BlockDev.state c.args.from.now in
    let to = g.O.BlockDev.state c.args.to.now in
    let n : ℕ = length c.args.room.now / 512 in
    let same = ap (λ (l : ℕ). l / 512) c.read.auto.out in
    joined-ok (λ ok. IsWritten to c.args.first n ok (g.O.BlockDev.state c.write.new.self)) c.write.result (rw same at c.write.ensures.moved) c.write.ensures.image
    (λ moved puts. copied-run from to (g.D.BlockDev.state c.read.new.self) (g.O.BlockDev.state c.write.new.self) c.args.first n n c.read.new.out (g.met.D.BlockDev.whole c.args.from.now) c.requires.from.inside
    c.in_ok-read.ensures.moved moved c.in_ok-read.ensures.bytes (rw same at puts))

pub returns-clause-err : goal.returns-clause-err
returns-clause-err g c = on_err_weaker c.write.result (λ failed. inr failed) c.write.ensures.fault
