use Rattle.std.proofs.Common.{◌≡◌, ℕ, ◌*◌, ◌/◌, Bool, false, true, List, length, sym, ap, ◌∙◌, arith}
use Rattle.std.specs.Prelude.{is_ok}
use Rattle.std.specs.List.{concat}
use Rattle.std.proofs.lemmas.Bool.{false≢true}
use Rattle.std.proofs.lemmas.Slice.Eq.{bytes_eq-Decides}
use Rattle.block_device.specs.Device.{run_of, sectors_of}
use Rattle.block_device.specs.Call.{DeviceDoes}
use Rattle.device_adapters.proofs.DifferingCallLemmas.{block-replaced, block-stored, block-unread}
use Rattle.device_adapters.proofs.PutLemmas.{not_ok, on_ok, same-stands, spliced-same, stands-same}
use Rattle.device_adapters.proofs.put.put_block.Goals as goal

pub returns-then-eq-clause-ok : goal.returns-then-eq-clause-ok
returns-then-eq-clause-ok g c =
    let device = g.D.BlockDev.state c.args.device.now in
    let bytes : List ℕ = c.args.bytes.now in
    let n : ℕ = length bytes / 512 in
    let size : length bytes ≡ 512 * n = omega (arith, c.requires.range.whole) in
    let room : length c.args.room.now / 512 ≡ n = ap (λ (k : ℕ). k / 512) c.requires.room in
    let same : c.read.new.out ≡ bytes = (bytes_eq-Decides _ _).0 (sym c.eq.ensures ∙ c.if-eq.true) in
    record {
      image = λ steady.
          let read : c.read.new.out ≡ concat (run_of device.image c.args.first n) = c.in_ok-read.ensures.bytes steady ∙ ap (λ (k : ℕ). concat (run_of device.image c.args.first k)) room in
          c.in_ok-read.ensures.moved.image steady
          ∙ sym (spliced-same device.image c.args.first (sectors_of n bytes) (same-stands device (g.met.D.BlockDev.whole c.args.device.now) c.args.first n bytes c.read.new.out size c.requires.range.inside read same));
    }

pub returns-clause-same : goal.returns-clause-same
returns-clause-same g c =
    let device = g.D.BlockDev.state c.args.device.now in
    let bytes : List ℕ = c.args.bytes.now in
    let n : ℕ = length bytes / 512 in
    let size : length bytes ≡ 512 * n = omega (arith, c.requires.range.whole) in
    let room : length c.args.room.now / 512 ≡ n = ap (λ (k : ℕ). k / 512) c.requires.room in
    on_ok c.write.result _ (λ steady h.
    let read : c.read.new.out ≡ concat (run_of device.image c.args.first n) = c.in_ok-read.ensures.bytes steady ∙ ap (λ (k : ℕ). concat (run_of device.image c.args.first k)) room in
    let same = stands-same device (g.met.D.BlockDev.whole c.args.device.now) c.args.first n bytes c.read.new.out size c.requires.range.inside read h in
    absurd (false≢true (sym c.if-eq.false ∙ c.eq.ensures ∙ (bytes_eq-Decides _ _).1 same)))

pub returns-in_err-read-clause-calls : goal.returns-in_err-read-clause-calls
returns-in_err-read-clause-calls g c =
    let size : length c.read.new.out ≡ length c.args.bytes.now = omega (arith, c.read.auto.out, c.requires.room) in
    let failed : is_ok c.from_residual.result ≡ false = not_ok c.from_residual.result _ c.from_residual.ensures.1 in
    block-unread (DeviceDoes g.D.BlockDev.state g.D.BlockDev.does) c.args.first c.args.bytes.now c.read.new.out (is_ok c.from_residual.result) c.args.device.now c.read.new.self size failed c.in_err-read.ensures.call

pub returns-then-eq-clause-calls : goal.returns-then-eq-clause-calls
returns-then-eq-clause-calls g c =
    let same : c.read.new.out ≡ c.args.bytes.now = (bytes_eq-Decides _ _).0 (sym c.eq.ensures ∙ c.if-eq.true) in
    block-stored (DeviceDoes g.D.BlockDev.state g.D.BlockDev.does) c.args.first c.args.bytes.now c.read.new.out true c.args.device.now c.read.new.self same c.in_ok-read.ensures.call

pub returns-clause-calls : goal.returns-clause-calls
returns-clause-calls g c =
    let size : length c.read.new.out ≡ length c.args.bytes.now = omega (arith, c.read.auto.out, c.requires.room) in
    let differs : c.read.new.out ≡ c.args.bytes.now → ⊥ = λ same. false≢true (sym c.if-eq.false ∙ c.eq.ensures ∙ (bytes_eq-Decides _ _).1 same) in
    block-replaced (DeviceDoes g.D.BlockDev.state g.D.BlockDev.does) c.args.first c.args.bytes.now c.read.new.out (is_ok c.write.result) c.args.device.now c.read.new.self c.write.new.self size differs
    c.in_ok-read.ensures.call c.write.ensures.call
