use Rattle.std.proofs.Common.{◌≡◌, ℕ, ◌+◌, ◌-◌, ◌*◌, ◌/◌, ◌<◌, ◌≤◌, Bool, false, true, IsTrue, List, length, take, drop, sym, ap, ap₂, subst, ◌∙◌, arith}
use Rattle.std.specs.Prelude.{is_ok}
use Rattle.std.proofs.lemmas.List.{length-drop, length-take-le}
use Rattle.block_device.specs.Call.{DeviceDoes}
use Rattle.block_device.specs.Device.{sectors_of}
use Rattle.device_adapters.specs.Differing.{AreSectorsPut, KeepsOutside, stands}
use Rattle.device_adapters.specs.DifferingCalls.{compared_sectors}
use Rattle.device_adapters.proofs.DifferingCallLemmas.{blocks-all, blocks-failed, blocks-more, blocks-none}
use Rattle.device_adapters.proofs.PutLemmas.{not_ok, outside-all, underway-failed, underway-none, underway-put}
use Rattle.device_adapters.proofs.put.put_blocks.Goals as goal

pub parts-init : goal.parts-init
parts-init g c =
    let whole = g.met.D.BlockDev.whole c.args.device.now in
    record { so_far = underway-none (g.D.BlockDev.state c.args.device.now) c.args.first c.args.bytes.now (omega (arith, whole.length, c.requires.range.inside)); calls = blocks-none (DeviceDoes g.D.BlockDev.state g.D.BlockDev.does) c.args.first c.args.bytes.now c.args.device.now; within = omega arith }

pub overflow_add-first : goal.overflow_add-first
overflow_add-first g c =
    omega (arith, c.sectors-fits.ensures.size, c.sectors-fits.ensures.small, c.requires.range.inside, c.parts.invariant.within, c.parts-test.true)

pub returns-in_err-put_block-clause-outside : goal.returns-in_err-put_block-clause-outside
returns-in_err-put_block-clause-outside g c =
    let bytes : List ℕ = c.args.bytes.now in
    let n : ℕ = length bytes / 512 in
    let k : ℕ = c.parts.done in
    let m : ℕ = c.min-count.result in
    let whole = g.met.D.BlockDev.whole c.args.device.now in
    let size : length bytes ≡ 512 * n = omega (arith, c.requires.range.whole) in
    let some : k + m ≤ n = omega (arith, c.parts.invariant.within, c.min-count.ensures) in
    let from : k * 512 ≡ 512 * k = omega arith in
    let wide : (k + m) * 512 - k * 512 ≡ 512 * m = omega arith in
    let is : take ((k + m) * 512 - k * 512) (drop (k * 512) bytes) ≡ take (512 * m) (drop (512 * k) bytes) = ap₂ (λ (a b : ℕ). take a (drop b bytes)) wide from in
    let len : length (take (512 * m) (drop (512 * k) bytes)) ≡ 512 * m = length-take-le (512 * m) (drop (512 * k) bytes) (omega (arith, size, some, length-drop (512 * k) bytes)) in
    let count : length (take ((k + m) * 512 - k * 512) (drop (k * 512) bytes)) / 512 ≡ m = ap (λ (l : List ℕ). length l / 512) is ∙ omega (arith, len) in
    subst (λ (b : Bool). KeepsOutside (g.D.BlockDev.state c.args.device.now) c.args.first n b (g.D.BlockDev.state c.put_block.new.device)) (sym (not_ok c.from_residual.result _ c.from_residual.ensures.1))
    (underway-failed (g.D.BlockDev.state c.args.device.now) (g.D.BlockDev.state c.parts.device) c.args.first k n bytes size (omega (arith, whole.length, c.requires.range.inside)) c.parts.invariant.so_far m _ (g.D.BlockDev.state c.put_block.new.device) some is
    (subst (λ (j : ℕ). KeepsOutside (g.D.BlockDev.state c.parts.device) (c.args.first + k) j false (g.D.BlockDev.state c.put_block.new.device)) count c.in_err-put_block.ensures.outside))

pub parts-preserved : goal.parts-preserved
parts-preserved g c =
    let bytes : List ℕ = c.args.bytes.now in
    let n : ℕ = length bytes / 512 in
    let k : ℕ = c.parts.done in
    let m : ℕ = c.min-count.result in
    let whole = g.met.D.BlockDev.whole c.args.device.now in
    let now = g.D.BlockDev.state c.parts.device in
    let new = g.D.BlockDev.state c.put_block.new.device in
    let first : ℕ = c.args.first in
    let size : length bytes ≡ 512 * n = omega (arith, c.requires.range.whole) in
    let some : k + m ≤ n = omega (arith, c.parts.invariant.within, c.min-count.ensures) in
    let from : k * 512 ≡ 512 * k = omega arith in
    let wide : (k + m) * 512 - k * 512 ≡ 512 * m = omega arith in
    let block : List ℕ = take ((k + m) * 512 - k * 512) (drop (k * 512) bytes) in
    let is : block ≡ take (512 * m) (drop (512 * k) bytes) = ap₂ (λ (a b : ℕ). take a (drop b bytes)) wide from in
    let len : length (take (512 * m) (drop (512 * k) bytes)) ≡ 512 * m = length-take-le (512 * m) (drop (512 * k) bytes) (omega (arith, size, some, length-drop (512 * k) bytes)) in
    let count : length block / 512 ≡ m = ap (λ (l : List ℕ). length l / 512) is ∙ omega (arith, len) in
    let left : k < n = omega (arith, c.parts-test.true) in
    let counted : m ≡ compared_sectors bytes k = omega (arith, c.min-count.ensures) in
    let done = c.in_ok-put_block.ensures in
    record {
      so_far = underway-put (g.D.BlockDev.state c.args.device.now) now first k n bytes size (omega (arith, whole.length, c.requires.range.inside)) c.parts.invariant.so_far m block new some is
          (subst (λ (j : ℕ). AreSectorsPut now (first + k) (sectors_of j block) new) count done.ok)
          (subst (λ (j : ℕ). KeepsOutside now (first + k) j true new) count done.outside)
          (subst (λ (j : ℕ). IsTrue now.steady → stands now.image (first + k) (sectors_of j block) → new.writes ≡ now.writes) count done.same);
      calls = blocks-more (DeviceDoes g.D.BlockDev.state g.D.BlockDev.does) first bytes k m block true c.args.device.now c.parts.device c.put_block.new.device left counted is
          c.parts.invariant.calls done.calls;
      within = some;
    }

pub returns-clause-outside : goal.returns-clause-outside
returns-clause-outside g c =
    let bytes : List ℕ = c.args.bytes.now in
    let whole = g.met.D.BlockDev.whole c.args.device.now in
    let all : length bytes / 512 ≡ c.parts.done = omega (arith, c.parts.invariant.within, c.parts-test.false) in
    let size : length bytes ≡ 512 * c.parts.done = omega (arith, c.requires.range.whole, all) in
    outside-all (g.D.BlockDev.state c.args.device.now) (g.D.BlockDev.state c.parts.device) c.args.first c.parts.done bytes size (omega (arith, whole.length, c.requires.range.inside, all)) c.parts.invariant.so_far

pub returns-in_err-put_block-clause-calls : goal.returns-in_err-put_block-clause-calls
returns-in_err-put_block-clause-calls g c =
    let bytes : List ℕ = c.args.bytes.now in
    let k : ℕ = c.parts.done in
    let m : ℕ = c.min-count.result in
    let from : k * 512 ≡ 512 * k = omega arith in
    let wide : (k + m) * 512 - k * 512 ≡ 512 * m = omega arith in
    let block : List ℕ = take ((k + m) * 512 - k * 512) (drop (k * 512) bytes) in
    let is : block ≡ take (512 * m) (drop (512 * k) bytes) = ap₂ (λ (a b : ℕ). take a (drop b bytes)) wide from in
    let some : k < length bytes / 512 = omega (arith, c.parts-test.true) in
    let count : m ≡ compared_sectors bytes k = omega (arith, c.min-count.ensures) in
    blocks-failed (DeviceDoes g.D.BlockDev.state g.D.BlockDev.does) c.args.first bytes (k + m) (is_ok c.from_residual.result) c.args.device.now c.put_block.new.device (not_ok c.from_residual.result _ c.from_residual.ensures.1)
    (blocks-more (DeviceDoes g.D.BlockDev.state g.D.BlockDev.does) c.args.first bytes k m block false c.args.device.now c.parts.device c.put_block.new.device some count is c.parts.invariant.calls c.in_err-put_block.ensures.calls)

pub returns-clause-calls : goal.returns-clause-calls
returns-clause-calls g c =
    let all : c.parts.done ≡ length c.args.bytes.now / 512 = omega (arith, c.parts.invariant.within, c.parts-test.false) in
    blocks-all (DeviceDoes g.D.BlockDev.state g.D.BlockDev.does) c.args.first c.args.bytes.now c.parts.done c.args.device.now c.parts.device all c.parts.invariant.calls
