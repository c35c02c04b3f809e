use Rattle.std.proofs.Common.{◌≡◌, ◌≤◌, ◌+◌, ◌*◌, ◌/◌, ◌%◌, ◌^◌, ◌++◌, ◌∷◌, ◌∙◌, [], ℕ, List, true, false, IsTrue, length, min, take, refl, sym, ap, arith, subst}
use Rattle.std.proofs.lemmas.List.{take_more, take_all}
use Rattle.std.proofs.lemmas.Result.{err_from_is_err_and}
use Rattle.block_device.specs.Call.{Call, Calls, DeviceDoes, Write}
use Rattle.block_device.specs.Device.{IsWritten, spliced, sectors_of}
use Rattle.block_device.proofs.lemmas.CallLemmas.{calls-last}
use Rattle.hash_tree.specs.Building.{PlacedRecord}
use Rattle.verity_format.specs.Handing.{writes_of}
use Rattle.verity_format.specs.Writing.{MayStand, LiesBetween, AreBlocksWritten}
use Rattle.verity_format.proofs.lemmas.DeviceLemmas.{same-none, same-then, failed-then}
use Rattle.verity_format.proofs.lemmas.SizeLemmas.{block-size}
use Rattle.verity_format.proofs.WritingLemmas.{part-none, part-one, part-then, part-more, written-none, written-one, written-then}
use Rattle.verity_format.proofs.HandingLemmas.{writes-append}
use Rattle.verity_format.proofs.writing.write_blocks.Goals as goal

pub loop-placed-init : goal.loop-placed-init
loop-placed-init g c =
    let d = g.H.BlockDev.state c.args.hash_dev.now in
    record {
      same = same-none d;
      part = λ first last all. part-none c.args.size first last d;
      done = written-none c.args.size d;
      handed = refl;
    }

pub write-requires-clause-range : goal.write-requires-clause-range
write-requires-clause-range g c =
    let p : PlacedRecord = c.placed-item.result in
    let i = c.loop-placed.placed-index in
    let size = c.args.size in
    let k : ℕ = size / 512 in
    let old = g.H.BlockDev.state c.args.hash_dev.now in
    let b = block-size size c.requires.size in
    let at : MayStand old size p = subst (λ (q : PlacedRecord). MayStand old size q) (sym c.placed-item.is) (c.requires.inside i p c.loop-placed-test.true) in
    let number : p.block ≡ c.placed.inside.block = sym (ap (λ (p : PlacedRecord). p.block) c.placed.view_is) in
    let bytes : c.as_slice.result.now ≡ p.bytes = c.as_slice.ensures.value ∙ ap (λ (p : PlacedRecord). p.bytes) c.placed.view_is in
    let long : length c.as_slice.result.now ≡ size = ap length bytes ∙ at.0 in
    let low : c.placed.inside.block * k + k ≤ min old.size (2 ^ 54) = subst (λ (n : ℕ). n * k + k ≤ min old.size (2 ^ 54)) number at.1 in
    record {
      some = omega (arith, long, b.some);
      whole = ap (λ n. n % 512) long ∙ b.whole;
      inside = omega (arith, low, ap (λ n. n / 512) long, c.loop-placed.invariant.same.size);
    }

pub write-requires-clause-allowed : goal.write-requires-clause-allowed
write-requires-clause-allowed g c = subst IsTrue (sym c.loop-placed.invariant.same.may_write) c.requires.allowed

pub loop-placed-preserved : goal.loop-placed-preserved
loop-placed-preserved g c =
    let p : PlacedRecord = c.placed-item.result in
    let out = c.args.blocks.now in
    let i : ℕ = c.loop-placed.placed-index in
    let size = c.args.size in
    let k : ℕ = size / 512 in
    let old = g.H.BlockDev.state c.args.hash_dev.now in
    let now = g.H.BlockDev.state c.loop-placed.hash_dev in
    let new = g.H.BlockDev.state c.write.new.self in
    let here = c.loop-placed.invariant in
    let at : MayStand old size p = subst (λ (q : PlacedRecord). MayStand old size q) (sym c.placed-item.is) (c.requires.inside i p c.loop-placed-test.true) in
    let number : p.block ≡ c.placed.inside.block = sym (ap (λ (p : PlacedRecord). p.block) c.placed.view_is) in
    let bytes : c.as_slice.result.now ≡ p.bytes = c.as_slice.ensures.value ∙ ap (λ (p : PlacedRecord). p.bytes) c.placed.view_is in
    let n : ℕ = length c.as_slice.result.now / 512 in
    let count : n ≡ length p.bytes / 512 = ap (λ xs. length xs / 512) bytes in
    let sectors : n ≡ k = count ∙ ap (λ m. m / 512) at.0 in
    let w : IsWritten now (p.block * k) n true new = subst (λ (m : ℕ). IsWritten now (m * k) n true new) (sym number) c.in_ok-write.ensures.moved in
    let image : IsTrue now.steady → new.image ≡ spliced now.image (p.block * k) (sectors_of n p.bytes) = λ steady.
    c.in_ok-write.ensures.image steady
    ∙ ap (λ xs. spliced now.image (c.placed.inside.block * k) (sectors_of n xs)) bytes
    ∙ ap (λ m. spliced now.image (m * k) (sectors_of n p.bytes)) (sym number) in
    let inside : p.block * k ≤ length now.image = omega (arith, at.1, here.same.size, (g.met.H.BlockDev.whole c.loop-placed.hash_dev).length) in
    let more : take (i + 1) out ≡ take i out ++ p ∷ [] = take_more out i p c.loop-placed-test.true ∙ ap (λ q. take i out ++ q ∷ []) (sym c.placed-item.is) in
    record {
      same = same-then here.same w.same;
      part = λ first last all.
          let stands : LiesBetween size first last p = subst (λ (q : PlacedRecord). LiesBetween size first last q) (sym c.placed-item.is) (all i p c.loop-placed-test.true) in
          part-then size first last i 1 (i + 1) old now new (omega arith) (here.part first last all) (part-one size first last n p now new true stands sectors w);
      done = subst (λ (ps : List PlacedRecord). AreBlocksWritten size old ps new) (sym more)
          (written-then size (take i out) (p ∷ []) old now new here.same here.done (written-one size n p now new c.requires.size at.0 count inside w image));
      handed =
          let does = DeviceDoes g.H.BlockDev.state g.H.BlockDev.does in
          let call : does c.loop-placed.hash_dev (Write (p.block * k) p.bytes true) c.write.new.self =
          subst (λ (m : ℕ). does c.loop-placed.hash_dev (Write (m * k) p.bytes true) c.write.new.self) (sym number)
          (subst (λ (xs : List ℕ). does c.loop-placed.hash_dev (Write (c.placed.inside.block * k) xs true) c.write.new.self) bytes c.in_ok-write.ensures.call) in
          subst (λ (calls : List Call). Calls does c.args.hash_dev.now calls c.write.new.self) (sym (writes-append size (take i out) (p ∷ [])) ∙ ap (writes_of size) (sym more))
          (calls-last does c.args.hash_dev.now c.loop-placed.hash_dev c.write.new.self (writes_of size (take i out)) (Write (p.block * k) p.bytes true) here.handed call);
    }

pub returns-in_err-write-clause-part : goal.returns-in_err-write-clause-part
returns-in_err-write-clause-part g c = λ first last all.
    let p : PlacedRecord = c.placed-item.result in
    let out = c.args.blocks.now in
    let i : ℕ = c.loop-placed.placed-index in
    let size = c.args.size in
    let k : ℕ = size / 512 in
    let old = g.H.BlockDev.state c.args.hash_dev.now in
    let now = g.H.BlockDev.state c.loop-placed.hash_dev in
    let new = g.H.BlockDev.state c.write.new.self in
    let at : MayStand old size p = subst (λ (q : PlacedRecord). MayStand old size q) (sym c.placed-item.is) (c.requires.inside i p c.loop-placed-test.true) in
    let number : p.block ≡ c.placed.inside.block = sym (ap (λ (p : PlacedRecord). p.block) c.placed.view_is) in
    let bytes : c.as_slice.result.now ≡ p.bytes = c.as_slice.ensures.value ∙ ap (λ (p : PlacedRecord). p.bytes) c.placed.view_is in
    let n : ℕ = length c.as_slice.result.now / 512 in
    let sectors : n ≡ k = ap (λ xs. length xs / 512) bytes ∙ ap (λ m. m / 512) at.0 in
    let w : IsWritten now (p.block * k) n false new = subst (λ (m : ℕ). IsWritten now (m * k) n false new) (sym number) c.in_err-write.ensures.moved in
    let stands : LiesBetween size first last p = subst (λ (q : PlacedRecord). LiesBetween size first last q) (sym c.placed-item.is) (all i p c.loop-placed-test.true) in
    part-then size first last i 1 (length out) old now new (omega (arith, c.loop-placed-test.true)) (c.loop-placed.invariant.part first last all) (part-one size first last n p now new false stands sectors w)

pub returns-in_err-write-clause-fault : goal.returns-in_err-write-clause-fault
returns-in_err-write-clause-fault g c =
    let p = err_from_is_err_and c.from_residual.result c.from_residual.ensures.1 in
    rw p.1 (failed-then (g.H.BlockDev.state c.args.hash_dev.now) (g.H.BlockDev.state c.loop-placed.hash_dev) (g.H.BlockDev.state c.write.new.self) c.loop-placed.invariant.done.failures c.in_err-write.ensures.fault)

pub returns-clause-part : goal.returns-clause-part
returns-clause-part g c = λ first last all.
    part-more c.args.size first last c.loop-placed.placed-index (length c.args.blocks.now) (g.H.BlockDev.state c.args.hash_dev.now) (g.H.BlockDev.state c.loop-placed.hash_dev) (omega arith) (c.loop-placed.invariant.part first last all)

pub returns-clause-ok : goal.returns-clause-ok
returns-clause-ok g c =
    subst (λ (ps : List PlacedRecord). AreBlocksWritten c.args.size (g.H.BlockDev.state c.args.hash_dev.now) ps (g.H.BlockDev.state c.loop-placed.hash_dev))
    (take_all c.loop-placed.placed-index c.args.blocks.now c.loop-placed-test.false) c.loop-placed.invariant.done

pub returns-in_err-write-clause-handed : goal.returns-in_err-write-clause-handed
returns-in_err-write-clause-handed g c =
    let result = err_from_is_err_and c.from_residual.result c.from_residual.ensures.1 in
    let does = DeviceDoes g.H.BlockDev.state g.H.BlockDev.does in
    let p : PlacedRecord = c.placed-item.result in
    let out = c.args.blocks.now in
    let i : ℕ = c.loop-placed.placed-index in
    let size = c.args.size in
    let k : ℕ = size / 512 in
    let number : p.block ≡ c.placed.inside.block = sym (ap (λ (p : PlacedRecord). p.block) c.placed.view_is) in
    let bytes : c.as_slice.result.now ≡ p.bytes = c.as_slice.ensures.value ∙ ap (λ (p : PlacedRecord). p.bytes) c.placed.view_is in
    let more : take (i + 1) out ≡ take i out ++ p ∷ [] = take_more out i p c.loop-placed-test.true ∙ ap (λ q. take i out ++ q ∷ []) (sym c.placed-item.is) in
    let call : does c.loop-placed.hash_dev (Write (p.block * k) p.bytes false) c.write.new.self =
    subst (λ (m : ℕ). does c.loop-placed.hash_dev (Write (m * k) p.bytes false) c.write.new.self) (sym number)
    (subst (λ (xs : List ℕ). does c.loop-placed.hash_dev (Write (c.placed.inside.block * k) xs false) c.write.new.self) bytes c.in_err-write.ensures.call) in
    rw result.1
    (record {
      number = i + 1;
      before = take i out;
      last = p;
      first_are = more;
      made = calls-last does c.args.hash_dev.now c.loop-placed.hash_dev c.write.new.self (writes_of size (take i out)) (Write (p.block * k) p.bytes false) c.loop-placed.invariant.handed call;
    })

pub returns-clause-handed : goal.returns-clause-handed
returns-clause-handed g c =
    let does = DeviceDoes g.H.BlockDev.state g.H.BlockDev.does in
    subst (λ (ps : List PlacedRecord). Calls does c.args.hash_dev.now (writes_of c.args.size ps) c.loop-placed.hash_dev)
    (take_all c.loop-placed.placed-index c.args.blocks.now c.loop-placed-test.false) c.loop-placed.invariant.handed
