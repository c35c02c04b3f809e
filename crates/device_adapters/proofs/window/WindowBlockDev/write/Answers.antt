use Rattle.std.proofs.Common.{◌≡◌, ◌+◌, ◌/◌, ◌≤◌, length, ap, refl, subst, ◌∙◌, arith, IsTrue}
use Rattle.std.proofs.lemmas.Result.{on_ok_weaker}
use Rattle.block_device.specs.Device.{run_of, sectors_of}
use Rattle.block_device.specs.Whole.{length-sectors_of}
use Rattle.device_adapters.proofs.PartLemmas.{outside_of-same, after-run_of, before-run_of, run_of-spliced}
use Rattle.device_adapters.proofs.WindowCallLemmas.{write-windowed}
use Rattle.device_adapters.proofs.window.WindowBlockDev.write.Goals as goal

pub returns-clause-moved : goal.returns-clause-moved
returns-clause-moved g c =
    let part = c.args.self.now.part in
    let old = (g.D.BlockDev.state c.args.self.now.inner).image in
    let new = (g.D.BlockDev.state c.write.new.self).image in
    let moved = c.write.ensures.moved in
    record {
      same = record { size = refl; may_write = moved.same.may_write; steady = moved.same.steady; never_fails = moved.same.never_fails };
      reads = moved.reads;
      writes = moved.writes;
      failures = moved.failures;
      dirty = moved.dirty;
      before = λ steady. before-run_of old new part.first part.count c.args.first (omega arith) (moved.before steady);
      after = λ steady. after-run_of old new part.first part.count c.args.first (length c.args.bytes.now / 512) c.requires.range.inside (moved.after steady);
    }

pub returns-clause-image : goal.returns-clause-image
returns-clause-image g c =
    let part = c.args.self.now.part in
    let old = (g.D.BlockDev.state c.args.self.now.inner).image in
    let n = length c.args.bytes.now / 512 in
    let whole = (g.met.D.BlockDev.whole c.args.self.now.inner).length in
    on_ok_weaker c.write.result
    (λ written steady. ap (λ image. run_of image part.first part.count) (written steady)
    ∙ run_of-spliced old (sectors_of n c.args.bytes.now) part.first part.count c.args.first (omega arith) (omega (arith, length-sectors_of n c.args.bytes.now)))
    c.write.ensures.image

pub invariant_of-self : goal.invariant_of-self
invariant_of-self g c =
    let part = c.args.self.now.part in
    let moved = c.write.ensures.moved in
    record {
      inside = omega arith;
      small = c.args.self.now.small;
      kept = λ outside is. record {
        place = (c.args.self.now.kept outside is).place;
        stands = λ steady.
            outside_of-same (g.D.BlockDev.state c.args.self.now.inner).image (g.D.BlockDev.state c.write.new.self).image part c.args.first (length c.args.bytes.now / 512) c.requires.range.inside
            (moved.before (subst IsTrue moved.same.steady steady)) (moved.after (subst IsTrue moved.same.steady steady))
            ∙ (c.args.self.now.kept outside is).stands (subst IsTrue moved.same.steady steady);
      };
    }

pub returns-clause-call : goal.returns-clause-call
returns-clause-call g c =
    let whole = g.met.D.BlockDev.whole c.args.self.now.inner in
    (write-windowed (g.D.BlockDev.state c.args.self.now.inner) (g.D.BlockDev.state c.write.new.self) c.args.self.now.part c.args.first c.args.bytes.now _ c.args.self.now.inside whole c.requires.range.inside c.write.ensures.call.0, (c.write.ensures.call, refl))
