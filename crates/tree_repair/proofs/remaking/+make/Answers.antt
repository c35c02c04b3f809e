use Rattle.std.proofs.Common.{◌≡◌, ◌<◌, ◌+◌, ◌-◌, ◌*◌, ◌++◌, ℕ, List, length, take, drop, replicate, refl, subst, ap, sym, ◌∙◌, arith}
use Rattle.std.proofs.lemmas.Bool.{true≢false}
use Rattle.block_device.specs.Call.{DeviceDoes}
use Rattle.tree_shape.specs.Digests.{digest}
use Rattle.tree_shape.proofs.lemmas.ShapeFactLemmas.{levels-few}
use Rattle.hash_tree.specs.Tree.{filled}
use Rattle.tree_repair.specs.AccessBudgets.{LeavesWorld, LeavesBlock, left_of, made_over}
use Rattle.tree_repair.proofs.AskedLemmas.{make-ends}
use Rattle.tree_repair.proofs.BillLemmas.{leaves-none, leaves-then}
use Rattle.tree_repair.specs.Remaking.{ground}
use Rattle.tree_repair.specs.Runs.{size_at}
use Rattle.tree_repair.proofs.MakeLemmas.{above, block-next, both-none, both-then, digests, made-all, made-none, none-yet, one-failed-since, over-before}
use Rattle.tree_repair.proofs.RepairCallLemmas.{both-at, both-more, both-nothing}
use Rattle.tree_repair.proofs.remaking.+make.Goals as goal

pub returns-then-steps-eq0-clause-made : goal.returns-then-steps-eq0-clause-made
returns-then-steps-eq0-clause-made g t c = λ ok steady steadily.
    let here = ground c.args.repair.now.shape c.args.repair.now.salt (c.args.image.now.world.data_dev) (c.args.image.now.world.hash_dev) c.args.making.from in
    c.read_at.ensures.stands ok steady steadily ∙ sym (made-none here c.args.making.steps c.args.making.number c.if-steps-eq0.true)

pub overflow_add-height : goal.overflow_add-height
overflow_add-height g t c = omega (arith, c.requires.high, levels-few c.args.repair.now.shape c.requires.have.valid, c.if-steps-eq0.false)

pub each-init : goal.each-init
each-init g t c =
    let s = c.args.repair.now.shape in
    let d = c.args.image.now.world.data_dev in
    let h = c.args.image.now.world.hash_dev in
    let here = ground s c.args.repair.now.salt d h c.args.making.from in
    let some : 0 < c.args.making.steps = omega (arith, c.if-steps-eq0.false) in
    let long : length c.args.block.now ≡ s.hash_block = c.requires.size ∙ ap (size_at s) (above c.args.making.from c.args.making.steps some) in
    record {
      read = both-none c.args.image.now.world;
      called = both-nothing (DeviceDoes g.D.BlockDev.state g.D.BlockDev.does) (DeviceDoes g.H.BlockDev.state g.H.BlockDev.does) c.args.image.now;
      asked =
          let low : ℕ = c.args.making.from + (c.args.making.steps - 1) in
          let first : ℕ = c.children_of-beneath.result.first in
          let same : first ≡ first + 0 = omega arith in
          subst (λ (n : ℕ). LeavesWorld (made_over s c.args.making.from (left_of s low first)) (made_over s c.args.making.from (left_of s low n)) c.args.image.now.world c.args.image.now.world) same
          (leaves-none (made_over s c.args.making.from (left_of s low first)) c.args.image.now.world);
      written = λ steady steadily. c.fill.ensures.after (λ y h. h) ∙ ap (λ (n : ℕ). replicate n 0) long ∙ sym (none-yet here (c.args.making.steps - 1) c.children_of-beneath.result.first s.hash_block);
    }

pub returns-then-steps-eq0-clause-fails : goal.returns-then-steps-eq0-clause-fails
returns-then-steps-eq0-clause-fails g t c = c.read_at.ensures.fails

pub returns-then-not-make-clause-fails : goal.returns-then-not-make-clause-fails
returns-then-not-make-clause-fails g t c = λ no. one-failed-since c.args.image.now.world c.each.image.world c.make.new.image.world c.each.invariant.read c.make.ensures.read (c.make.ensures.fails c.if-not-make.true)

pub returns-clause-fails : goal.returns-clause-fails
returns-clause-fails g t c = λ no. absurd (true≢false no)

pub returns-then-not-make-clause-read : goal.returns-then-not-make-clause-read
returns-then-not-make-clause-read g t c = both-then c.args.image.now.world c.each.image.world c.make.new.image.world c.each.invariant.read c.make.ensures.read

pub each-preserved : goal.each-preserved
each-preserved g t c =
    let s = c.args.repair.now.shape in
    let salt = c.args.repair.now.salt in
    let d = c.args.image.now.world.data_dev in
    let h = c.args.image.now.world.hash_dev in
    let d1 = c.each.image.world.data_dev in
    let h1 = c.each.image.world.hash_dev in
    let here = ground s salt d h c.args.making.from in
    let first = c.children_of-beneath.result.first in
    let slot = c.each.slot in
    let so_far : List ℕ = filled s.hash_block (digests here (c.args.making.steps - 1) first slot) in
    record {
      read = both-then c.args.image.now.world c.each.image.world c.make.new.image.world c.each.invariant.read c.make.ensures.read;
      called = both-more (DeviceDoes g.D.BlockDev.state g.D.BlockDev.does) (DeviceDoes g.H.BlockDev.state g.H.BlockDev.does) c.args.image.now c.each.image c.make.new.image c.each.invariant.called c.make.ensures.called;
      asked =
          let low : ℕ = c.args.making.from + (c.args.making.steps - 1) in
          let same : first + slot + 1 ≡ first + (slot + 1) = omega arith in
          subst (λ (n : ℕ). LeavesWorld (made_over s c.args.making.from (left_of s low first)) (made_over s c.args.making.from (left_of s low n)) c.args.image.now.world c.make.new.image.world) same
          (leaves-then c.each.invariant.asked c.make.ensures.asked);
      written = λ steady steadily.
          let child = over-before s salt d h d1 h1 c.each.invariant.read.devices c.args.making.from (c.args.making.steps - 1) (first + slot) c.make.new.block (c.make.ensures.made c.if-not-make.false) steady steadily in
          c.put_digest.ensures
          ∙ ap (λ (b : List ℕ). take (32 * slot) b ++ c.digest.result ++ drop (32 * slot + 32) b) (c.each.invariant.written steady steadily)
          ∙ ap (λ (x : List ℕ). take (32 * slot) so_far ++ x ++ drop (32 * slot + 32) so_far) (c.digest.ensures ∙ ap (digest salt) child)
          ∙ block-next here (c.args.making.steps - 1) first s.hash_block slot (first + slot) refl;
    }

pub returns-clause-made : goal.returns-clause-made
returns-clause-made g t c = λ ok steady steadily.
    let s = c.args.repair.now.shape in
    let here = ground s c.args.repair.now.salt (c.args.image.now.world.data_dev) (c.args.image.now.world.hash_dev) c.args.making.from in
    let first = c.children_of-beneath.result.first in
    let some : 0 < c.args.making.steps = omega (arith, c.if-steps-eq0.false) in
    let all : c.each.slot ≡ c.children_of-beneath.result.count = omega (arith, c.each-test.false, c.each.auto.slot-end) in
    c.each.invariant.written steady steadily
    ∙ ap (λ (k : ℕ). filled s.hash_block (digests here (c.args.making.steps - 1) first k)) all
    ∙ sym (made-all here c.args.making.steps c.args.making.number first c.children_of-beneath.result.count some c.children_of-beneath.ensures.first c.children_of-beneath.ensures.count)

pub returns-then-steps-eq0-clause-asked : goal.returns-then-steps-eq0-clause-asked
returns-then-steps-eq0-clause-asked g t c =
    let s = c.args.repair.now.shape in
    let m = c.args.making in
    let same : m.from ≡ m.from + m.steps = omega (arith, c.if-steps-eq0.true) in
    subst (λ (h : ℕ). LeavesBlock (made_over s m.from) s h m.number c.args.image.now.world c.read_at.new.image.world) same c.read_at.ensures.asked

pub returns-then-not-make-clause-asked : goal.returns-then-not-make-clause-asked
returns-then-not-make-clause-asked g t c =
    let s = c.args.repair.now.shape in
    let m = c.args.making in
    let low : ℕ = m.from + (m.steps - 1) in
    let first = c.children_of-beneath.result.first in
    let slot = c.each.slot in
    let same : first + slot + 1 ≡ first + (slot + 1) = omega arith in
    make-ends s c.requires.have.valid m.from low (m.from + m.steps) m.number first (slot + 1) (above m.from m.steps (omega (arith, c.if-steps-eq0.false))) c.children_of-beneath.ensures.first
    (omega (arith, c.each-test.true, c.children_of-beneath.ensures.count)) c.args.image.now.world c.make.new.image.world
    (subst (λ (n : ℕ). LeavesWorld (made_over s m.from (left_of s low first)) (made_over s m.from (left_of s low n)) c.args.image.now.world c.make.new.image.world) same
    (leaves-then c.each.invariant.asked c.make.ensures.asked))

pub returns-clause-asked : goal.returns-clause-asked
returns-clause-asked g t c =
    let s = c.args.repair.now.shape in
    let m = c.args.making in
    let low : ℕ = m.from + (m.steps - 1) in
    let first = c.children_of-beneath.result.first in
    make-ends s c.requires.have.valid m.from low (m.from + m.steps) m.number first c.each.slot (above m.from m.steps (omega (arith, c.if-steps-eq0.false))) c.children_of-beneath.ensures.first
    (omega (arith, c.each.auto.slot-end, c.children_of-beneath.ensures.count)) c.args.image.now.world c.each.image.world c.each.invariant.asked

pub returns-then-steps-eq0-clause-called : goal.returns-then-steps-eq0-clause-called
returns-then-steps-eq0-clause-called g t c = both-at (DeviceDoes g.D.BlockDev.state g.D.BlockDev.does) (DeviceDoes g.H.BlockDev.state g.H.BlockDev.does) c.args.making.from c.args.image.now c.read_at.new.image c.read_at.ensures.called

pub returns-then-not-make-clause-called : goal.returns-then-not-make-clause-called
returns-then-not-make-clause-called g t c = both-more (DeviceDoes g.D.BlockDev.state g.D.BlockDev.does) (DeviceDoes g.H.BlockDev.state g.H.BlockDev.does) c.args.image.now c.each.image c.make.new.image c.each.invariant.called c.make.ensures.called

pub returns-clause-called : goal.returns-clause-called
returns-clause-called g t c = c.each.invariant.called
