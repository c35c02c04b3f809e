use Rattle.std.proofs.Common.{◌≡◌, ◌≢◌, ◌+◌, ◌-◌, ◌*◌, ◌/◌, ◌≤◌, ℕ, sym, ap, ◌∙◌, arith, subst}
use Rattle.std.proofs.lemmas.Bool.{false≢true}
use Rattle.std.proofs.lemmas.Slice.Eq.{bytes_eq-Decides}
use Rattle.block_device.specs.Device.{Device}
use Rattle.tree_shape.specs.Shape.{ShapeRecord}
use Rattle.verity_format.specs.Blocks.{IsFullRead}
use Rattle.tree_path.specs.Path.{digest_on}
use Rattle.verity_format.proofs.lemmas.DeviceLemmas.{full_read-then}
use Rattle.tree_difference.specs.declared.walk.Walk.{Walk}
use Rattle.tree_difference.specs.Walks.{IsOn}
use Rattle.tree_difference.proofs.ErrLemmas.{err-from}
use Rattle.tree_difference.proofs.ReportLemmas.{way-then}
use Rattle.tree_difference.proofs.WalkLemmas.{cause-then, on-entered, on-read, on-was, trees-entered, trees-then}
use Rattle.tree_difference.proofs.walk.Walk.descend.Goals as goal

more-read : (d0 d d' : Device) (top level l size : ℕ) → level ≡ l + 1 → level ≤ top → IsFullRead d0 ((top - level) * size) d → IsFullRead d ((l + 1 - l) * size) d' → IsFullRead d0 ((top - l) * size) d'
more-read d0 d d' top level l size is few p q =
    let one : l + 1 - l ≡ 1 = omega arith in
    let less : top - l ≡ top - level + 1 = omega (arith, is, few) in
    full_read-then ((top - level) * size) ((l + 1 - l) * size) ((top - l) * size) p q
    (ap (λ (k : ℕ). (top - level) * size + k * size) one ∙ (let e : (top - level) * size + 1 * size ≡ (top - level + 1) * size = grind arith in e) ∙ ap (λ (k : ℕ). k * size) (sym less))

pub levels-preserved : goal.levels-preserved
levels-preserved g c =
    let l : ℕ = c.levels.level - 1 in
    let level : c.levels.level ≡ l + 1 = omega (arith, c.if-level-eq0.false) in
    let w : Walk = c.levels.self in
    let w' : Walk = c.enter.new.self in
    let d0 : Device = g.D.BlockDev.state c.args.first.now in
    let e0 : Device = g.E.BlockDev.state c.args.second.now in
    let d : Device = g.D.BlockDev.state c.levels.first in
    let e : Device = g.E.BlockDev.state c.levels.second in
    let d' : Device = g.D.BlockDev.state c.enter.new.first in
    let e' : Device = g.E.BlockDev.state c.enter.new.second in
    let before = c.levels.invariant in
    let on : IsOn w d0 e0 c.args.index (l + 1) = subst (IsOn w d0 e0 c.args.index) level before.on in
    let apart : digest_on w.first c.args.index c.levels.level ≢ digest_on w.second c.args.index c.levels.level =
    λ same. false≢true (sym c.levels-test.true ∙ c.is_same.ensures ∙ (bytes_eq-Decides c.digest_at.result c.digest_at-in-levels.result).1 (c.digest_at.ensures ∙ same ∙ sym c.digest_at-in-levels.ensures)) in
    let apart' : digest_on w.first c.args.index (l + 1) ≢ digest_on w.second c.args.index (l + 1) = subst (λ (k : ℕ). digest_on w.first c.args.index k ≢ digest_on w.second c.args.index k) level apart in
    let entered = c.in_ok-enter.ensures.ok in
    record {
      trees = trees-then c.args.self.now w w' before.trees (trees-entered _ c.args.index l entered);
      few = omega (arith, before.few);
      on = on-was w' d0 e0 d e c.args.index l before.first_read.read before.second_read.read
          (on-entered w w' d e d' e' c.args.index l (on-read w d0 e0 d e c.args.index (l + 1) before.first_read.read before.second_read.read on) apart' entered);
      first_read = more-read d0 d d' c.args.top c.levels.level l (c.args.self.now.first.shape.hash_block / 512) level before.few before.first_read
          (subst (λ (s : ShapeRecord). IsFullRead d ((l + 1 - l) * (s.hash_block / 512)) d') before.trees.first.shape_is entered.first.full);
      second_read = more-read e0 e e' c.args.top c.levels.level l (c.args.self.now.second.shape.hash_block / 512) level before.few before.second_read
          (subst (λ (s : ShapeRecord). IsFullRead e ((l + 1 - l) * (s.hash_block / 512)) e') before.trees.second.shape_is entered.second.full);
    }

pub returns-in_err-enter-clause-err : goal.returns-in_err-enter-clause-err
returns-in_err-enter-clause-err g c =
    let before = c.levels.invariant in
    err-from c.from_residual.result _ c.in_err-enter.field-0.0 c.from_residual.ensures.1
    (cause-then c.args.self.now c.levels.self (g.D.BlockDev.state c.args.first.now) (g.E.BlockDev.state c.args.second.now) (g.D.BlockDev.state c.levels.first) (g.E.BlockDev.state c.levels.second) (g.D.BlockDev.state c.enter.new.first) (g.E.BlockDev.state c.enter.new.second)
    c.in_err-enter.field-0.0 before.trees before.first_read.read before.second_read.read before.first_read.failures before.second_read.failures c.in_err-enter.ensures.err)

pub returns-in_err-enter-clause-way : goal.returns-in_err-enter-clause-way
returns-in_err-enter-clause-way g c =
    let before = c.levels.invariant in
    let low : c.levels.level - 1 + 1 ≤ c.args.top = omega (arith, c.if-level-eq0.false, before.few) in
    err-from c.from_residual.result _ c.in_err-enter.field-0.0 c.from_residual.ensures.1
    (way-then c.args.self.now c.levels.self c.args.index (c.levels.level - 1 + 1) c.args.top c.in_err-enter.field-0.0 before.trees low c.in_err-enter.ensures.way)
