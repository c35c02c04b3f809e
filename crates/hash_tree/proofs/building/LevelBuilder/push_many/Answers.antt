use Rattle.std.proofs.Common.{◌≡◌, ◌-◌, ◌++◌, List, ℕ, length, take, drop, ap, ◌∙◌, arith, subst}
use Rattle.std.specs.Prelude.{is_some}
use Rattle.std.proofs.lemmas.List.{take_all, length-drop, length-take-le}
use Rattle.allocation.specs.declared.out_of_memory.OutOfMemory.{OutOfMemory}
use Rattle.hash_tree.specs.Building.{BuilderRecord, completed, HasSome, IsPushed}
use Rattle.hash_tree.proofs.lemmas.GrowLemmas.{HasSome-all}
use Rattle.hash_tree.proofs.lemmas.BuilderLemmas.{left-pushed, failed-pushed}
use Rattle.hash_tree.proofs.lemmas.BlockwiseLemmas.{IsPushed-none, IsPushed-next, HasSome-rest}
use Rattle.hash_tree.proofs.RefusalLemmas.{fails-after, on-err}
use Rattle.hash_tree.proofs.building.LevelBuilder.push_many.Goals as goal

-- the digests that are left
rest : (n : ℕ) (ds : List (List ℕ)) → take (length ds - n) (drop n ds) ≡ drop n ds
rest n ds = take_all (length ds - n) (drop n ds) (omega (arith, length-drop n ds))

pub loop-done-init : goal.loop-done-init
loop-done-init c = record { well = rw (← c.self.view_is) (ap (is_some {T = OutOfMemory}) c.in-None.is); few = omega arith; pushed = IsPushed-none c.args.self.now c.args.out.now.items }

pub push_next-requires-clause-working : goal.push_next-requires-clause-working
push_next-requires-clause-working c =
    let here = c.loop-done.invariant in
    ap (λ (b : BuilderRecord). b.failed) here.pushed.builder ∙ failed-pushed c.args.self.now (take c.loop-done.done c.args.digests.now) ∙ here.well

pub push_next-requires-clause-left : goal.push_next-requires-clause-left
push_next-requires-clause-left c =
    let b = c.args.self.now in
    let n = c.loop-done.done in
    let ds = c.args.digests.now in
    let here = c.loop-done.invariant in
    let left : c.loop-done.self.left ≡ b.left - length (take n ds) = ap (λ (b : BuilderRecord). b.left) here.pushed.builder ∙ left-pushed b (take n ds) in
    let count : length (take n ds) ≡ n = length-take-le n ds here.few in
    let some : length (take (length ds - n) (drop n ds)) ≡ length ds - n = ap length (rest n ds) ∙ length-drop n ds in
    omega (arith, left, count, some, c.requires here.well)

pub returns-in_err-done-clause-some : goal.returns-in_err-done-clause-some
returns-in_err-done-clause-some c =
    let ds = c.args.digests.now in
    let n = c.loop-done.done in
    HasSome-rest c.args.self.now c.loop-done.self n ds c.args.out.now.items c.loop-done.out.items c.push_next.new.out.items c.loop-done.invariant.pushed
    (subst (λ xs. HasSome c.loop-done.out.items (completed c.loop-done.self xs) c.push_next.new.out.items) (rest n ds) c.in_err-done.ensures.some)

pub returns-in_err-done-clause-err : goal.returns-in_err-done-clause-err
returns-in_err-done-clause-err c =
    on-err c.from_residual.result (fails-after c.args.self.now c.loop-done.self c.push_next.new.self (take c.loop-done.done c.args.digests.now) c.loop-done.invariant.pushed.builder c.in_err-done.ensures.err)

pub loop-done-preserved : goal.loop-done-preserved
loop-done-preserved c =
    let ds = c.args.digests.now in
    let m = c.loop-done.done in
    let n = c.in_ok-done.field-0 in
    let here = c.loop-done.invariant in
    let part : length (take (length ds - m) (drop m ds)) ≡ length ds - m = ap length (rest m ds) ∙ length-drop m ds in
    record {
      well = here.well;
      few = omega (arith, here.few, part, c.in_ok-done.ensures.count.1);
      pushed = IsPushed-next c.args.self.now c.loop-done.self c.push_next.new.self m n ds c.args.out.now.items c.loop-done.out.items c.push_next.new.out.items here.pushed
          (subst (λ xs. IsPushed c.loop-done.self (take n xs) c.push_next.new.self c.loop-done.out.items c.push_next.new.out.items) (rest m ds) c.in_ok-done.ensures.ok);
    }

pub returns-clause-some : goal.returns-clause-some
returns-clause-some c =
    let b = c.args.self.now in
    let ds = c.args.digests.now in
    let all : take c.loop-done.done ds ≡ ds = take_all c.loop-done.done ds c.loop-done-test.false in
    HasSome-all c.args.out.now.items (completed b ds) c.loop-done.out.items (c.loop-done.invariant.pushed.out ∙ ap (λ ds. c.args.out.now.items ++ completed b ds) all)
