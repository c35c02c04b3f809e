use Rattle.std.proofs.Common.{◌≡◌, ℕ, ◌+◌, ◌<◌, List, length, set, sym, ap, ◌∙◌, subst, arith}
use Rattle.std.proofs.lemmas.List.{length-set}
use Rattle.stack_rules.specs.Descend.{depth}
use Rattle.stack_rules.specs.Names.{mapped}
use Rattle.stack_rules.proofs.lemmas.ValidLineLemmas.{few}
use Rattle.stack_lines.specs.declared.leaf_set.LeafSet.{LeafSet}
use Rattle.stack_lines.specs.Standing.{AreSetsBelow}
use Rattle.stack_lines.proofs.lemmas.StandingLemmas.{AreSettled, settled-none, settled-below, settled-past, settled-more, settled-all}
use Rattle.stack_lines.proofs.leaf_sets.settle.Goals.{then-depth-deep, else-depth-deep}
use Rattle.stack_lines.proofs.leaf_sets.settle.Goals as goal

pub loop-place-init : goal.loop-place-init
loop-place-init c = settled-none c.args.config.now c.args.deep c.args.sets.now c.requires.below

pub loop-place-preserved : goal.loop-place-preserved
loop-place-preserved c =
    let config = c.args.config.now in
    let place = c.loop-place.place in
    let sets = c.loop-place.sets in
    let most = few config c.requires.loaded.valid in
    elim c.if-depth-deep.branch [
      | then-depth-deep w ↦
          let one = w.device_leaves.result in
          let long : length (set sets place one) ≡ 64 = ap (λ (l : List LeafSet). length l) (sym w.sets-is) ∙ c.if-depth-deep.array_long in
          let same : length (set sets place one) ≡ length sets = length-set sets place one in
          let inside : place < length sets = omega (arith, long, same, most, c.loop-place-test.true, c.count-place-end.ensures.value) in
          let here : depth config (mapped place) ≡ c.args.deep = sym c.depth.ensures ∙ w.if-depth-deep.true in
          subst (AreSettled config c.args.deep (place + 1)) (sym w.sets-is) (settled-more config c.args.deep place sets one inside here w.device_leaves.ensures c.loop-place.invariant)
      | else-depth-deep w ↦
          subst (AreSettled config c.args.deep (place + 1)) (sym w.sets-is) (settled-past config c.args.deep place sets (λ e. w.if-depth-deep.false (c.depth.ensures ∙ e)) c.loop-place.invariant)
    ]

pub overflow_cast-d : goal.overflow_cast-d
overflow_cast-d c = let most = few c.args.config.now c.requires.loaded.valid in omega (arith, most, c.count-place-end.ensures.value, c.loop-place-test.true)

pub bounds-sets-place : goal.bounds-sets-place
bounds-sets-place c = let most = few c.args.config.now c.requires.loaded.valid in omega (arith, most, c.count-place-end.ensures.value, c.loop-place-test.true)

pub offset_bounds-sets-place : goal.offset_bounds-sets-place
offset_bounds-sets-place c = let most = few c.args.config.now c.requires.loaded.valid in omega (arith, most, c.count-place-end.ensures.value, c.loop-place-test.true)

pub device_leaves-requires-clause-below : goal.device_leaves-requires-clause-below
device_leaves-requires-clause-below c =
    let config = c.args.config.now in
    let here : depth config (mapped c.loop-place.place) ≡ c.args.deep = sym c.depth.ensures ∙ c.if-depth-deep.true in
    subst (λ (n : ℕ). AreSetsBelow config n c.loop-place.sets) (sym here) (settled-below config c.args.deep c.loop-place.place c.loop-place.sets c.loop-place.invariant)

pub returns : goal.returns
returns c = settled-all c.args.config.now c.args.deep c.loop-place.place c.loop-place.sets (omega (arith, c.loop-place-test.false, c.count-place-end.ensures.value)) c.loop-place.invariant
