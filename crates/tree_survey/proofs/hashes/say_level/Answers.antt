use Rattle.std.proofs.Common.{add-one, ◌*◌, arith, ap}
use Rattle.tree_shape.specs.Shape.{ShapeRecord}
use Rattle.tree_shape.proofs.lemmas.ShapeFaultLemmas.{blocks-le}
use Rattle.tree_survey.proofs.SayingLemmas.{first-at, level-bad, level-good}
use Rattle.tree_survey.proofs.hashes.say_level.Goals as goal
use Rattle.tree_survey.proofs.hashes.say_level.Goals.{then-not-is_good+in_ok-say_hash, else-not-is_good}

pub overflow_mul-number : goal.overflow_mul-number
overflow_mul-number g c =
    let at = first-at c.args.path.now.shape c.args.shape.now c.requires.can.valid c.requires.can.shape_is c.args.level c.numbers.number c.span-width.result c.blocks-2.result c.level_blocks-number-end.result
    c.span-width.ensures c.blocks-2.ensures.value c.level_blocks-number-end.ensures.value c.numbers-test.true in
    omega (arith, at.0, at.1, (blocks-le c.args.path.now.shape c.requires.can.valid).0)

pub is_good-requires-clause-inside : goal.is_good-requires-clause-inside
is_good-requires-clause-inside g c =
    let at = first-at c.args.path.now.shape c.args.shape.now c.requires.can.valid c.requires.can.shape_is c.args.level c.numbers.number c.span-width.result c.blocks-2.result c.level_blocks-number-end.result
    c.span-width.ensures c.blocks-2.ensures.value c.level_blocks-number-end.ensures.value c.numbers-test.true in
    omega (arith, at.0, at.1, ap (λ (s : ShapeRecord). s.blocks) c.numbers.invariant.same.shape_is)

pub numbers-preserved : goal.numbers-preserved
numbers-preserved g c =
    let at = first-at c.args.path.now.shape c.args.shape.now c.requires.can.valid c.requires.can.shape_is c.args.level c.numbers.number c.span-width.result c.blocks-2.result c.level_blocks-number-end.result
    c.span-width.ensures c.blocks-2.ensures.value c.level_blocks-number-end.ensures.value c.numbers-test.true in
    let d = g.H.BlockDev.state c.args.device.now in
    let d' = g.H.BlockDev.state c.numbers.device in
    let d'' = g.H.BlockDev.state c.is_good.new.device in
    let old = g.L.Listing.told c.args.listing.now in
    let now = g.L.Listing.told c.numbers.listing in
    let p = c.args.path.now in
    let q = c.numbers.path in
    let r = c.is_good.new.path in
    elim c.if-not-is_good.branch [
      | then-not-is_good+in_ok-say_hash v ↦
          rw (v.listing-is, v.whole-is, add-one c.numbers.number)
          (level-bad p q r d d' d'' c.args.level c.numbers.number (c.numbers.number * c.span-width.result) old now c.numbers.whole c.numbers.invariant at.0 c.is_good.ensures.over (g.L.Listing.told v.say_hash.new.listing)
          (rw v.if-not-is_good.true at c.is_good.ensures.ends) v.in_ok-say_hash.ensures.ok)
      | else-not-is_good v ↦
          rw (v.listing-is, v.whole-is, add-one c.numbers.number)
          (level-good p q r d d' d'' c.args.level c.numbers.number (c.numbers.number * c.span-width.result) old now c.numbers.whole c.numbers.invariant at.0 c.is_good.ensures.over
          (rw v.if-not-is_good.false at c.is_good.ensures.ends))
    ]
