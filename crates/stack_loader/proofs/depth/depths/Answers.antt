use Rattle.std.proofs.Common.{◌≡◌, refl, sym, ap, ◌∙◌, length, arith}
use Rattle.std.proofs.lemmas.Simd.{splat_is_map}
use Rattle.std.proofs.lemmas.Slice.Eq.{bytes_eq-Decides}
use Rattle.stack_rules.specs.Descend.{most_devices}
use Rattle.stack_loader.specs.Depths.{depth_round, depth_rounds}
use Rattle.stack_loader.proofs.lemmas.DepthLemmas.{rounds-zero, rounds-suc, rounds-low, rounds-stay, length-rounds}
use Rattle.stack_loader.proofs.depth.depths.Goals as goal

pub returns-clause-ok : goal.returns-clause-ok
returns-clause-ok c = c.loop-round.invariant ∙ (let all : c.loop-round._round ≡ most_devices = omega arith in ap (depth_rounds c.args.sets.now) all)

pub loop-round-init : goal.loop-round-init
loop-round-init c = c.in_ok-values.ensures.ok ∙ splat_is_map c.args.sets.now (length c.args.sets.now) 1 refl ∙ sym (rounds-zero c.args.sets.now)

pub round-requires-clause-few : goal.round-requires-clause-few
round-requires-clause-few c = let long = ap length (c.as_slice.ensures.value ∙ c.loop-round.invariant) in omega (arith, c.requires, long, length-rounds c.args.sets.now c.loop-round._round)

pub round-requires-clause-low : goal.round-requires-clause-low
round-requires-clause-low c = λ k.
    let low = rounds-low c.args.sets.now c.loop-round._round k in
    rw (c.as_slice.ensures.value, c.loop-round.invariant) (omega (arith, low, c.loop-round-test.true))

pub loop-round-preserved : goal.loop-round-preserved
loop-round-preserved c =
    c.in_ok-next.ensures.ok ∙ ap (depth_round c.args.sets.now) (c.as_slice.ensures.value ∙ c.loop-round.invariant) ∙ sym (rounds-suc c.args.sets.now c.loop-round._round)

pub returns-then-eq-clause-ok : goal.returns-then-eq-clause-ok
returns-then-eq-clause-ok c =
    let next = c.in_ok-next.ensures.ok ∙ ap (depth_round c.args.sets.now) (c.as_slice.ensures.value ∙ c.loop-round.invariant) ∙ sym (rounds-suc c.args.sets.now c.loop-round._round) in
    let same : c.as_slice-in-loop-round.result.now ≡ c.as_slice-in-loop-round-2.result.now = (bytes_eq-Decides c.as_slice-in-loop-round.result.now c.as_slice-in-loop-round-2.result.now).0 (sym c.eq.ensures ∙ c.if-eq.true) in
    let stays = sym next ∙ sym c.as_slice-in-loop-round.ensures.value ∙ same ∙ c.as_slice-in-loop-round-2.ensures.value ∙ c.loop-round.invariant in
    next ∙ stays ∙ sym (rounds-stay c.args.sets.now c.loop-round._round stays most_devices (omega (arith, c.loop-round-test.true)))
