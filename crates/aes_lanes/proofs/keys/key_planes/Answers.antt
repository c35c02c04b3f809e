use Rattle.std.proofs.Common.{◌≡◌, ◌%◌, sym, ◌∙◌, subst, inl, inr, arith}
use Rattle.std.specs.Prelude.{slice_set}
use Rattle.std.proofs.lemmas.Bool.{cases_lt}
use Rattle.std.proofs.lemmas.List.{length-set, get_or-set_same, get_or-set_other}
use Rattle.aes_lanes.specs.Keys.{AreOneBlock, kept_key, planes_in, no_planes, key_planes}
use Rattle.aes_lanes.proofs.keys.key_planes.Goals as goal

pub loop-round-preserved : goal.loop-round-preserved
loop-round-preserved c =
    let w = c.args.schedule.now in
    let keys = c.loop-round.keys in
    let round = c.loop-round.round in
    let made = c.new.result in
    let so_far = c.loop-round.invariant in (
      length-set keys round made ∙ so_far.0,
      λ r h. elim (cases_lt r round) [
        | inl below ↦
            subst (λ k. AreOneBlock (r % 4) (kept_key w r) (planes_in k)) (sym (get_or-set_other keys round r made no_planes (λ e. omega (arith, e, below)))) (so_far.1 r below)
        | inr here ↦
            let last : round ≡ r = omega (arith, here, h) in
            let inside = get_or-set_same keys round made no_planes (omega (arith, so_far.0, c.requires.few, c.loop-round-test.true)) in
            let copied = subst (AreOneBlock (round % 4) (kept_key w round)) (sym c.new.ensures) c.kept_planes-planes.ensures in
            subst (λ m. AreOneBlock (m % 4) (kept_key w m) (key_planes (slice_set keys round made) m)) last (subst (λ k. AreOneBlock (round % 4) (kept_key w round) (planes_in k)) (sym inside) copied)
      ],
    )
