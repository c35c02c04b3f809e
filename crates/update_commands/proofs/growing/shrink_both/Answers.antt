use Rattle.std.proofs.Common.{ℕ, ap, inl, inr, subst, ◌∙◌}
use Rattle.std.proofs.lemmas.Result.{IfErr-weaker, on_ok_weaker}
use Rattle.image_files.specs.Opener.{calls}
use Rattle.image_files.specs.OpenPlaces.{FailsToShrinkPlace, ShrinksPlace}
use Rattle.verity_format.specs.Image.{data_sectors, image_sectors}
use Rattle.update_commands.proofs.EndingLemmas.{err-from}
use Rattle.update_commands.proofs.growing.shrink_both.Goals as goal

pub returns-in_err-shrink_place-clause-err : goal.returns-in_err-shrink_place-clause-err
returns-in_err-shrink_place-clause-err g c =
    let needed = c.data_sectors-data_most.ensures.value ∙ ap data_sectors c.shape-shape.ensures.value in
    let w = calls g.I.Images.relations g.I.Dev.BlockDev.state c.args.images.now c.shrink_place.new.images in
    let file = c.in_err-shrink_place.field-0.0 in
    err-from c.from_residual.result _ file c.from_residual.ensures.1
    (inl (subst (λ (n : ℕ). FailsToShrinkPlace w c.args.places.«data».now n file) needed c.in_err-shrink_place.ensures.err))

pub returns-clause-ok : goal.returns-clause-ok
returns-clause-ok g c =
    let data_most = c.data_sectors-data_most.ensures.value ∙ ap data_sectors c.shape-shape.ensures.value in
    let hash_most = c.image_sectors-hash_most.ensures ∙ ap image_sectors c.shape-shape.ensures.value in
    let relations = g.I.Images.relations in
    let state = g.I.Dev.BlockDev.state in
    let between = c.shrink_place.new.images in
    on_ok_weaker c.shrink_place-2.result
    (λ shrunk. record {
      between = between;
      data_resized = subst (λ (n : ℕ). ShrinksPlace (calls relations state c.args.images.now between) c.args.places.«data».now n) data_most c.in_ok-shrink_place.ensures.ok;
      hash_resized = subst (λ (n : ℕ). ShrinksPlace (calls relations state between c.shrink_place-2.new.images) c.args.places.hash.now n) hash_most shrunk;
    })
    c.shrink_place-2.ensures.ok

pub returns-clause-err : goal.returns-clause-err
returns-clause-err g c =
    let data_most = c.data_sectors-data_most.ensures.value ∙ ap data_sectors c.shape-shape.ensures.value in
    let hash_most = c.image_sectors-hash_most.ensures ∙ ap image_sectors c.shape-shape.ensures.value in
    let relations = g.I.Images.relations in
    let state = g.I.Dev.BlockDev.state in
    let between = c.shrink_place.new.images in
    IfErr-weaker c.shrink_place-2.result _ _
    (λ file fails. inr (record {
      between = between;
      data_resized = subst (λ (n : ℕ). ShrinksPlace (calls relations state c.args.images.now between) c.args.places.«data».now n) data_most c.in_ok-shrink_place.ensures.ok;
      fails = subst (λ (n : ℕ). FailsToShrinkPlace (calls relations state between c.shrink_place-2.new.images) c.args.places.hash.now n file) hash_most fails;
    }))
    c.shrink_place-2.ensures.err
