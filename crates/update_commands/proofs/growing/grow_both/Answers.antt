use Rattle.std.proofs.Common.{ℕ, ap, inl, inr, subst, ◌∙◌}
use Rattle.std.proofs.lemmas.Result.{IfErr-weaker, on_ok_weaker}
use Rattle.image_files.specs.Opener.{calls}
use Rattle.image_files.specs.OpenPlaces.{FailsToGrowPlace, GrowsPlace}
use Rattle.verity_format.specs.Image.{data_sectors, image_sectors}
use Rattle.update_commands.proofs.EndingLemmas.{err-from}
use Rattle.update_commands.proofs.growing.grow_both.Goals as goal

pub returns-in_err-grow_place-clause-err : goal.returns-in_err-grow_place-clause-err
returns-in_err-grow_place-clause-err g c =
    let needed = c.data_sectors-data_needed.ensures.value ∙ ap data_sectors c.shape-shape.ensures.value in
    let w = calls g.I.Images.relations g.I.Dev.BlockDev.state c.args.images.now c.grow_place.new.images in
    let file = c.in_err-grow_place.field-0.0 in
    err-from c.from_residual.result _ file c.from_residual.ensures.1
    (inl (subst (λ (n : ℕ). FailsToGrowPlace w c.args.places.«data».now n file) needed c.in_err-grow_place.ensures.err))

pub returns-clause-ok : goal.returns-clause-ok
returns-clause-ok g c =
    let data_needed = c.data_sectors-data_needed.ensures.value ∙ ap data_sectors c.shape-shape.ensures.value in
    let hash_needed = c.image_sectors-hash_needed.ensures ∙ ap image_sectors c.shape-shape.ensures.value in
    let relations = g.I.Images.relations in
    let state = g.I.Dev.BlockDev.state in
    let between = c.grow_place.new.images in
    on_ok_weaker c.grow_place-2.result
    (λ grown. record {
      between = between;
      data_resized = subst (λ (n : ℕ). GrowsPlace (calls relations state c.args.images.now between) c.args.places.«data».now n) data_needed c.in_ok-grow_place.ensures.ok;
      hash_resized = subst (λ (n : ℕ). GrowsPlace (calls relations state between c.grow_place-2.new.images) c.args.places.hash.now n) hash_needed grown;
    })
    c.grow_place-2.ensures.ok

pub returns-clause-err : goal.returns-clause-err
returns-clause-err g c =
    let data_needed = c.data_sectors-data_needed.ensures.value ∙ ap data_sectors c.shape-shape.ensures.value in
    let hash_needed = c.image_sectors-hash_needed.ensures ∙ ap image_sectors c.shape-shape.ensures.value in
    let relations = g.I.Images.relations in
    let state = g.I.Dev.BlockDev.state in
    let between = c.grow_place.new.images in
    IfErr-weaker c.grow_place-2.result _ _
    (λ file fails. inr (record {
      between = between;
      data_resized = subst (λ (n : ℕ). GrowsPlace (calls relations state c.args.images.now between) c.args.places.«data».now n) data_needed c.in_ok-grow_place.ensures.ok;
      fails = subst (λ (n : ℕ). FailsToGrowPlace (calls relations state between c.grow_place-2.new.images) c.args.places.hash.now n file) hash_needed fails;
    }))
    c.grow_place-2.ensures.err
