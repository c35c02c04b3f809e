use Rattle.std.proofs.Common.{◌≡◌, ◌≤◌, List, ℕ, Option, refl, subst, sym}
use Rattle.std.proofs.lemmas.Result.{err_from_is_err_and}
use Rattle.block_device.specs.Device.{Device}
use Rattle.tree_shape.specs.Shape.{IsShape, ShapeRecord}
use Rattle.verity_format.specs.Image.{tree_sectors}
use Rattle.tree_survey.specs.Hashes.{TellsHashes, tree_of_path}
use Rattle.tree_survey.specs.Passes.{tree_under}
use Rattle.tree_survey.specs.Surveys.{Tree}
use Rattle.tree_survey.proofs.SurveyLemmas.{tree-of}
use Rattle.tree_survey.proofs.hashes.survey_hashes.Goals as goal

pub say_hashes-requires : goal.say_hashes-requires
say_hashes-requires g c =
    let same : c.in_ok-path.path.shape ≡ c.args.tree.now.shape = c.in_ok-path.ensures.ok.shape_is in
    record {
      valid = subst IsShape (sym same) c.blocks-blocks.ensures.valid;
      shape_is = sym same;
      fits = subst (λ (x : ShapeRecord). tree_sectors x ≤ (g.H.BlockDev.state c.args.device.now).size) (sym same) c.requires;
    }

pub returns-clause-ok : goal.returns-clause-ok
returns-clause-ok g c =
    let d : Device = g.H.BlockDev.state c.args.device.now in
    let d' : Device = g.H.BlockDev.state c.say_hashes.new.device in
    let old : Option (List ℕ) = g.L.Listing.told c.args.listing.now in
    let new : Option (List ℕ) = g.L.Listing.told c.say_hashes.new.listing in
    let tree : tree_of_path c.in_ok-path.path ≡ tree_under c.args.tree.now c.args.root.now = tree-of c.args.tree.now c.args.root.now c.in_ok-path.path c.in_ok-path.ensures.ok in
    subst (λ (t : Tree). TellsHashes t d d' old new c.in_ok-whole.whole) tree c.in_ok-whole.ensures.ok

pub returns-in_err-path-clause-err : goal.returns-in_err-path-clause-err
returns-in_err-path-clause-err g c =
    let was = err_from_is_err_and c.from_residual.result c.from_residual.ensures.1 in
    rw (was.1, was.2) (refl, c.in_err-path.ensures.err)
