use Rattle.std.proofs.Common.{◌≡◌, ℕ, List, Option, ap, arith, ◌∙◌, refl}
use Rattle.std.proofs.lemmas.Result.{err_from_is_err_and}
use Rattle.block_device.specs.Device.{Device}
use Rattle.tree_survey.specs.Hashes.{tree_of_path}
use Rattle.tree_survey.specs.Passes.{tree_in, tree_under}
use Rattle.tree_survey.specs.Surveys.{Tree}
use Rattle.tree_survey.proofs.SayingLemmas.{tree-same}
use Rattle.tree_survey.proofs.FailingLemmas.{over-then}
use Rattle.tree_survey.proofs.SurveyLemmas.{hashes-were, surveys-were, tree-of}
use Rattle.tree_survey.proofs.survey.survey_image.Goals as goal

pub returns-clause-ok : goal.returns-clause-ok
returns-clause-ok g c =
    let d0 : Device = g.D.BlockDev.state c.args.data_dev.now in
    let d1 : Device = g.D.BlockDev.state c.survey_data.new.data_dev in
    let h0 : Device = g.H.BlockDev.state c.args.hash_dev.now in
    let h1 : Device = g.H.BlockDev.state c.survey_data.new.hash_dev in
    let h2 : Device = g.H.BlockDev.state c.say_hashes.new.device in
    let old : Option (List ℕ) = g.L.Listing.told c.args.listing.now in
    let between : Option (List ℕ) = g.L.Listing.told c.survey_data.new.listing in
    let t : Tree = tree_under c.args.tree.now c.args.root.now in
    let begun : tree_in c.new-checked_path.result ≡ t = ap tree_in c.new-checked_path.ensures ∙ tree-of c.args.tree.now c.args.root.now c.in_ok-path.path c.in_ok-path.ensures.ok in
    let later : tree_of_path c.survey_data.new.checked_path.path ≡ t = tree-same c.new-checked_path.result.path c.survey_data.new.checked_path.path c.in_ok-totals.ensures.passed.same ∙ begun in
    let found = c.in_ok-whole_tree.ensures.ok in
    record {
      fits = c.in_ok-check_room.ensures.ok;
      between = between;
      surveys = surveys-were t (tree_in c.new-checked_path.result) d0 h0 d1 h1 h2 begun c.say_hashes.ensures.over old between c.in_ok-totals.totals c.in_ok-totals.ensures.ok;
      hashes = record {
        bad = found.found.bad;
        are = hashes-were t (tree_of_path c.survey_data.new.checked_path.path) h0 h1 h2 later c.survey_data.ensures.hash c.say_hashes.ensures.over found.found;
      };
      hash_read = over-then c.survey_data.ensures.hash c.say_hashes.ensures.over;
      whole = found.whole_is;
      printed_are = found.printed_are;
    }

pub returns-in_err-path-clause-err : goal.returns-in_err-path-clause-err
returns-in_err-path-clause-err g c =
    let was = err_from_is_err_and c.from_residual-in_err-path.result c.from_residual-in_err-path.ensures.1 in
    let memory = c.in_err-path.ensures.err in
    rw (was.1, was.2) (refl, refl, (memory.0, omega (arith, memory.1), memory.2))
