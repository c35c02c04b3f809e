use Rattle.std.proofs.Common.{◌≡◌, Some, None, arith, refl, sym}
use Rattle.std.specs.Path.{rsplit_once}
use Rattle.command_line.specs.FilePlaces.{sectors_place}
use Rattle.command_line.specs.PartBindings.{said_part}
use Rattle.command_line.proofs.lemmas.LastCutLemmas.{rsplit_once-split}
use Rattle.command_line.proofs.file_place.sectors_place.Goals as goal

pub returns-in_err-path : goal.returns-in_err-path
unfolding sectors_place
returns-in_err-path c =
    let none : rsplit_once 64 c.args.text.now ≡ None = (rsplit_once-split 64 c.args.text.now None c.in_err-path.ensures.cases (omega arith)) in
    rw (c.from_residual.ensures, none) refl

pub returns-in_err-part_of : goal.returns-in_err-part_of
unfolding sectors_place
returns-in_err-part_of c =
    let is : rsplit_once 64 c.args.text.now ≡ Some (c.in_ok-path.path.now, c.in_ok-path.place.now) = (rsplit_once-split 64 c.args.text.now (Some (c.in_ok-path.path, c.in_ok-path.place)) c.in_ok-path.ensures.cases (omega arith)) in
    let none : said_part c.in_ok-path.place.now ≡ None = sym c.in_err-part_of.ensures in
    rw (c.from_residual-in_err-part_of.ensures, is, none) refl

pub returns : goal.returns
unfolding sectors_place
returns c =
    let is : rsplit_once 64 c.args.text.now ≡ Some (c.in_ok-path.path.now, c.in_ok-path.place.now) = (rsplit_once-split 64 c.args.text.now (Some (c.in_ok-path.path, c.in_ok-path.place)) c.in_ok-path.ensures.cases (omega arith)) in
    rw (is, sym c.in_ok-part_of.ensures) refl
