use Rattle.std.proofs.Common.{◌≡◌, Some, None, arith, refl, sym}
use Rattle.std.specs.Path.{rsplit_once}
use Rattle.command_line.specs.FilePlaces.{named_partition, partition_place}
use Rattle.command_line.proofs.lemmas.LastCutLemmas.{rsplit_once-split}
use Rattle.command_line.proofs.file_place.partition_place.Goals as goal

pub returns-in_err-path : goal.returns-in_err-path
unfolding partition_place
returns-in_err-path c =
    let none : rsplit_once 35 c.args.text.now ≡ None = (rsplit_once-split 35 c.args.text.now None c.in_err-path.ensures.cases (omega arith)) in
    rw (c.from_residual.ensures, none) refl

pub returns-in_err-named_partition : goal.returns-in_err-named_partition
unfolding partition_place
returns-in_err-named_partition c =
    let is : rsplit_once 35 c.args.text.now ≡ Some (c.in_ok-path.path.now, c.in_ok-path.word.now) = (rsplit_once-split 35 c.args.text.now (Some (c.in_ok-path.path, c.in_ok-path.word)) c.in_ok-path.ensures.cases (omega arith)) in
    let none : named_partition c.in_ok-path.word.now ≡ None = sym c.in_err-named_partition.ensures in
    rw (c.from_residual-in_err-named_partition.ensures, is, none) refl

pub returns : goal.returns
unfolding partition_place
returns c =
    let is : rsplit_once 35 c.args.text.now ≡ Some (c.in_ok-path.path.now, c.in_ok-path.word.now) = (rsplit_once-split 35 c.args.text.now (Some (c.in_ok-path.path, c.in_ok-path.word)) c.in_ok-path.ensures.cases (omega arith)) in
    rw (is, sym c.in_ok-named_partition.ensures) refl
