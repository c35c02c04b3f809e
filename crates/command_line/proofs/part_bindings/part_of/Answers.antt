use Rattle.std.proofs.Common.{◌≡◌, Some, None, arith, refl, ◌∙◌}
use Rattle.command_line.specs.Cuts.{cut_first}
use Rattle.command_line.proofs.lemmas.CutLemmas.{cut_first-split}
use Rattle.command_line.proofs.part_bindings.part_of.Goals as goal

pub returns-in_err-first : goal.returns-in_err-first
returns-in_err-first c =
    let none : cut_first 43 c.args.place.now ≡ None = cut_first-split 43 c.args.place.now None c.in_err-first.ensures.cases (omega arith) in
    rw (c.from_residual.ensures, none) refl

pub returns : goal.returns
returns c =
    let is : cut_first 43 c.args.place.now ≡ Some (c.in_ok-first.first.now, c.in_ok-first.count.now) = cut_first-split 43 c.args.place.now (Some (c.in_ok-first.first, c.in_ok-first.count)) c.in_ok-first.ensures.cases (omega arith) in
    c.sectors_from.ensures ∙ rw is refl
