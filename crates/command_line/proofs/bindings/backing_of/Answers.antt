use Rattle.std.proofs.Common.{◌≡◌, Some, None, arith, refl, ◌∙◌}
use Rattle.command_line.specs.Cuts.{cut_first}
use Rattle.command_line.proofs.lemmas.CutLemmas.{cut_first-split}
use Rattle.command_line.proofs.bindings.backing_of.Goals as goal

pub returns-in_err-kind : goal.returns-in_err-kind
returns-in_err-kind c =
    let none : cut_first 58 c.args.text.now ≡ None = cut_first-split 58 c.args.text.now None c.in_err-kind.ensures.cases (omega arith) in
    rw (c.from_residual.ensures, none) refl

pub returns : goal.returns
returns c =
    let is : cut_first 58 c.args.text.now ≡ Some (c.in_ok-kind.kind.now, c.in_ok-kind.rest.now) = cut_first-split 58 c.args.text.now (Some (c.in_ok-kind.kind, c.in_ok-kind.rest)) c.in_ok-kind.ensures.cases (omega arith) in
    c.backing_by.ensures ∙ rw is refl
