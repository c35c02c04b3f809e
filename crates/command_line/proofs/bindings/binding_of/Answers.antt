use Rattle.std.proofs.Common.{◌≡◌, Some, None, arith, refl, ap}
use Rattle.std.specs.Prelude.{option_map}
use Rattle.command_line.specs.Bindings.{bind}
use Rattle.command_line.specs.Cuts.{cut_first}
use Rattle.command_line.proofs.lemmas.CutLemmas.{cut_first-split}
use Rattle.command_line.proofs.bindings.binding_of.Goals as goal

pub returns-in_err-name : goal.returns-in_err-name
returns-in_err-name c =
    let none : cut_first 61 c.args.word.now ≡ None = cut_first-split 61 c.args.word.now None c.in_err-name.ensures.cases (omega arith) in
    rw (c.from_residual.ensures, none) refl

pub returns-in_err-backing : goal.returns-in_err-backing
returns-in_err-backing c =
    let is : cut_first 61 c.args.word.now ≡ Some (c.in_ok-name.name.now, c.in_ok-name.text.now) = cut_first-split 61 c.args.word.now (Some (c.in_ok-name.name, c.in_ok-name.text)) c.in_ok-name.ensures.cases (omega arith) in
    rw (c.from_residual-in_err-backing.ensures, is) (ap (λ o. option_map (bind c.in_ok-name.name.now) o) c.in_err-backing.ensures)

pub returns : goal.returns
returns c =
    let is : cut_first 61 c.args.word.now ≡ Some (c.in_ok-name.name.now, c.in_ok-name.text.now) = cut_first-split 61 c.args.word.now (Some (c.in_ok-name.name, c.in_ok-name.text)) c.in_ok-name.ensures.cases (omega arith) in
    rw is (ap (λ o. option_map (bind c.in_ok-name.name.now) o) c.in_ok-backing.ensures)
