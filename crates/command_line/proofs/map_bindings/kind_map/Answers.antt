use Rattle.std.proofs.Common.{◌≡◌, ℕ, List, Option, Some, None, arith, refl, ap, sym, ◌∙◌}
use Rattle.std.specs.Prelude.{option_map}
use Rattle.command_line.specs.Cuts.{cut_first}
use Rattle.command_line.specs.MapBindings.{part_read}
use Rattle.command_line.specs.PartBindings.{PartRecord}
use Rattle.command_line.proofs.lemmas.CutLemmas.{cut_first-split}
use Rattle.command_line.proofs.map_bindings.kind_map.Goals as goal

pub returns-in_err-access : goal.returns-in_err-access
returns-in_err-access c =
    let none : cut_first 37 c.args.kind.now ≡ None = cut_first-split 37 c.args.kind.now None c.in_err-access.ensures.cases (omega arith) in
    rw (c.from_residual.ensures, none) refl

pub returns-in_err-part : goal.returns-in_err-part
returns-in_err-part c =
    let is : cut_first 37 c.args.kind.now ≡ Some (c.in_ok-access.access.now, c.in_ok-access.map_file.now) = cut_first-split 37 c.args.kind.now (Some (c.in_ok-access.access, c.in_ok-access.map_file)) c.in_ok-access.ensures.cases (omega arith) in
    rw (c.from_residual-in_err-part.ensures, is) (ap (λ o. option_map (λ part. (part, c.in_ok-access.map_file.now)) o) c.in_err-part.ensures)

pub returns : goal.returns
returns c =
    let is : cut_first 37 c.args.kind.now ≡ Some (c.in_ok-access.access.now, c.in_ok-access.map_file.now) = cut_first-split 37 c.args.kind.now (Some (c.in_ok-access.access, c.in_ok-access.map_file)) c.in_ok-access.ensures.cases (omega arith) in
    rw is (ap (λ o. option_map (λ part. (part, c.in_ok-access.map_file.now)) o) c.in_ok-part.ensures)
