use Rattle.std.proofs.Common.{◌≡◌, Some, None, arith, refl, ap, sym, ◌∙◌}
use Rattle.command_line.specs.Cuts.{cut_first}
use Rattle.command_line.specs.FilePlaces.{named_partition}
use Rattle.command_line.specs.PartBindings.{access_of}
use Rattle.command_line.proofs.lemmas.CutLemmas.{cut_first-split}
use Rattle.command_line.proofs.partition_bindings.kind_partition.Goals as goal

pub returns-in_err-access : goal.returns-in_err-access
returns-in_err-access c =
    let none : cut_first 35 c.args.kind.now ≡ None = cut_first-split 35 c.args.kind.now None c.in_err-access.ensures.cases (omega arith) in
    rw (c.from_residual.ensures, none) refl

pub returns-in_err-writable : goal.returns-in_err-writable
returns-in_err-writable c =
    let is : cut_first 35 c.args.kind.now ≡ Some (c.in_ok-access.access.now, c.in_ok-access.word.now) = cut_first-split 35 c.args.kind.now (Some (c.in_ok-access.access, c.in_ok-access.word)) c.in_ok-access.ensures.cases (omega arith) in
    let none : access_of c.in_ok-access.access.now ≡ None = ap access_of (sym c.as_bytes.ensures.value) ∙ sym c.in_err-writable.ensures in
    rw (c.from_residual-in_err-writable.ensures, is, none) refl

pub returns-in_err-named : goal.returns-in_err-named
returns-in_err-named c =
    let is : cut_first 35 c.args.kind.now ≡ Some (c.in_ok-access.access.now, c.in_ok-access.word.now) = cut_first-split 35 c.args.kind.now (Some (c.in_ok-access.access, c.in_ok-access.word)) c.in_ok-access.ensures.cases (omega arith) in
    let some : access_of c.in_ok-access.access.now ≡ Some c.in_ok-writable.writable = ap access_of (sym c.as_bytes.ensures.value) ∙ sym c.in_ok-writable.ensures in
    let none : named_partition c.in_ok-access.word.now ≡ None = sym c.in_err-named.ensures in
    rw (c.from_residual-in_err-named.ensures, is, some, none) refl

pub returns : goal.returns
returns c =
    let is : cut_first 35 c.args.kind.now ≡ Some (c.in_ok-access.access.now, c.in_ok-access.word.now) = cut_first-split 35 c.args.kind.now (Some (c.in_ok-access.access, c.in_ok-access.word)) c.in_ok-access.ensures.cases (omega arith) in
    let some : access_of c.in_ok-access.access.now ≡ Some c.in_ok-writable.writable = ap access_of (sym c.as_bytes.ensures.value) ∙ sym c.in_ok-writable.ensures in
    rw (is, some, sym c.in_ok-named.ensures) refl
