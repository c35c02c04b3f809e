use Rattle.std.proofs.Common.{◌≡◌, [], length, ◌∙◌, ap, sym, Err}
use Rattle.std.proofs.lemmas.Bool.{eqb-true}
use Rattle.std.proofs.lemmas.List.{nil_from_length}
use Rattle.command_line.specs.ImageCopies.{said_copies}
use Rattle.command_line.proofs.ImageCopyLemmas.{behind-all, behind-more, behind-odd}
use Rattle.command_line.proofs.image_copies.copies_in_pairs.Goals as goal

pub pairs-preserved : goal.pairs-preserved
pairs-preserved c = record {
  said = rw c.in_ok-push.ensures.ok (c.pairs.invariant.said ∙ behind-more c.pairs.copies.items c.pairs.rest.now _ c.in-len2-up.len_at_least);
}

pub returns-then-is_empty-clause-ok : goal.returns-then-is_empty-clause-ok
returns-then-is_empty-clause-ok c =
    let zero = eqb-true (length c.pairs.rest.now) 0 (sym c.is_empty.ensures ∙ c.if-is_empty.true) in
    let none : c.pairs.rest.now ≡ [] = nil_from_length c.pairs.rest.now zero in
    c.pairs.invariant.said ∙ behind-all c.pairs.copies.items c.pairs.rest.now none

pub returns-clause-err : goal.returns-clause-err
returns-clause-err c =
    ap said_copies (c.pairs.invariant.said ∙ behind-odd c.pairs.copies.items c.pairs.rest.now c.in_default.len_below (sym c.is_empty.ensures ∙ c.if-is_empty.false))
    ∙ ap Err (sym c.new.ensures)
