use Rattle.std.proofs.Common.{inl, inr}
use Rattle.std.proofs.lemmas.Result.{IfErr-weaker, IfOk-weaker}
use Rattle.verity_commands.proofs.EndingLemmas.{err-from}
use Rattle.verity_commands.proofs.formatting.make_image.Goals as goal

pub returns-then-not-words-clause-ok : goal.returns-then-not-words-clause-ok
returns-then-not-words-clause-ok g c =
    let makes = rw c.places_of-watched.ensures at c.make_once.ensures.ok in
    rw c.if-not-words.true makes

pub returns-then-not-words-clause-err : goal.returns-then-not-words-clause-err
returns-then-not-words-clause-err g c =
    let ends = rw c.places_of-watched.ensures at c.make_once.ensures.err in
    rw c.if-not-words.true ends

pub returns-in_err-said-clause-err : goal.returns-in_err-said-clause-err
returns-in_err-said-clause-err g c =
    let ends = rw (c.places_of-watched.ensures, c.options_for-wanted.ensures) at c.in_err-said.ensures.err in
    err-from c.from_residual.result _ c.in_err-said.field-0.0 c.from_residual.ensures.1 (rw c.if-not-words.false (inl ends))

pub returns-clause-ok : goal.returns-clause-ok
returns-clause-ok g c =
    let prepared = rw (c.places_of-watched.ensures, c.options_for-wanted.ensures) at c.in_ok-said.ensures.ok in
    let makes = rw c.places_of-watched.ensures at c.make_growing.ensures.ok in
    rw c.if-not-words.false (IfOk-weaker c.make_growing.result _ _
    (λ made formats. record {
      between = c.prepare_image.new.images;
      drawn = c.prepare_image.new.generators;
      said = c.in_ok-said.said;
      prepared = prepared;
      formats = formats;
    })
    makes)

pub returns-clause-err : goal.returns-clause-err
returns-clause-err g c =
    let prepared = rw (c.places_of-watched.ensures, c.options_for-wanted.ensures) at c.in_ok-said.ensures.ok in
    let ends = rw c.places_of-watched.ensures at c.make_growing.ensures.err in
    rw c.if-not-words.false (IfErr-weaker c.make_growing.result _ _
    (λ fault formats. inr (record {
      between = c.prepare_image.new.images;
      drawn = c.prepare_image.new.generators;
      said = c.in_ok-said.said;
      prepared = prepared;
      formats = formats;
    }))
    ends)
