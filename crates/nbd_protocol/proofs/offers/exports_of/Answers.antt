use Rattle.std.proofs.Common.{◌≡◌, ap, sym, ◌∙◌, ◌∷◌, [], ◌++◌, ◌+◌, take}
use Rattle.std.proofs.lemmas.List.{take_more}
use Rattle.nbd_protocol.specs.Exports.{export_records}
use Rattle.nbd_protocol.specs.Offers.{offers_none}
use Rattle.nbd_protocol.proofs.lemmas.ExportLemmas.{offers-next}
use Rattle.nbd_protocol.proofs.offers.exports_of.Goals as goal

pub loop-name-init : goal.loop-name-init
loop-name-init c = rw c.new-exports.ensures.items offers_none

pub loop-name-preserved : goal.loop-name-preserved
loop-name-preserved c =
    let names = c.args.names.now in
    let i = c.loop-name.name-index in
    let n = c.name-item.result in
    let more : take (i + 1) names ≡ take i names ++ n ∷ [] = take_more names i n c.loop-name-test.true ∙ ap (λ x. take i names ++ x ∷ []) (sym c.name-item.is) in
    offers-next c.args.config.now (take i names) (take (i + 1) names) n c.as_slice.result.now (export_records c.loop-name.exports.items) (export_records c.add.new.exports.items) more c.as_slice.ensures.value c.loop-name.invariant c.in_ok-add.ensures.ok
