use Rattle.std.proofs.Common.{◌∙◌, rules, tests}
use Rattle.std.specs.Str.{bytes_eq}
use Rattle.std.proofs.lemmas.Iterator.{YieldsList-from_slice}
use Rattle.std.proofs.lemmas.Iterator.Search.{position_from_yields_List}
use Rattle.nbd_protocol.specs.Exports.{export_record}
use Rattle.nbd_protocol.proofs.lemmas.ExportLemmas.{position-mapped}
use Rattle.nbd_protocol.proofs.exports.place_of.Goals as goal

pub returns : goal.returns
returns c =
    position_from_yields_List (λ e. bytes_eq e.name.now c.args.name.now) _ _ _ c.position.ensures.ran (YieldsList-from_slice c.args.exports.now cc) (λ x b q k. search (rules, tests))
    ∙ position-mapped export_record (λ e. bytes_eq e.name c.args.name.now) c.args.exports.now
