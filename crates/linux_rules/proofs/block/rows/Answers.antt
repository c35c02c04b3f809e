use Rattle.std.proofs.Common.{List, [], map, get_or, sym, ap, ◌∙◌, length, arith}
use Rattle.std.proofs.lemmas.List.{get_or-map}
use Rattle.stack_rules.proofs.lemmas.LowerLemmas.{rows-of}
use Rattle.stack_config.specs.declared.facts.DeviceFacts.{DeviceFacts}
use Rattle.stack_config.proofs.lemmas.FactLemmas.{have-device, length-facts}
use Rattle.linux_rules.proofs.block.rows.Goals as goal

pub index-requires : goal.index-requires
index-requires c = have-device c.args.d.0 c.facts.ensures.facts c.requires

pub returns : goal.returns
returns c =
    let config = c.args.config.now in
    let all : List DeviceFacts = c.facts.result.now.devices.items in
    let here = ap (λ (f : DeviceFacts). f.lowers) c.index.ensures ∙ sym (get_or-map (λ (f : DeviceFacts). f.lowers) all c.args.d.0 c.index.result.now [] (omega (arith, c.requires, length-facts c.facts.ensures.facts))) in
    rw (c.lines.ensures, here) (rows-of config (map (λ (f : DeviceFacts). f.lowers) all) c.facts.ensures.facts.lowers c.args.d.0)
