use Rattle.std.proofs.Common.{arith}
use Rattle.stack_rules.proofs.lemmas.KeptLemmas.{lines_of-read}
use Rattle.stack_rules.proofs.lemmas.ListLemmas.{slice_get-some}
use Rattle.stack_rules.proofs.lemmas.ValidLineLemmas.{few, few_lines}
use Rattle.linux_rules.proofs.rules.device_refusal.Goals as goal

pub overflow_add-d : goal.overflow_add-d
overflow_add-d c = record { fits = omega (arith, few c.args.config.now c.count-loaded.ensures.loaded.valid, c.requires.device) }

pub lines_refusal-requires-clause-lines : goal.lines_refusal-requires-clause-lines
lines_refusal-requires-clause-lines c =
    let config = c.args.config.now in
    let x = slice_get-some config.devices c.args.place.0 c.requires.device in
    let low = few_lines config c.count-loaded.ensures.loaded.valid c.args.place.0 x.0 x.1 in
    rw (c.table.ensures, lines_of-read config c.args.place.0 x.0 x.1) low
