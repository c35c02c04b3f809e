use Rattle.std.proofs.Common.{◌==◌, length, Ok, ap, sym, ◌∙◌, arith}
use Rattle.dm_table.specs.Words.{fields_of}
use Rattle.dm_table.specs.Reading.{◌>>=◌}
use Rattle.dm_table.specs.StackText.{head_of}
use Rattle.dm_table.proofs.lemmas.MemoryLemmas.{exit_memory}
use Rattle.dm_table.proofs.lemmas.NameLengthLemmas.{mapped_name-length}
use Rattle.table_text.proofs.GrammarLemmas.{head-grammar}
use Rattle.table_text.proofs.ReadLemmas.{exit_text}
use Rattle.table_text.proofs.StackLemmas.{entry-head, entry-lines, length-head, length-pieces}
use Rattle.table_text.proofs.stack_text.read_entry.Goals as goal

pub returns-in-Err : goal.returns-in-Err
unfolding fields_of
returns-in-Err c =
    let head = ap head_of (sym c.new.ensures) ∙ c.in-Err.ensures in
    rw c.fault.ensures (entry-head c.args.number _ c.in-Err.kind head)

pub read_lines-requires : goal.read_lines-requires
read_lines-requires c =
    let fields = length-head _ _ c.in-Ok.ensures in
    let pieces = length-pieces (λ b. b == 44) c.args.text.now in
    let same = ap length c.new.ensures in
    omega arith

pub returns-in_err-table : goal.returns-in_err-table
unfolding fields_of
returns-in_err-table c =
    let head = ap head_of (sym c.new.ensures) ∙ c.in-Ok.ensures in
    exit_text _ _ _ _ c.from_residual.ensures.1 c.in_err-table.ensures
    (λ f e. entry-lines c.args.number _ _ head ∙ ap (λ r. r >>= (λ table. Ok (record { number = c.args.number; name = c.in-Ok.head.name.now; writable = c.in-Ok.head.writable; table = table }))) e)

pub returns-in_err-name : goal.returns-in_err-name
returns-in_err-name c =
    let short = mapped_name-length c.in-Ok.head.name.now (head-grammar _ _ c.in-Ok.ensures).0 in
    exit_memory _ _ c.in_err-name.field-0.0 c.from_residual-in_err-name.ensures.1 (omega (arith, c.in_err-name.ensures.err.0))

pub returns : goal.returns
unfolding fields_of
returns c =
    let head = ap head_of (sym c.new.ensures) ∙ c.in-Ok.ensures in
    entry-lines c.args.number _ _ head
    ∙ ap (λ r. r >>= (λ table. Ok (record { number = c.args.number; name = c.in-Ok.head.name.now; writable = c.in-Ok.head.writable; table = table }))) c.in_ok-table.ensures
    ∙ ap (λ name. Ok (record { number = c.args.number; name = name; writable = c.in-Ok.head.writable; table = c.in_ok-table.table })) (sym c.in_ok-name.ensures.ok)
