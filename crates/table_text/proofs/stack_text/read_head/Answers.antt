use Rattle.std.proofs.Common.{◌∷◌, Ok, Err, ap, sym, ◌∙◌}
use Rattle.dm_table.specs.Names.{is_mapped_name}
use Rattle.dm_table.specs.Words.{trimmed_text}
use Rattle.dm_table.specs.Reading.{◌>>=◌}
use Rattle.dm_table.specs.StackText.{head_of, flags_at, is_minor}
use Rattle.table_text.proofs.ReadLemmas.{exit_same}
use Rattle.table_text.proofs.StackLemmas.{onto, head-name, head-minor, head-flags, after_flags}
use Rattle.table_text.proofs.stack_text.read_head.Goals as goal

pub returns-in_err-name : goal.returns-in_err-name
unfolding head_of
returns-in_err-name c =
    let few = c.in_err-name.ensures in
    exit_same _ _ _ _ c.from_residual.ensures.1 (ap head_of few.1 ∙ ap Err (sym few.0))

pub returns-in_err-_uuid : goal.returns-in_err-_uuid
unfolding head_of
returns-in_err-_uuid c =
    let few = c.in_err-_uuid.ensures in
    exit_same _ _ _ _ c.from_residual-in_err-_uuid.ensures.1 (ap head_of (onto c.in_ok-name.ensures few.1) ∙ ap Err (sym few.0))

pub returns-in_err-minor : goal.returns-in_err-minor
unfolding head_of
returns-in_err-minor c =
    let few = c.in_err-minor.ensures in
    exit_same _ _ _ _ c.from_residual-in_err-minor.ensures.1
    (ap head_of (onto c.in_ok-name.ensures (onto c.in_ok-_uuid.ensures few.1)) ∙ ap Err (sym few.0))

pub returns-in_err-flags : goal.returns-in_err-flags
unfolding head_of
returns-in_err-flags c =
    let few = c.in_err-flags.ensures in
    exit_same _ _ _ _ c.from_residual-in_err-flags.ensures.1
    (ap head_of (onto c.in_ok-name.ensures (onto c.in_ok-_uuid.ensures (onto c.in_ok-minor.ensures few.1))) ∙ ap Err (sym few.0))

pub returns-in_err-line : goal.returns-in_err-line
unfolding head_of
returns-in_err-line c =
    let few = c.in_err-line.ensures in
    exit_same _ _ _ _ c.from_residual-in_err-line.ensures.1
    (ap head_of (onto c.in_ok-name.ensures (onto c.in_ok-_uuid.ensures (onto c.in_ok-minor.ensures (onto c.in_ok-flags.ensures few.1)))) ∙ ap Err (sym few.0))

pub returns-then-not-is_mapped_name : goal.returns-then-not-is_mapped_name
returns-then-not-is_mapped_name c =
    let fields = onto c.in_ok-name.ensures (onto c.in_ok-_uuid.ensures (onto c.in_ok-minor.ensures (onto c.in_ok-flags.ensures c.in_ok-line.ensures))) in
    let unnamed = sym (c.is_mapped_name.ensures ∙ ap is_mapped_name c.trim-name.ensures) ∙ c.if-not-is_mapped_name.true in
    ap head_of fields ∙ head-name _ _ _ _ _ _ unnamed

pub returns-then-not-is_minor : goal.returns-then-not-is_minor
returns-then-not-is_minor c =
    let fields = onto c.in_ok-name.ensures (onto c.in_ok-_uuid.ensures (onto c.in_ok-minor.ensures (onto c.in_ok-flags.ensures c.in_ok-line.ensures))) in
    let named = sym (c.is_mapped_name.ensures ∙ ap is_mapped_name c.trim-name.ensures) ∙ c.if-not-is_mapped_name.false in
    let other = sym (c.is_minor.ensures ∙ ap is_minor c.trim.ensures) ∙ c.if-not-is_minor.true in
    ap head_of fields ∙ head-minor _ _ _ _ _ _ named other

pub returns-in_err-writable : goal.returns-in_err-writable
returns-in_err-writable c =
    let fields = onto c.in_ok-name.ensures (onto c.in_ok-_uuid.ensures (onto c.in_ok-minor.ensures (onto c.in_ok-flags.ensures c.in_ok-line.ensures))) in
    let named = sym (c.is_mapped_name.ensures ∙ ap is_mapped_name c.trim-name.ensures) ∙ c.if-not-is_mapped_name.false in
    let numbered = sym (c.is_minor.ensures ∙ ap is_minor c.trim.ensures) ∙ c.if-not-is_minor.false in
    let flags = sym (c.in_err-writable.ensures ∙ ap flags_at c.trim-2.ensures) in
    exit_same _ _ _ _ c.from_residual-in_err-writable.ensures.1
    (ap head_of fields ∙ head-flags _ _ _ _ _ _ named numbered ∙ after_flags _ _ _ flags)

pub returns : goal.returns
returns c =
    let fields = onto c.in_ok-name.ensures (onto c.in_ok-_uuid.ensures (onto c.in_ok-minor.ensures (onto c.in_ok-flags.ensures c.in_ok-line.ensures))) in
    let named = sym (c.is_mapped_name.ensures ∙ ap is_mapped_name c.trim-name.ensures) ∙ c.if-not-is_mapped_name.false in
    let numbered = sym (c.is_minor.ensures ∙ ap is_minor c.trim.ensures) ∙ c.if-not-is_minor.false in
    let flags = sym (c.in_ok-writable.ensures ∙ ap flags_at c.trim-2.ensures) in
    ap head_of fields ∙ head-flags _ _ _ _ _ _ named numbered
    ∙ ap (λ r. r >>= (λ w. Ok (record { name = trimmed_text c.in_ok-name.name.now; writable = w; lines = c.in_ok-line.line.now ∷ c.take_field-5.new.self }))) flags
    ∙ ap (λ name. Ok (record { name = name; writable = c.in_ok-writable.writable; lines = c.in_ok-line.line.now ∷ c.take_field-5.new.self })) (sym c.trim-name.ensures)
