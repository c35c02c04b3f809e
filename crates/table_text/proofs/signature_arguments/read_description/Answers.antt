use Rattle.std.proofs.Common.{Ok, ap, sym, refl, ◌∙◌, arith}
use Rattle.dm_table.specs.SignatureKey.{description_at}
use Rattle.dm_table.proofs.lemmas.NameLengthLemmas.{description-length}
use Rattle.table_text.proofs.ReadLemmas.{exit_kind, exit_memory}
use Rattle.table_text.proofs.VerityLemmas.{description-fault, description-read}
use Rattle.table_text.proofs.signature_arguments.read_description.Goals as goal

pub returns-in_err-word : goal.returns-in_err-word
unfolding description_at
returns-in_err-word c = exit_kind _ _ _ c.from_residual.ensures.1 (rw c.in_err-word.ensures refl)

pub returns-then-not-is_key_description : goal.returns-then-not-is_key_description
returns-then-not-is_key_description c =
    description-fault c.args.words.now c.in_ok-word.word.now c.in_ok-word.ensures (sym c.is_key_description.ensures ∙ c.if-not-is_key_description.true)

pub returns-in_err-key : goal.returns-in_err-key
returns-in_err-key c =
    let short = description-length c.in_ok-word.word.now (sym c.is_key_description.ensures ∙ c.if-not-is_key_description.false) in
    exit_memory _ _ c.in_err-key.field-0.0 c.from_residual-in_err-key.ensures.1 (omega (arith, c.in_err-key.ensures.err.0))

pub returns : goal.returns
returns c =
    description-read c.args.words.now c.in_ok-word.word.now c.in_ok-word.ensures (sym c.is_key_description.ensures ∙ c.if-not-is_key_description.false)
    ∙ ap Ok (sym c.in_ok-key.ensures.ok)
