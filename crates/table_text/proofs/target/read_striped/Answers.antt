use Rattle.std.proofs.Common.{◌∷◌, Ok, Err, ap, sym, ◌∙◌}
use Rattle.dm_table.specs.declared.table.Target.TheVariants.{Striped}
use Rattle.dm_table.specs.Reading.{◌>>=◌}
use Rattle.dm_table.specs.Lines.{striped_at}
use Rattle.table_text.proofs.ReadLemmas.{exit_kind, exit_part}
use Rattle.table_text.proofs.LineLemmas.{striped-stripes, striped-chunk, striped-count}
use Rattle.dm_table.proofs.lemmas.ReadLineLemmas.{striped-bases}
use Rattle.std.proofs.lemmas.Bool.{false≢true}
use Rattle.table_text.proofs.target.read_striped.Goals as goal

pub returns-in_err-count : goal.returns-in_err-count
unfolding striped_at
returns-in_err-count c =
    let few = c.in_err-count.ensures in
    exit_kind _ _ _ c.from_residual.ensures.1 (ap striped_at few.1 ∙ ap Err (sym few.0))

pub returns-in_err-size : goal.returns-in_err-size
unfolding striped_at
returns-in_err-size c =
    let few = c.in_err-size.ensures in
    exit_kind _ _ _ c.from_residual-in_err-size.ensures.1
    (ap striped_at (c.in_ok-count.ensures ∙ ap (λ ws. c.in_ok-count.count.now ∷ ws) few.1) ∙ ap Err (sym few.0))

pub returns-in_err-stripes : goal.returns-in_err-stripes
returns-in_err-stripes c =
    let words = c.in_ok-count.ensures ∙ ap (λ ws. c.in_ok-count.count.now ∷ ws) c.in_ok-size.ensures in
    exit_kind _ _ _ c.from_residual-in_err-stripes.ensures.1
    (ap striped_at words ∙ striped-stripes _ _ _ _ (sym c.in_err-stripes.ensures.value))

pub returns-in_err-chunk : goal.returns-in_err-chunk
returns-in_err-chunk c =
    let words = c.in_ok-count.ensures ∙ ap (λ ws. c.in_ok-count.count.now ∷ ws) c.in_ok-size.ensures in
    exit_kind _ _ _ c.from_residual-in_err-chunk.ensures.1
    (ap striped_at words ∙ striped-chunk _ _ _ _ _ (sym c.in_ok-stripes.ensures.value) (sym c.in_err-chunk.ensures))

pub returns-then-not-are : goal.returns-then-not-are
returns-then-not-are c =
    let words = c.in_ok-count.ensures ∙ ap (λ ws. c.in_ok-count.count.now ∷ ws) c.in_ok-size.ensures in
    ap striped_at words ∙ striped-count _ _ _ _ _ (sym c.in_ok-stripes.ensures.value) (sym c.in_ok-chunk.ensures) (λ same. false≢true (sym c.if-not-are.true ∙ c.are.ensures.1 same))

pub returns-in_err-bases : goal.returns-in_err-bases
returns-in_err-bases c =
    let words = c.in_ok-count.ensures ∙ ap (λ ws. c.in_ok-count.count.now ∷ ws) c.in_ok-size.ensures in
    exit_part _ _ _ _ c.from_residual-in_err-bases.ensures.1 c.in_err-bases.ensures
    (λ kind e. ap striped_at words ∙ striped-bases _ _ _ _ _ (sym c.in_ok-stripes.ensures.value) (sym c.in_ok-chunk.ensures) (c.are.ensures.0 c.if-not-are.false) ∙ ap (λ r. r >>= (λ bases. Ok (Striped c.in_ok-chunk.chunk bases))) e)

pub returns : goal.returns
returns c =
    let words = c.in_ok-count.ensures ∙ ap (λ ws. c.in_ok-count.count.now ∷ ws) c.in_ok-size.ensures in
    ap striped_at words ∙ striped-bases _ _ _ _ _ (sym c.in_ok-stripes.ensures.value) (sym c.in_ok-chunk.ensures) (c.are.ensures.0 c.if-not-are.false)
    ∙ ap (λ r. r >>= (λ bases. Ok (Striped c.in_ok-chunk.chunk bases))) c.in_ok-bases.ensures
