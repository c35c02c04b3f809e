use Rattle.std.proofs.Common.{sym, ◌∙◌, refl, arith}
use Rattle.std.proofs.lemmas.Bool.{false≢true}
use Rattle.dm_table.specs.Unstriped.{unstriped_at}
use Rattle.table_text.proofs.ReadLemmas.{exit_kind, exit_part}
use Rattle.table_text.proofs.UnstripedLemmas.{unstriped-count, five-words}
use Rattle.table_text.proofs.unstriped_arguments.read_unstriped.Goals as goal

pub returns-then-not-are : goal.returns-then-not-are
returns-then-not-are c = unstriped-count c.args.arguments (λ same. false≢true (sym c.if-not-are.true ∙ c.are.ensures.1 same))

pub returns-in_err-words : goal.returns-in_err-words
returns-in_err-words c = absurd (omega (arith, c.in_err-words.ensures.1, c.are.ensures.0 c.if-not-are.false))

pub returns-in_err-stripes : goal.returns-in_err-stripes
unfolding unstriped_at
returns-in_err-stripes c =
    exit_kind _ _ _ c.from_residual-in_err-stripes.ensures.1 (rw (five-words _ _ c.in_ok-words.ensures (c.are.ensures.0 c.if-not-are.false), sym c.in_err-stripes.ensures) refl)

pub returns-in_err-chunk : goal.returns-in_err-chunk
unfolding unstriped_at
returns-in_err-chunk c =
    exit_kind _ _ _ c.from_residual-in_err-chunk.ensures.1 (rw (five-words _ _ c.in_ok-words.ensures (c.are.ensures.0 c.if-not-are.false), sym c.in_ok-stripes.ensures, sym c.in_err-chunk.ensures) refl)

pub returns-in_err-stripe : goal.returns-in_err-stripe
unfolding unstriped_at
returns-in_err-stripe c =
    exit_kind _ _ _ c.from_residual-in_err-stripe.ensures.1 (rw (five-words _ _ c.in_ok-words.ensures (c.are.ensures.0 c.if-not-are.false), sym c.in_ok-stripes.ensures, sym c.in_ok-chunk.ensures, sym c.in_err-stripe.ensures) refl)

pub returns-in_err-base : goal.returns-in_err-base
unfolding unstriped_at
returns-in_err-base c =
    exit_part _ _ _ _ c.from_residual-in_err-base.ensures.1 c.in_err-base.ensures (λ kind e. rw (five-words _ _ c.in_ok-words.ensures (c.are.ensures.0 c.if-not-are.false), sym c.in_ok-stripes.ensures, sym c.in_ok-chunk.ensures, sym c.in_ok-stripe.ensures, e) refl)

pub returns : goal.returns
unfolding unstriped_at
returns c = rw (five-words _ _ c.in_ok-words.ensures (c.are.ensures.0 c.if-not-are.false), sym c.in_ok-stripes.ensures, sym c.in_ok-chunk.ensures, sym c.in_ok-stripe.ensures, c.in_ok-base.ensures) refl
