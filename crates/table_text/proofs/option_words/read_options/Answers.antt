use Rattle.std.proofs.Common.{map, ap, sym, ◌∙◌, refl}
use Rattle.std.proofs.lemmas.Bool.{false≢true}
use Rattle.dm_table.specs.Reading.{◌>>=◌}
use Rattle.dm_table.specs.Options.{options_at, counted_at}
use Rattle.table_text.proofs.ReadLemmas.{exit_kind}
use Rattle.table_text.proofs.OptionLemmas.{options-count}
use Rattle.dm_table.proofs.lemmas.ReadLineLemmas.{options-known}
use Rattle.table_text.proofs.option_words.read_options.Goals as goal

pub returns-in_default : goal.returns-in_default
unfolding options_at
returns-in_default c =
    rw (c.in_default.ensures.0, c.new.ensures) refl

pub returns-in_err-count : goal.returns-in_err-count
unfolding options_at
returns-in_err-count c =
    let known = map (λ word. word.now) c.args.known.now in
    let valued = map (λ word. word.now) c.args.valued.now in
    exit_kind _ _ _ c.from_residual.ensures.1
    (ap (options_at known valued) c.in-Some.ensures ∙ ap (λ r. r >>= (λ n. counted_at known valued n c.next_word.new.self)) (sym c.in_err-count.ensures))

pub returns-then-not-are : goal.returns-then-not-are
returns-then-not-are c =
    let known = map (λ word. word.now) c.args.known.now in
    let valued = map (λ word. word.now) c.args.valued.now in
    ap (options_at known valued) c.in-Some.ensures ∙ options-count known valued _ _ c.in_ok-count.count (sym c.in_ok-count.ensures) (λ same. false≢true (sym c.if-not-are.true ∙ c.are.ensures.1 same))

pub returns : goal.returns
returns c =
    let known = map (λ word. word.now) c.args.known.now in
    let valued = map (λ word. word.now) c.args.valued.now in
    let whole = ap (options_at known valued) c.in-Some.ensures ∙ options-known known valued _ _ c.in_ok-count.count (sym c.in_ok-count.ensures) (c.are.ensures.0 c.if-not-are.false) in
    rw whole c.read_known.ensures
