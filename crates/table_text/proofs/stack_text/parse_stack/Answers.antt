use Rattle.std.proofs.Common.{◌+◌, ◌≤◌, ◌∷◌, ◌==◌, List, ℕ, length, Ok, ap, sym, ◌∙◌, subst, All, arith}
use Rattle.std.proofs.lemmas.List.Elements.{All-head, All-tail}
use Rattle.dm_table.specs.Words.{entries_of}
use Rattle.dm_table.specs.Reading.{◌>>=◌}
use Rattle.dm_table.specs.StackText.{entries_from}
use Rattle.table_text.proofs.ReadLemmas.{after, after-nil, after_end, after_push, exit_text}
use Rattle.table_text.proofs.GrammarLemmas.{stack-grammar}
use Rattle.table_text.proofs.StackLemmas.{stack-not_text, stack-entries, entries_from-full, entries_from-blank, length-pieces, All-pieces}
use Rattle.table_text.proofs.stack_text.parse_stack.Goals as goal

pub returns-then-not-is_text : goal.returns-then-not-is_text
returns-then-not-is_text c =
    rw c.fault.ensures (stack-not_text c.args.text.now (sym c.is_text.ensures ∙ c.if-not-is_text.true))

pub entries-init : goal.entries-init
unfolding entries_of
entries-init c =
    let texts = c.new-texts.ensures in
    let pieces = length-pieces (λ b. b == 59) c.args.text.now in
    let few = ap length texts in
    (omega arith, rw (c.new-entries.ensures.items, texts) (sym (after-nil _)), rw texts (All-pieces (λ b. b == 59) c.args.text.now))

pub read_entry-requires : goal.read_entry-requires
read_entry-requires c =
    let short = λ (piece : List ℕ). length piece ≤ length c.args.text.now in
    let first = All-head short _ _ (subst (All short) c.in-Some.ensures c.entries.invariant.2) in
    omega arith

pub returns-in_err-read_entry : goal.returns-in_err-read_entry
returns-in_err-read_entry c =
    let full = sym c.is_blank.ensures ∙ c.if-not-is_blank.true in
    let whole = stack-entries c.args.text.now (sym c.is_text.ensures ∙ c.if-not-is_text.false) in
    exit_text _ _ _ _ c.from_residual.ensures.1 c.in_err-read_entry.ensures
    (λ f e. whole ∙ c.entries.invariant.1 ∙ ap (after c.entries.entries.items) (ap (entries_from (c.entries.number + 1)) c.in-Some.ensures ∙ entries_from-full (c.entries.number + 1) c.in-Some.entry.now c.next_piece.new.self full
    ∙ ap (λ r. r >>= (λ entry. entries_from (c.entries.number + 1 + 1) c.next_piece.new.self >>= (λ entries. Ok (entry ∷ entries)))) e))

pub new-requires : goal.new-requires
new-requires c =
    let entries = c.entries.entries.items in
    let whole = stack-entries c.args.text.now (sym c.is_text.ensures ∙ c.if-not-is_text.false) in
    stack-grammar c.args.text.now entries
    (whole ∙ c.entries.invariant.1 ∙ ap (λ texts. after entries (entries_from (c.entries.number + 1) texts)) c.in_default.ensures.0 ∙ after_end entries)

pub returns : goal.returns
returns c =
    let entries = c.entries.entries.items in
    let whole = stack-entries c.args.text.now (sym c.is_text.ensures ∙ c.if-not-is_text.false) in
    rw c.new.ensures
    (whole ∙ c.entries.invariant.1 ∙ ap (λ texts. after entries (entries_from (c.entries.number + 1) texts)) c.in_default.ensures.0 ∙ after_end entries)

pub entries-preserved-in_ok-push : goal.entries-preserved-in_ok-push
entries-preserved-in_ok-push c =
    let short = λ (piece : List ℕ). length piece ≤ length c.args.text.now in
    let full = sym c.is_blank.ensures ∙ c.if-not-is_blank.true in
    let rest = c.next_piece.new.self in
    let items = c.entries.entries.items in
    let fewer = ap length c.in-Some.ensures in
    let read = c.entries.invariant.1 ∙ ap (after items) (ap (entries_from (c.entries.number + 1)) c.in-Some.ensures ∙ entries_from-full (c.entries.number + 1) c.in-Some.entry.now rest full
    ∙ ap (λ r. r >>= (λ entry. entries_from (c.entries.number + 1 + 1) rest >>= (λ entries. Ok (entry ∷ entries)))) c.in_ok-read_entry.ensures) ∙ after_push items _ (entries_from (c.entries.number + 1 + 1) rest) in
    (omega arith, rw c.in_ok-push.ensures.ok read, All-tail short _ _ (subst (All short) c.in-Some.ensures c.entries.invariant.2))

pub entries-preserved : goal.entries-preserved
entries-preserved c =
    let short = λ (piece : List ℕ). length piece ≤ length c.args.text.now in
    let blank = sym c.is_blank.ensures ∙ c.if-not-is_blank.false in
    let rest = c.next_piece.new.self in
    let fewer = ap length c.in-Some.ensures in (
      omega arith,
      c.entries.invariant.1 ∙ ap (after c.entries.entries.items) (ap (entries_from (c.entries.number + 1)) c.in-Some.ensures ∙ entries_from-blank (c.entries.number + 1) c.in-Some.entry.now rest blank),
      All-tail short _ _ (subst (All short) c.in-Some.ensures c.entries.invariant.2),
    )
