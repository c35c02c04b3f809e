use Rattle.std.proofs.Common.{◌+◌, sym, ◌∙◌, arith}
use Rattle.rescue_map.proofs.lemmas.SpanLemmas.{inside-before, inside-behind, inside-within}
use Rattle.rescue_map.proofs.stepping.alike.Goals as goal

pub returns-then-at-span-clause-alike : goal.returns-then-at-span-clause-alike
returns-then-at-span-clause-alike c =
    λ k low. inside-before c.args.span (c.args.at + k) (omega (arith, low, c.min.ensures, c.if-at-span.true)) ∙ sym (inside-before c.args.span c.args.at c.if-at-span.true)

pub returns-then-past-span-clause-alike : goal.returns-then-past-span-clause-alike
returns-then-past-span-clause-alike c =
    λ k low. inside-within c.args.span (c.args.at + k) (omega (arith, c.if-at-span.false)) (omega (arith, low, c.min-then-past-span.ensures, c.if-at-span.false, c.if-past-span.true))
    ∙ sym (inside-within c.args.span c.args.at c.if-at-span.false (omega (arith, c.if-at-span.false, c.if-past-span.true)))

pub returns-clause-alike : goal.returns-clause-alike
returns-clause-alike c =
    λ k low. inside-behind c.args.span (c.args.at + k) (omega (arith, c.if-at-span.false, c.if-past-span.false)) ∙ sym (inside-behind c.args.span c.args.at (omega (arith, c.if-at-span.false, c.if-past-span.false)))
