use Rattle.std.proofs.Common.{◌≡◌, ◌∙◌, ◌-◌, ℕ, List, suc, false, ap, sym, arith}
use Rattle.nbd_protocol.specs.Contexts.{has_namespace, queried, string_in}
use Rattle.nbd_protocol.proofs.QueryLemmas.{query-step, query-none, query-bare, query-end}
use Rattle.nbd_protocol.proofs.contexts.queried.Goals as goal

pub returns-then-not-is_string : goal.returns-then-not-is_string
returns-then-not-is_string c =
    let n : ℕ = c.strings.left - 1 in
    let left : c.strings.left ≡ suc n = omega (arith, c.strings-test.true) in
    sym (c.strings.invariant.is
    ∙ ap (λ (k : ℕ). queried c.args.listing c.strings.found k c.strings.rest.now) left
    ∙ query-none c.args.listing c.strings.found n c.strings.rest.now (sym c.is_string.ensures ∙ c.if-not-is_string.true))

pub returns-then-not-has_namespace : goal.returns-then-not-has_namespace
returns-then-not-has_namespace c =
    let n : ℕ = c.strings.left - 1 in
    let left : c.strings.left ≡ suc n = omega (arith, c.strings-test.true) in
    let bare : has_namespace (string_in c.strings.rest.now) ≡ false = ap (λ (q : List ℕ). has_namespace q) (sym c.string_in-query.ensures) ∙ sym c.has_namespace.ensures ∙ c.if-not-has_namespace.true in
    sym (c.strings.invariant.is
    ∙ ap (λ (k : ℕ). queried c.args.listing c.strings.found k c.strings.rest.now) left
    ∙ query-bare c.args.listing c.strings.found n c.strings.rest.now (sym c.is_string.ensures ∙ c.if-not-is_string.false) bare)

pub strings-preserved : goal.strings-preserved
strings-preserved c =
    let n : ℕ = c.strings.left - 1 in
    let left : c.strings.left ≡ suc n = omega (arith, c.strings-test.true) in
    let spaced = ap (λ (q : List ℕ). has_namespace q) (sym c.string_in-query.ensures) ∙ sym c.has_namespace.ensures ∙ c.if-not-has_namespace.false in
    record {
      is = rw (c.is_named-found.ensures, c.string_in-query.ensures, c.behind_string-rest.ensures) (c.strings.invariant.is
          ∙ ap (λ (k : ℕ). queried c.args.listing c.strings.found k c.strings.rest.now) left
          ∙ query-step c.args.listing c.strings.found n c.strings.rest.now (sym c.is_string.ensures ∙ c.if-not-is_string.false) spaced);
    }

pub returns : goal.returns
returns c = c.ended.ensures ∙ sym (c.strings.invariant.is ∙ query-end c.args.listing c.strings.found c.strings.left c.strings.rest.now (omega (arith, c.strings-test.false)))
