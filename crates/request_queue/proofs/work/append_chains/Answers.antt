use Rattle.std.proofs.Common.{◌≡◌, ◌++◌, ◌∷◌, [], List, reverse, sym, ap, ◌∙◌, arith}
use Rattle.std.proofs.lemmas.List.{append-nil, append_assoc, nil_from_length, reverse-append, reverse-reverse}
use Rattle.stack_meaning.specs.Found.{FoundRecord}
use Rattle.request_queue.proofs.work.append_chains.Goals as goal

pub rest-init : goal.rest-init
rest-init c = ap (λ (l : List FoundRecord). c.args.chains.now.items ++ l) (ap reverse c.reverse.ensures.items ∙ reverse-reverse c.args.more.items)

pub rest-preserved : goal.rest-preserved
rest-preserved c =
    let had : List FoundRecord = c.rest.chains.items in
    let left : List FoundRecord = c.pop.new.self.items in
    let one : FoundRecord = c.in-Some.chain in
    let back : reverse c.rest.more.items ≡ (one ∷ []) ++ reverse left = ap reverse c.in-Some.ensures.items ∙ reverse-append left (one ∷ []) in
    ap (λ (l : List FoundRecord). l ++ reverse left) c.in_ok-push.ensures.ok ∙ append_assoc had (one ∷ []) (reverse left) ∙ ap (λ (l : List FoundRecord). had ++ l) (sym back) ∙ c.rest.invariant

pub returns-clause-ok : goal.returns-clause-ok
returns-clause-ok c =
    let had : List FoundRecord = c.rest.chains.items in
    let none : c.rest.more.items ≡ [] = nil_from_length c.rest.more.items (omega (arith, c.in_default.ensures.cases.0, c.rest.more.ok.0)) in
    sym (append-nil had) ∙ ap (λ (l : List FoundRecord). had ++ reverse l) (sym none) ∙ c.rest.invariant
