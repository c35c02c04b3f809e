use Rattle.std.proofs.Common.{◌∙◌, ◌+◌, ◌++◌, ◌∷◌, [], ℕ, List, drop, get_or, append-nil, append_assoc, drop_of_length-le, ap, sym}
use Rattle.partition_table.specs.Labels.{before_zero}
use Rattle.find_commands.proofs.AreaLemmas.{left-more, left-zero}
use Rattle.find_commands.proofs.area.text_of.Goals as goal

pub bytes-preserved : goal.bytes-preserved
bytes-preserved c =
    let bytes : List ℕ = c.args.area.now in
    let i : ℕ = c.bytes.byte-index in
    let text : List ℕ = c.bytes.text.items in
    let rest : List ℕ = before_zero (drop (i + 1) bytes) in
    let more = left-more bytes i c.bytes-test.true (sym c.is_end.ensures ∙ c.if-is_end.false) in
    ap (λ (l : List ℕ). l ++ rest) c.in_ok-push.ensures.ok
    ∙ append_assoc text (get_or bytes i 0 ∷ []) rest
    ∙ ap (λ (l : List ℕ). text ++ l) (sym more)
    ∙ c.bytes.invariant

pub returns-then-is_end : goal.returns-then-is_end
returns-then-is_end c =
    let none = left-zero c.args.area.now c.bytes.byte-index c.bytes-test.true (sym c.is_end.ensures ∙ c.if-is_end.true) in
    sym (append-nil _) ∙ ap (λ (l : List ℕ). c.bytes.text.items ++ l) (sym none) ∙ c.bytes.invariant

pub returns : goal.returns
returns c =
    let none = drop_of_length-le c.args.area.now c.bytes-test.false in
    sym (append-nil _) ∙ ap (λ (l : List ℕ). c.bytes.text.items ++ before_zero l) (sym none) ∙ c.bytes.invariant
