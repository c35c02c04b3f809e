use Rattle.std.proofs.Common.{sym, ap, ◌∙◌, ◌∷◌, ◌≡◌, Bool, ◌||◌, ◌+◌, drop, get_or, ◌<◌, ℕ, List, length}
use Rattle.std.specs.List.{list_any}
use Rattle.std.specs.Str.{bytes_eq}
use Rattle.std.proofs.lemmas.List.{at_drop_more, take_rest}
use Rattle.stack_rules.specs.Records.{LeafRecord}
use Rattle.stack_rules.specs.Leaves.{has_duplicate}
use Rattle.stack_loader.proofs.leaves.has_duplicate.Goals as goal

step : (leaves : List LeafRecord) (i : ℕ) (leaf : LeafRecord) → i < length leaves → leaf ≡ get_or leaves i leaf
    → has_duplicate (drop i leaves) ≡ (list_any (λ other. bytes_eq leaf.name other.name) (drop (i + 1) leaves) || has_duplicate (drop (i + 1) leaves))
step leaves i leaf low is = at_drop_more has_duplicate leaves i leaf low ∙ ap (λ x. has_duplicate (x ∷ drop (i + 1) leaves)) (sym is)

stepped : (leaves : List LeafRecord) (i : ℕ) (leaf : LeafRecord) (name : List ℕ) (b : Bool) → i < length leaves → leaf ≡ get_or leaves i leaf → name ≡ leaf.name
    → b ≡ list_any (λ (l : LeafRecord). bytes_eq name l.name) (drop (i + 1) leaves) → has_duplicate (drop i leaves) ≡ (b || has_duplicate (drop (i + 1) leaves))
stepped leaves i leaf name b low is same any = step leaves i leaf low is ∙ ap (λ name. list_any (λ (l : LeafRecord). bytes_eq name l.name) (drop (i + 1) leaves) || has_duplicate (drop (i + 1) leaves)) (sym same) ∙ ap (λ b. b || has_duplicate (drop (i + 1) leaves)) (sym any)

pub returns-then-has_name : goal.returns-then-has_name
returns-then-has_name c =
    let e = stepped c.args.leaves.now c.loop-i.i c.index-leaves-i.result c.name.result.now c.has_name.result c.loop-i-test.true c.index-leaves-i.is c.name.ensures (rw take_rest at c.has_name.ensures) in
    sym (rw c.if-has_name.true at e) ∙ c.loop-i.invariant

pub loop-i-preserved : goal.loop-i-preserved
loop-i-preserved c =
    let e = stepped c.args.leaves.now c.loop-i.i c.index-leaves-i.result c.name.result.now c.has_name.result c.loop-i-test.true c.index-leaves-i.is c.name.ensures (rw take_rest at c.has_name.ensures) in
    sym (rw c.if-has_name.false at e) ∙ c.loop-i.invariant
