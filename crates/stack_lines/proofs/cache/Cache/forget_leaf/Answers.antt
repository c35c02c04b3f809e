use Rattle.std.proofs.Common.{◌≡◌, false, sym, ap, ◌∙◌, subst}
use Rattle.verified_cache.specs.Cache.{CacheRecord}
use Rattle.stack_lines.specs.Caches.{StackCache}
use Rattle.stack_lines.specs.Standing.{has_leaf, CoversBlocks}
use Rattle.stack_lines.proofs.lemmas.ForgetLemmas.{covers-without, covers-none}
use Rattle.stack_lines.proofs.cache.Cache.forget_leaf.Goals as goal

pub returns-then-not-contains-clause-blocks : goal.returns-then-not-contains-clause-blocks
returns-then-not-contains-clause-blocks c =
    let set = c.args.self.now.covered in
    let off : has_leaf set c.args.leaf ≡ false = ap (λ (k : StackCache). has_leaf k.covered c.args.leaf) (sym c.self.view_is) ∙ sym c.contains.ensures ∙ c.if-not-contains.true in
    ap (λ (k : StackCache). k.blocks) c.self.view_is ∙ sym (covers-none c.args.config.now c.args.leaf set c.args.self.now.blocks c.requires.leaf off c.requires.covers)

pub returns-clause-covers : goal.returns-clause-covers
returns-clause-covers c =
    let config = c.args.config.now in
    let less = c.without-self-inside.result in
    let all = subst (λ (k : StackCache). CoversBlocks config k.covered k.blocks.blocks) (sym c.self.view_is) c.requires.covers in
    subst (λ (k : CacheRecord). CoversBlocks config less k.blocks) (sym c.forget_where.ensures) (covers-without config c.args.leaf c.self.inside.covered less c.self.inside.blocks c.without-self-inside.ensures all)
