use Rattle.std.proofs.Common.{◌≡◌, [], length, sym, ap, ◌∙◌, arith}
use Rattle.std.proofs.lemmas.List.{nil_from_length, length-map}
use Rattle.tree_shape.specs.Digests.{digest, digest_in}
use Rattle.tree_shape.specs.Shape.{slot, ancestor}
use Rattle.hash_tree.proofs.BlockListLemmas.{blocks_of, ne_same}
use Rattle.hash_tree.proofs.ChainLemmas.{hangs_last, hangs_step}
use Rattle.hash_tree.proofs.chain.+hangs.Goals as goal

pub returns-then-content-data_block : goal.returns-then-content-data_block
returns-then-content-data_block t c =
    let none : c.args.path.now ≡ [] = nil_from_length c.args.path.now c.in_default.ensures.cases in
    rw none
    (hangs_last c.args.shape.now c.args.salt.now c.args.index c.args.expected.now c.args.content.now c.digest.result c.eq.result
    (c.if-content-data_block.true ∙ c.data_block.ensures.value) c.digest.ensures c.eq.ensures)

pub returns : goal.returns
returns t c =
    let s = c.args.shape.now in
    let block = c.in-Some.block.now.items in
    let below = blocks_of c.in-Some.below.now in
    let bytes : length block ≡ length c.deref.result.now = ap length (sym c.deref.ensures.value) in
    let size : length block ≡ s.hash_block = omega (arith, bytes, c.deref.ensures.len, c.len.ensures, c.if-len-hash_block.false, c.hash_block.ensures.value) in
    let is : digest c.args.salt.now block ≡ c.args.expected.now =
    ap (digest c.args.salt.now) (sym c.deref.ensures.value) ∙ sym c.digest-else-len-hash_block.ensures ∙ ne_same _ _ c.if-ne.ensures in
    let at : c.digest_in-next.result ≡ digest_in block (slot s (ancestor s (length below) c.args.index)) =
    rw length-map (c.digest_in-next.ensures
    ∙ ap (λ b. digest_in b c.slot_on_path.result) c.deref-2.ensures.value
    ∙ ap (digest_in block) c.slot_on_path.ensures.value) in
    rw c.in-Some.ensures.cases.0
    (hangs_step s c.args.salt.now c.args.index c.args.expected.now block c.digest_in-next.result c.args.content.now below c.hangs.result size is at c.hangs.ensures)
