use Rattle.std.proofs.Common.{◌≡◌, true, false, sym, ap, ◌∙◌, rules}
use Rattle.tree_shape.specs.Shape.{ShapeRecord, first_fault, is_too_large, blocks_sectors, area_blocks, area_end, end_of}
use Rattle.tree_shape.proofs.lemmas.ShapeLemmas.{area_blocks-fields}
use Rattle.tree_shape.proofs.lemmas.ShapeFaultLemmas.{IsShape-from_no_fault}
use Rattle.tree_shape.proofs.shape.Shape.new.Goals as goal

pub returns-then-is_too_large-2-clause-fault : goal.returns-then-is_too_large-2-clause-fault
unfolding first_fault area_end
returns-then-is_too_large-2-clause-fault c =
    let s : ShapeRecord = record { data_block = c.args.data_block; hash_block = c.args.hash_block; blocks = c.args.blocks; start = c.args.start } in
    let blocks : c.blocks_over-area.result ≡ area_blocks s = c.blocks_over-area.ensures.value ∙ area_blocks-fields s.data_block s.hash_block s.blocks s.start in
    let end : c.end_of.result ≡ end_of s.start (area_blocks s) = c.end_of.ensures.value ∙ ap (end_of s.start) blocks in
    let large : is_too_large (blocks_sectors (end_of s.start (area_blocks s)) s.hash_block) ≡ true = ap (λ e. is_too_large (blocks_sectors e s.hash_block)) (sym end) ∙ sym c.if-is_too_large-2.ensures in
    search rules

pub returns-clause-fault : goal.returns-clause-fault
unfolding first_fault area_end
returns-clause-fault c =
    let s : ShapeRecord = record { data_block = c.args.data_block; hash_block = c.args.hash_block; blocks = c.args.blocks; start = c.args.start } in
    let blocks : c.blocks_over-area.result ≡ area_blocks s = c.blocks_over-area.ensures.value ∙ area_blocks-fields s.data_block s.hash_block s.blocks s.start in
    let end : c.end_of.result ≡ end_of s.start (area_blocks s) = c.end_of.ensures.value ∙ ap (end_of s.start) blocks in
    let small : is_too_large (blocks_sectors (end_of s.start (area_blocks s)) s.hash_block) ≡ false = ap (λ e. is_too_large (blocks_sectors e s.hash_block)) (sym end) ∙ sym c.if-is_too_large-2.ensures in
    search rules

pub invariant_of-result : goal.invariant_of-result
invariant_of-result c = IsShape-from_no_fault _ (sym (returns-clause-fault c))

pub returns-clause-valid : goal.returns-clause-valid
returns-clause-valid c = IsShape-from_no_fault _ (sym (returns-clause-fault c))
