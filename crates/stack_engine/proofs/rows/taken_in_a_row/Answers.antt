use Rattle.std.proofs.Common.{◌≡◌, ◌<◌, ◌+◌, ℕ, List, [], ◌∷◌, true, false, eqb, length, sym, ap, ◌∙◌, arith}
use Rattle.tree_shape.specs.Digests.{digest_in}
use Rattle.tree_shape.specs.Shape.{ShapeRecord, ancestor, slot}
use Rattle.verified_cache.specs.Cache.{CachedBlock}
use Rattle.stack_rules.specs.Trees.{tree_of}
use Rattle.stack_meaning.specs.Blocks.{is_ignored}
use Rattle.stack_engine.specs.SectorCalls.{last_bytes}
use Rattle.stack_engine.proofs.WayCallLemmas.{last-get, together-more}
use Rattle.stack_engine.proofs.rows.taken_in_a_row.Goals as goal

some-there : (path : List CachedBlock) → false ≡ eqb (length path) 0 → 0 < length path
some-there [] h = absurd (let clash : false ≡ true = h in cc)
some-there (b ∷ path) h = omega arith

pub loop-many-preserved : goal.loop-many-preserved
loop-many-preserved c =
    let v = c.args.verity.now in
    let path = c.args.path.now in
    let many : ℕ = c.loop-many.many in
    let some : 0 < length path = some-there path c.if-is_empty.ensures in
    let block : c.as_slice-block.result.now ≡ last_bytes path =
    c.as_slice-block.ensures.value ∙ ap (λ (b : CachedBlock). b.bytes) (c.last.view_is ∙ c.index-path-path.is) ∙ sym (last-get path c.index-path-path.result some) in
    let place : c.slot_on_path-slot.result ≡ slot (tree_of v) (ancestor (tree_of v) 0 c.args.index) = c.slot_on_path-slot.ensures.value ∙ ap (λ (t : ShapeRecord). slot t (ancestor t 0 c.args.index)) c.requires.tree.shape_is in
    let unlike : is_ignored v (digest_in (last_bytes path) (slot (tree_of v) (ancestor (tree_of v) 0 c.args.index) + many)) ≡ false =
    ap (λ (b : List ℕ). is_ignored v (digest_in b (slot (tree_of v) (ancestor (tree_of v) 0 c.args.index) + many))) (sym block) ∙ ap (λ (s : ℕ). is_ignored v (digest_in c.as_slice-block.result.now (s + many))) (sym place)
    ∙ ap (is_ignored v) (sym c.digest_in-expected.ensures) ∙ sym c.is_ignored.ensures ∙ c.if-is_ignored.false in
    let len : length c.as_slice-block.result.now ≡ length (last_bytes path) = ap (λ (l : List ℕ). length l) block in
    record {
      most = omega (arith, c.loop-many-test.true);
      together = together-more (omega (arith, c.loop-many-test.true, c.min-room.ensures)) (λ on. omega (arith, c.loop-many-test.true, c.min-room.ensures, place, len)) unlike c.loop-many.invariant.together;
    }
