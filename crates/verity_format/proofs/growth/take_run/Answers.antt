use Rattle.std.proofs.Common.{◌≡◌, ◌≤◌, ◌-◌, ◌*◌, ◌/◌, ◌++◌, ◌∙◌, [], ◌∷◌, ℕ, List, All, refl, true, false, sym, ap, subst, arith, length, drop, map}
use Rattle.std.proofs.Math.Nat.{div-le_self}
use Rattle.std.proofs.lemmas.List.{take_at, length-replicate}
use Rattle.std.proofs.lemmas.Result.{err_from_is_err_and}
use Rattle.block_device.specs.Call.{Read}
use Rattle.hash_tree.specs.Building.{completed}
use Rattle.tree_shape.specs.Digests.{digest}
use Rattle.verity_format.specs.Blocks.{IsFullRead, blocks_at}
use Rattle.verity_format.specs.Growth.{IsDigest}
use Rattle.verity_format.proofs.lemmas.RunLemmas.{quotient-some}
use Rattle.verity_format.proofs.lemmas.SizeLemmas.{block-size}
use Rattle.verity_format.proofs.growth.take_run.Goals as goal

pub returns-clause-taken : goal.returns-clause-taken
returns-clause-taken g c =
    let v = c.in_ok-digests.digests in
    let ds : List (List ℕ) = c.deref.result.now in
    let put : List (List ℕ) = c.read_run.new.digests in
    let s = c.args.shape.now in
    let old = g.D.BlockDev.state c.args.device.now in
    let new = g.D.BlockDev.state c.read_run.new.device in
    let kept : length put ≡ v.len = c.read_run.auto.digests ∙ c.deref_mut.ensures.len in
    let items : ds ≡ put = c.deref.ensures.value ∙ take_at put (drop (length put) v.items) v.len kept in
    let room : v.len ≡ c.min-count.result = v.ok.0 ∙ ap length c.in_ok-digests.ensures.ok ∙ length-replicate c.min-count.result _ in
    let count : length ds ≡ c.min-count.result = ap length items ∙ kept ∙ room in
    let size : c.data_block-size.result ≡ s.data_block = c.data_block-size.ensures.value in
    let block = block-size s.data_block c.data_block-size.ensures.valid.data_size in
    let one : 1 ≤ length c.args.run.now / c.data_block-size.result = quotient-some _ _ (omega (arith, size, block.some)) (omega (arith, size, c.requires.run.0)) in
    let are = c.in_ok-read_run.ensures.ok.digests in
    record {
      digests = ds;
      sized = subst (All IsDigest) (sym items) are.sized;
      some = omega (arith, count, one, c.requires.left.0, c.min-count.ensures, c.left-left.ensures);
      few = omega (arith, count, c.min-count.ensures, c.left-left.ensures);
      after = c.in_ok-push_many.ensures.ok.0;
      placed = c.in_ok-push_many.ensures.ok.1 ∙ ap (λ xs. xs ++ completed c.args.builder.now ds) c.new-out.ensures.items;
      read =
          subst (λ (n : ℕ). IsFullRead old (length ds * (n / 512)) new) size
          (subst (λ (n : ℕ). IsFullRead old (n * (c.data_block-size.result / 512)) new) (kept ∙ room ∙ sym count) c.in_ok-read_run.ensures.ok.full);
      over = λ steady.
          items
          ∙ are.over steady
          ∙ ap (λ n. map (digest c.args.salt.now) (blocks_at old.image n (c.blocks-2.result - c.left-left.result) (length put))) size
          ∙ ap (λ n. map (digest c.args.salt.now) (blocks_at old.image s.data_block (n - c.left-left.result) (length put))) c.blocks-2.ensures.value
          ∙ ap (λ n. map (digest c.args.salt.now) (blocks_at old.image s.data_block (s.blocks - n) (length put))) c.left-left.ensures
          ∙ ap (λ n. map (digest c.args.salt.now) (blocks_at old.image s.data_block (s.blocks - c.args.builder.now.left) n)) (ap length (sym items));
    }

-- room for the digests was refused
pub returns-in_err-digests-clause-fault : goal.returns-in_err-digests-clause-fault
returns-in_err-digests-clause-fault g c =
    let p = err_from_is_err_and c.from_residual.result c.from_residual.ensures.1 in
    let e = c.in_err-digests.field-0.0 in
    let few = div-le_self (length c.args.run.now) c.data_block-size.result in
    rw (p.1, p.2) (refl, (e.asked, omega (arith, c.in_err-digests.ensures.err.0, c.min-count.ensures, few, c.requires.run.1), e.refused))

-- or room for a block
pub returns-in_err-push_many-clause-fault : goal.returns-in_err-push_many-clause-fault
returns-in_err-push_many-clause-fault g c =
    let p = err_from_is_err_and c.from_residual-in_err-push_many.result c.from_residual-in_err-push_many.ensures.1 in
    let block = block-size c.args.shape.now.hash_block c.data_block-size.ensures.valid.hash_size in
    let h = c.in_err-push_many.ensures.err.1 c.requires.ready in
    rw (p.1, p.2) (c.in_ok-read_run.ensures.ok.full.failures, (h.0, omega (arith, h.1, c.requires.size, block.most_bytes), h.2))

-- the read failed
pub returns-in_err-read_run-clause-given : goal.returns-in_err-read_run-clause-given
returns-in_err-read_run-clause-given g c =
    let result = err_from_is_err_and c.from_residual-in_err-read_run.result c.from_residual-in_err-read_run.ensures.1 in
    let given = c.in_err-read_run.ensures.given in
    rw result.1 (record { calls = Read ((c.blocks-2.result - c.left-left.result) * (c.data_block-size.result / 512)) given.bytes false ∷ []; reads = (refl, tt); few = omega arith; made = (c.read_run.new.device, given.made, refl) })

-- it went well, and the builder can't take the digests
pub returns-in_err-push_many-clause-given : goal.returns-in_err-push_many-clause-given
returns-in_err-push_many-clause-given g c =
    let result = err_from_is_err_and c.from_residual-in_err-push_many.result c.from_residual-in_err-push_many.ensures.1 in
    let given = c.in_ok-read_run.ensures.given in
    rw result.1 (record { calls = Read ((c.blocks-2.result - c.left-left.result) * (c.data_block-size.result / 512)) given.bytes true ∷ []; reads = (refl, tt); few = omega arith; made = (c.read_run.new.device, given.made, refl) })
