use Rattle.std.proofs.Common.{◌≡◌, ◌*◌, ◌/◌, ◌∙◌, ℕ, true, false, List, Vec, Global, length, map, ap, inl, inr, refl, sym, subst, arith}
use Rattle.std.proofs.lemmas.Result.{err_from_is_err_and}
use Rattle.std.specs.Vec.{with_items}
use Rattle.std.proofs.lemmas.List.{with_items_is, length-replicate}
use Rattle.block_device.specs.Call.{DeviceDoes, Read}
use Rattle.tree_shape.specs.Shape.{levels}
use Rattle.hash_tree.specs.Chain.{ChainRecord}
use Rattle.verity_format.specs.Blocks.{block_at}
use Rattle.verity_format.specs.Chain.{stored_chain, stored_path}
use Rattle.verity_format.specs.ChainCalls.{GivesPath}
use Rattle.verity_format.proofs.lemmas.SizeLemmas.{block-size}
use Rattle.verity_format.proofs.chains.read_chain.Goals as goal

chain_of : ℕ → List ℕ → List (List ℕ) → ChainRecord
chain_of i content path = record { index = i; content = content; path = path }

pub returns-in_err-content-clause-err : goal.returns-in_err-content-clause-err
returns-in_err-content-clause-err g c =
    let p = err_from_is_err_and c.from_residual.result c.from_residual.ensures.1 in
    let block = block-size c.args.shape.now.data_block c.data_block.ensures.valid.data_size in
    let e = c.in_err-content.field-0.0 in
    rw (p.1, p.2) (refl, refl, (e.asked, omega (arith, c.in_err-content.ensures.err.0, c.data_block.ensures.value, block.most_bytes), e.refused))

pub returns-in_err-path-clause-err : goal.returns-in_err-path-clause-err
returns-in_err-path-clause-err g c =
    let p = err_from_is_err_and c.from_residual-in_err-path.result c.from_residual-in_err-path.ensures.1 in
    let block = block-size c.args.shape.now.hash_block c.hash_block.ensures.valid.hash_size in
    let h = c.in_err-path.ensures.err in
    rw (p.1, p.2) (refl, refl, (h.0, omega (arith, h.1, c.hash_block.ensures.value, block.most_bytes), h.2))

pub returns-clause-ok : goal.returns-clause-ok
unfolding stored_chain chain_of
returns-clause-ok g c = (
  refl,
  λ data_steady hash_steady.
      let shape = c.args.shape.now in
      let data_image = (g.D.BlockDev.state c.args.data_dev.now).image in
      let hash_image = (g.H.BlockDev.state c.args.hash_dev.now).image in
      let size : length c.deref_mut-2.result.now ≡ shape.data_block =
      c.deref_mut-2.ensures.len ∙ c.in_ok-content.content.ok.0 ∙ ap length c.in_ok-content.ensures.ok ∙ length-replicate {A = ℕ} c.data_block.result 0 ∙ c.data_block.ensures.value in
      let content : (with_items c.in_ok-content.content c.read_block.new.block).items ≡ block_at data_image shape.data_block c.args.index =
      with_items_is c.in_ok-content.content c.read_block.new.block (c.read_block.auto.block ∙ c.deref_mut-2.ensures.len)
      ∙ c.in_ok-read_block.ensures.ok.bytes data_steady
      ∙ ap (λ n. block_at data_image n c.args.index) size in
      let path : map (λ b. b.items) (with_items c.in_ok-path.path c.read_path.new.path).items ≡ stored_path shape hash_image (levels shape) c.args.index =
      ap (map (λ b. b.items)) (with_items_is c.in_ok-path.path c.read_path.new.path (c.read_path.auto.path ∙ c.deref_mut.ensures.len)) ∙ c.in_ok-read_path.ensures.ok.path hash_steady in
      ap (λ xs. chain_of c.args.index xs (map (λ b. b.items) (with_items c.in_ok-path.path c.read_path.new.path).items)) content
      ∙ ap (chain_of c.args.index (block_at data_image shape.data_block c.args.index)) path,
)

-- memory was refused
pub returns-in_err-content-clause-calls : goal.returns-in_err-content-clause-calls
returns-in_err-content-clause-calls g c = let p = err_from_is_err_and c.from_residual.result c.from_residual.ensures.1 in rw (p.1, p.2) (refl, refl)

pub returns-in_err-path-clause-calls : goal.returns-in_err-path-clause-calls
returns-in_err-path-clause-calls g c = let p = err_from_is_err_and c.from_residual-in_err-path.result c.from_residual-in_err-path.ensures.1 in rw (p.1, p.2) (refl, refl)

-- the read of a hash block failed
pub returns-in_err-read_path-clause-calls : goal.returns-in_err-read_path-clause-calls
returns-in_err-read_path-clause-calls g c =
    let p = err_from_is_err_and c.from_residual-in_err-read_path.result c.from_residual-in_err-read_path.ensures.1 in
    rw (p.1, p.2) (inl (refl, c.in_err-read_path.ensures.calls))

-- the read of the data block failed
pub returns-in_err-read_block-clause-calls : goal.returns-in_err-read_block-clause-calls
returns-in_err-read_block-clause-calls g c =
    let p = err_from_is_err_and c.from_residual-in_err-read_block.result c.from_residual-in_err-read_block.ensures.1 in
    let asks = DeviceDoes g.D.BlockDev.state g.D.BlockDev.does in
    let size : length c.deref_mut-2.result.now ≡ c.args.shape.now.data_block =
    c.deref_mut-2.ensures.len ∙ c.in_ok-content.content.ok.0 ∙ ap length c.in_ok-content.ensures.ok ∙ length-replicate {A = ℕ} c.data_block.result 0 ∙ c.data_block.ensures.value in
    rw (p.1, p.2)
    (inr (record {
      path = map (λ b. b.items) c.read_path.new.path;
      block = c.read_block.new.block;
      hash = c.in_ok-read_path.ensures.calls;
      made = subst (λ (n : ℕ). asks c.args.data_dev.now (Read (c.args.index * (n / 512)) c.read_block.new.block false) c.read_block.new.device) size c.in_err-read_block.ensures.call;
    }))

pub returns-clause-calls : goal.returns-clause-calls
returns-clause-calls g c =
    let shape = c.args.shape.now in
    let asks = DeviceDoes g.D.BlockDev.state g.D.BlockDev.does in
    let does = DeviceDoes g.H.BlockDev.state g.H.BlockDev.does in
    let size : length c.deref_mut-2.result.now ≡ shape.data_block =
    c.deref_mut-2.ensures.len ∙ c.in_ok-content.content.ok.0 ∙ ap length c.in_ok-content.ensures.ok ∙ length-replicate {A = ℕ} c.data_block.result 0 ∙ c.data_block.ensures.value in
    let content : (with_items c.in_ok-content.content c.read_block.new.block).items ≡ c.read_block.new.block = with_items_is c.in_ok-content.content c.read_block.new.block (c.read_block.auto.block ∙ c.deref_mut-2.ensures.len) in
    let path : (with_items c.in_ok-path.path c.read_path.new.path).items ≡ c.read_path.new.path = with_items_is c.in_ok-path.path c.read_path.new.path (c.read_path.auto.path ∙ c.deref_mut.ensures.len) in
    record {
      hash = subst (λ (xs : List (Vec ℕ Global)). GivesPath does shape c.args.index c.args.hash_dev.now (map (λ b. b.items) xs) c.read_path.new.hash_dev) (sym path) c.in_ok-read_path.ensures.calls;
      made =
          subst (λ (bytes : List ℕ). asks c.args.data_dev.now (Read (c.args.index * (shape.data_block / 512)) bytes true) c.read_block.new.device) (sym content)
          (subst (λ (n : ℕ). asks c.args.data_dev.now (Read (c.args.index * (n / 512)) c.read_block.new.block true) c.read_block.new.device) size c.in_ok-read_block.ensures.call);
    }
