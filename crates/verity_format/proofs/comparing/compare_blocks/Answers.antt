use Rattle.std.proofs.Common.{◌≡◌, ◌≢◌, ◌+◌, ◌*◌, ◌/◌, true, false, ◌++◌, ◌∷◌, ◌∙◌, [], ℕ, List, length, take, sym, ap, subst, append_assoc, rules}
use Rattle.std.proofs.lemmas.List.{append-nil, take_more, take_all}
use Rattle.std.proofs.lemmas.Result.{err_from_is_err_and}
use Rattle.block_device.specs.Call.{DeviceDoes, Read}
use Rattle.hash_tree.specs.Building.{PlacedRecord}
use Rattle.hash_tree.specs.Placing.{IsLeastDiffering}
use Rattle.hash_tree.proofs.lemmas.PlacingLemmas.{least-same, least-next}
use Rattle.verity_format.specs.Blocks.{block_at}
use Rattle.verity_format.specs.ComparedCalls.{ComparedBlock, ComparesAll, IsLeastChanged, block_read}
use Rattle.verity_format.specs.Comparing.{IsLeastWith}
use Rattle.verity_format.proofs.BlockLemmas.{sectors-step}
use Rattle.verity_format.proofs.ComparedLemmas.{changed-next, changed-same, compares-failed, compares-more, compares-none}
use Rattle.verity_format.proofs.ComparingLemmas.{ne_differ, ne_same}
use Rattle.verity_format.proofs.lemmas.DeviceLemmas.{only_read-none, only_read-then, full_read-then, steady-then}
use Rattle.verity_format.proofs.comparing.compare_blocks.Goals.{then-ne, else-ne}
use Rattle.verity_format.proofs.comparing.compare_blocks.Goals as goal

pub loop-placed-preserved : goal.loop-placed-preserved
loop-placed-preserved g c =
    let out = c.args.blocks.now in
    let i = c.loop-placed.placed-index in
    let p : PlacedRecord = c.placed-item.result in
    let old = g.H.BlockDev.state c.args.hash_dev.now in
    let here = c.loop-placed.invariant in
    let size = length c.args.block.now in
    let device : ℕ → List ℕ = block_at old.image size in
    let now : length c.read_block.new.block ≡ size = c.read_block.auto.block ∙ c.loop-placed.auto.block in
    record {
      read = only_read-then here.read c.read_block.ensures.read;
      full = full_read-then _ _ _ here.full c.in_ok-read_block.ensures.ok.full (sectors-step i (length c.loop-placed.block) (length c.read_block.new.block) c.read_block.auto.block);
      least = subst (λ (n : ℕ). IsLeastWith old n (take (i + 1) out) c.args.least c.if-ne.least) (sym now) (λ steady ps so.
          let more : ps ++ take (i + 1) out ≡ (ps ++ take i out) ++ p ∷ [] =
          ap (λ xs. ps ++ xs) (take_more out i p c.loop-placed-test.true ∙ ap (λ q. take i out ++ q ∷ []) (sym c.placed-item.is)) ∙ sym (append_assoc ps (take i out) (p ∷ [])) in
          let with : IsLeastWith old size (take i out) c.args.least c.loop-placed.least = subst (λ (n : ℕ). IsLeastWith old n (take i out) c.args.least c.loop-placed.least) c.loop-placed.auto.block here.least in
          let before : IsLeastDiffering device (ps ++ take i out) c.loop-placed.least = with steady ps so in
          let number : p.block ≡ c.placed.inside.block = sym (ap (λ (p : PlacedRecord). p.block) c.placed.view_is) in
          let bytes : c.as_slice.result.now ≡ p.bytes = c.as_slice.ensures.value ∙ ap (λ (p : PlacedRecord). p.bytes) c.placed.view_is in
          let stands : device p.block ≡ c.read_block.new.block =
          ap device number
          ∙ sym (c.in_ok-read_block.ensures.ok.bytes (steady-then here.read.same steady)
          ∙ ap (λ image. block_at image (length c.loop-placed.block) c.placed.inside.block) (here.read.image steady)
          ∙ ap (λ n. block_at old.image n c.placed.inside.block) c.loop-placed.auto.block) in
          subst (λ qs. IsLeastDiffering device qs c.if-ne.least) (sym more) (elim c.if-ne.branch [
            | then-ne w ↦
                let differ : device p.block ≢ p.bytes = λ same. ne_differ c.read_block.new.block c.as_slice.result.now w.if-ne.ensures (sym stands ∙ same ∙ sym bytes) in
                rw (w.least-is, w.lesser.ensures, ← number) (least-next device (ps ++ take i out) p c.loop-placed.least differ before)
            | else-ne w ↦
                let same : device p.block ≡ p.bytes = stands ∙ ne_same c.read_block.new.block c.as_slice.result.now w.if-ne.ensures ∙ bytes in
                rw w.least-is (least-same device (ps ++ take i out) p c.loop-placed.least same before)
          ]));
      calls =
          let does = DeviceDoes g.H.BlockDev.state g.H.BlockDev.does in
          let given : List ℕ = c.read_block.new.block in
          let number : p.block ≡ c.placed.inside.block = sym (ap (λ (p : PlacedRecord). p.block) c.placed.view_is) in
          let bytes : c.as_slice.result.now ≡ p.bytes = c.as_slice.ensures.value ∙ ap (λ (p : PlacedRecord). p.bytes) c.placed.view_is in
          let one : take (i + 1) out ≡ take i out ++ p ∷ [] = take_more out i p c.loop-placed-test.true ∙ ap (λ q. take i out ++ q ∷ []) (sym c.placed-item.is) in
          let before : ComparesAll does size (take i out) c.args.least c.loop-placed.least c.args.hash_dev.now c.loop-placed.hash_dev =
          subst (λ (n : ℕ). ComparesAll does n (take i out) c.args.least c.loop-placed.least c.args.hash_dev.now c.loop-placed.hash_dev) c.loop-placed.auto.block here.calls in
          let call : does c.loop-placed.hash_dev (block_read size p given true) c.read_block.new.device =
          subst (λ (n : ℕ). does c.loop-placed.hash_dev (Read (n * (size / 512)) given true) c.read_block.new.device) (sym number)
          (subst (λ (n : ℕ). does c.loop-placed.hash_dev (Read (c.placed.inside.block * (n / 512)) given true) c.read_block.new.device) c.loop-placed.auto.block c.in_ok-read_block.ensures.call) in
          let block : ComparedBlock = record { placed = p; given = given } in
          let step : (xs : List ComparedBlock) → IsLeastChanged xs c.loop-placed.least → IsLeastChanged (xs ++ block ∷ []) c.if-ne.least = λ xs so. elim c.if-ne.branch [
            | then-ne w ↦
                let differ : given ≢ p.bytes = λ same. ne_differ given c.as_slice.result.now w.if-ne.ensures (same ∙ sym bytes) in
                rw (w.least-is, w.lesser.ensures, ← number) (changed-next xs block c.loop-placed.least differ so)
            | else-ne w ↦ let same : given ≡ p.bytes = ne_same given c.as_slice.result.now w.if-ne.ensures ∙ bytes in rw w.least-is (changed-same xs block c.loop-placed.least same so)
          ] in
          subst (λ (n : ℕ). ComparesAll does n (take (i + 1) out) c.args.least c.if-ne.least c.args.hash_dev.now c.read_block.new.device) (sym now)
          (subst (λ (ps : List PlacedRecord). ComparesAll does size ps c.args.least c.if-ne.least c.args.hash_dev.now c.read_block.new.device) (sym one)
          (compares-more does size (take i out) c.args.least c.loop-placed.least c.args.hash_dev.now c.loop-placed.hash_dev before p given c.read_block.new.device c.if-ne.least call step));
    }

pub loop-placed-init : goal.loop-placed-init
loop-placed-init g c = record {
  read = only_read-none (g.H.BlockDev.state c.args.hash_dev.now);
  full = search rules;
  calls = compares-none (DeviceDoes g.H.BlockDev.state g.H.BlockDev.does) (length c.args.block.now) c.args.least c.args.hash_dev.now;
  least = λ steady ps so. subst (λ (qs : List PlacedRecord). IsLeastDiffering (block_at (g.H.BlockDev.state c.args.hash_dev.now).image (length c.args.block.now)) qs c.args.least) (sym (append-nil ps)) so;
}

-- the read of a block failed
pub returns-in_err-read_block-clause-calls : goal.returns-in_err-read_block-clause-calls
returns-in_err-read_block-clause-calls g c =
    let result = err_from_is_err_and c.from_residual.result c.from_residual.ensures.1 in
    let does = DeviceDoes g.H.BlockDev.state g.H.BlockDev.does in
    let out = c.args.blocks.now in
    let i = c.loop-placed.placed-index in
    let p : PlacedRecord = c.placed-item.result in
    let size = length c.args.block.now in
    let given : List ℕ = c.read_block.new.block in
    let number : p.block ≡ c.placed.inside.block = sym (ap (λ (p : PlacedRecord). p.block) c.placed.view_is) in
    let one : take (i + 1) out ≡ take i out ++ p ∷ [] = take_more out i p c.loop-placed-test.true ∙ ap (λ q. take i out ++ q ∷ []) (sym c.placed-item.is) in
    let before : ComparesAll does size (take i out) c.args.least c.loop-placed.least c.args.hash_dev.now c.loop-placed.hash_dev =
    subst (λ (n : ℕ). ComparesAll does n (take i out) c.args.least c.loop-placed.least c.args.hash_dev.now c.loop-placed.hash_dev) c.loop-placed.auto.block c.loop-placed.invariant.calls in
    let call : does c.loop-placed.hash_dev (block_read size p given false) c.read_block.new.device =
    subst (λ (n : ℕ). does c.loop-placed.hash_dev (Read (n * (size / 512)) given false) c.read_block.new.device) (sym number)
    (subst (λ (n : ℕ). does c.loop-placed.hash_dev (Read (c.placed.inside.block * (n / 512)) given false) c.read_block.new.device) c.loop-placed.auto.block c.in_err-read_block.ensures.call) in
    rw result.1 (compares-failed does size (take i out) c.args.least c.loop-placed.least c.args.hash_dev.now c.loop-placed.hash_dev before p given c.read_block.new.device out (i + 1) one call)

pub returns-clause-calls : goal.returns-clause-calls
returns-clause-calls g c =
    let out = c.args.blocks.now in
    let does = DeviceDoes g.H.BlockDev.state g.H.BlockDev.does in
    let all : take c.loop-placed.placed-index out ≡ out = take_all c.loop-placed.placed-index out c.loop-placed-test.false in
    subst (λ (xs : List PlacedRecord). ComparesAll does (length c.args.block.now) xs c.args.least c.loop-placed.least c.args.hash_dev.now c.loop-placed.hash_dev) all
    (subst (λ (n : ℕ). ComparesAll does n (take c.loop-placed.placed-index out) c.args.least c.loop-placed.least c.args.hash_dev.now c.loop-placed.hash_dev) c.loop-placed.auto.block c.loop-placed.invariant.calls)

pub returns-clause-ok : goal.returns-clause-ok
returns-clause-ok g c =
    let out = c.args.blocks.now in
    let old = g.H.BlockDev.state c.args.hash_dev.now in
    let all : take c.loop-placed.placed-index out ≡ out = take_all c.loop-placed.placed-index out c.loop-placed-test.false in
    record {
      least = subst (λ xs. IsLeastWith old (length c.args.block.now) xs c.args.least c.loop-placed.least) all
          (subst (λ (n : ℕ). IsLeastWith old n (take c.loop-placed.placed-index out) c.args.least c.loop-placed.least) c.loop-placed.auto.block c.loop-placed.invariant.least);
      full = search rules;
    }
