use Rattle.std.proofs.Common.{◌≡◌, ◌/◌, map, length, inr, refl, sym, ap, ◌∙◌, subst, ℕ}
use Rattle.std.proofs.lemmas.List.{with_items_is}
use Rattle.std.specs.Vec.{with_items}
use Rattle.std.specs.Prelude.{is_ok}
use Rattle.block_device.specs.Call.{DeviceDoes, Write}
use Rattle.stack_rules.specs.declared.lower.Lower.TheVariants.{Leaf}
use Rattle.verified_cache.specs.Cache.{CacheRecord}
use Rattle.stack_lines.proofs.lemmas.KeptLemmas.{forgets-leaf}
use Rattle.stack_lines.specs.Caches.{StackCache}
use Rattle.stack_lines.specs.Writing.{sectors_in, destination_of, WritesSectors}
use Rattle.stack_lines.proofs.lemmas.WriteRunLemmas.{length-sectors_in}
use Rattle.stack_engine.proofs.CachedLemmas.{keeps-written}
use Rattle.stack_engine.proofs.PaidLemmas.{leaf-paid}
use Rattle.stack_engine.specs.Backings.{backing_of}
use Rattle.stack_engine.specs.LeafCalls.{IsLeafCall}
use Rattle.stack_engine.specs.WriteSteps.{write_beneath, IsWriteStep}
use Rattle.stack_engine.proofs.UncutLemmas.{leaf-plain}
use Rattle.stack_engine.proofs.write.write_leaf.Goals as goal

pub returns-clause-step : goal.returns-clause-step
returns-clause-step g c =
    let config = c.args.config.now in
    let state = g.D.BlockDev.state in
    let leaf = c.args.leaf in
    let bytes = c.args.bytes.now in
    let n : ℕ = length bytes / 512 in
    let devices = c.args.backing.now.devices in
    let new = c.write_sectors.new.devices in
    let cache = c.args.backing.now.cache in
    let after = c.forget_leaf.new.self in
    let stands : (with_items devices new).items ≡ new = with_items_is devices new (c.write_sectors.auto.devices ∙ ap (λ l. length l) c.as_mut_slice.ensures.value ∙ sym devices.ok.0) in
    let wrote = subst (λ ds. WritesSectors (destination_of config (Leaf leaf)) c.args.first (sectors_in bytes) (map state ds) (map state new) c.write_sectors.result) c.as_mut_slice.ensures.value c.write_sectors.ensures.writes in
    subst (λ ds. IsWriteStep config (write_beneath config (Leaf leaf) c.args.first n) (backing_of state c.args.backing.now) (record { leaves = map state ds; cache = after; restored = c.args.backing.now.restored })) (sym stands) (record {
      uncut = λ cuts. wrote.unread (leaf-plain config leaf c.args.first _);
      paid = λ k. leaf-paid config k leaf c.args.first n (sectors_in bytes) (map state devices.items) (map state new) c.write_sectors.result (length-sectors_in bytes) wrote;
      cached = keeps-written config leaf c.args.first _ _ (map state devices.items) (map state new) cache after wrote.moved c.requires.stack.cached c.forget_leaf.ensures.blocks c.forget_leaf.ensures.rest c.forget_leaf.ensures.covers;
      uncounted = refl;
      forgets = forgets-leaf config leaf c.args.first _ (map state devices.items) (map state new) cache.blocks.blocks after.blocks.blocks wrote.moved.others (ap (λ (k : CacheRecord). k.blocks) c.forget_leaf.ensures.blocks);
      drops = record { is = inr (ap (λ (k : StackCache). k.last) c.forget_leaf.ensures.rest) };
    })

pub returns-clause-call : goal.returns-clause-call
returns-clause-call g c =
    let does = DeviceDoes g.D.BlockDev.state g.D.BlockDev.does in
    let devices = c.args.backing.now.devices in
    let new = c.write_sectors.new.devices in
    let call = Write c.args.first c.args.bytes.now (is_ok c.write_sectors.result) in
    let stands : (with_items devices new).items ≡ new = with_items_is devices new (c.write_sectors.auto.devices ∙ ap (λ l. length l) c.as_mut_slice.ensures.value ∙ sym devices.ok.0) in
    subst (λ ds. IsLeafCall does c.args.leaf devices.items call ds) (sym stands) (subst (λ ds. IsLeafCall does c.args.leaf ds call new) c.as_mut_slice.ensures.value c.write_sectors.ensures.call)
