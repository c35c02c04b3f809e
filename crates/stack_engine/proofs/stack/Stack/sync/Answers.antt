use Rattle.std.proofs.Common.{◌≡◌, length, map, refl, sym, ap, ◌∙◌, subst}
use Rattle.std.proofs.lemmas.List.{with_items_is}
use Rattle.stack_meaning.specs.Leaves.{AreRead}
use Rattle.stack_engine.specs.Stacks.{StackRecord, IsStack}
use Rattle.stack_engine.specs.Syncs.{MakesSyncs, NeverFail}
use Rattle.stack_engine.proofs.CachedLemmas.{cached-read}
use Rattle.stack_engine.proofs.lemmas.PieceLemmas.{piece-sound}
use Rattle.stack_engine.proofs.lemmas.SyncLemmas.{sync-read, sync-sure}
use Rattle.stack_engine.proofs.stack.Stack.sync.Goals as goal

pub invariant_of-self : goal.invariant_of-self
invariant_of-self g c =
    let state = g.D.BlockDev.state in
    let config = c.self.inside.config in
    let devices = c.self.inside.backing.devices in
    let old = map state devices.items in
    let new = map state c.sync_leaves.new.devices in
    let held : length c.sync_leaves.new.devices ≡ devices.len = c.sync_leaves.auto.devices ∙ ap (λ l. length l) c.as_mut_slice.ensures.value ∙ sym devices.ok.0 in
    let read : AreRead old 0 new = sync-read old new c.sync_leaves.result (rw c.as_mut_slice.ensures.value at c.sync_leaves.ensures.ok) (rw c.as_mut_slice.ensures.value at c.sync_leaves.ensures.err) in
    subst (λ l. IsStack config (map state l) c.self.inside.backing.cache) (sym (with_items_is devices c.sync_leaves.new.devices held))
    (record { sound = piece-sound config c.self.invariant.sound read; cached = cached-read config c.self.inside.backing.cache read c.self.invariant.cached })

pub returns-clause-sure : goal.returns-clause-sure
returns-clause-sure g c = λ never.
    let state = g.D.BlockDev.state in
    let old = map state c.self.inside.backing.devices.items in
    sync-sure old (map state c.sync_leaves.new.devices) c.sync_leaves.result (rw c.as_mut_slice.ensures.value at c.sync_leaves.ensures.err)
    (subst (λ (v : StackRecord). NeverFail v.leaves) (sym c.self.view_is) never)

pub returns-clause-called : goal.returns-clause-called
returns-clause-called g c =
    let state = g.D.BlockDev.state in
    let does = g.D.BlockDev.does in
    let devices = c.self.inside.backing.devices in
    let new = c.sync_leaves.new.devices in
    let held : length new ≡ devices.len = c.sync_leaves.auto.devices ∙ ap (λ l. length l) c.as_mut_slice.ensures.value ∙ sym devices.ok.0 in
    let made = rw c.as_mut_slice.ensures.value at c.sync_leaves.ensures.called in
    let own : MakesSyncs state does (map state devices.items) c.sync_leaves.result (map state new) = record { before = devices.items; after = new; was = refl; is = refl; made = made } in
    subst (λ l. MakesSyncs state does c.args.self.now.leaves c.sync_leaves.result (map state l)) (sym (with_items_is devices new held))
    (subst (λ (w : StackRecord). MakesSyncs state does w.leaves c.sync_leaves.result (map state new)) c.self.view_is own)
