-- The calls of a sync, leaf by leaf.
use Rattle.std.proofs.Common.{◌≡◌, ℕ, zero, suc, ◌+◌, ◌-◌, ◌<◌, ◌≤◌, Bool, false, true, IsTrue, List, [], ◌∷◌, ◌++◌, length, map, set, take, get_or, refl, ap, sym, ◌∙◌, subst, arith, Ok, Err}
use Rattle.std.specs.Prelude.{if◌then◌else◌}
use Rattle.std.proofs.lemmas.List.{get_or-map, length-map, set-get_or, take_all}
use Rattle.block_device.specs.Call.{Call, Sync}
use Rattle.block_device.specs.Device.{Device}
use Rattle.stack_meaning.specs.declared.fault.IoFault.TheVariants as io
use Rattle.stack_engine.specs.LeafCalls.{LeafCall, LeafCalls, MakesCalls}
use Rattle.stack_engine.specs.Syncs.{AreSyncCalls, CallsIf, sync_of, synced_first, syncs_from}
use Rattle.stack_engine.proofs.LeafCallLemmas.{leaf_calls-append}
use Rattle.stack_engine.proofs.StackLemmas.{leaf-called}
use Rattle.stack_engine.proofs.lemmas.SyncLemmas.{length-first, synced-at}

-- a call more or none, before equal lists
called-first : (b : Bool) (x : LeafCall) (calls some later : List LeafCall) → calls ≡ some ++ later → (if b then x ∷ calls else calls) ≡ (if b then x ∷ some else some) ++ later
called-first true x calls some later same = ap (λ (l : List LeafCall). x ∷ l) same
called-first false x calls some later same = same

-- the calls of one leaf more, of which the first leaf is leaf j
syncs-next : (j k i : ℕ) (leaves : List Device) (d : Device) → j + i ≡ k → i < length leaves → syncs_from j (take (suc i) leaves) ≡ syncs_from j (take i leaves) ++ syncs_from k (get_or leaves i d ∷ [])
syncs-next j k i [] d at inside = absurd (omega (arith, inside))
syncs-next j k zero (x ∷ more) d at inside = let same : j ≡ k = omega (arith, at) in ap (λ (n : ℕ). syncs_from n (x ∷ [])) same
syncs-next j k (suc i) (x ∷ more) d at inside =
    called-first x.dirty (sync_of j true) (syncs_from (suc j) (take (suc i) more)) (syncs_from (suc j) (take i more)) (syncs_from k (get_or more i d ∷ []))
    (syncs-next (suc j) k i more d (omega (arith, at)) (omega (arith, inside)))

module _ {D : Type 0} (state : D → Device) (does : D → Call → D → Type 0) where
  -- the calls of one leaf
  leaf-synced : (xs : List D) (i : ℕ) (d v : D) (dirty : Bool) → i < length xs → CallsIf does dirty (get_or xs i d) (Sync true) v → LeafCalls does xs (if dirty then sync_of i true ∷ [] else []) (set xs i v)
  leaf-synced xs i d v true there made = (set xs i v, leaf-called does xs i d there (Sync true) v made, refl)
  leaf-synced xs i d v false there same = ap (λ (x : D). set xs i x) same ∙ set-get_or xs i d

  pub dirty-called : (x v : D) (call : Call) (dirty : Bool) → IsTrue dirty → CallsIf does dirty x call v → does x call v
  dirty-called x v call dirty is made = subst (λ (b : Bool). CallsIf does b x call v) is made

  module _ (old xs : List D) (i : ℕ) (d v : D) (there : i < length xs) (same : map state xs ≡ synced_first i (map state old)) (so_far : LeafCalls does old (syncs_from 0 (take i (map state old))) xs) where
    leaf-dirty : (state (get_or xs i d)).dirty ≡ (get_or (map state old) i (state d)).dirty
    leaf-dirty = ap (λ (x : Device). x.dirty) (sym (get_or-map state xs i d (state d) there) ∙ ap (λ (l : List Device). get_or l i (state d)) same ∙ synced-at (map state old) i (state d))

    pub syncs-more : CallsIf does (state (get_or xs i d)).dirty (get_or xs i d) (Sync true) v → LeafCalls does old (syncs_from 0 (take (i + 1) (map state old))) (set xs i v)
    syncs-more made =
        let leaves = map state old in
        let inside : i < length leaves = omega (arith, there, length-map xs state, ap (λ (l : List Device). length l) same, length-first leaves i) in
        let one = leaf-synced xs i d v (get_or leaves i (state d)).dirty there (subst (λ (b : Bool). CallsIf does b (get_or xs i d) (Sync true) v) leaf-dirty made) in
        let count : suc i ≡ i + 1 = omega arith in
        let all = sym (syncs-next 0 i i leaves (state d) (omega arith) inside) ∙ ap (λ (n : ℕ). syncs_from 0 (take n leaves)) count in
        subst (λ (l : List LeafCall). LeafCalls does old l (set xs i v)) all
        (leaf_calls-append does old xs (set xs i v) (syncs_from 0 (take i leaves)) (syncs_from i (get_or leaves i (state d) ∷ [])) so_far one)

    pub syncs-fail : does (get_or xs i d) (Sync false) v → MakesCalls does (AreSyncCalls (map state old) (Err (io.Device (i + 1)))) old (set xs i v)
    syncs-fail made =
        let leaves = map state old in
        let calls = syncs_from 0 (take i leaves) ++ (sync_of i false ∷ []) in
        let count : i ≡ i + 1 - 1 = omega arith in
        record {
          calls = calls;
          are = ap (λ (k : ℕ). syncs_from 0 (take k leaves) ++ (sync_of k false ∷ [])) count;
          made = leaf_calls-append does old xs (set xs i v) (syncs_from 0 (take i leaves)) (sync_of i false ∷ []) so_far (set xs i v, leaf-called does xs i d there (Sync false) v made, refl);
        }

  -- all of them
  pub syncs-all : (old xs : List D) (i : ℕ) → length old ≤ i → LeafCalls does old (syncs_from 0 (take i (map state old))) xs → MakesCalls does (AreSyncCalls (map state old) (Ok tt)) old xs
  syncs-all old xs i long made = record {
    calls = syncs_from 0 (take i (map state old));
    are = ap (λ (l : List Device). syncs_from 0 l) (take_all i (map state old) (omega (arith, long, length-map old state)));
    made = made;
  }
