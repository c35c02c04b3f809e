-- Reads of runs of blocks from the copies: one call, one after another, and in their order.
use Rattle.std.proofs.Common.{◌≡◌, ◌<◌, ◌≤◌, ◌+◌, ◌-◌, ◌*◌, ◌/◌, ◌^◌, ℕ, suc, Bool, true, false, nat_lt, List, [], ◌∷◌, ◌++◌, length, map, set, get_or, min, None, Result, Ok, Err, ap, sym, ◌∙◌, subst, refl, arith, inl, inr}
use Rattle.std.specs.Prelude.{OnOk, if◌then◌else◌}
use Rattle.std.specs.Result.{result_err}
use Rattle.std.proofs.Math.ListN.{length-set}
use Rattle.std.proofs.Math.Nat.{suc-mul}
use Rattle.std.proofs.lemmas.Bool.{ltb-false}
use Rattle.std.proofs.lemmas.List.{get_or-map, length-map, set-get_or}
use Rattle.block_device.specs.Call.{Call, DeviceDoes, IsCall, Read}
use Rattle.block_device.specs.Device.{Device}
use Rattle.tree_repair.specs.declared.fault.RepairFault.{RepairFault}
use Rattle.tree_repair.specs.CopyReads.{AreInOrder, CopyBlock, CopyRead, FetchesRun, IsNotBefore, LeavesCopies, ReadsAreFew, ReadsCopy, ReadsCopyOnce, ReadsEach, ReadsInOrder, ReadsRunOnce, ReadsRuns, ReadsSeed, ReadsSeeds, blocks_fetched, copy_block, copy_read, short_runs}
use Rattle.tree_repair.specs.Fetches.{AreLacking, IsLacking, IsNotLacking, IsReadAtMostOnce, IsWholeRun, most_blocks}
use Rattle.tree_repair.specs.RepairCalls.{IsReadOnce}
use Rattle.tree_repair.specs.Runs.{HasRun, Job}
use Rattle.tree_repair.specs.Worlds.{IsWorldRead, RepairWorld}
use Rattle.tree_repair.proofs.RunLemmas.{runs-read, runs-then, world-none, world-then}
use Rattle.tree_repair.proofs.SourceLemmas.{each-none, new-here, new-other}

-- ---- one call

call-of : {B : Type 0} (state : B → Device) (does : B → Call → B → Type 0) (first : ℕ) (bytes : List ℕ) (a b : B) → IsReadOnce (DeviceDoes state does) first bytes a b
    → (ok : Bool) × IsCall (state a) (Read first bytes ok) (state b)
call-of {B} state does first bytes a b once = (once.0, subst (λ (x : B). IsCall (state a) (Read first bytes once.0) (state x)) (sym once.1.2) once.1.1.0)

-- copy k was read by at most one call, and the others weren't accessed
pub copy-once : {X : Type 0} (state : X → Device) (does : X → Call → X → Type 0) (xs : List X) (k : ℕ) (d v : X) (first : ℕ) (bytes : List ℕ) → k < length xs
    → IsReadAtMostOnce (DeviceDoes state does) first bytes (get_or xs k d) v → ReadsCopyOnce k first bytes (map state xs) (map state (set xs k v))
copy-once {X} state does xs k d v first bytes inside (inl same) =
    inl (ap (λ (l : List X). map state l) (ap (λ (x : X). set xs k x) same ∙ set-get_or xs k d))
copy-once {X} state does xs k d v first bytes inside (inr (low, once)) =
    let call = call-of state does first bytes (get_or xs k d) v once in
    inr (record {
      inside = omega (arith, inside, length-map xs state);
      count = length-map (set xs k v) state ∙ length-set xs k v ∙ sym (length-map xs state);
      low = low;
      ok = call.0;
      call = λ e.
          subst (λ (x : Device). IsCall x (Read first bytes call.0) (get_or (map state (set xs k v)) k e)) (sym (get_or-map state xs k d e inside))
          (subst (IsCall (state (get_or xs k d)) (Read first bytes call.0)) (sym (new-here state (map state xs) xs k d v inside (each-none (map state xs)) e)) call.1);
      others = λ j other e. new-other state (map state xs) xs k d v inside (each-none (map state xs)) j e other;
    })

-- a sector whose number was computed without being cut off
pub at-sector : (k sector first : ℕ) (bytes : List ℕ) (copies copies' : List Device) → sector ≡ min first (2 ^ 64 - 1) → ReadsCopyOnce k sector bytes copies copies' → ReadsCopyOnce k first bytes copies copies'
at-sector k sector first bytes copies copies' is (inl same) = inl same
at-sector k sector first bytes copies copies' is (inr reads) =
    let here : sector ≡ first = omega (arith, is, reads.low) in
    inr (subst (λ (n : ℕ). ReadsCopy k n bytes copies copies') here reads)

-- ---- no copy was accessed

pub leaves-none : (j : Job) (w : RepairWorld) → LeavesCopies j w w
leaves-none j w = record { visits = []; runs = world-none w; kept = refl }

pub leaves-read : (j : Job) (a b : RepairWorld) → IsWorldRead a b → b.data_copies ≡ a.data_copies → LeavesCopies j a b
leaves-read j a b read kept = record { visits = []; runs = read; kept = kept }

pub leaves-run : (j : Job) (a b : RepairWorld) → HasRun j a b None None None → b.data_copies ≡ a.data_copies → LeavesCopies j a b
leaves-run j a b run kept = record { visits = run.visits; runs = run.runs; kept = kept }

leaves-then : (j : Job) (a b c : RepairWorld) → LeavesCopies j a b → LeavesCopies j b c → LeavesCopies j a c
leaves-then j a b c p q = record { visits = p.visits ++ q.visits; runs = runs-then j p.visits q.visits a b c p.runs q.runs; kept = q.kept ∙ p.kept }

-- ---- one run

-- at most one call, and nothing after it
pub once-read : (j : Job) (r : CopyRead) (bytes : List ℕ) (a b : RepairWorld) → IsWorldRead a b → length bytes ≤ (r.end - r.first) * j.tree.shape.data_block
    → ReadsCopyOnce r.copy (r.first * (j.tree.shape.data_block / 512)) bytes a.data_copies b.data_copies → ReadsRunOnce j r a b
once-read j r bytes a b read short once = record { between = b; read = read; bytes = bytes; short = short; once = once; after = leaves-none j b }

pub once-then : (j : Job) (r : CopyRead) (a b c : RepairWorld) → ReadsRunOnce j r a b → LeavesCopies j b c → ReadsRunOnce j r a c
once-then j r a b c once leaves = record { between = once.between; read = once.read; bytes = once.bytes; short = once.short; once = once.once; after = leaves-then j once.between b c once.after leaves }

-- ---- one read after another

module _ (Reads : CopyRead → RepairWorld → RepairWorld → Type 0) (j : Job) where
  each-behind : (reads : List CopyRead) (a b c : RepairWorld) → LeavesCopies j a b → ReadsEach Reads j reads b c → ReadsEach Reads j reads a c
  each-behind [] a b c leaves made = leaves-then j a b c leaves made
  each-behind (r ∷ more) a b c leaves (x, (y, (first, rest))) = (x, (y, (leaves-then j a b x leaves first, rest)))

  each-then : (reads more : List CopyRead) (a b c : RepairWorld) → ReadsEach Reads j reads a b → ReadsEach Reads j more b c → ReadsEach Reads j (reads ++ more) a c
  each-then [] more a b c leaves made = each-behind more a b c leaves made
  each-then (r ∷ rest) more a b c (x, (y, (first, (here, last)))) made = (x, (y, (first, (here, each-then rest more y b c last made))))

-- ---- the order

not_before-then : (p q s : CopyBlock) → IsNotBefore p q → IsNotBefore q s → IsNotBefore p s
not_before-then p q s (inl less) (inl more) = inl (omega (arith, less, more))
not_before-then p q s (inl less) (inr same) = inl (omega (arith, less, same.0))
not_before-then p q s (inr same) (inl more) = inl (omega (arith, same.0, more))
not_before-then p q s (inr same) (inr last) = inr (same.0 ∙ last.0, omega (arith, same.1, last.1))

order-behind : (reads : List CopyRead) (p q s : CopyBlock) → IsNotBefore p q → AreInOrder reads q s → AreInOrder reads p s
order-behind [] p q s before ordered = not_before-then p q s before ordered
order-behind (r ∷ more) p q s before ordered = (not_before-then p q (copy_block r.copy r.first) before ordered.0, ordered.1)

order-then : (reads more : List CopyRead) (p q s : CopyBlock) → AreInOrder reads p q → AreInOrder more q s → AreInOrder (reads ++ more) p s
order-then [] more p q s before ordered = order-behind more p q s before ordered
order-then (r ∷ rest) more p q s (first, last) ordered = (first, order-then rest more (copy_block r.copy r.end) q s last ordered)

-- ---- both

pub reads-none : {Reads : CopyRead → RepairWorld → RepairWorld → Type 0} (j : Job) (p : CopyBlock) (w : RepairWorld) → ReadsInOrder Reads j p p w w
reads-none j p w = record { reads = []; made = leaves-none j w; ordered = inr (refl, omega arith) }

pub reads-then : {Reads : CopyRead → RepairWorld → RepairWorld → Type 0} (j : Job) (p q s : CopyBlock) (a b c : RepairWorld) → ReadsInOrder Reads j p q a b → ReadsInOrder Reads j q s b c → ReadsInOrder Reads j p s a c
reads-then {Reads} j p q s a b c h last = record {
  reads = h.reads ++ last.reads;
  made = each-then Reads j h.reads last.reads a b c h.made last.made;
  ordered = order-then h.reads last.reads p q s h.ordered last.ordered;
}

-- nothing was read, up to a later block
pub reads-leave : {Reads : CopyRead → RepairWorld → RepairWorld → Type 0} (j : Job) (p q : CopyBlock) (a b : RepairWorld) → IsNotBefore p q → LeavesCopies j a b → ReadsInOrder Reads j p q a b
reads-leave j p q a b before leaves = record { reads = []; made = leaves; ordered = before }

pub reads-end : {Reads : CopyRead → RepairWorld → RepairWorld → Type 0} (j : Job) (p q s : CopyBlock) (a b c : RepairWorld) → ReadsInOrder Reads j p q a b → IsNotBefore q s → LeavesCopies j b c → ReadsInOrder Reads j p s a c
reads-end j p q s a b c h before leaves = reads-then j p q s a b c h (reads-leave j q s b c before leaves)

-- a run was sought from a block on, and then read
module _ (j : Job) (r : CopyRead) (from : ℕ) (a seen : RepairWorld) (begins : from ≤ r.first) (ends : r.first ≤ r.end) (read : IsWorldRead a seen) (kept : seen.data_copies ≡ a.data_copies) (lacking : IsLacking j r.first a seen)
    (others : AreLacking j r.first r.end a seen) (whole : IsWholeRun j j.tree.shape.data_block r.first r.end a) where
  pub reads-run : (c : RepairWorld) → ReadsRunOnce j r seen c → ReadsRuns j (copy_block r.copy from) (copy_block r.copy r.end) a c
  reads-run c once = elim once.once [
    | inl same ↦ record {
      reads = [];
      made = leaves-then j a once.between c
          (record { visits = []; runs = runs-read j [] a seen once.between read once.read; kept = same ∙ kept }) once.after;
      ordered = inr (refl, omega (arith, begins, ends));
    }
    | inr reads ↦ record {
      reads = r ∷ [];
      made = (
        a,
        (
          once.between,
          (
            leaves-none j a,
            (
              record {
                seen = seen;
                lacking = lacking;
                others = others;
                whole = whole;
                bytes = once.bytes;
                short = once.short;
                reads = subst (λ (l : List Device). ReadsCopy r.copy (r.first * (j.tree.shape.data_block / 512)) once.bytes l once.between.data_copies) kept reads;
                read = once.read;
              },
              once.after,
            ),
          ),
        ),
      );
      ordered = (inr (refl, begins), inr (refl, omega arith));
    }
  ]

-- a block was sought in a copy, and then read at most once
module _ (j : Job) (k i source : ℕ) (bytes : List ℕ) (a seen between c : RepairWorld) (lacking : IsLacking j i a seen) (kept : seen.data_copies ≡ a.data_copies) (sought : IsWorldRead a seen)
    (read : IsWorldRead seen between) (size : length bytes ≡ j.tree.shape.data_block) (once : ReadsCopyOnce k (source * (j.tree.shape.data_block / 512)) bytes seen.data_copies between.data_copies) (after : LeavesCopies j between c) where
  pub reads-seed : ReadsSeeds j (copy_block k i) (copy_block k (i + 1)) a c
  reads-seed = elim once [
    | inl same ↦ record {
      reads = [];
      made = leaves-then j a between c (record { visits = []; runs = world-then a seen between sought read; kept = same ∙ kept }) after;
      ordered = inr (refl, omega arith);
    }
    | inr reads ↦ record {
      reads = copy_read k i (i + 1) ∷ [];
      made = (
        a,
        (
          between,
          (
            leaves-none j a,
            (
              record {
                one = refl;
                seen = seen;
                lacking = lacking;
                source = source;
                bytes = bytes;
                size = size;
                reads = subst (λ (l : List Device). ReadsCopy k (source * (j.tree.shape.data_block / 512)) bytes l between.data_copies) kept reads;
                read = read;
              },
              after,
            ),
          ),
        ),
      );
      ordered = (inr (refl, omega arith), inr (refl, omega arith));
    }
  ]

-- blocks were visited before, and no copy was accessed
seeds-behind : (j : Job) (p q : CopyBlock) (a b c : RepairWorld) → LeavesCopies j a b → ReadsSeeds j p q b c → ReadsSeeds j p q a c
seeds-behind j p q a b c leaves h = record { reads = h.reads; made = each-behind (ReadsSeed j) j h.reads a b c leaves h.made; ordered = h.ordered }

-- ---- by the result of the call

pub on_ok-run : {T Q : Type 0} {j : Job} {a b : RepairWorld} (r : Result T RepairFault) → HasRun j a b None None (result_err r) → (HasRun j a b None None None → Q) → OnOk r Q
on_ok-run (Ok x) run holds = holds run
on_ok-run (Err e) run holds = tt

pub seeds-ok : {T E : Type 0} (r : Result T E) (j : Job) (p q : CopyBlock) (a b c : RepairWorld) → LeavesCopies j a b → OnOk r (ReadsSeeds j p q b c) → OnOk r (ReadsSeeds j p q a c)
seeds-ok (Ok x) j p q a b c leaves h = seeds-behind j p q a b c leaves h
seeds-ok (Err e) j p q a b c leaves h = tt

-- ---- how many reads there are

few-step : (test : Bool) (x l s b most : ℕ) → (test ≡ false → most ≤ x) → l * most ≤ s * most + b → suc l * most ≤ ((if test then 1 else 0) + s) * most + (x + b)
few-step true x l s b most whole less =
    let one : 1 + s ≡ suc s = omega arith in
    let right : (1 + s) * most ≡ s * most + most = ap (λ (n : ℕ). n * most) one ∙ suc-mul s most in
    omega (arith, suc-mul l most, right, less)
few-step false x l s b most whole less =
    let none : 0 + s ≡ s = omega arith in
    let right : (0 + s) * most ≡ s * most = ap (λ (n : ℕ). n * most) none in
    omega (arith, suc-mul l most, right, less, whole refl)

few-reads : (most : ℕ) (reads : List CopyRead) → length reads * most ≤ short_runs most reads * most + blocks_fetched reads
few-reads most [] = omega arith
few-reads most (r ∷ more) = few-step (nat_lt (r.end - r.first) most) (r.end - r.first) (length more) (short_runs most more) (blocks_fetched more) most (ltb-false (r.end - r.first) most) (few-reads most more)

short-ends : (j : Job) (r : CopyRead) (w w' : RepairWorld) → FetchesRun j r w w' → r.end < r.first + most_blocks j.tree.shape.data_block → r.end < 2 ^ 64 - 1 → IsNotLacking j r.end w
short-ends j r w w' fetches short low = elim fetches.whole [
  | inl whole ↦ absurd (omega (arith, whole, short, low))
  | inr here ↦ here
]

pub reads-few : ReadsAreFew
reads-few = record { few = few-reads; ends = short-ends }
