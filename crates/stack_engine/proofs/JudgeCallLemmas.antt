-- Calls of reads that judge the blocks of a round, and restore the lost ones.
use Rattle.std.proofs.Common.{◌≡◌, ◌⊎◌, ℕ, suc, ◌+◌, ◌-◌, ◌*◌, ◌/◌, ◌<◌, ◌≤◌, Bool, true, false, List, ◌++◌, length, Option, Some, None, Result, Ok, Err, inl, inr, refl, sym, ap, ◌∙◌, arith, subst}
use Rattle.block_device.specs.Call.{Call}
use Rattle.tree_shape.specs.Digests.{digest}
use Rattle.tree_shape.specs.Shape.{levels}
use Rattle.dm_table.specs.declared.parity.Parity.{Parity}
use Rattle.dm_table.specs.declared.verity.Verity.{Verity}
use Rattle.stack_rules.specs.Records.{Configuration}
use Rattle.stack_rules.specs.Trees.{block_sectors, round_count, tree_of}
use Rattle.stack_meaning.specs.declared.fault.Fault.{Fault}
use Rattle.stack_meaning.specs.declared.fault.Fault.TheVariants as why
use Rattle.stack_meaning.specs.declared.fault.IoFault.{IoFault}
use Rattle.stack_meaning.specs.declared.fault.IoFault.TheVariants as io
use Rattle.stack_meaning.specs.Blocks.{next_digest}
use Rattle.stack_meaning.specs.Erasures.{PathEnd, is_among, path_end}
use Rattle.stack_lines.specs.declared.source.Source.TheVariants.{Below}
use Rattle.stack_lines.specs.declared.tree.Extent.{Extent}
use Rattle.stack_lines.specs.declared.tree.Tree.{Tree}
use Rattle.stack_engine.specs.declared.losses.Judged.{Judged}
use Rattle.stack_engine.specs.declared.losses.Judged.TheVariants as is
use Rattle.stack_engine.specs.declared.spare.Stored.{Stored}
use Rattle.stack_engine.specs.Erasures.{LossRecord, added_columns, added_parity, are_whole, column, judge_by, no_columns, noted, own_loss, vain_fault}
use Rattle.stack_engine.specs.Healing.{healed_result}
use Rattle.stack_engine.specs.LeafCalls.{LeafCall}
use Rattle.stack_engine.specs.Restored.{Served}
use Rattle.stack_engine.specs.SectorCalls.{
  DataPlace,
  Gives,
  IsJudgedBy,
  LeadsTo,
  ReadCalls,
  ReadOf,
  ReadsBy,
  at_place,
  block_at,
  columns_of,
  covered_at,
  digest_of,
  erased_of,
  expected_hash,
  hash_of,
  judged_of,
  known_of,
  other_at,
  other_number,
  place_in,
  restored_of,
  columns_added,
  columns_ended,
  columns_past,
  columns_stop,
  columns_unread,
  digest_found,
  digest_next,
  digest_stops,
  erased_full,
  erased_judged,
  erased_none,
  judged_all,
  judged_full,
  judged_many,
  judged_next,
  judged_past,
  judged_refused,
  judged_short,
  judged_stops,
  known_beneath,
  known_none,
  restored_differs,
  restored_unread,
  restored_whole,
}
use Rattle.stack_engine.specs.Spares.{IsNext, IsStoredAt, JudgesTo}
use Rattle.stack_engine.proofs.LeafCallLemmas.{makes-then}
use Rattle.stack_engine.proofs.MendCallLemmas.{leads-then, parity-at}
use Rattle.stack_engine.proofs.ReadCallLemmas.{reads-none, reads-as, reads-then}

same-level : (n height : ℕ) → 0 < height → height ≤ n → n - suc (n - height) ≡ height - 1
same-level n height low most = omega (arith, low, most)

next-count : (n height : ℕ) → 0 < height → height ≤ n → suc (n - height) ≡ n - (height - 1)
next-count n height low most = omega (arith, low, most)

module _ {D : Type 0} {does : D → Call → D → Type 0} {c : Configuration} where
  -- three reads, one after another
  reads-three : {what path rest all : ReadOf} {old mid next new : Served D} {own known answer end : Result (List ℕ) IoFault}
      → ((calls more later : List LeafCall) → ReadCalls c what calls old.restored mid.restored own → ReadCalls c path more mid.restored next.restored known → ReadCalls c rest later next.restored new.restored answer → ReadCalls c all (calls ++ (more ++ later)) old.restored new.restored end)
      → ReadsBy does c what old mid own → ReadsBy does c path mid next known → ReadsBy does c rest next new answer → ReadsBy does c all old new end
  reads-three {what = what} {path = path} {rest = rest} {all = all} {old = old} {mid = mid} {next = next} {new = new} {own = own} {known = known} {answer = answer} {end = end} both h k r = record {
    made = makes-then (λ calls tail a t. subst (λ (xs : List LeafCall). ReadCalls c all (calls ++ xs) old.restored new.restored end) t.2 (both calls t.0.0 t.0.1 a t.1.0 t.1.1)) h.made
        (makes-then {Both = λ tail. (parts : List LeafCall × List LeafCall) × (ReadCalls c path parts.0 mid.restored next.restored known × ReadCalls c rest parts.1 next.restored new.restored answer) × (parts.0 ++ parts.1 ≡ tail)} (λ more later a b. ((more, later), (a, b), refl)) k.made r.made);
  }

  -- ---- a block that is judged

  pub judges-refused : {p : DataPlace} {q : Parity} {i : ℕ} {l : LossRecord} {k : ℕ} (expected : List ℕ) {old new : Served D} (other : Fault) → IsNext q p.index i l k → ReadsBy does c (block_at p k) old new (Err (io.Stack other))
      → JudgesTo does c p q i l expected old new (Ok is.Lost)
  judges-refused expected other next own = record { later = λ end answer rest. reads-then (λ calls later a b. judged_refused next.few next.low next.at a b) own rest }

  pub judges-short : {p : DataPlace} {q : Parity} {i : ℕ} {l : LossRecord} {k : ℕ} (expected : List ℕ) {old new : Served D} → IsNext q p.index i l k → ReadsBy does c (block_at p k) old new (Err io.NoMemory)
      → JudgesTo does c p q i l expected old new (Err io.NoMemory)
  judges-short expected next own = reads-as (λ calls a. judged_short next.few next.low next.at a) own

  pub judges-by : {p : DataPlace} {q : Parity} {i : ℕ} {l : LossRecord} {k : ℕ} (expected : List ℕ) {old mid new : Served D} {own known : Result (List ℕ) IoFault} (result : Result Judged IoFault) → IsNext q p.index i l k
      → ReadsBy does c (block_at p k) old mid own → ReadsBy does c (known_of p k) mid new known → IsJudgedBy p.verity.salt own known result → JudgesTo does c p q i l expected old new result
  judges-by expected (Ok judged) next own path by = record { later = λ end answer rest. reads-three (λ calls more later a b r. judged_next judged next.few next.low next.at a b by r) own path rest }
  judges-by expected (Err fault) next own path by = reads-then (λ calls more a b. judged_stops next.few next.low next.at a b by) own path

  -- ---- the known digest

  pub known-past : (p : DataPlace) (k : ℕ) {old : Served D} → path_end p.verity k ≡ None → ReadsBy does c (known_of p k) old old (Err (io.Stack why.Mismatch))
  known-past p k none = reads-none (known_none none)

  pub known-given : {p : DataPlace} {k : ℕ} {old new : Served D} {answer : Result (List ℕ) IoFault} (end : PathEnd) → path_end p.verity k ≡ Some end → ReadsBy does c (digest_of p end 0 p.verity.root) old new answer → ReadsBy does c (known_of p k) old new answer
  known-given end at got = reads-as (λ calls a. known_beneath at a) got

  -- the next hash block
  pub digest-led : {p : DataPlace} {end : PathEnd} {first expected block : List ℕ} {n : ℕ} {old mid new : Served D} → n < end.above → LeadsTo does c (digest_of p end 0 first) (digest_of p end n expected) old mid
      → ReadsBy does c (hash_of (expected_hash (at_place p end.index) (levels (tree_of p.verity) - suc n) expected)) mid new (Ok block)
      → LeadsTo does c (digest_of p end 0 first) (digest_of p end (suc n) (next_digest p.verity (levels (tree_of p.verity) - suc n) end.index block)) old new
  digest-led low led got = leads-then led (record { later = λ end answer rest. reads-then (λ calls later a b. digest_next low a b) got rest })

  pub digest-lost : {p : DataPlace} {end : PathEnd} {first expected : List ℕ} {n : ℕ} {fault : IoFault} {old mid new : Served D} → n < end.above → LeadsTo does c (digest_of p end 0 first) (digest_of p end n expected) old mid
      → ReadsBy does c (hash_of (expected_hash (at_place p end.index) (levels (tree_of p.verity) - suc n) expected)) mid new (Err fault) → ReadsBy does c (digest_of p end 0 first) old new (Err fault)
  digest-lost {fault = fault} {new = new} low led got = led.later new (Err fault) (reads-as (λ calls a. digest_stops low a) got)

  pub digest-given : {p : DataPlace} {end : PathEnd} {first expected : List ℕ} {n : ℕ} {old new : Served D} → n ≡ end.above → LeadsTo does c (digest_of p end 0 first) (digest_of p end n expected) old new → ReadsBy does c (digest_of p end 0 first) old new (Ok expected)
  digest-given {p = p} {end = end} {expected = expected} {old = old} {new = new} all led =
      led.later new (Ok expected) (subst (λ (k : ℕ). ReadsBy does c (digest_of p end k expected) new new (Ok expected)) (sym all) (reads-none (digest_found p expected)))

  at-level : (v : Verity) (tree : Tree) (end : PathEnd) (height : ℕ) → 0 < height → height ≤ levels (tree_of v) → (expected : List ℕ) → {old new : Served D} {answer : Result (List ℕ) IoFault} → ReadsBy does c (hash_of (expected_hash (place_in v tree end.index) (height - 1) expected)) old new answer
      → ReadsBy does c (hash_of (expected_hash (place_in v tree end.index) (levels (tree_of v) - suc (levels (tree_of v) - height)) expected)) old new answer
  at-level v tree end height low most expected {old = old} {new = new} {answer = answer} got =
      subst (λ (l : ℕ). ReadsBy does c (hash_of (expected_hash (place_in v tree end.index) l expected)) old new answer) (sym (same-level (levels (tree_of v)) height low most)) got

  -- by the level, counted from the bottom
  module _ (v : Verity) (tree : Tree) (j : ℕ) {end : PathEnd} {first expected : List ℕ} (height : ℕ) (low : 0 < height) (most : height ≤ levels (tree_of v)) {old mid new : Served D}
      (led : LeadsTo does c (digest_of (place_in v tree j) end 0 first) (digest_of (place_in v tree j) end (levels (tree_of v) - height) expected) old mid) where
    pub digest-down : (block : List ℕ) → levels (tree_of v) - height < end.above → ReadsBy does c (hash_of (expected_hash (place_in v tree end.index) (height - 1) expected)) mid new (Ok block)
        → LeadsTo does c (digest_of (place_in v tree j) end 0 first) (digest_of (place_in v tree j) end (levels (tree_of v) - (height - 1)) (next_digest v (height - 1) end.index block)) old new
    digest-down block less got =
        subst (λ (n : ℕ). LeadsTo does c (digest_of (place_in v tree j) end 0 first) (digest_of (place_in v tree j) end n (next_digest v (height - 1) end.index block)) old new) (next-count (levels (tree_of v)) height low most)
        (subst (λ (l : ℕ). LeadsTo does c (digest_of (place_in v tree j) end 0 first) (digest_of (place_in v tree j) end (suc (levels (tree_of v) - height)) (next_digest v l end.index block)) old new) (same-level (levels (tree_of v)) height low most)
        (digest-led less led (at-level v tree end height low most expected got)))

    pub digest-fails : (fault : IoFault) → levels (tree_of v) - height < end.above → ReadsBy does c (hash_of (expected_hash (place_in v tree end.index) (height - 1) expected)) mid new (Err fault) → ReadsBy does c (digest_of (place_in v tree j) end 0 first) old new (Err fault)
    digest-fails fault less got = digest-lost less led (at-level v tree end height low most expected got)

  -- ---- positions of the round

  pub judging-past : {p : DataPlace} {q : Parity} {i : ℕ} {l : LossRecord} {expected : List ℕ} {old : Served D} → length l.places ≤ q.roots → i < 255 - q.roots → other_number q p.index i ≡ None → LeadsTo does c (judged_of p q i l expected) (judged_of p q (suc i) l expected) old old
  judging-past few low none = record { later = λ end answer rest. reads-as (λ calls a. judged_past few low none a) rest }

  -- ---- by erasures

  pub erased-past : (p : DataPlace) (expected : List ℕ) {old : Served D} → p.verity.parity ≡ None → ReadsBy does c (erased_of p expected) old old (Err (io.Stack why.Mismatch))
  erased-past p expected none = reads-none (erased_none p expected none)

  module _ {p : DataPlace} {q : Parity} {expected : List ℕ} (has : p.verity.parity ≡ Some q) where
    pub erased-unjudged : {old new : Served D} {fault : IoFault} → ReadsBy does c (judged_of p q 0 (own_loss (p.index / round_count q)) expected) old new (Err fault) → ReadsBy does c (erased_of p expected) old new (Err fault)
    erased-unjudged got = reads-as (λ calls a. erased_judged has a) got

    module _ {l : LossRecord} {i : ℕ} {old mid : Served D} (led : LeadsTo does c (judged_of p q 0 (own_loss (p.index / round_count q)) expected) (judged_of p q i l expected) old mid) where
      pub erased-vain : q.roots < length l.places → ReadsBy does c (erased_of p expected) old mid (Err (vain_fault l.failed))
      erased-vain many = erased-unjudged (led.later mid (Err (vain_fault l.failed)) (reads-none (judged_many p i expected many)))

      pub erased-given : {new : Served D} (answer : Result (List ℕ) IoFault) → i ≡ 255 - q.roots → length l.places ≤ q.roots → ReadsBy does c (restored_of p q l expected) mid new answer → ReadsBy does c (erased_of p expected) old new (healed_result (vain_fault l.failed) answer)
      erased-given {new = new} answer all few got =
          reads-as (λ calls a. erased_judged has a)
          (led.later new (healed_result (vain_fault l.failed) answer)
          (subst (λ (k : ℕ). ReadsBy does c (judged_of p q k l expected) mid new (healed_result (vain_fault l.failed) answer)) (sym all) (reads-as (λ calls a. judged_all few a) got)))

  -- ---- the lost blocks

  module _ {p : DataPlace} {q : Parity} {l : LossRecord} {expected : List ℕ} {old new : Served D} where
    pub restored-given : {sums : List ℕ} → are_whole p.verity l expected sums ≡ true → ReadsBy does c (columns_of p q l.places 0 (no_columns p.verity.data_block l.places)) old new (Ok sums) → ReadsBy does c (restored_of p q l expected) old new (Ok (column p.verity.data_block sums 0))
    restored-given whole got = reads-as (λ calls a. restored_whole a whole) got

    pub restored-other : {sums : List ℕ} → are_whole p.verity l expected sums ≡ false → ReadsBy does c (columns_of p q l.places 0 (no_columns p.verity.data_block l.places)) old new (Ok sums) → ReadsBy does c (restored_of p q l expected) old new (Err (io.Stack why.Mismatch))
    restored-other other got = reads-as (λ calls a. restored_differs a other) got

    pub restored-lost : {fault : IoFault} → ReadsBy does c (columns_of p q l.places 0 (no_columns p.verity.data_block l.places)) old new (Err fault) → ReadsBy does c (restored_of p q l expected) old new (Err fault)
    restored-lost got = reads-as (λ calls a. restored_unread expected a) got

  -- ---- what is added to their sums

  pub column-past : {p : DataPlace} {q : Parity} {places sums : List ℕ} {i : ℕ} {old : Served D} → i < 255 - q.roots → (is_among places i ≡ true) ⊎ (other_at p q i ≡ None) → LeadsTo does c (columns_of p q places i sums) (columns_of p q places (suc i) sums) old old
  column-past low past = record { later = λ end answer rest. reads-as (λ calls a. columns_past low past a) rest }

  pub column-added : {p : DataPlace} {q : Parity} {places sums block : List ℕ} {i n : ℕ} {old mid : Served D} (e : Extent) → i < 255 - q.roots → is_among places i ≡ false → other_at p q i ≡ Some e → n ≡ e.sectors → Gives does c (Below e.lower e.first) n old mid (Ok block)
      → LeadsTo does c (columns_of p q places i sums) (columns_of p q places (suc i) (added_columns p.verity.data_block places i block sums)) old mid
  column-added {block = block} {old = old} {mid = mid} e low kept at count got = record {
    later = λ end answer rest. reads-then (λ calls later a b. columns_added low kept at a b) (subst (λ (k : ℕ). Gives does c (Below e.lower e.first) k old mid (Ok block)) count got) rest;
  }

  pub column-lost : {p : DataPlace} {q : Parity} {places : List ℕ} {i n : ℕ} (sums : List ℕ) {fault : IoFault} {old new : Served D} (e : Extent) → i < 255 - q.roots → is_among places i ≡ false → other_at p q i ≡ Some e → n ≡ e.sectors → Gives does c (Below e.lower e.first) n old new (Err fault)
      → ReadsBy does c (columns_of p q places i sums) old new (Err fault)
  column-lost sums {fault = fault} {old = old} {new = new} e low kept at count got = reads-as (λ calls a. columns_unread sums low kept at a) (subst (λ (k : ℕ). Gives does c (Below e.lower e.first) k old new (Err fault)) count got)

  pub columns-given : {p : DataPlace} {q : Parity} {n : ℕ} (places sums : List ℕ) {parity : List ℕ} {old new : Served D} (at : Stored) → IsStoredAt c p q at → n ≡ at.sectors → Gives does c (Below at.lower at.first) n old new (Ok parity)
      → ReadsBy does c (columns_of p q places (255 - q.roots) sums) old new (Ok (added_parity places q.roots p.verity.data_block parity sums))
  columns-given places sums at stored count got = reads-as (λ calls a. columns_ended places sums stored.on a) (parity-at at stored count got)

  pub columns-lost : {p : DataPlace} {q : Parity} {n : ℕ} (places sums : List ℕ) {fault : IoFault} {old new : Served D} (at : Stored) → IsStoredAt c p q at → n ≡ at.sectors → Gives does c (Below at.lower at.first) n old new (Err fault)
      → ReadsBy does c (columns_of p q places (255 - q.roots) sums) old new (Err fault)
  columns-lost places sums at stored count got = reads-as (λ calls a. columns_stop places sums stored.on a) (parity-at at stored count got)
