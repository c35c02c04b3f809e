-- Calls of the read of a block's spare.
use Rattle.std.proofs.Common.{◌≡◌, ℕ, suc, ◌-◌, ◌*◌, ◌<◌, List, Some, None, Result, Ok, Err, subst}
use Rattle.tree_shape.specs.Digests.{digest}
use Rattle.block_device.specs.Call.{Call}
use Rattle.dm_table.specs.declared.parity.Parity.{Parity}
use Rattle.stack_rules.specs.Records.{Configuration}
use Rattle.stack_rules.specs.Trees.{block_sectors, zero_block}
use Rattle.stack_meaning.specs.declared.fault.Fault.TheVariants as why
use Rattle.stack_meaning.specs.declared.fault.IoFault.{IoFault}
use Rattle.stack_meaning.specs.declared.fault.IoFault.TheVariants as io
use Rattle.stack_meaning.specs.Spares.{added_block, with_parity}
use Rattle.stack_lines.specs.declared.source.Source.TheVariants.{Below}
use Rattle.stack_lines.specs.declared.tree.Extent.{Extent}
use Rattle.std.specs.Prelude.{IfErr}
use Rattle.stack_engine.specs.Healing.{IsHealed, IsSettled, healed_result}
use Rattle.stack_engine.specs.Restored.{Served}
use Rattle.stack_engine.specs.SectorCalls.{DataPlace, Gives, LeadsTo, ReadOf, ReadsBy, erased_of, only_of, other_at, parity_first, spare_of, sums_of, sums_past, sums_added, sums_unread, parity_added, parity_unread, only_none, only_checked, only_differs, only_unread, spare_only, spare_erased}
use Rattle.stack_engine.specs.Spares.{IsStoredAt}
use Rattle.stack_engine.specs.declared.spare.Stored.{Stored}
use Rattle.stack_engine.proofs.ReadCallLemmas.{reads-none, reads-as, reads-then}

module _ {D : Type 0} {does : D → Call → D → Type 0} {c : Configuration} where
  pub leads-then : {what then rest : ReadOf} {old mid new : Served D} → LeadsTo does c what then old mid → LeadsTo does c then rest mid new → LeadsTo does c what rest old new
  leads-then h k = record { later = λ end answer rest. h.later end answer (k.later end answer rest) }

  -- ---- positions of the round

  pub other-past : {p : DataPlace} {q : Parity} {i : ℕ} {sums : List ℕ} {old : Served D} → i < 255 - q.roots → other_at p q i ≡ None → LeadsTo does c (sums_of p q i sums) (sums_of p q (suc i) sums) old old
  other-past inside none = record { later = λ end answer rest. reads-as (λ calls a. sums_past inside none a) rest }

  pub other-added : {p : DataPlace} {q : Parity} {i n : ℕ} {sums block : List ℕ} {old mid : Served D} (e : Extent) → i < 255 - q.roots → other_at p q i ≡ Some e → n ≡ e.sectors → Gives does c (Below e.lower e.first) n old mid (Ok block)
      → LeadsTo does c (sums_of p q i sums) (sums_of p q (suc i) (added_block sums block)) old mid
  other-added {block = block} {old = old} {mid = mid} e inside at count got = record {
    later = λ end answer rest. reads-then (λ calls later a b. sums_added inside at a b) (subst (λ (k : ℕ). Gives does c (Below e.lower e.first) k old mid (Ok block)) count got) rest;
  }

  pub other-lost : {p : DataPlace} {q : Parity} {i n : ℕ} (sums : List ℕ) {fault : IoFault} {old new : Served D} (e : Extent) → i < 255 - q.roots → other_at p q i ≡ Some e → n ≡ e.sectors → Gives does c (Below e.lower e.first) n old new (Err fault)
      → ReadsBy does c (sums_of p q i sums) old new (Err fault)
  other-lost sums {fault = fault} {old = old} {new = new} e inside at count got = reads-as (λ calls a. sums_unread sums inside at a) (subst (λ (k : ℕ). Gives does c (Below e.lower e.first) k old new (Err fault)) count got)

  -- ---- the parity

  pub parity-at : {p : DataPlace} {q : Parity} {n : ℕ} {old new : Served D} {answer : Result (List ℕ) IoFault} (at : Stored) → IsStoredAt c p q at → n ≡ at.sectors → Gives does c (Below at.lower at.first) n old new answer
      → Gives does c (Below at.lower (parity_first p q)) (block_sectors p.verity * q.roots) old new answer
  parity-at {p = p} {q = q} {n = n} {old = old} {new = new} {answer = answer} at stored count got =
      subst (λ (k : ℕ). Gives does c (Below at.lower k) (block_sectors p.verity * q.roots) old new answer) stored.first
      (subst (λ (k : ℕ). Gives does c (Below at.lower at.first) k old new answer) (sectors-are count stored.sectors) got)
    where
      sectors-are : {a b d : ℕ} → a ≡ b → b ≡ d → a ≡ d
      sectors-are x y = cc (x, y)

  pub stored-given : {p : DataPlace} {q : Parity} {n : ℕ} (sums : List ℕ) {parity : List ℕ} {old new : Served D} (at : Stored) → IsStoredAt c p q at → n ≡ at.sectors → Gives does c (Below at.lower at.first) n old new (Ok parity)
      → ReadsBy does c (sums_of p q (255 - q.roots) sums) old new (Ok (with_parity q.roots sums parity))
  stored-given sums at stored count got = reads-as (λ calls a. parity_added sums stored.on a) (parity-at at stored count got)

  pub stored-lost : {p : DataPlace} {q : Parity} {n : ℕ} (sums : List ℕ) {fault : IoFault} {old new : Served D} (at : Stored) → IsStoredAt c p q at → n ≡ at.sectors → Gives does c (Below at.lower at.first) n old new (Err fault)
      → ReadsBy does c (sums_of p q (255 - q.roots) sums) old new (Err fault)
  stored-lost sums at stored count got = reads-as (λ calls a. parity_unread sums stored.on a) (parity-at at stored count got)

  -- ---- the block as the only lost one of its round

  pub only-past : (p : DataPlace) (expected : List ℕ) {old : Served D} → p.verity.parity ≡ None → ReadsBy does c (only_of p expected) old old (Err (io.Stack why.Mismatch))
  only-past p expected none = reads-none (only_none p expected none)

  module _ {p : DataPlace} {q : Parity} {expected : List ℕ} (has : p.verity.parity ≡ Some q) {old mid new : Served D} {m : ℕ} {sums : List ℕ} (led : LeadsTo does c (sums_of p q 0 (zero_block p.verity)) (sums_of p q m sums) old mid) where
    pub only-lost : {fault : IoFault} → ReadsBy does c (sums_of p q m sums) mid new (Err fault) → ReadsBy does c (only_of p expected) old new (Err fault)
    only-lost {fault = fault} got = reads-as (λ calls a. only_unread has a) (led.later new (Err fault) got)

    pub only-given : {bytes : List ℕ} → digest p.verity.salt bytes ≡ expected → ReadsBy does c (sums_of p q m sums) mid new (Ok bytes) → ReadsBy does c (only_of p expected) old new (Ok bytes)
    only-given {bytes = bytes} good got = reads-as (λ calls a. only_checked has a good) (led.later new (Ok bytes) got)

    pub only-other : {bytes : List ℕ} → (digest p.verity.salt bytes ≡ expected → ⊥) → ReadsBy does c (sums_of p q m sums) mid new (Ok bytes) → ReadsBy does c (only_of p expected) old new (Err (io.Stack why.Mismatch))
    only-other {bytes = bytes} other got = reads-as (λ calls a. only_differs has a other) (led.later new (Ok bytes) got)

  -- ---- the spare

  -- as that, or its fault stays
  pub spare-alone : {p : DataPlace} {expected : List ℕ} {old new : Served D} {answer : Result (List ℕ) IoFault} → IfErr answer (IsSettled p.verity.parity) → ReadsBy does c (only_of p expected) old new answer → ReadsBy does c (spare_of p expected) old new answer
  spare-alone settled got = reads-as (λ calls a. spare_only settled a) got

  -- or by erasures
  pub spare-by_erasures : {p : DataPlace} {expected : List ℕ} {old mid new : Served D} (fault : IoFault) {answer : Result (List ℕ) IoFault} → IsHealed p.verity.parity fault → ReadsBy does c (only_of p expected) old mid (Err fault) → ReadsBy does c (erased_of p expected) mid new answer
      → ReadsBy does c (spare_of p expected) old new (healed_result fault answer)
  spare-by_erasures fault heals alone got = reads-then (λ calls later a b. spare_erased heals a b) alone got
