-- A data block that is healed, and blocks of another digest.
use Rattle.std.proofs.Common.{◌≡◌, Bool, true, false, cond, List, ℕ, length, Vec, Global, Option, None, Some, Result, Ok, Err, refl, sym, ap, ◌∙◌, subst}
use Rattle.std.proofs.lemmas.Slice.Eq.{bytes_eq-Decides}
use Rattle.std.specs.Prelude.{IfErr, IfOk, IsTrue, is_ok, is_some}
use Rattle.std.specs.Str.{bytes_eq}
use Rattle.allocation.specs.Refusal.{IsOutOfMemory}
use Rattle.tree_shape.specs.Digests.{digest}
use Rattle.block_device.specs.Call.{Call}
use Rattle.block_device.specs.Device.{Device}
use Rattle.dm_table.specs.declared.parity.Parity.{Parity}
use Rattle.stack_rules.specs.Records.{Configuration}
use Rattle.stack_meaning.specs.declared.fault.Fault.{Fault}
use Rattle.stack_meaning.specs.declared.fault.IoFault.{IoFault}
use Rattle.stack_meaning.specs.declared.fault.IoFault.TheVariants as io
use Rattle.stack_meaning.specs.Blocks.{checked}
use Rattle.stack_meaning.specs.Memory.{largest_allocation}
use Rattle.stack_meaning.specs.Outcomes.{mismatch}
use Rattle.stack_meaning.specs.Reading.{Gets, IsCertain}
use Rattle.stack_meaning.proofs.lemmas.LeafListLemmas.{AreRead-none}
use Rattle.stack_lines.proofs.lemmas.AskLemmas.{asks-as, asks-then}
use Rattle.stack_lines.specs.Touches.{AsksOnly, NamesOneOf}
use Rattle.stack_lines.specs.Walks.{DataBlock, block_in, spare_expected}
use Rattle.stack_engine.specs.declared.backing.Backing.{Backing}
use Rattle.stack_engine.specs.declared.spare.LostBlock.{LostBlock}
use Rattle.stack_engine.specs.Backings.{leaves_in, served}
use Rattle.stack_engine.specs.Healing.{HasNoParity, IsHealed, IsLost, healed_result, row_answer, unhealed}
use Rattle.stack_engine.specs.ReadSteps.{ReadsOn}
use Rattle.stack_engine.specs.Restored.{Served, after_spare}
use Rattle.stack_engine.specs.SectorCalls.{DataPlace, ReadsBy, spare_full, spare_of}
use Rattle.stack_engine.specs.declared.losses.Judged.{Judged}
use Rattle.stack_engine.specs.declared.losses.Judged.TheVariants as is
use Rattle.stack_engine.specs.Erasures.{LossRecord, first_failed, judge_by, noted, vain_fault}
use Rattle.stack_engine.specs.Spares.{HealsBy, NamesLeaf, failed_of}
use Rattle.stack_engine.proofs.ReadCallLemmas.{reads-none}

pub checked-other : (salt expected block : List ℕ) → (digest salt block ≡ expected → ⊥) → checked salt expected block ≡ Err mismatch
checked-other salt expected block other = go (bytes_eq (digest salt block) expected) refl
  where
    go : (t : Bool) → bytes_eq (digest salt block) expected ≡ t → cond t (Ok block) (Err mismatch) ≡ Err mismatch
    go true same = absurd (other ((bytes_eq-Decides (digest salt block) expected).0 same))
    go false e = refl

-- the leaves that were accessed, for the fault that is answered
pub asks-unhealed : {A B Unhealed : Type 0} {these : ℕ → Bool} {old new : List Device} (own : Fault) (vain : IoFault) → AsksOnly {A = A} Unhealed these old new (Err vain) → AsksOnly {A = B} Unhealed these old new (Err (unhealed (io.Stack own) vain))
asks-unhealed own (io.Stack fault) p = asks-as (Err (io.Stack own)) tt (λ failures. refl) p
asks-unhealed own (io.Device i) p = asks-as (Err (io.Device i)) p.fault (λ failures. refl) p
asks-unhealed own io.NoMemory p = asks-as (Err io.NoMemory) tt (λ failures. refl) p

-- without parity no device's fault is healed
unprotected : {X : Type 0} (parity : Option Parity) → parity ≡ None → IsTrue (is_some parity) → X
unprotected parity lacks heals = let clash : false ≡ true = sym (ap is_some lacks) ∙ heals in absurd cc

pub heals-some : (parity : Option Parity) (fault : IoFault) → IsHealed parity fault → IsTrue (is_some parity)
heals-some parity (io.Stack fault) heals = heals
heals-some parity (io.Device i) heals = heals
heals-some parity io.NoMemory heals = let clash : false ≡ true = heals in absurd cc

-- a row whose read failed
pub lost-heals : (parity : Option Parity) (lost : Option IoFault) → IsLost parity (Ok lost) → (fault : IoFault) → lost ≡ Some fault → IsHealed parity fault
lost-heals parity None is fault at = let clash : None ≡ Some fault = at in absurd cc
lost-heals parity (Some own) is fault at = let same : own ≡ fault = cc in subst (IsHealed parity) same is

pub lost-fails : (lost : Option IoFault) (bytes : List ℕ) → IsTrue (is_ok (row_answer (Ok lost) bytes)) → (fault : IoFault) → lost ≡ Some fault → ⊥
lost-fails None bytes good fault at = let clash : None ≡ Some fault = at in absurd cc
lost-fails (Some own) bytes good fault at = let clash : false ≡ true = good in absurd cc

-- the leaves that it accessed
pub asks-lost : {c : Configuration} {these : ℕ → Bool} {old new : List Device} (parity : Option Parity) (lost : Option IoFault) (bytes : List ℕ) → (HasNoParity c → parity ≡ None) → ((fault : IoFault) → lost ≡ Some fault → IsHealed parity fault)
    → AsksOnly (HasNoParity c) these old new (row_answer (Ok lost) bytes) → AsksOnly {A = Unit {0}} (HasNoParity c) these old new (Ok tt)
asks-lost parity None bytes lacks heals p = asks-as (Ok tt) tt (λ failures. refl) p
asks-lost parity (Some fault) bytes lacks heals p = record { leaf = p.leaf; fault = tt; ends = λ none. unprotected parity (lacks none) (heals-some parity fault (heals fault refl)) }

-- those of a block whose spare was vain, which may be a device's only with parity
pub asks-vain : {A B : Type 0} {c : Configuration} {these : ℕ → Bool} {old new : List Device} (parity : Option Parity) (own vain : IoFault) → IsHealed parity own → (HasNoParity c → parity ≡ None) → NamesOneOf these own
    → AsksOnly {A = A} (HasNoParity c) these old new (Err vain) → AsksOnly {A = B} (HasNoParity c) these old new (Err (unhealed own vain))
asks-vain parity (io.Stack own) vain heals lacks named p = asks-unhealed own vain p
asks-vain parity (io.Device i) (io.Stack vain) heals lacks named p = record { leaf = p.leaf; fault = named; ends = λ none. unprotected parity (lacks none) heals }
asks-vain parity (io.Device i) (io.Device j) heals lacks named p = record { leaf = p.leaf; fault = named; ends = λ none. unprotected parity (lacks none) heals }
asks-vain parity (io.Device i) io.NoMemory heals lacks named p = record { leaf = p.leaf; fault = tt; ends = λ none. unprotected parity (lacks none) heals }
asks-vain parity io.NoMemory vain heals lacks named p = let clash : false ≡ true = heals in absurd cc

-- the block's own read, and that of its spare
pub asks-healed : {A B : Type 0} {c : Configuration} {these : ℕ → Bool} {old mid new : List Device} (parity : Option Parity) (own : IoFault) {result : Result B IoFault} → IsHealed parity own → (HasNoParity c → parity ≡ None)
    → AsksOnly {A = A} (HasNoParity c) these old mid (Err own) → AsksOnly (HasNoParity c) these mid new result → AsksOnly (HasNoParity c) these old new result
asks-healed parity (io.Stack own) heals lacks p q = asks-then {x = tt} (asks-as {B = Unit {0}} (Ok tt) tt (λ failures. refl) p) q
asks-healed parity (io.Device i) heals lacks p q = record { leaf = λ i d out. q.leaf i d out ∙ p.leaf i d out; fault = q.fault; ends = λ none. unprotected parity (lacks none) heals }
asks-healed parity io.NoMemory heals lacks p q = let clash : false ≡ true = heals in absurd cc

-- two calls of a line with parity, whatever is answered after them
pub asks-both : {A B C : Type 0} {c : Configuration} {these : ℕ → Bool} {old mid new : List Device} (parity : Option Parity) {first : Result A IoFault} {second : Result B IoFault} (result : Result C IoFault) → IsTrue (is_some parity) → (HasNoParity c → parity ≡ None) → IfErr result (NamesOneOf these)
    → AsksOnly (HasNoParity c) these old mid first → AsksOnly (HasNoParity c) these mid new second → AsksOnly (HasNoParity c) these old new result
asks-both parity result some lacks named p q = record { leaf = λ i d out. q.leaf i d out ∙ p.leaf i d out; fault = named; ends = λ none. unprotected parity (lacks none) some }

-- one such call
pub asks-one : {A B : Type 0} {c : Configuration} {these : ℕ → Bool} {old new : List Device} (parity : Option Parity) {first : Result A IoFault} (result : Result B IoFault) → IsTrue (is_some parity) → (HasNoParity c → parity ≡ None) → IfErr result (NamesOneOf these)
    → AsksOnly (HasNoParity c) these old new first → AsksOnly (HasNoParity c) these old new result
asks-one parity result some lacks named p = record { leaf = p.leaf; fault = named; ends = λ none. unprotected parity (lacks none) some }

-- the fault of the first of two attempts, unless it is one of a line
pub unhealed-named : (these : ℕ → Bool) (own vain : IoFault) → NamesOneOf these own → NamesOneOf these vain → NamesOneOf these (unhealed own vain)
unhealed-named these (io.Stack own) (io.Stack vain) one two = tt
unhealed-named these (io.Stack own) (io.Device i) one two = two
unhealed-named these (io.Stack own) io.NoMemory one two = tt
unhealed-named these (io.Device j) (io.Stack vain) one two = one
unhealed-named these (io.Device j) (io.Device i) one two = one
unhealed-named these (io.Device j) io.NoMemory one two = tt
unhealed-named these io.NoMemory (io.Stack vain) one two = tt
unhealed-named these io.NoMemory (io.Device i) one two = two
unhealed-named these io.NoMemory io.NoMemory one two = tt

abbrev bytes : Vec ℕ Global → List ℕ
bytes = λ block. block.items

-- it is as certain in another form
spare-sure : {b : DataBlock} {expected : List ℕ} {old : List Device} → IsCertain (spare_expected bytes b expected) old → IsCertain (spare_expected (λ (x : List ℕ). x) b expected) old
spare-sure sure = record { steady = sure.steady; agrees = sure.agrees }

module _ (b : DataBlock) (expected : List ℕ) {old new : List Device} where
  -- the spare that a buffer holds
  spare-had : (block : Vec ℕ Global) {out : List ℕ} → block.items ≡ out → Gets (spare_expected (λ (x : List ℕ). x) b expected) old new (Ok out) → Gets (spare_expected bytes b expected) old new (Ok block)
  spare-had block is p = record {
    moved = p.moved;
    may = (ap (λ (l : List ℕ). length l) is ∙ p.may.0, ap (digest b.verity.salt) is ∙ p.may.1);
    exact = λ sure. p.exact (spare-sure sure) ∙ ap Ok (sym is);
  }

  spare-failed : (fault : IoFault) → Gets (spare_expected (λ (x : List ℕ). x) b expected) old new (Err fault) → Gets (spare_expected bytes b expected) old new (Err fault)
  spare-failed (io.Stack fault) p = record { moved = p.moved; may = p.may; exact = λ sure. p.exact (spare-sure sure) }
  spare-failed (io.Device i) p = record { moved = p.moved; may = p.may; exact = λ sure. p.exact (spare-sure sure) }
  spare-failed io.NoMemory p = record { moved = p.moved; may = p.may; exact = λ sure. p.exact (spare-sure sure) }

module _ {D : Type 0} (state : D → Device) {does : D → Call → D → Type 0} (c : Configuration) (p : DataPlace) (lost : LostBlock) (fault : IoFault) {old new : Backing D} where
  pub heals-had : (block : Vec ℕ Global) {out : List ℕ} → block.items ≡ out → Gets (spare_expected (λ (x : List ℕ). x) (block_in c p.verity lost.index) lost.digest) (leaves_in state old) (leaves_in state new) (Ok out) → {read : Served D} → served new ≡ after_spare {A = List ℕ} (Ok out) read → ReadsBy does c (spare_of p lost.digest) (served old) read (Ok out)
      → HealsBy state does c p lost fault old new (Ok block)
  heals-had block is got {read = read} counted given = record {
    spare = Ok block;
    is = refl;
    got = spare-had (block_in c p.verity lost.index) lost.digest block is got;
    read = read;
    counted = counted;
    given = subst (λ (x : List ℕ). ReadsBy does c (spare_of p lost.digest) (served old) read (Ok x)) (sym is) given;
  }

  pub heals-failed : (why : IoFault) → Gets (spare_expected (λ (x : List ℕ). x) (block_in c p.verity lost.index) lost.digest) (leaves_in state old) (leaves_in state new) (Err why) → ReadsOn does c (spare_of p lost.digest) old new (Err why)
      → HealsBy state does c p lost fault old new (healed_result fault (Err why))
  heals-failed why got given = record { spare = Err why; is = refl; got = spare-failed (block_in c p.verity lost.index) lost.digest why got; read = served new; counted = refl; given = given }

  -- no memory for it
  pub heals-short : new ≡ old → IsOutOfMemory largest_allocation → HealsBy state does c p lost fault old new (Err io.NoMemory)
  heals-short same refused = subst (λ (x : Backing D). HealsBy state does c p lost fault old x (Err io.NoMemory)) (sym same) (record {
    spare = Err io.NoMemory;
    is = refl;
    got = record { moved = AreRead-none _ (leaves_in state old); may = refused; exact = λ sure. tt };
    read = served old;
    counted = refl;
    given = reads-none (spare_full p lost.digest);
  })

-- ---- leaves that are named as blocks are judged

pub unread-named : (these : ℕ → Bool) (leaf : ℕ) (known : Result (List ℕ) IoFault) → NamesOneOf these (io.Device leaf) → IfOk (judge_by (Err leaf) known) (λ judged. NamesLeaf these (failed_of judged))
unread-named these leaf (Ok digest) named = named
unread-named these leaf (Err (io.Stack other)) named = tt
unread-named these leaf (Err (io.Device i)) named = tt
unread-named these leaf (Err io.NoMemory) named = tt

pub unread-fault : (these : ℕ → Bool) (leaf : ℕ) (known : Result (List ℕ) IoFault) → NamesOneOf these (io.Device leaf) → IfErr known (NamesOneOf these) → IfErr (judge_by (Err leaf) known) (NamesOneOf these)
unread-fault these leaf (Ok digest) own named = tt
unread-fault these leaf (Err (io.Stack other)) own named = own
unread-fault these leaf (Err (io.Device i)) own named = named
unread-fault these leaf (Err io.NoMemory) own named = tt

pub read-named : (these : ℕ → Bool) (made : List ℕ) (known : Result (List ℕ) IoFault) → IfOk (judge_by (Ok made) known) (λ judged. NamesLeaf these (failed_of judged))
read-named these made (Ok digest) = go (bytes_eq made digest)
  where
    go : (t : Bool) → NamesLeaf these (failed_of (cond t is.Kept is.Lost))
    go true = tt
    go false = tt
read-named these made (Err (io.Stack other)) = tt
read-named these made (Err (io.Device i)) = tt
read-named these made (Err io.NoMemory) = tt

pub read-fault : (these : ℕ → Bool) (made : List ℕ) (known : Result (List ℕ) IoFault) → IfErr known (NamesOneOf these) → IfErr (judge_by (Ok made) known) (NamesOneOf these)
read-fault these made (Ok digest) named = tt
read-fault these made (Err (io.Stack other)) named = tt
read-fault these made (Err (io.Device i)) named = named
read-fault these made (Err io.NoMemory) named = tt

pub vain-named : (these : ℕ → Bool) (failed : Option ℕ) → NamesLeaf these failed → NamesOneOf these (vain_fault failed)
vain-named these None named = tt
vain-named these (Some leaf) named = named

-- after the block at a position was noted
pub names-next : (these : ℕ → Bool) (before : Option ℕ) (l : LossRecord) (i : ℕ) (judged : Judged) → before ≡ l.failed → NamesLeaf these before → NamesLeaf these (failed_of judged) → NamesLeaf these (noted l i judged).failed
names-next these before l i is.Kept same h k = subst (NamesLeaf these) same h
names-next these before l i is.Lost same h k = subst (NamesLeaf these) same h
names-next these before l i (is.Unread leaf digest) same h k = subst (λ (o : Option ℕ). NamesLeaf these (first_failed o leaf)) same (first before h)
  where
    first : (o : Option ℕ) → NamesLeaf these o → NamesLeaf these (first_failed o leaf)
    first None h = k
    first (Some own) h = h
