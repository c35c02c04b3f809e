-- The status of bytes that were read for it.
use Rattle.std.proofs.Common.{◌≡◌, ◌<◌, ◌≤◌, ℕ, ◌+◌, ◌-◌, ◌%◌, min, Bool, false, true, List, length, take, drop, refl, ap, sym, ◌∙◌, subst, arith, inl, inr, Result, Ok, Err}
use Rattle.std.specs.Prelude.{not, IfOk, IsTrue, OnErr}
use Rattle.std.proofs.Math.Bool.{beq}
use Rattle.std.specs.Str.{bytes_eq}
use Rattle.std.proofs.lemmas.List.{length-take-le}
use Rattle.request_queue.specs.Parts.{EachPart}
use Rattle.request_queue.specs.Runs.{IsLed}
use Rattle.request_queue.specs.World.{World}
use Rattle.request_queue.proofs.lemmas.LedLemmas.{led-none}
use Rattle.nbd_protocol.specs.Exports.{ExportRecord}
use Rattle.nbd_server.specs.declared.failure.Failure.{Failure}
use Rattle.nbd_server.specs.Replies.{RequestOutcome}
use Rattle.nbd_server.specs.Content.{zero_block}
use Rattle.nbd_server.specs.Status.{HasReadStatus, IsReadStatus, IsRun, IsStatus, TouchIgnoring, block_at, block_first, descriptor, is_zero_block}
use Rattle.nbd_server.specs.Reads.{ReadsExport}
use Rattle.nbd_server.specs.Transmission.{ReadsIgnoring, StaysOrReads, TellsExtents, TellsStatus, most_look}
use Rattle.nbd_server.specs.declared.status.BlockStatus.{BlockStatus}
use Rattle.nbd_server.proofs.ContentLemmas.{block-is, compared, zeros}
use Rattle.nbd_server.proofs.PieceLemmas.{read-config, read-led}
use Rattle.nbd_server.proofs.StatusLemmas.{told-first, told-whole}

-- ---- runs of bytes that were read

pub alike : (a b : Bool) → not (beq a b) ≡ false → a ≡ b
alike true true is = refl
alike true false is = is
alike false true is = sym is
alike false false is = refl

pub unlike : (a b : Bool) → not (beq a b) ≡ true → a ≡ not b
unlike true true is = sym is
unlike true false is = refl
unlike false true is = refl
unlike false false is = is

-- the first bytes, which were compared
pub first-zeros : (bytes : List ℕ) (n : ℕ) (same : Bool) → n ≤ length bytes → same ≡ bytes_eq (take n bytes) (zeros (length (take n bytes))) → IsTrue same → take n bytes ≡ zeros n
first-zeros bytes n same inside is sure = compared (take n bytes) same is sure ∙ ap zeros (length-take-le n bytes inside)

-- a block that was compared is that of each of its bytes
zero-block : (at : ℕ) (bytes : List ℕ) (k start end n : ℕ) (same : Bool) → block_first at k ≡ start → k + (zero_block - (at + k) % zero_block) - block_first at k ≡ n → start ≤ length bytes → end ≡ min (length bytes) (start + n)
    → same ≡ bytes_eq (take (end - start) (drop start bytes)) (zeros (length (take (end - start) (drop start bytes)))) → is_zero_block at bytes k ≡ same
zero-block at bytes k start end n same first size inside is eq =
    let whole = k + (zero_block - (at + k) % zero_block) - block_first at k in
    let block : block_at at bytes k ≡ take (end - start) (drop start bytes) = ap (λ (f : ℕ). take whole (drop f bytes)) first ∙ ap (λ (m : ℕ). take m (drop start bytes)) size ∙ sym (block-is bytes start end n is inside) in
    ap (λ (l : List ℕ). bytes_eq l (zeros (length l))) block ∙ sym eq

-- the first block
pub front-block : (at : ℕ) (bytes : List ℕ) (k end : ℕ) (same : Bool) → end ≡ min (length bytes) (4096 - at % 4096) → k < end → same ≡ bytes_eq (take end bytes) (zeros (length (take end bytes))) → is_zero_block at bytes k ≡ same
front-block at bytes k end same is below eq =
    let all : end ≡ end - 0 = omega arith in
    zero-block at bytes k 0 end (4096 - at % 4096) same (omega (arith, is, below)) (omega (arith, is, below)) (omega arith) (omega (arith, is)) (subst (λ (n : ℕ). same ≡ bytes_eq (take n bytes) (zeros (length (take n bytes)))) all eq)

-- a block after the first
pub next-block : (at : ℕ) (bytes : List ℕ) (k done end : ℕ) (same : Bool) → (at + done) % zero_block ≡ 0 → end ≡ min (length bytes) (done + 4096) → done ≤ k → k < end
    → same ≡ bytes_eq (take (end - done) (drop done bytes)) (zeros (length (take (end - done) (drop done bytes)))) → is_zero_block at bytes k ≡ same
next-block at bytes k done end same aligned is above below eq =
    let within : (at + k) % 4096 ≡ k - done = omega (arith, aligned, is, above, below) in
    zero-block at bytes k done end zero_block same (omega (arith, within, above)) (omega (arith, within, is, above, below)) (omega (arith, is, above, below)) is eq

-- the run with which the bytes after some begin
pub run-status : (first done : ℕ) (content : List ℕ) (s : BlockStatus) → IsRun (first + done) (drop done content) s → s.count ≤ length content - done → IsStatus (IsReadStatus first (Ok content)) (first + done) (length content - done) s
run-status first done content s run few = record {
  some = run.some;
  few = few;
  is = let place : first + done - first ≡ done = omega arith in subst (λ (k : ℕ). IsRun (first + done) (drop k content) s) (sym place) run;
}

pub first-status : (first : ℕ) (content : List ℕ) (s : BlockStatus) → IsRun first content s → IsStatus (IsReadStatus first (Ok content)) first (length content) s
first-status first content s run = record {
  some = run.some;
  few = run.few;
  is = let place : first - first ≡ 0 = omega arith in subst (λ (k : ℕ). IsRun first (drop k content) s) (sym place) run;
}

-- ---- what is reported of them

pub ok-as : {A E : Type 0} (r : Result A E) (P Q : A → Type 0) → ((x : A) → P x → Q x) → IfOk r P → IfOk r Q
ok-as (Ok x) P Q f p = f x p
ok-as (Err error) P Q f p = tt

pub on_err : {A E : Type 0} (r : Result A E) (P : Type 0) → P → OnErr r P
on_err (Ok x) P p = tt
on_err (Err error) P p = p

pub err-as : {A E : Type 0} (r : Result A E) (P Q : Type 0) → (P → Q) → OnErr r P → OnErr r Q
err-as (Ok x) P Q f p = tt
err-as (Err error) P Q f p = f p

-- bytes that couldn't be read are data
pub unread-status : (offset size : ℕ) (error : Failure) (one : Bool) (told : List ℕ) → 0 < size → told ≡ descriptor (record { count = size; zeros = false }) → HasReadStatus (Err error) offset size one told
unread-status offset size error one told some is =
    let s : BlockStatus = record { count = size; zeros = false } in
    let rule = IsReadStatus offset (Err error) in
    let status : IsStatus rule offset size s = record { some = some; few = omega arith; is = (refl, refl) } in
    subst (λ (t : List ℕ). HasReadStatus (Err error) offset size one t) (sym is) (told-whole rule offset size (λ at. ⊥) (descriptor s) one (told-first rule offset size s status))

-- how many bytes are read
pub look-some : (offset : ℕ) (one : Bool) → 0 < most_look offset one
look-some offset true = omega arith
look-some offset false = omega arith

pub look-few : (offset : ℕ) (one : Bool) → most_look offset one ≤ 262144
look-few offset true = omega arith
look-few offset false = omega arith

-- the size of a look, as the code computes it
pub record IsLook (look count size : ℕ) : Type 0 where
  pub value : size ≡ min look count
  pub some : 0 < size
  pub few : size ≤ count
  pub small : size ≤ 262144

pub look-is : (offset : ℕ) (one : Bool) (room all count size : ℕ) → room ≡ most_look offset one → all ≡ count → size ≡ min room all → 0 < count → IsLook (most_look offset one) count size
look-is offset one room all count size is whole value some =
    let size-is : size ≡ min (most_look offset one) count = value ∙ ap (λ (n : ℕ). min n all) is ∙ ap (λ (n : ℕ). min (most_look offset one) n) whole in
    sized (most_look offset one) (look-some offset one) (look-few offset one) size-is
  where
    sized : (look : ℕ) → 0 < look → look ≤ 262144 → size ≡ min look count → IsLook look count size
    sized look more few is = record { value = is; some = omega (arith, is, more, some); few = omega (arith, is); small = omega (arith, is, few) }

module _ (e : ExportRecord) (w : World) (offset count : ℕ) where
  -- some of them, which lie on the lines that all of them do
  pub part-ignores : (one : Bool) (size : ℕ) (outcome : RequestOutcome) (w' : World) → IsLook (most_look offset one) count size → TouchIgnoring w.stack.config e offset count → ReadsExport e w offset size outcome w'
      → ReadsIgnoring e w offset count one size outcome w'
  part-ignores one size outcome w' look ignoring reads = record { value = look.value; ignoring = λ j below. ignoring j (omega (arith, below, look.few)); reads = reads }

  -- and of more
  pub reads-more : (more : ℕ) (one : Bool) (w' : World) → count ≤ more → StaysOrReads e w offset count one w' → StaysOrReads e w offset more one w'
  reads-more more one w' few (inl p) = inl p
  reads-more more one w' few (inr p) = inr (p.0, p.1, p.2, omega (arith, p.3, few), p.4)

  pub told-small : (one : Bool) (told : List ℕ) (w' : World) → TellsExtents e w offset count one told w' → length told ≤ 8192
  told-small one told w' (inl p) = p.status.small
  told-small one told w' (inr p) = p.reads.status.small

  -- ---- as a run of the queue

  stays-led : (one : Bool) (w' : World) → StaysOrReads e w offset count one w' → IsLed EachPart w w'
  stays-led one w' (inl p) = subst (IsLed EachPart w) (sym p) (led-none EachPart w)
  stays-led one w' (inr p) = read-led e w offset p.1 p.2 w' p.4.reads

  stays-config : (one : Bool) (w' : World) → StaysOrReads e w offset count one w' → w'.stack.config ≡ w.stack.config
  stays-config one w' (inl p) = ap (λ (v : World). v.stack.config) p
  stays-config one w' (inr p) = read-config e w offset p.1 p.2 w' p.4.reads

  stays : (one : Bool) (outcome : RequestOutcome) (w' : World) → TellsStatus e w offset count one outcome w' → StaysOrReads e w offset count one w'
  stays one (Ok told) w' (inl p) = inl p.same
  stays one (Ok told) w' (inr p) = inr (p.extent.count, p.reads.size, p.reads.outcome, p.is.few, p.reads.reads)
  stays one (Err error) w' p = p.1

  pub status-led : (one : Bool) (outcome : RequestOutcome) (w' : World) → TellsStatus e w offset count one outcome w' → IsLed EachPart w w'
  status-led one outcome w' p = stays-led one w' (stays one outcome w' p)

  pub status-config : (one : Bool) (outcome : RequestOutcome) (w' : World) → TellsStatus e w offset count one outcome w' → w'.stack.config ≡ w.stack.config
  status-config one outcome w' p = stays-config one w' (stays one outcome w' p)
