-- A call of the device that is compared with, as one of the device over it; and the calls of a write, block by block.
use Rattle.std.proofs.Common.{◌≡◌, ℕ, ◌+◌, ◌*◌, ◌/◌, ◌<◌, Bool, true, false, List, [], ◌∷◌, ◌++◌, length, take, drop, refl, sym, ap, subst, ◌∙◌}
use Rattle.std.proofs.lemmas.Bool.{false≢true}
use Rattle.block_device.specs.Call.{Call, Read, Write}
use Rattle.block_device.specs.CallList.{DeviceCalls}
use Rattle.block_device.specs.Device.{Device, IsUnsynced, capped}
use Rattle.block_device.specs.Failing.{IsInnerRead, IsInnerSync}
use Rattle.block_device.proofs.lemmas.CallLemmas.{calls-append}
use Rattle.device_adapters.specs.Differing.{differing}
use Rattle.device_adapters.specs.DifferingCalls.{BlockCalls, DifferingBlocks, DifferingWrite, begins, compared_bytes, compared_sectors, goes_on, is_replaced, is_stored, is_unread}

pub read-differing : (old new : Device) (first n reads reads' writes : ℕ) (dirty ok : Bool) (bytes : List ℕ) → IsInnerRead old first n ok new bytes → reads' ≡ capped (reads + n)
    → IsInnerRead (differing old reads writes dirty) first n ok (differing new reads' writes dirty) bytes
read-differing old new first n reads reads' writes dirty ok bytes h counted = record {
  moved = record {
    same = record { size = h.moved.same.size; may_write = h.moved.same.may_write; steady = h.moved.same.steady; never_fails = h.moved.same.never_fails };
    reads = counted;
    writes = refl;
    failures = h.moved.failures;
    dirty = refl;
    image = h.moved.image;
  };
  answer = h.answer;
  sure = h.sure;
}

pub sync-differing : (old new : Device) (reads writes : ℕ) (dirty : Bool) → IsInnerSync old true new → IsInnerSync (differing old reads writes dirty) true (differing new reads writes false)
sync-differing old new reads writes dirty h = record {
  done = λ _. ap (λ (d : Device). differing d reads writes false) (h.done refl);
  not_done = λ e. absurd (false≢true (sym e));
  sure = λ _. refl;
}

pub unsynced-differing : (old new : Device) (reads writes : ℕ) (dirty : Bool) → IsInnerSync old false new → IsInnerSync (differing old reads writes dirty) false (differing new reads writes dirty)
unsynced-differing old new reads writes dirty h =
    let failed : IsUnsynced old new = h.not_done refl in
    record {
      done = λ e. absurd (false≢true e);
      not_done = λ _. record { moved = ap (λ (d : Device). differing d reads writes dirty) failed.moved; failed = failed.failed };
      sure = h.sure;
    }

-- ---- one block

module _ {D : Type 0} (does : D → Call → D → Type 0) (first : ℕ) (bytes read : List ℕ) (ok : Bool) where
  -- the read failed
  pub block-unread : (old new : D) → length read ≡ length bytes → ok ≡ false → does old (Read first read false) new → DeviceCalls does (BlockCalls first bytes ok) old new
  block-unread old new size failed call = record {
    calls = Read first read false ∷ [];
    are = subst (λ (b : Bool). BlockCalls first bytes b (Read first read false ∷ [])) (sym failed) (is_unread read size);
    made = (new, call, refl);
  }

  -- it is stored already
  pub block-stored : (old new : D) → read ≡ bytes → does old (Read first read true) new → DeviceCalls does (BlockCalls first bytes true) old new
  block-stored old new same call = record {
    calls = Read first bytes true ∷ [];
    are = is_stored;
    made = (new, subst (λ (l : List ℕ). does old (Read first l true) new) same call, refl);
  }

  -- it differs
  pub block-replaced : (old between new : D) → length read ≡ length bytes → (read ≡ bytes → ⊥) → does old (Read first read true) between → does between (Write first bytes ok) new → DeviceCalls does (BlockCalls first bytes ok) old new
  block-replaced old between new size differs call write = record {
    calls = Read first read true ∷ Write first bytes ok ∷ [];
    are = is_replaced read ok size differs;
    made = (between, call, (new, write, refl));
  }

-- ---- blocks one after another

pub blocks-none : {D : Type 0} (does : D → Call → D → Type 0) (first : ℕ) (bytes : List ℕ) (old : D) → DeviceCalls does (DifferingBlocks first bytes 0 true) old old
blocks-none does first bytes old = record { calls = []; are = begins; made = refl }

module _ {D : Type 0} (does : D → Call → D → Type 0) (first : ℕ) (bytes : List ℕ) where
  -- one more block, of m sectors
  pub blocks-more : (k m : ℕ) (block : List ℕ) (ok : Bool) (old now new : D) → k < length bytes / 512 → m ≡ compared_sectors bytes k → block ≡ take (512 * m) (drop (512 * k) bytes) → DeviceCalls does (DifferingBlocks first bytes k true) old now
      → DeviceCalls does (BlockCalls (first + k) block ok) now new → DeviceCalls does (DifferingBlocks first bytes (k + m) ok) old new
  blocks-more k m block ok old now new some count is h last =
      let at : block ≡ compared_bytes bytes k = is ∙ ap (λ (j : ℕ). take (512 * j) (drop (512 * k) bytes)) count in
      record {
        calls = h.calls ++ last.calls;
        are = subst (λ (j : ℕ). DifferingBlocks first bytes (k + j) ok (h.calls ++ last.calls)) (sym count) (goes_on some h.are (subst (λ (l : List ℕ). BlockCalls (first + k) l ok last.calls) at last.are));
        made = calls-append does old now new h.calls last.calls h.made last.made;
      }

  -- all blocks
  pub blocks-all : (k : ℕ) (old new : D) → k ≡ length bytes / 512 → DeviceCalls does (DifferingBlocks first bytes k true) old new → DeviceCalls does (DifferingWrite first bytes true) old new
  blocks-all k old new all h = record { calls = h.calls; are = record { sectors = k; blocks = h.are; all = λ _. all }; made = h.made }

  -- blocks up to one that failed
  pub blocks-failed : (k : ℕ) (ok : Bool) (old new : D) → ok ≡ false → DeviceCalls does (DifferingBlocks first bytes k false) old new → DeviceCalls does (DifferingWrite first bytes ok) old new
  blocks-failed k ok old new failed h = record {
    calls = h.calls;
    are = record {
      sectors = k;
      blocks = subst (λ (b : Bool). DifferingBlocks first bytes k b h.calls) (sym failed) h.are;
      all = λ done. absurd (false≢true (sym failed ∙ done));
    };
    made = h.made;
  }
