-- Hash devices on which an old superblock was cleared.
use Rattle.std.proofs.Common.{◌≡◌, ◌<◌, ◌+◌, ◌-◌, ℕ, Bool, true, false, not, refl, IsTrue, List, ◌++◌, length, drop, ap, subst, sym, ◌∙◌, arith, inl, inr, Result, Ok, Err, is_ok}
use Rattle.std.specs.Prelude.{IsErrAnd, OnErr}
use Rattle.std.proofs.lemmas.List.{drop-drop}
use Rattle.block_device.specs.Call.{Call}
use Rattle.block_device.specs.Device.{Device, sectors_of}
use Rattle.block_device.specs.Whole.{length-sectors_of}
use Rattle.std.specs.List.{concat}
use Rattle.verity_format.specs.Image.{area_over, first_block, formatted, image_sectors}
use Rattle.verity_format.specs.Superblock.{SuperRecord, shape_of}
use Rattle.image_commands.specs.Clearing.{HandsClearing, HandsFewer, IsCleared}

-- a device stays steady
pub steady-cleared : (old new : Device) → IsCleared old new → new.steady ≡ old.steady
steady-cleared old new (inl none) = ap (λ (d : Device). d.steady) none.kept ∙ none.read.same.steady
steady-cleared old new (inr zeroed) = ap (λ (d : Device). d.steady) zeroed.kept ∙ zeroed.written.same.steady ∙ zeroed.read.same.steady

-- after the first sector nothing changes
pub drop-cleared : (old new : Device) → IsCleared old new → IsTrue old.steady → drop 1 new.image ≡ drop 1 old.image
drop-cleared old new (inl none) steady = ap (λ (d : Device). drop 1 d.image) none.kept ∙ ap (drop 1) (none.read.image steady)
drop-cleared old new (inr zeroed) steady =
    ap (λ (d : Device). drop 1 d.image) zeroed.kept
    ∙ zeroed.written.after (subst IsTrue (sym zeroed.read.same.steady) steady)
    ∙ ap (drop 1) (zeroed.read.image steady)

pub drop-more : (n : ℕ) → 0 < n → (a b : List (List ℕ)) → drop 1 a ≡ drop 1 b → drop n a ≡ drop n b
drop-more n some a b same =
    let count : n ≡ 1 + (n - 1) = omega arith in
    ap (λ k. drop k a) count ∙ sym (drop-drop (n - 1) 1 a) ∙ ap (drop (n - 1)) same ∙ drop-drop (n - 1) 1 b ∙ ap (λ k. drop k b) (sym count)

-- a formatted image has nothing of the sector that was cleared
pub formatted-cleared : (s : SuperRecord) (data_image : List (List ℕ)) (old new : Device) → 0 < image_sectors (shape_of s) → IsCleared old new → IsTrue old.steady
    → formatted s data_image new.image ≡ formatted s data_image old.image
formatted-cleared s data_image old new some cleared steady =
    let sectors : List (List ℕ) = sectors_of (image_sectors (shape_of s)) (first_block s ++ concat (area_over (shape_of s) s.salt data_image)) in
    let count : length sectors ≡ image_sectors (shape_of s) = length-sectors_of (image_sectors (shape_of s)) _ in
    ap (λ (rest : List (List ℕ)). sectors ++ rest) (drop-more (0 + length sectors) (omega (arith, count, some)) new.image old.image (drop-cleared old new cleared steady))

-- what a test for a difference says
pub false-from_not : (b : Bool) → true ≡ not b → b ≡ false
false-from_not true h = cc
false-from_not false h = refl

pub true-from_not : (b : Bool) → false ≡ not b → b ≡ true
true-from_not true h = refl
true-from_not false h = cc

-- a clearing that failed in its read or its write
pub fewer-ended : {H : Type 0} (does : H → Call → H → Type 0) (old new : H) {T E : Type 0} (P : E → Type 0) (r : Result T E) → IsErrAnd r P → HandsFewer does old new → HandsClearing does old new (is_ok r)
fewer-ended does old new P (Ok done) ended fewer = absurd ended
fewer-ended does old new P (Err fault) ended fewer = inr (inr (refl, fewer))

-- what holds of calls that ended early holds of the result that hands the fault on
pub ended-on : {T E : Type 0} {X : Type 0} (r : Result T E) → X → OnErr r X
ended-on (Ok done) holds = tt
ended-on (Err fault) holds = holds

pub ended-and : {T E : Type 0} (P : E → Type 0) {X : Type 0} (r : Result T E) → IsErrAnd r P → X → IsErrAnd r (λ (e : E). X)
ended-and P (Ok done) ended holds = absurd ended
ended-and P (Err fault) ended holds = holds
