-- Bytes with others in their place.
use Rattle.std.proofs.Common.{◌≡◌, ◌+◌, ◌≤◌, ◌++◌, ℕ, List, length, take, drop, arith, sym, ap, ◌∙◌, length-append, length-drop}
use Rattle.std.proofs.lemmas.List.{drop-drop, length-take-le, take-append-le, take-take}
use Rattle.std.proofs.Math.Seq.{drop-append_seam}

-- an image with bytes in place of those from an offset on
pub record IsOverwritten (image : List ℕ) (offset : ℕ) (bytes new : List ℕ) : Type 0 where
  pub front : take offset new ≡ take offset image
  pub middle : drop offset new ≡ bytes ++ drop (offset + length bytes) image
  pub back : drop (offset + length bytes) new ≡ drop (offset + length bytes) image
  pub same : length new ≡ length image

pub overwritten : (image : List ℕ) (offset : ℕ) (bytes : List ℕ) → offset + length bytes ≤ length image
    → IsOverwritten image offset bytes (take offset image ++ (bytes ++ drop (offset + length bytes) image))
overwritten image offset bytes fits =
    let tail = bytes ++ drop (offset + length bytes) image in
    let len : length (take offset image) ≡ offset = length-take-le offset image (omega (arith, fits)) in
    let behind : drop offset (take offset image ++ tail) ≡ tail =
    ap (λ (n : ℕ). drop n (take offset image ++ tail)) (sym len) ∙ drop-append_seam (take offset image) tail in
    record {
      front = take-append-le offset (take offset image) tail (omega (arith, len)) ∙ take-take offset offset image (omega arith);
      middle = behind;
      back =
          sym (drop-drop (length bytes) offset (take offset image ++ tail))
          ∙ (ap (drop (length bytes)) behind ∙ drop-append_seam bytes (drop (offset + length bytes) image));
      same =
          length-append (take offset image) tail
          ∙ omega (arith, len, length-append bytes (drop (offset + length bytes) image), length-drop (offset + length bytes) image, fits);
    }
