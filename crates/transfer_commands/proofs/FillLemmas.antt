-- A buffer that is filled from its beginning.
use Rattle.std.proofs.Common.{◌≡◌, ◌≤◌, ℕ, ◌+◌, ◌-◌, List, ◌++◌, length, take, drop, ap, sym, ◌∙◌, subst, arith, length-append, length-drop, Option}
use Rattle.std.specs.Io.KnownBytes.{Consumes, Keeps}
use Rattle.std.proofs.KnownBytes.{Consumes-trans, Consumes-kept}
use Rattle.std.proofs.lemmas.List.{length-take-le, take-append-le}
use Rattle.std.proofs.lemmas.Slice.{take-put_mid_below}
use Rattle.std.proofs.Math.Seq.{take-append-add}
use borrow.Rule.Slice.PartMut.{put_mid, post_of}

-- its front, and then more of it
filled-seam : (a k n : ℕ) (xs ys : List ℕ) → a ≤ length xs → n ≤ length ys → take (a + n) (put_mid a k xs ys) ≡ take a xs ++ take n ys
filled-seam a k n xs ys h few =
    subst (λ m. take (m + n) (put_mid a k xs ys) ≡ take a xs ++ take n ys) (length-take-le a xs h)
    (take-append-add (take a xs) (ys ++ post_of a k xs) n ∙ ap (λ l. take a xs ++ l) (take-append-le n ys (post_of a k xs) few))

pub filled-more : (old mid new : Option (List ℕ)) (a k n : ℕ) (xs ys : List ℕ) → Consumes old mid (take a xs) → Consumes mid new (take n ys) → a ≤ length xs → n ≤ length ys → Consumes old new (take (a + n) (put_mid a k xs ys))
filled-more old mid new a k n xs ys p q h few = subst (λ l. Consumes old new l) (sym (filled-seam a k n xs ys h few)) (Consumes-trans old mid new (take a xs) (take n ys) p q)

pub filled-kept : (old mid new : Option (List ℕ)) (a k : ℕ) (xs ys : List ℕ) → Consumes old mid (take a xs) → Keeps mid new → a ≤ length xs → Consumes old new (take a (put_mid a k xs ys))
filled-kept old mid new a k xs ys p q h = subst (λ l. Consumes old new l) (sym (take-put_mid_below a k xs ys a (omega arith) h)) (Consumes-kept old mid new (take a xs) p q)

pub length-filled : (a : ℕ) (xs ys : List ℕ) → a ≤ length xs → length ys ≡ length xs - a → length (put_mid a (length xs - a) xs ys) ≡ length xs
length-filled a xs ys h e =
    let post = drop (length xs - a) (drop a xs) in
    omega (arith, length-append (take a xs) (ys ++ post), length-append ys post, length-take-le a xs h, length-drop (length xs - a) (drop a xs), length-drop a xs, e, h)
