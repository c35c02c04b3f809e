-- Bytes that are taken from a client piece by piece.
use Rattle.std.proofs.Common.{◌≡◌, ◌<◌, ◌≤◌, ℕ, ◌+◌, List, [], ◌++◌, length, take, drop, refl, ap, sym, ◌∙◌, subst, arith, length-append, length-drop, ◌-◌, append-nil, Option, Some}
use Rattle.std.specs.Io.KnownBytes.{Consumes, IsAtEnd, Keeps}
use Rattle.std.proofs.KnownBytes.{Consumes-nil, Consumes-trans, Consumes-kept}
use Rattle.std.proofs.lemmas.List.{length-take-le, take-append-le}
use Rattle.std.proofs.lemmas.Slice.{take-put_mid_below}
use Rattle.std.proofs.Math.Seq.{drop-append_seam, take-append-add, take-append_seam}
use borrow.Rule.Slice.PartMut.{put_mid, post_of}
use Rattle.nbd_protocol.specs.declared.fault.ServiceFault.{ServiceFault}
use Rattle.nbd_protocol.specs.declared.fault.ServiceFault.TheVariants as fault
use Rattle.nbd_protocol.specs.Streaming.{IsShort, Stops, TakesInto}

-- a buffer whose front was filled, and then more of it
filled-seam : (a k n : ℕ) (xs ys : List ℕ) → a ≤ length xs → n ≤ length ys → take (a + n) (put_mid a k xs ys) ≡ take a xs ++ take n ys
filled-seam a k n xs ys h few =
    subst (λ m. take (m + n) (put_mid a k xs ys) ≡ take a xs ++ take n ys) (length-take-le a xs h)
    (take-append-add (take a xs) (ys ++ post_of a k xs) n ∙ ap (λ l. take a xs ++ l) (take-append-le n ys (post_of a k xs) few))

pub filled-more : (old mid new : Option (List ℕ)) (a k n : ℕ) (xs ys : List ℕ) → Consumes old mid (take a xs) → Consumes mid new (take n ys) → a ≤ length xs → n ≤ length ys → Consumes old new (take (a + n) (put_mid a k xs ys))
filled-more old mid new a k n xs ys p q h few = subst (λ l. Consumes old new l) (sym (filled-seam a k n xs ys h few)) (Consumes-trans old mid new (take a xs) (take n ys) p q)

pub filled-kept : (old mid new : Option (List ℕ)) (a k : ℕ) (xs ys : List ℕ) → Consumes old mid (take a xs) → Keeps mid new → a ≤ length xs → Consumes old new (take a (put_mid a k xs ys))
filled-kept old mid new a k xs ys p q h = subst (λ l. Consumes old new l) (sym (take-put_mid_below a k xs ys a (omega arith) h)) (Consumes-kept old mid new (take a xs) p q)

pub length-filled : (a : ℕ) (xs ys : List ℕ) → a ≤ length xs → length ys ≡ length xs - a → length (put_mid a (length xs - a) xs ys) ≡ length xs
length-filled a xs ys h e =
    let post = drop (length xs - a) (drop a xs) in
    omega (arith, length-append (take a xs) (ys ++ post), length-append ys post, length-take-le a xs h, length-drop (length xs - a) (drop a xs), length-drop a xs, e, h)

-- a part of a buffer that was filled
pub placed : (a k : ℕ) (xs ys : List ℕ) (n : ℕ) → a ≤ length xs → length ys ≡ n → take n (drop a (put_mid a k xs ys)) ≡ ys
placed a k xs ys n room size =
    let behind : drop a (put_mid a k xs ys) ≡ ys ++ post_of a k xs = subst (λ m. drop m (put_mid a k xs ys) ≡ ys ++ post_of a k xs) (length-take-le a xs room) (drop-append_seam (take a xs) (ys ++ post_of a k xs)) in
    ap (take n) behind ∙ subst (λ m. take m (ys ++ post_of a k xs) ≡ ys) size (take-append_seam ys (post_of a k xs))

-- of count bytes all but the last ones were taken
pub record Skipped (count left : ℕ) (old new : Option (List ℕ)) : Type 0 where
  pub bytes : List ℕ
  pub count_is : length bytes + left ≡ count
  pub consumed : Consumes old new bytes

pub skipped-more : {count left : ℕ} {old mid : Option (List ℕ)} (new : Option (List ℕ)) (piece : List ℕ) (after : ℕ) → Skipped count left old mid → Consumes mid new piece → after + length piece ≡ left → Skipped count after old new
skipped-more {old = old} {mid = mid} new piece after s c is = record {
  bytes = s.bytes ++ piece;
  count_is = omega (arith, length-append s.bytes piece, s.count_is, is);
  consumed = Consumes-trans old mid new s.bytes piece s.consumed c;
}

-- the next piece came in part
pub skipped-short : {count left : ℕ} {old mid : Option (List ℕ)} (n : ℕ) (new : Option (List ℕ)) (x : ServiceFault) → Skipped count left old mid → n ≤ left
    → (short : IsShort n mid new x) × (x ≡ fault.Lost → 0 < length short.part) → IsShort count old new x
skipped-short {old = old} {mid = mid} n new x s few p = record {
  part = s.bytes ++ p.0.part;
  few = omega (arith, length-append s.bytes p.0.part, s.count_is, p.0.few, few);
  consumed = Consumes-trans old mid new s.bytes p.0.part s.consumed p.0.consumed;
  cause = p.0.cause;
}

-- or not at all
pub skipped-lost : {count left : ℕ} {old mid : Option (List ℕ)} (new : Option (List ℕ)) → Skipped count left old mid → 0 < left → Consumes mid new [] × IsAtEnd new → IsShort count old new fault.Lost
skipped-lost {old = old} {mid = mid} new s some p = record {
  part = s.bytes ++ [];
  few = omega (arith, length-append s.bytes (let none : List ℕ = [] in none), s.count_is, some);
  consumed = Consumes-trans old mid new s.bytes [] s.consumed p.0;
  cause = p.1;
}

-- a buffer of which a part came
pub filled-short : (n a : ℕ) (xs : List ℕ) (old new : Option (List ℕ)) (x : ServiceFault) → Consumes old new (take a xs) → a ≤ length xs → a < n → Stops new x → (x ≡ fault.Lost → 0 < a)
    → (short : IsShort n old new x) × (x ≡ fault.Lost → 0 < length short.part)
filled-short n a xs old new x c room few stops some =
    let size : length (take a xs) ≡ a = length-take-le a xs room in
    (record { part = take a xs; few = omega (arith, size, few); consumed = c; cause = stops }, λ is. omega (arith, size, some is))

-- the input ended after the bytes that were taken
pub filled-lost : (n a : ℕ) (xs ys : List ℕ) (old mid new : Option (List ℕ)) → Consumes old mid (take a xs) → Consumes mid new (take 0 ys) → IsAtEnd new → a < length xs → length xs ≡ n → 0 < a
    → (short : IsShort n old new fault.Lost) × (fault.Lost ≡ fault.Lost → 0 < length short.part)
filled-lost n a xs ys old mid new c d end left size some =
    let joined = subst (λ l. Consumes old new l) (append-nil (take a xs)) (Consumes-trans old mid new (take a xs) [] c d) in
    filled-short n a xs old new fault.Lost joined (omega (arith, left)) (omega (arith, left, size)) end (λ is. some)

-- the reader failed there
pub filled-failed : (n a : ℕ) (xs : List ℕ) (old mid new : Option (List ℕ)) → Consumes old mid (take a xs) → Keeps mid new → a < length xs → length xs ≡ n
    → (short : IsShort n old new fault.ReadFault) × (fault.ReadFault ≡ fault.Lost → 0 < length short.part)
filled-failed n a xs old mid new c k left size =
    filled-short n a xs old new fault.ReadFault (Consumes-kept old mid new (take a xs) c k) (omega (arith, left)) (omega (arith, left, size)) tt (λ is. (cc))

-- no bytes are taken
pub into-none : (count : ℕ) (at : Option (List ℕ)) → count ≡ 0 → TakesInto (Some []) count at at
into-none count at none = record { takes = record { bytes = []; count = sym none; consumed = Consumes-nil at }; kept = refl }

-- all are taken, into the place that was made for them
pub into-all : (bytes : List ℕ) (count : ℕ) (old new : Option (List ℕ)) → length bytes ≡ count → Consumes old new bytes → TakesInto (Some bytes) count old new
into-all bytes count old new size c = record { takes = record { bytes = bytes; count = size; consumed = c }; kept = refl }

-- at their place in the front of a vector
pub into-place : (bytes rest : List ℕ) (len start count : ℕ) (old new : Option (List ℕ)) → length bytes ≡ len → start + count ≤ len → Consumes old new (take count (drop start bytes))
    → TakesInto (Some (take count (drop start (take len (bytes ++ rest))))) count old new
into-place bytes rest len start count old new size inside c =
    let front : take len (bytes ++ rest) ≡ bytes = subst (λ m. take m (bytes ++ rest) ≡ bytes) size (take-append_seam bytes rest) in
    let long : length (take count (drop start bytes)) ≡ count = length-take-le count (drop start bytes) (omega (arith, length-drop start bytes, size, inside)) in
    subst (λ l. TakesInto (Some (take count (drop start l))) count old new) (sym front) (into-all (take count (drop start bytes)) count old new long c)
