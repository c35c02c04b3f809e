-- Laws that hold for every code.
use Rattle.std.specs.Prelude.{◌≡◌, ℕ, zero, suc, ◌+◌, ◌<◌, ◌≤◌, Bool, List, [], ◌∷◌, ◌++◌, length, slice_index, EachIndex, if◌then◌else◌}
use Rattle.reed_solomon.specs.Field.{field_product, total}
use Rattle.reed_solomon.specs.Sums.{summand_beside}
use Rattle.reed_solomon.specs.Code.{IsCodeword}
use Rattle.reed_solomon.specs.Correcting.{IsCorrected}
use Rattle.reed_solomon.specs.Factors.{erasure_factor}
use Rattle.reed_solomon.specs.Restoring.{AgreesOutside}

-- every message of bytes has parity bytes that complete it to a codeword
abbrev pub EveryMessageHasParity : Type 0
EveryMessageHasParity = (parity : ℕ) → (message : List ℕ) → 0 < parity → parity ≤ 24 → length message + parity ≡ 255
    → ((k : ℕ) → slice_index message k < 256) → (tail : List ℕ) × IsCodeword parity (message ++ tail)

-- two codewords that agree everywhere except at no more positions than there are parity bytes are equal
abbrev pub CodewordsAreApart : Type 0
CodewordsAreApart = (parity : ℕ) → (lost v w : List ℕ) → length lost ≤ parity → EachIndex lost (λ k. slice_index lost k < 255)
    → IsCodeword parity v → IsCodeword parity w → AgreesOutside lost v w → v ≡ w

-- at most one codeword differs from a word at no more than half as many positions as there are parity bytes
abbrev pub NearCodewordsAreEqual : Type 0
NearCodewordsAreEqual = (parity : ℕ) → (word v w : List ℕ) → IsCorrected parity word v → IsCorrected parity word w → v ≡ w

-- the bytes of a codeword sum to 0
abbrev pub CodewordsSumToZero : Type 0
CodewordsSumToZero = (parity : ℕ) → (word : List ℕ) → 0 < parity → IsCodeword parity word → total (slice_index word) 255 ≡ 0

-- each byte of a codeword is the sum of the other bytes
abbrev pub OneLostByteIsASum : Type 0
OneLostByteIsASum = (parity : ℕ) → (word : List ℕ) → (place : ℕ) → 0 < parity → IsCodeword parity word → place < 255
    → total (summand_beside (slice_index word) place) 255 ≡ slice_index word place

-- each lost byte of a codeword is a combination of the other bytes, if no more bytes are lost than there are parity bytes
abbrev pub LostBytesAreCombinations : Type 0
LostBytesAreCombinations = (parity : ℕ) → (lost word codeword : List ℕ) → (k : ℕ) → k < length lost → length lost ≤ parity
    → EachIndex lost (λ i. slice_index lost i < 255) → IsCodeword parity codeword → AgreesOutside lost word codeword
    → total (λ i. field_product (erasure_factor lost (slice_index lost k) i) (slice_index word i)) 255 ≡ slice_index codeword (slice_index lost k)

-- those of the first n positions that pass the test, in order
unfoldable pub selected : (ℕ → Bool) → List ℕ → ℕ → List ℕ
selected keep places zero = []
selected keep places (suc n) = if keep (slice_index places n) then selected keep places n ++ (slice_index places n ∷ []) else selected keep places n

abbrev pub AreDistinct : List ℕ → Type 0
AreDistinct places = (a b : ℕ) → a < length places → b < length places → slice_index places a ≡ slice_index places b → a ≡ b

-- the bytes of the word at the lost positions are those that the code restores there
abbrev pub IsRestoredAt : List ℕ → List ℕ → Type 0
IsRestoredAt lost word = EachIndex lost (λ k. total (λ i. field_product (erasure_factor lost (slice_index lost k) i) (slice_index word i)) 255 ≡ slice_index word (slice_index lost k))

-- a word that the code restored at some positions has the bytes that it restores if fewer of them are lost
abbrev pub FewerErasuresRestoreTheSame : Type 0
FewerErasuresRestoreTheSame = (lost word : List ℕ) → (keep : ℕ → Bool) → AreDistinct lost → EachIndex lost (λ k. slice_index lost k < 255)
    → IsRestoredAt lost word → IsRestoredAt (selected keep lost (length lost)) word
