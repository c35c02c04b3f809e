-- Some chunks tell any bytes.
use Rattle.std.proofs.Common.{◌≡◌, ◌<◌, ◌≤◌, ℕ, zero, suc, ◌+◌, ◌-◌, ◌%◌, min, Bool, true, false, List, ◌++◌, length, take, drop, refl, ap, sym, ◌∙◌, subst, drop_of_length-le, arith, inl, inr}
use Rattle.std.specs.Str.{bytes_eq}
use Rattle.std.proofs.lemmas.Bool.{cases_lt}
use Rattle.nbd_protocol.specs.Chunks.{data_chunk, hole_chunk}
use Rattle.nbd_server.specs.Content.{AreZerosBefore, AreZerosBehind, HaveData, TellsContent, TellsData, zero_block}
use Rattle.nbd_server.proofs.ContentLemmas.{all-before, before-data, behind-more, compared, data-end, front-data, front-more, none-behind, short-end, some-before, told-before, told-behind, told-data, told-none, told-zeros, zeros, zeros-behind}

-- ---- the zeros at their ends

pub record SomeBefore (bytes : List ℕ) : Type 0 where
  pub n : ℕ
  pub are : AreZerosBefore bytes n

before-step : (bytes : List ℕ) (n end : ℕ) (same : Bool) → end ≡ min (length bytes) (n + 4096) → n < length bytes → n % zero_block ≡ 0 → take n bytes ≡ zeros n
    → same ≡ bytes_eq (take (end - n) (drop n bytes)) (zeros (length (take (end - n) (drop n bytes)))) → (take end bytes ≡ zeros end → SomeBefore bytes) → SomeBefore bytes
before-step bytes n end true ends below whole is eq more = more (front-more bytes n end (omega (arith, ends, below)) (omega (arith, ends)) is (compared (take (end - n) (drop n bytes)) true eq refl))
before-step bytes n end false ends below whole is eq more = record { n = n; are = some-before bytes n end false ends (omega (arith, below)) whole is eq refl }

before-from : (fuel n : ℕ) (bytes : List ℕ) → n ≤ length bytes → (n < length bytes → n % zero_block ≡ 0) → take n bytes ≡ zeros n → length bytes ≤ n + fuel → SomeBefore bytes
before-from zero n bytes within whole is few = record { n = n; are = all-before bytes n within is (omega (arith, few)) }
before-from (suc fuel) n bytes within whole is few = elim (cases_lt n (length bytes)) [
  | inl below ↦
      let end : ℕ = min (length bytes) (n + 4096) in
      let block : List ℕ = take (end - n) (drop n bytes) in
      before-step bytes n end (bytes_eq block (zeros (length block))) refl below (whole below) is refl
      (λ more. before-from fuel end bytes (omega arith) (λ left. omega (arith, left, whole below)) more (omega (arith, few, below)))
  | inr over ↦ record { n = n; are = all-before bytes n within is (omega (arith, over)) }
]

pub record SomeBehind (bytes : List ℕ) : Type 0 where
  pub n : ℕ
  pub are : AreZerosBehind bytes n

behind-step : (bytes : List ℕ) (rest : ℕ) (same : Bool) → 4096 ≤ rest → rest ≤ length bytes → drop rest bytes ≡ zeros (length bytes - rest) → (length bytes - rest) % zero_block ≡ 0
    → same ≡ bytes_eq (take (rest - (rest - 4096)) (drop (rest - 4096) bytes)) (zeros (length (take (rest - (rest - 4096)) (drop (rest - 4096) bytes))))
    → (drop (rest - 4096) bytes ≡ zeros (length bytes - (rest - 4096)) → SomeBehind bytes) → SomeBehind bytes
behind-step bytes rest true long within is whole eq more = more (behind-more bytes (rest - 4096) rest (omega arith) within is (compared (take (rest - (rest - 4096)) (drop (rest - 4096) bytes)) true eq refl))
behind-step bytes rest false long within is whole eq more = record { n = length bytes - rest; are = zeros-behind bytes rest within is whole (data-end bytes rest false long within eq refl) }

behind-from : (fuel rest : ℕ) (bytes : List ℕ) → rest ≤ length bytes → (length bytes - rest) % zero_block ≡ 0 → drop rest bytes ≡ zeros (length bytes - rest) → rest ≤ fuel → SomeBehind bytes
behind-from zero rest bytes within whole is few = record { n = length bytes - rest; are = zeros-behind bytes rest within is whole (short-end bytes rest within (omega (arith, few))) }
behind-from (suc fuel) rest bytes within whole is few = elim (cases_lt rest 4096) [
  | inl short ↦ record { n = length bytes - rest; are = zeros-behind bytes rest within is whole (short-end bytes rest within short) }
  | inr long ↦
      let block : List ℕ = take (rest - (rest - 4096)) (drop (rest - 4096) bytes) in
      behind-step bytes rest (bytes_eq block (zeros (length block))) (omega (arith, long)) within is whole refl
      (λ more. behind-from fuel (rest - 4096) bytes (omega (arith, within)) (omega (arith, whole, long, within)) more (omega (arith, few, long)))
]

pub record IsDataTold (cookie : ℕ) (last : Bool) (at : ℕ) (bytes : List ℕ) : Type 0 where
  pub text : List ℕ
  pub tells : TellsData cookie last at bytes text

data-told : (cookie : ℕ) (last : Bool) (at : ℕ) (bytes : List ℕ) → HaveData bytes → IsDataTold cookie last at bytes
data-told cookie last at bytes some =
    let size = length bytes in
    let none : size - size ≡ 0 = omega arith in
    let back = behind-from size size bytes (omega arith) (omega arith) (drop_of_length-le bytes {i = size} (omega arith) ∙ ap zeros (sym none)) (omega arith) in
    let rest = size - back.n in
    let within : rest ≤ size = omega arith in
    let left : back.n ≡ size - rest = omega (arith, back.are.inside) in
    elim (cases_lt 0 back.n) [
      | inl more ↦ record {
        text = data_chunk false cookie at (take rest bytes) ++ hole_chunk last cookie (at + rest) back.n;
        tells = told-before cookie last at rest bytes within back.n more refl back.are (before-data bytes rest within (back.are.zeros ∙ ap zeros left) some);
      }
      | inr few ↦ record { text = data_chunk last cookie at bytes; tells = told-data cookie last at bytes some (none-behind bytes back.n (omega (arith, few)) back.are) }
    ]

-- some chunks tell them
pub record IsTold (cookie : ℕ) (last : Bool) (at : ℕ) (bytes : List ℕ) : Type 0 where
  pub text : List ℕ
  pub tells : TellsContent cookie last at bytes text

pub some-told : (cookie : ℕ) (last : Bool) (at : ℕ) (bytes : List ℕ) → 0 < length bytes → IsTold cookie last at bytes
some-told cookie last at bytes some =
    let front = before-from (length bytes) 0 bytes (omega arith) (λ below. omega arith) refl (omega arith) in
    let n = front.n in
    elim (cases_lt n (length bytes)) [
      | inl below ↦
          let rest = data-told cookie last (at + n) (drop n bytes) (front-data (drop n bytes) zero_block (front.are.next below)) in
          elim (cases_lt 0 n) [
            | inl more ↦ record { text = hole_chunk false cookie at n ++ rest.text; tells = told-behind cookie last at n bytes front.are.inside rest.text more below front.are rest.tells }
            | inr few ↦
                let none : n ≡ 0 = omega (arith, few) in
                let whole : IsDataTold cookie last at bytes = subst (λ (k : ℕ). IsDataTold cookie last (at + k) (drop k bytes) → IsDataTold cookie last at bytes) (sym none) (λ p. subst (λ (m : ℕ). IsDataTold cookie last m bytes) (omega arith) p) rest in
                record { text = whole.text; tells = told-none cookie last at bytes whole.text (subst (λ (k : ℕ). HaveData (take zero_block (drop k bytes))) none (front.are.next below)) whole.tells }
          ]
      | inr over ↦ record { text = hole_chunk last cookie at n; tells = told-zeros cookie last at n bytes some front.are.zeros (omega (arith, over, front.are.inside)) }
    ]
