-- Lost blocks of a round by their places.
use Rattle.std.proofs.Common.{◌≡◌, ◌≢◌, ℕ, ◌+◌, ◌-◌, ◌*◌, ◌/◌, ◌%◌, ◌<◌, ◌≤◌, true, false, not, ◌&&◌, nat_lt, IsTrue, List, [], ◌∷◌, ◌++◌, length, take, subst, inl, inr, refl, sym, ap, ◌∙◌, arith, length-append}
use Rattle.std.specs.Prelude.{slice_index, EachIndex, count_by, ◌==◌}
use Rattle.std.proofs.lemmas.Bool.{and_from, and_left, le-ltb, and_parts, cases_lt, eq-eqb, eqb-true, lt-ltb, ltb-true, ne_eqb, not_from_false}
use Rattle.std.proofs.lemmas.Grind.{div_ceil_times}
use Rattle.std.proofs.lemmas.List.{get_or_append_left, get_or-append-add, ext_get_or, take_all}
use Rattle.std.proofs.lemmas.List.Sums.{count_by_more_no, count_by_more_yes}
use Rattle.std.proofs.lemmas.Nat.{div_below, div-mul-add, mod-mul-add, div-add-mod'}
use Rattle.std.proofs.Math.Nat.{mod-lt}
use Rattle.verity_format.specs.Blocks.{block_at}
use Rattle.fec_area.specs.declared.layout.Layout.{Layout}
use Rattle.fec_area.specs.Layouts.{IsLayout, covered, covered_blocks, round_bytes, code_rounds}
use Rattle.fec_area.specs.Rounds.{AreRestored, IsFormerly}
use Rattle.fec_area.specs.Restoring.{AreLostPlaces, IsAmong, IsBefore, IsFirstRestored, IsLostPlace, IsMadeAgain, IsRestoredBy, LostBlocksComeBack, is_beside, round_of}
use Rattle.fec_area.proofs.LayoutLemmas.{covered-past}

-- the rounds have room for all blocks
pub rounds-room : (l : Layout) → IsLayout l → covered_blocks l ≤ code_rounds l * (255 - l.roots)
rounds-room l valid =
    let few = valid.few in
    (div_ceil_times (covered_blocks l) (255 - l.roots) (omega (arith, few))).0

pub rounds-some : (l : Layout) (index : ℕ) → IsLayout l → index < covered_blocks l → 0 < code_rounds l
rounds-some l index valid inside = elim (cases_lt 0 (code_rounds l)) [
  | inl some ↦ some
  | inr none ↦
      let zero : code_rounds l ≡ 0 = omega (arith, none) in
      let nothing : code_rounds l * (255 - l.roots) ≡ 0 * (255 - l.roots) = ap (λ n. n * (255 - l.roots)) zero in
      absurd (omega (arith, nothing, rounds-room l valid, inside))
]

-- the place of a covered block
pub place-below : (l : Layout) (index : ℕ) → IsLayout l → index < covered_blocks l → index / code_rounds l < 255 - l.roots
place-below l index valid inside =
    let swap : code_rounds l * (255 - l.roots) ≡ (255 - l.roots) * code_rounds l = grind arith in
    div_below index (code_rounds l) (255 - l.roots) (rounds-some l index valid inside) (omega (arith, rounds-room l valid, swap, inside))

pub round-below : (l : Layout) (index : ℕ) → IsLayout l → index < covered_blocks l → round_of l index < code_rounds l
round-below l index valid inside = mod-lt index (rounds-some l index valid inside)

-- what is beside a block
beside-covered : (l : Layout) (index j : ℕ) → is_beside l index j ≡ true → j < covered_blocks l
beside-covered l index j e =
    let front = nat_lt j (covered_blocks l) in
    let round = j % code_rounds l == round_of l index in
    let both = and_parts (front && round) (not (j == index)) e in
    ltb-true j (covered_blocks l) (and_parts front round both.0).0

pub beside-past : (l : Layout) (index j : ℕ) → covered_blocks l ≤ j → is_beside l index j ≡ false
beside-past l index j past =
    let front = nat_lt j (covered_blocks l) in
    let round = j % code_rounds l == round_of l index in
    and_left (front && round) (not (j == index)) (and_left front round (le-ltb j (covered_blocks l) past))

pub beside-round : (l : Layout) (index j : ℕ) → is_beside l index j ≡ true → j % code_rounds l ≡ round_of l index
beside-round l index j e =
    let front = nat_lt j (covered_blocks l) in
    let round = j % code_rounds l == round_of l index in
    let both = and_parts (front && round) (not (j == index)) e in
    eqb-true (j % code_rounds l) (round_of l index) (and_parts front round both.0).1

pub beside-from : (l : Layout) (index j : ℕ) → j < covered_blocks l → j % code_rounds l ≡ round_of l index → j ≢ index → is_beside l index j ≡ true
beside-from l index j inside same other =
    let front = nat_lt j (covered_blocks l) in
    let round = j % code_rounds l == round_of l index in
    and_from (front && round) (not (j == index)) (and_from front round (lt-ltb j (covered_blocks l) inside) (eq-eqb (j % code_rounds l) (round_of l index) same))
    (not_from_false (j == index) (ne_eqb j index other))

-- ---- the places of the blocks that are lost

-- those of the first n
pub record ArePlaced (l : Layout) (lost : List ℕ) (index n : ℕ) (places : List ℕ) : Type 0 where
  pub count : length places ≡ count_by (is_beside l index) (take n lost) + 1
  pub own : slice_index places 0 ≡ index / code_rounds l
  pub within : EachIndex places (λ k. slice_index places k < 255 - l.roots)
  pub each : (k : ℕ) → k < n → IsTrue (is_beside l index (slice_index lost k)) → IsAmong places (slice_index lost k / code_rounds l)
  pub alone : EachIndex places (λ k. IsLostPlace l lost index (slice_index places k))

pub placed-none : (l : Layout) (lost : List ℕ) (index own : ℕ) → own ≡ index / code_rounds l → IsLayout l → index < covered_blocks l → ArePlaced l lost index 0 (own ∷ [])
placed-none l lost index own is valid inside = record {
  count = refl;
  own = is;
  within = λ k h.
      let at : k ≡ 0 = omega (arith, h) in
      rw at (rw is (place-below l index valid inside));
  each = λ k h. absurd (omega (arith, h));
  alone = λ k h.
      let at : k ≡ 0 = omega (arith, h) in
      inl (ap (λ j. slice_index (own ∷ []) j) at ∙ is);
}

among-more : (places : List ℕ) (place j : ℕ) → IsAmong places j → IsAmong (places ++ place ∷ []) j
among-more places place j known =
    let k = known.0 in
    let less = known.1.0 in
    (k, (omega (arith, length-append places (place ∷ []), less), get_or_append_left places (place ∷ []) 0 k less ∙ known.1.1))

among-last : (places : List ℕ) (place : ℕ) → IsAmong (places ++ place ∷ []) place
among-last places place =
    let none : length places ≡ length places + 0 = omega arith in
    (length places, (omega (arith, length-append places (place ∷ [])), ap (λ k. slice_index (places ++ place ∷ []) k) none ∙ get_or-append-add places (place ∷ []) 0 0))

pub placed-yes : (l : Layout) (lost : List ℕ) (index n : ℕ) (places : List ℕ) (place : ℕ) → IsLayout l → n < length lost → place ≡ slice_index lost n / code_rounds l → is_beside l index (slice_index lost n) ≡ true
    → ArePlaced l lost index n places → ArePlaced l lost index (n + 1) (places ++ place ∷ [])
placed-yes l lost index n places place valid inside is beside known =
    let long = length-append places (place ∷ []) in
    let count = known.count in
    record {
      count = omega (arith, long, count, count_by_more_yes (is_beside l index) lost n 0 inside beside);
      own = get_or_append_left places (place ∷ []) 0 0 (omega (arith, count)) ∙ known.own;
      within = λ k h. elim (cases_lt k (length places)) [
        | inl less ↦ omega (arith, get_or_append_left places (place ∷ []) 0 k less, known.within k less)
        | inr not_less ↦
            let at : k ≡ length places + 0 = omega (arith, not_less, h, long) in
            let value : slice_index (places ++ place ∷ []) k ≡ slice_index lost n / code_rounds l = ap (λ j. slice_index (places ++ place ∷ []) j) at ∙ get_or-append-add places (place ∷ []) 0 0 ∙ is in
            omega (arith, value, place-below l (slice_index lost n) valid (beside-covered l index (slice_index lost n) beside))
      ];
      each = λ k h true_is. elim (cases_lt k n) [
        | inl less ↦ among-more places place (slice_index lost k / code_rounds l) (known.each k less true_is)
        | inr not_less ↦
            let at : n ≡ k = omega (arith, not_less, h) in
            subst (λ j. IsAmong (places ++ place ∷ []) j) (is ∙ ap (λ j. slice_index lost j / code_rounds l) at) (among-last places place)
      ];
      alone = λ k h. elim (cases_lt k (length places)) [
        | inl less ↦ subst (λ p. IsLostPlace l lost index p) (sym (get_or_append_left places (place ∷ []) 0 k less)) (known.alone k less)
        | inr not_less ↦
            let at : k ≡ length places + 0 = omega (arith, not_less, h, long) in
            let value : slice_index (places ++ place ∷ []) k ≡ slice_index lost n / code_rounds l = ap (λ j. slice_index (places ++ place ∷ []) j) at ∙ get_or-append-add places (place ∷ []) 0 0 ∙ is in
            inr (n, (inside, (beside, sym value)))
      ];
    }

pub placed-no : (l : Layout) (lost : List ℕ) (index n : ℕ) (places : List ℕ) → n < length lost → is_beside l index (slice_index lost n) ≡ false
    → ArePlaced l lost index n places → ArePlaced l lost index (n + 1) places
placed-no l lost index n places inside beside known =
    let count = known.count in
    record {
      count = omega (arith, count, count_by_more_no (is_beside l index) lost n 0 inside beside);
      own = known.own;
      within = known.within;
      each = λ k h true_is. elim (cases_lt k n) [
        | inl less ↦ known.each k less true_is
        | inr not_less ↦
            let at : k ≡ n = omega (arith, not_less, h) in
            let here : is_beside l index (slice_index lost k) ≡ false = ap (λ j. is_beside l index (slice_index lost j)) at ∙ beside in
            absurd (cc (here, true_is))
      ];
      alone = known.alone;
    }

pub placed-all : (l : Layout) (lost : List ℕ) (index n : ℕ) (places : List ℕ) → length lost ≤ n → ArePlaced l lost index n places → AreLostPlaces l lost index places
placed-all l lost index n places end known = record {
  count = known.count ∙ ap (λ xs. count_by (is_beside l index) xs + 1) (take_all n lost end);
  own = known.own;
  within = known.within;
  each = λ k h. known.each k (omega (arith, h, end));
  alone = known.alone;
}

-- ---- what an image was

-- by their numbers and by their places
before-formerly : (l : Layout) (d h d' h' : List (List ℕ)) (parity lost places : List ℕ) (index : ℕ) → IsLayout l → index < covered_blocks l → AreLostPlaces l lost index places
    → IsBefore l d h d' h' parity lost index → IsFormerly l d h d' h' (round_of l index) parity places
before-formerly l d h d' h' parity lost places index valid inside are before = record {
  stands = before.stands;
  same = λ i lt outside.
      let round = round_of l index in
      let j : ℕ = i * code_rounds l + round in
      let low = round-below l index valid inside in
      elim (cases_lt j (covered_blocks l)) [
        | inr past ↦ covered-past l d h j past ∙ sym (covered-past l d' h' j past)
        | inl here ↦
            let place : j / code_rounds l ≡ i = div-mul-add i (code_rounds l) round low in
            let other : j ≢ index = λ same. outside 0 (omega (arith, are.count)) (are.own ∙ ap (λ n. n / code_rounds l) (sym same) ∙ place) in
            let beside = beside-from l index j here (mod-mul-add i (code_rounds l) round low) other in
            before.same j beside
            (λ among.
            let k = among.0 in
            let at = among.1.1 in
            let found = are.each k among.1.0 (subst (λ n. IsTrue (is_beside l index n)) (sym at) beside) in
            outside found.0 found.1.0 (found.1.1 ∙ ap (λ n. n / code_rounds l) at ∙ place))
      ];
}

pub restored-by : (l : Layout) (d h : List (List ℕ)) (parity lost places : List ℕ) (index : ℕ) (bytes : List ℕ) → IsLayout l → index < covered_blocks l → length bytes ≡ l.block → AreLostPlaces l lost index places
    → IsFirstRestored l d h (round_of l index) parity places bytes → IsRestoredBy l d h parity lost index bytes
restored-by l d h parity lost places index bytes valid inside size are restored d' h' before =
    let round = round_of l index in
    let former = before-formerly l d h d' h' parity lost places index valid inside are before in
    let at : slice_index places 0 * code_rounds l + round ≡ index = ap (λ n. n * code_rounds l + round) are.own ∙ div-add-mod' index (code_rounds l) in
    ext_get_or 0 bytes (covered l d' h' index) (size ∙ sym before.whole)
    (λ c lt. restored d' h' former c lt ∙ ap (λ n. slice_index (covered l d' h' n) c) at)

pub made-again : (l : Layout) (d h image : List (List ℕ)) (lost places : List ℕ) (index : ℕ) (bytes : List ℕ) → IsLayout l → index < covered_blocks l → length bytes ≡ l.block → AreLostPlaces l lost index places
    → IsFirstRestored l d h (round_of l index) (block_at image (round_bytes l) (round_of l index)) places bytes → IsMadeAgain l d h image lost index bytes
made-again l d h image lost places index bytes valid inside size are restored = restored-by l d h (block_at image (round_bytes l) (round_of l index)) lost places index bytes valid inside size are restored

-- the first column of the sums
pub first-restored : (l : Layout) (d h : List (List ℕ)) (round : ℕ) (parity places sums bytes : List ℕ) → 0 < length places → length bytes ≡ l.block
    → EachIndex bytes (λ c. slice_index bytes c ≡ slice_index sums (c * length places + 0)) → AreRestored l d h round parity places sums → IsFirstRestored l d h round parity places bytes
first-restored l d h round parity places sums bytes some size taken restored d' h' former c lt =
    taken c lt ∙ restored d' h' former c 0 (omega (arith, lt, size)) some

pub come-back : LostBlocksComeBack
come-back l valid d h d' h' image lost bytes index inside whole protected same made =
    made d' h' record {
      whole = whole;
      stands = protected (round_of l index) (round-below l index valid inside);
      same = λ j beside apart. same j (beside-covered l index j beside) apart;
    }
