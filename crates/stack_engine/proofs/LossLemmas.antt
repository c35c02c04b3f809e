-- The lost blocks of a round that was judged position by position.
use Rattle.std.proofs.Common.{◌≡◌, ◌≢◌, ◌⊎◌, ℕ, zero, suc, ◌+◌, ◌-◌, ◌*◌, ◌/◌, ◌%◌, ◌<◌, ◌≤◌, All, Bool, true, false, not, cond, nat_eq, nat_lt, ◌&&◌, ◌||◌, get_or, List, [], ◌∷◌, ◌++◌, length, Option, Some, None, Ok, Err, inl, inr, refl, sym, ap, ◌∙◌, arith, subst}
use Rattle.std.specs.Prelude.{slice_index, EachIndex}
use Rattle.std.specs.List.{list_all}
use Rattle.std.proofs.lemmas.Bool.{cases_lt, eq-eqb, lt-ltb, le-ltb}
use Rattle.std.proofs.lemmas.Bool.Decides.{eqb_tells}
use Rattle.std.proofs.lemmas.List.{get_or_append_left, get_or-append_right, length-append}
use Rattle.std.proofs.lemmas.List.Elements.{All-push}
use Rattle.std.proofs.lemmas.List.Folds.{list_all-append}
use Rattle.reed_solomon.specs.Laws.{AreDistinct, selected}
use Rattle.dm_table.specs.declared.parity.Parity.{Parity}
use Rattle.dm_table.specs.declared.verity.Verity.{Verity}
use Rattle.stack_rules.specs.Trees.{round_count}
use Rattle.stack_meaning.specs.Erasures.{is_lost, is_lost_beside, known_digest, lost_places}
use Rattle.stack_meaning.specs.Spares.{BlockSources, place_number}
use Rattle.stack_engine.specs.declared.losses.Judged.{Judged}
use Rattle.stack_engine.specs.declared.losses.Judged.TheVariants as is
use Rattle.stack_engine.specs.declared.losses.Unread.{Unread}
use Rattle.stack_engine.specs.Erasures.{LossRecord, first_failed, noted, own_loss}
use Rattle.stack_engine.specs.SectorCalls.{other_number}
use Rattle.stack_engine.specs.Spares.{AreNoted, own_noted, none_noted, one_noted, IsJudgedAs}

-- ---- the block at a position

-- another block of the round
pub record IsOther (q : Parity) (j i k : ℕ) : Type 0 where
  pub apart : nat_eq i (j / round_count q) ≡ false
  pub is : k ≡ place_number q (j % round_count q) i
  pub inside : k < q.blocks

pub other-is : (q : Parity) (j i k : ℕ) → other_number q j i ≡ Some k → IsOther q j i k
other-is q j i k at = go (nat_eq i (j / round_count q)) refl at
  where
    number : ℕ
    number = place_number q (j % round_count q) i

    go : (t : Bool) → nat_eq i (j / round_count q) ≡ t → cond t None (cond (nat_lt number q.blocks) (Some number) None) ≡ Some k → IsOther q j i k
    go true e h = let clash : None ≡ Some k = h in cc
    go false e h = elim (cases_lt number q.blocks) [
      | inl low ↦
          let found : Some number ≡ Some k = sym (ap (λ t. cond t (Some number) None) (lt-ltb number q.blocks low)) ∙ h in
          let same : number ≡ k = cc in
          record { apart = e; is = sym same; inside = subst (λ x. x < q.blocks) same low }
      | inr past ↦
          let clash : None ≡ Some k = sym (ap (λ t. cond t (Some number) None) (le-ltb number q.blocks past)) ∙ h in
          cc
    ]

-- is judged as it is
pub lost-other : (v : Verity) (q : Parity) (from : BlockSources) (j i k : ℕ) → other_number q j i ≡ Some k → is_lost_beside v q from j i ≡ is_lost v from k
lost-other v q from j i k at =
    let other = other-is q j i k at in
    let number : ℕ = place_number q (j % round_count q) i in
    let inside : number < q.blocks = subst (λ x. x < q.blocks) other.is other.inside in
    ap (λ t. not t && (nat_lt number q.blocks && is_lost v from number)) other.apart
    ∙ ap (λ t. t && is_lost v from number) (lt-ltb number q.blocks inside)
    ∙ ap (λ x. is_lost v from x) (sym other.is)

pub lost-none : (v : Verity) (q : Parity) (from : BlockSources) (j i : ℕ) → other_number q j i ≡ None → is_lost_beside v q from j i ≡ false
lost-none v q from j i at = go (nat_eq i (j / round_count q)) at
  where
    number : ℕ
    number = place_number q (j % round_count q) i

    go : (t : Bool) → cond t None (cond (nat_lt number q.blocks) (Some number) None) ≡ None → (not t && (nat_lt number q.blocks && is_lost v from number)) ≡ false
    go true h = refl
    go false h = elim (cases_lt number q.blocks) [
      | inl low ↦
          let clash : Some number ≡ None = sym (ap (λ t. cond t (Some number) None) (lt-ltb number q.blocks low)) ∙ h in
          cc
      | inr past ↦ ap (λ t. t && is_lost v from number) (le-ltb number q.blocks past)
    ]

-- ---- positions

last-at : (xs : List ℕ) (m : ℕ) → slice_index (xs ++ (m ∷ [])) (length xs) ≡ m
last-at xs m = let none : length xs - length xs ≡ 0 = omega arith in get_or-append_right xs (m ∷ []) (length xs) (length xs) 0 refl (omega arith) ∙ ap (λ k. slice_index (m ∷ []) k) none

longer : (xs : List ℕ) (m : ℕ) → length (xs ++ (m ∷ [])) ≡ length xs + 1
longer xs m = length-append xs (m ∷ [])

-- of those so far and one more, each is one of them or that one
each-more : (P : ℕ → Type 0) (xs : List ℕ) (m : ℕ) → ((a : ℕ) → a < length xs → P (slice_index xs a)) → P m → (a : ℕ) → a < length (xs ++ (m ∷ [])) → P (slice_index (xs ++ (m ∷ [])) a)
each-more P xs m before here a low = elim (cases_lt a (length xs)) [
  | inl less ↦ subst P (sym (get_or_append_left xs (m ∷ []) 0 a less)) (before a less)
  | inr most ↦
      let same : length xs ≡ a = omega (arith, most, low, longer xs m) in
      subst (λ x. P (slice_index (xs ++ (m ∷ [])) x)) same (subst P (sym (last-at xs m)) here)
]

distinct-more : (xs : List ℕ) (m : ℕ) → AreDistinct xs → ((a : ℕ) → a < length xs → slice_index xs a ≢ m) → AreDistinct (xs ++ (m ∷ []))
distinct-more xs m before apart a b low low' same = elim (cases_lt a (length xs)) [
  | inl less ↦ elim (cases_lt b (length xs)) [
    | inl less' ↦ before a b less less' (sym (get_or_append_left xs (m ∷ []) 0 a less) ∙ same ∙ get_or_append_left xs (m ∷ []) 0 b less')
    | inr most ↦
        let last : length xs ≡ b = omega (arith, most, low', longer xs m) in
        absurd (apart a less (sym (get_or_append_left xs (m ∷ []) 0 a less) ∙ same ∙ ap (λ x. slice_index (xs ++ (m ∷ [])) x) (sym last) ∙ last-at xs m))
  ]
  | inr most ↦
      let last : length xs ≡ a = omega (arith, most, low, longer xs m) in
      elim (cases_lt b (length xs)) [
        | inl less' ↦ absurd (apart b less' (sym (get_or_append_left xs (m ∷ []) 0 b less') ∙ sym same ∙ ap (λ x. slice_index (xs ++ (m ∷ [])) x) (sym last) ∙ last-at xs m))
        | inr most' ↦ omega (arith, last, most', low', longer xs m)
      ]
]

-- ---- whatever was noted

-- the positions so far are the block's own, first, and others before m
pub record AreBelow (own m : ℕ) (l : LossRecord) : Type 0 where
  pub some : 0 < length l.places
  pub first : slice_index l.places 0 ≡ own
  pub each : (a : ℕ) → a < length l.places → (slice_index l.places a ≡ own) ⊎ (slice_index l.places a < m)
  pub distinct : AreDistinct l.places
  pub unread : All (λ one. one.column < length l.places) l.unread

below-later : (own m : ℕ) (l : LossRecord) → AreBelow own m l → AreBelow own (suc m) l
below-later own m l h = record {
  some = h.some;
  first = h.first;
  each = λ a low. elim (h.each a low) [
    | inl same ↦ inl same
    | inr less ↦ inr (omega (arith, less))
  ];
  distinct = h.distinct;
  unread = h.unread;
}

below-more : (own m : ℕ) (l : LossRecord) (unread : List Unread) (failed : Option ℕ) → m ≢ own → All (λ one. one.column < length l.places + 1) unread → AreBelow own m l
    → AreBelow own (suc m) (record { places = l.places ++ (m ∷ []); unread = unread; failed = failed })
below-more own m l unread failed apart columns h = record {
  some = omega (arith, longer l.places m);
  first = get_or_append_left l.places (m ∷ []) 0 0 h.some ∙ h.first;
  each = each-more (λ x. (x ≡ own) ⊎ (x < suc m)) l.places m (λ a low. elim (h.each a low) [
    | inl same ↦ inl same
    | inr less ↦ inr (omega (arith, less))
  ]) (inr (omega arith));
  distinct = distinct-more l.places m h.distinct (λ a low same. elim (h.each a low) [
    | inl is ↦ apart (sym same ∙ is)
    | inr less ↦ absurd (omega (arith, less, same))
  ]);
  unread = λ i d low. omega (arith, columns i d low, longer l.places m);
}

column-later : (l : LossRecord) → All (λ one. one.column < length l.places) l.unread → All (λ one. one.column < length l.places + 1) l.unread
column-later l h i d low = omega (arith, h i d low)

pub noted-below : {q : Parity} {j : ℕ} {Is : ℕ → Judged → Type 0} {m : ℕ} {l : LossRecord} → AreNoted q j Is m l → AreBelow (j / round_count q) m l
noted-below {q = q} {j = j} own_noted = record {
  some = omega arith;
  first = refl;
  each = λ a low. let first : 0 ≡ a = omega (arith, low) in inl (ap (λ x. slice_index (j / round_count q ∷ []) x) (sym first));
  distinct = λ a b low low' same. omega (arith, low, low');
  unread = λ i d low. absurd (omega (arith, low));
}
noted-below {q = q} {j = j} (none_noted {m = m} {l = l} before none) = below-later (j / round_count q) m l (noted-below before)
noted-below {q = q} {j = j} (one_noted {m = m} {k = k} {l = l} {judged = judged} before at here) = go (noted-below before) judged
  where
    apart : m ≢ j / round_count q
    apart same = let clash : true ≡ false = sym (eq-eqb m (j / round_count q) same) ∙ (other-is q j m k at).apart in cc

    go : AreBelow (j / round_count q) m l → (judged : Judged) → AreBelow (j / round_count q) (suc m) (noted l m judged)
    go h is.Kept = below-later (j / round_count q) m l h
    go h is.Lost = below-more (j / round_count q) m l l.unread l.failed apart (column-later l h.unread) h
    go h (is.Unread leaf known) =
        below-more (j / round_count q) m l (l.unread ++ (record { column = length l.places; digest = known } ∷ [])) (first_failed l.failed leaf) apart
        (All-push (λ one. one.column < length l.places + 1) l.unread (record { column = length l.places; digest = known }) (column-later l h.unread) (omega arith)) h

-- another relation that follows
pub noted-as : {q : Parity} {j : ℕ} {Is Be : ℕ → Judged → Type 0} {m : ℕ} {l : LossRecord} → ((k : ℕ) (judged : Judged) → Is k judged → Be k judged) → AreNoted q j Is m l → AreNoted q j Be m l
noted-as f own_noted = own_noted
noted-as f (none_noted before none) = none_noted (noted-as f before) none
noted-as f (one_noted {k = k} {judged = judged} before at here) = one_noted (noted-as f before) at (f k judged here)

-- ---- those that are lost

-- the first n of a list decide which of them are selected
selected-front : (keep : ℕ → Bool) (xs ys : List ℕ) (n : ℕ) → n ≤ length xs → selected keep (xs ++ ys) n ≡ selected keep xs n
unfolding selected
selected-front keep xs ys zero low = refl
selected-front keep xs ys (suc n) low =
    ap (λ x. cond (keep x) (selected keep (xs ++ ys) n ++ (x ∷ [])) (selected keep (xs ++ ys) n)) (get_or_append_left xs ys 0 n (omega (arith, low)))
    ∙ ap (λ zs. cond (keep (slice_index xs n)) (zs ++ (slice_index xs n ∷ [])) zs) (selected-front keep xs ys n (omega (arith, low)))

selected-more : (keep : ℕ → Bool) (xs : List ℕ) (m : ℕ) → selected keep (xs ++ (m ∷ [])) (length (xs ++ (m ∷ []))) ≡ cond (keep m) (selected keep xs (length xs) ++ (m ∷ [])) (selected keep xs (length xs))
unfolding selected
selected-more keep xs m =
    let count : length (xs ++ (m ∷ [])) ≡ suc (length xs) = omega (arith, longer xs m) in
    ap (λ n. selected keep (xs ++ (m ∷ [])) n) count
    ∙ ap (λ x. cond (keep x) (selected keep (xs ++ (m ∷ [])) (length xs) ++ (x ∷ [])) (selected keep (xs ++ (m ∷ [])) (length xs))) (last-at xs m)
    ∙ ap (λ zs. cond (keep m) (zs ++ (m ∷ [])) zs) (selected-front keep xs (m ∷ []) (length xs) (omega arith))

pub length-selected : (keep : ℕ → Bool) (xs : List ℕ) (n : ℕ) → length (selected keep xs n) ≤ n
unfolding selected
length-selected keep xs zero = omega arith
length-selected keep xs (suc n) = go (length-selected keep xs n) (keep (slice_index xs n))
  where
    go : length (selected keep xs n) ≤ n → (t : Bool) → length (cond t (selected keep xs n ++ (slice_index xs n ∷ [])) (selected keep xs n)) ≤ suc n
    go before true = omega (arith, before, length-append (selected keep xs n) (slice_index xs n ∷ []))
    go before false = omega (arith, before)

selected-own : (keep : ℕ → Bool) (own : ℕ) → keep own ≡ true → selected keep (own ∷ []) 1 ≡ own ∷ []
unfolding selected
selected-own keep own is = ap (λ t. cond t ([] ++ (own ∷ [])) []) is

module _ (v : Verity) (q : Parity) (from : BlockSources) (j : ℕ) where
  abbrev own : ℕ
  own = j / round_count q

  -- the block itself, and each other lost one
  abbrev pub keep : ℕ → Bool
  keep i = nat_eq i own || is_lost_beside v q from j i

  pub keep-own : keep own ≡ true
  keep-own = ap (λ t. t || is_lost_beside v q from j own) (eq-eqb own own refl)

  losses-next : (m : ℕ) (t : Bool) → is_lost_beside v q from j m ≡ t → lost_places v q from j (suc m) ≡ cond t (lost_places v q from j m ++ (m ∷ [])) (lost_places v q from j m)
  unfolding lost_places
  losses-next m t e = ap (λ t. cond t (lost_places v q from j m ++ (m ∷ [])) (lost_places v q from j m)) e

  losses-begin : lost_places v q from j 0 ≡ own ∷ []
  unfolding lost_places
  losses-begin = refl

  -- more positions have no fewer lost blocks
  pub losses-grow : (m d : ℕ) → length (lost_places v q from j m) ≤ length (lost_places v q from j (d + m))
  losses-grow m zero = let same : m ≡ 0 + m = omega arith in omega (arith, ap (λ k. length (lost_places v q from j k)) same)
  losses-grow m (suc d) =
      let same : suc (d + m) ≡ suc d + m = omega arith in
      go (losses-grow m d) (is_lost_beside v q from j (d + m)) refl (ap (λ k. length (lost_places v q from j k)) same)
    where
      go : length (lost_places v q from j m) ≤ length (lost_places v q from j (d + m)) → (t : Bool) → is_lost_beside v q from j (d + m) ≡ t → length (lost_places v q from j (suc (d + m))) ≡ length (lost_places v q from j (suc d + m)) → length (lost_places v q from j m) ≤ length (lost_places v q from j (suc d + m))
      go before true e same = omega (arith, before, same, ap length (losses-next (d + m) true e), length-append (lost_places v q from j (d + m)) ((d + m) ∷ []))
      go before false e same = omega (arith, before, same, ap length (losses-next (d + m) false e))

  keep-at : (m : ℕ) (t : Bool) → nat_eq m own ≡ false → is_lost_beside v q from j m ≡ t → keep m ≡ t
  keep-at m t apart e = ap (λ x. x || is_lost_beside v q from j m) apart ∙ e

  -- one more position that was judged
  select-one : (m k : ℕ) (l : LossRecord) (judged : Judged) → other_number q j m ≡ Some k → IsJudgedAs v from k judged → selected keep l.places (length l.places) ≡ lost_places v q from j m
      → selected keep (noted l m judged).places (length (noted l m judged).places) ≡ lost_places v q from j (suc m)
  select-one m k l is.Kept at here before = before ∙ sym (losses-next m false (lost-other v q from j m k at ∙ here))
  select-one m k l is.Lost at here before =
      let lost : is_lost_beside v q from j m ≡ true = lost-other v q from j m k at ∙ here in
      selected-more keep l.places m
      ∙ ap (λ t. cond t (selected keep l.places (length l.places) ++ (m ∷ [])) (selected keep l.places (length l.places))) (keep-at m true (other-is q j m k at).apart lost)
      ∙ ap (λ xs. xs ++ (m ∷ [])) before ∙ sym (losses-next m true lost)
  select-one m k l (is.Unread leaf known) at here before = go (is_lost_beside v q from j m) refl
    where
      go : (t : Bool) → is_lost_beside v q from j m ≡ t → selected keep (l.places ++ (m ∷ [])) (length (l.places ++ (m ∷ []))) ≡ lost_places v q from j (suc m)
      go t e =
          selected-more keep l.places m
          ∙ ap (λ t. cond t (selected keep l.places (length l.places) ++ (m ∷ [])) (selected keep l.places (length l.places))) (keep-at m t (other-is q j m k at).apart e)
          ∙ ap (λ xs. cond t (xs ++ (m ∷ [])) xs) before ∙ sym (losses-next m t e)

  -- those that were noted and are kept as lost are the lost ones
  pub select-noted : {m : ℕ} {l : LossRecord} → AreNoted q j (IsJudgedAs v from) m l → selected keep l.places (length l.places) ≡ lost_places v q from j m
  select-noted own_noted = selected-own keep own keep-own ∙ sym losses-begin
  select-noted (none_noted {m = m} before none) = select-noted before ∙ sym (losses-next m false (lost-none v q from j m none))
  select-noted (one_noted {m = m} {k = k} {l = l} {judged = judged} before at here) = select-one m k l judged at here (select-noted before)

  -- ---- none failed

  -- so all are lost
  record AreLost (m : ℕ) (l : LossRecord) : Type 0 where
    places : l.places ≡ lost_places v q from j m
    unread : l.unread ≡ []

  lost-one : (m k : ℕ) (l : LossRecord) (judged : Judged) → other_number q j m ≡ Some k → IsJudgedAs v from k judged → (l.failed ≡ None → AreLost m l) → (noted l m judged).failed ≡ None → AreLost (suc m) (noted l m judged)
  lost-one m k l is.Kept at here before none = let lost = before none in record { places = lost.places ∙ sym (losses-next m false (lost-other v q from j m k at ∙ here)); unread = lost.unread }
  lost-one m k l is.Lost at here before none = let lost = before none in record { places = ap (λ xs. xs ++ (m ∷ [])) lost.places ∙ sym (losses-next m true (lost-other v q from j m k at ∙ here)); unread = lost.unread }
  lost-one m k l (is.Unread leaf known) at here before none = clash l.failed none
    where
      clash : (o : Option ℕ) → first_failed o leaf ≡ None → AreLost (suc m) (noted l m (is.Unread leaf known))
      clash None e = let other : Some leaf ≡ None = e in cc
      clash (Some first) e = let other : Some first ≡ None = e in cc

  all-lost : {m : ℕ} {l : LossRecord} → AreNoted q j (IsJudgedAs v from) m l → l.failed ≡ None → AreLost m l
  all-lost own_noted none = record { places = sym losses-begin; unread = refl }
  all-lost (none_noted {m = m} before past) none = let lost = all-lost before none in record { places = lost.places ∙ sym (losses-next m false (lost-none v q from j m past)); unread = lost.unread }
  all-lost (one_noted {m = m} {k = k} {l = l} {judged = judged} before at here) none = lost-one m k l judged at here (λ e. all-lost before e) none

  pub places-lost : {m : ℕ} {l : LossRecord} → AreNoted q j (IsJudgedAs v from) m l → l.failed ≡ None → l.places ≡ lost_places v q from j m
  places-lost h none = (all-lost h none).places

  pub none-unread : {m : ℕ} {l : LossRecord} → AreNoted q j (IsJudgedAs v from) m l → l.failed ≡ None → l.unread ≡ []
  none-unread h none = (all-lost h none).unread

  -- ---- some failed

  -- the noted block at index a, whose leaf failed, passes the test, and has that known digest
  pub record IsUnread (test : Unread → Bool) (a place : ℕ) : Type 0 where
    pub one : Unread
    pub passes : test one ≡ true
    pub column : one.column ≡ a
    pub number : ℕ
    pub at : other_number q j place ≡ Some number
    pub known : known_digest v from number ≡ Ok one.digest

  abbrev pub IsLostOrUnread : (Unread → Bool) → ℕ → ℕ → Type 0
  IsLostOrUnread test a place = (keep place ≡ true) ⊎ IsUnread test a place

  and-left : (x y : Bool) → (x && y) ≡ true → x ≡ true
  and-left true y e = refl
  and-left false y e = let clash : false ≡ true = e in cc

  and-right : (x y : Bool) → (x && y) ≡ true → y ≡ true
  and-right true y e = e
  and-right false y e = let clash : false ≡ true = e in cc

  push-unread : (test : Unread → Bool) (l : LossRecord) (m : ℕ) → ((a : ℕ) → a < length l.places → IsLostOrUnread test a (slice_index l.places a)) → IsLostOrUnread test (length l.places) m
      → (a : ℕ) → a < length (l.places ++ (m ∷ [])) → IsLostOrUnread test a (slice_index (l.places ++ (m ∷ [])) a)
  push-unread test l m before here a low = elim (cases_lt a (length l.places)) [
    | inl less ↦ subst (λ x. IsLostOrUnread test a x) (sym (get_or_append_left l.places (m ∷ []) 0 a less)) (before a less)
    | inr most ↦
        let same : length l.places ≡ a = omega (arith, most, low, longer l.places m) in
        subst (λ x. IsLostOrUnread test x (slice_index (l.places ++ (m ∷ [])) x)) same (subst (λ x. IsLostOrUnread test (length l.places) x) (sym (last-at l.places m)) here)
  ]

  unread-one : (test : Unread → Bool) (m k : ℕ) (l : LossRecord) (judged : Judged) → other_number q j m ≡ Some k → IsJudgedAs v from k judged
      → (list_all test l.unread ≡ true → (a : ℕ) → a < length l.places → IsLostOrUnread test a (slice_index l.places a)) → list_all test (noted l m judged).unread ≡ true
      → (a : ℕ) → a < length (noted l m judged).places → IsLostOrUnread test a (slice_index (noted l m judged).places a)
  unread-one test m k l is.Kept at here before all a low = before all a low
  unread-one test m k l is.Lost at here before all a low = push-unread test l m (before all) (inl (keep-at m true (other-is q j m k at).apart (lost-other v q from j m k at ∙ here))) a low
  unread-one test m k l (is.Unread leaf known) at here before all a low =
      let one : Unread = record { column = length l.places; digest = known } in
      let parts : (list_all test l.unread && list_all test (one ∷ [])) ≡ true = sym (list_all-append test l.unread (one ∷ [])) ∙ all in
      let front = and-left (list_all test l.unread) (list_all test (one ∷ [])) parts in
      let last = and-right (list_all test l.unread) (list_all test (one ∷ [])) parts in
      push-unread test l m (before front) (inr (record { one = one; passes = and-left (test one) true last; column = refl; number = k; at = at; known = here })) a low

  pub unread-noted : (test : Unread → Bool) {m : ℕ} {l : LossRecord} → AreNoted q j (IsJudgedAs v from) m l → list_all test l.unread ≡ true → (a : ℕ) → a < length l.places → IsLostOrUnread test a (slice_index l.places a)
  unread-noted test own_noted all a low =
      let first : 0 ≡ a = omega (arith, low) in
      inl (subst (λ x. keep (slice_index (own ∷ []) x) ≡ true) first keep-own)
  unread-noted test (none_noted before none) all a low = unread-noted test before all a low
  unread-noted test (one_noted {m = m} {k = k} {l = l} {judged = judged} before at here) all a low = unread-one test m k l judged at here (λ e. unread-noted test before e) all a low
