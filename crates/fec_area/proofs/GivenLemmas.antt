-- Covered blocks that are read, call after call.
use Rattle.std.proofs.Common.{◌≡◌, ◌⊎◌, ◌+◌, ◌-◌, ◌*◌, ◌/◌, ◌<◌, ◌≤◌, ◌++◌, ◌∷◌, ◌∙◌, [], ℕ, zero, suc, Bool, true, false, cond, not, List, length, inl, inr, refl, sym, ap, subst, arith, append_assoc}
use Rattle.std.proofs.lemmas.Bool.{and_left, cases_Bool, cases_lt, le-ltb, lt-ltb}
use Rattle.std.proofs.lemmas.List.{append-nil}
use Rattle.block_device.specs.Call.{Call, Calls, Read}
use Rattle.block_device.proofs.lemmas.CallLemmas.{calls-append}
use Rattle.fec_area.specs.declared.layout.Layout.{Layout}
use Rattle.fec_area.specs.declared.restoring.LostBlock.{LostBlock}
use Rattle.fec_area.specs.Asking.{is_among, is_kept}
use Rattle.fec_area.specs.Given.{GivenBlock, Gives, GivesAll, GivesBlock, GivesFirst, HoldGiven, data_read, data_reads, gathered, hash_read, hash_reads, index_at, indices_of, kept_index_at}
use Rattle.fec_area.specs.GivenRestored.{GivesByParity, GivesLost, GivesNoParity, kept_index, kept_indices}
use Rattle.fec_area.specs.Handing.{round_sectors}
use Rattle.fec_area.specs.Layouts.{IsLayout, code_rounds, covered, covered_blocks}
use Rattle.fec_area.specs.Restoring.{AreLostPlaces, IsFirstRestored, IsRestoredBy, is_beside, round_of}
use Rattle.fec_area.proofs.AskingLemmas.{kept-there, lost-there}
use Rattle.fec_area.proofs.RestoringLemmas.{beside-past, restored-by}

-- ---- blocks and more blocks

indices-append : (xs ys : List GivenBlock) → indices_of (xs ++ ys) ≡ indices_of xs ++ indices_of ys
indices-append [] ys = refl
indices-append (x ∷ xs) ys = ap (λ (js : List ℕ). x.index ∷ js) (indices-append xs ys)

data-append : (l : Layout) (xs ys : List GivenBlock) → data_reads l (xs ++ ys) ≡ data_reads l xs ++ data_reads l ys
data-append l [] ys = refl
data-append l (x ∷ xs) ys = ap (λ (calls : List Call). data_read l x true ++ calls) (data-append l xs ys) ∙ sym (append_assoc (data_read l x true) (data_reads l xs) (data_reads l ys))

hash-append : (l : Layout) (xs ys : List GivenBlock) → hash_reads l (xs ++ ys) ≡ hash_reads l xs ++ hash_reads l ys
hash-append l [] ys = refl
hash-append l (x ∷ xs) ys = ap (λ (calls : List Call). hash_read l x true ++ calls) (hash-append l xs ys) ∙ sym (append_assoc (hash_read l x true) (hash_reads l xs) (hash_reads l ys))

hold-left : (l : Layout) (d h : List (List ℕ)) (xs ys : List GivenBlock) → HoldGiven l d h (xs ++ ys) → HoldGiven l d h xs
hold-left l d h [] ys held = tt
hold-left l d h (x ∷ xs) ys held = (held.0, hold-left l d h xs ys held.1)

hold-right : (l : Layout) (d h : List (List ℕ)) (xs ys : List GivenBlock) → HoldGiven l d h (xs ++ ys) → HoldGiven l d h ys
hold-right l d h [] ys held = held
hold-right l d h (x ∷ xs) ys held = hold-right l d h xs ys held.1

-- ---- which blocks

pub gathered-none : (f : ℕ → List ℕ) → gathered f 0 ≡ []
unfolding gathered
gathered-none f = refl

gathered-suc : (f : ℕ → List ℕ) (n : ℕ) → gathered f (suc n) ≡ gathered f n ++ f n
unfolding gathered
gathered-suc f n = refl

pub gathered-next : (f : ℕ → List ℕ) (n : ℕ) → gathered f n ++ f n ≡ gathered f (n + 1)
gathered-next f n =
    let e : suc n ≡ n + 1 = omega arith in
    sym (gathered-suc f n) ∙ ap (λ k. gathered f k) e

pub gathered-same : (f g : ℕ → List ℕ) (n : ℕ) → ((k : ℕ) → f k ≡ g k) → gathered f n ≡ gathered g n
unfolding gathered
gathered-same f g zero same = refl
gathered-same f g (suc n) same = ap (λ xs. xs ++ f n) (gathered-same f g n same) ∙ ap (λ xs. gathered g n ++ xs) (same n)

gathered-more : (f : ℕ → List ℕ) (n k : ℕ) → (rest : List ℕ) × (gathered f (n + k) ≡ gathered f n ++ rest)
gathered-more f n zero =
    let e : n + 0 ≡ n = omega arith in
    ([], ap (λ m. gathered f m) e ∙ sym (append-nil (gathered f n)))
gathered-more f n (suc k) =
    let e : n + suc k ≡ suc (n + k) = omega arith in
    let front = gathered-more f n k in
    (front.0 ++ f (n + k), ap (λ m. gathered f m) e ∙ gathered-suc f (n + k) ∙ ap (λ xs. xs ++ f (n + k)) front.1 ∙ append_assoc (gathered f n) front.0 (f (n + k)))

pub gathered-rest : (f : ℕ → List ℕ) (n m : ℕ) → n ≤ m → (rest : List ℕ) × (gathered f m ≡ gathered f n ++ rest)
gathered-rest f n m le =
    let e : n + (m - n) ≡ m = omega arith in
    let more = gathered-more f n (m - n) in
    (more.0, ap (λ k. gathered f k) (sym e) ∙ more.1)

pub index-here : (l : Layout) (round i : ℕ) → i * code_rounds l + round < covered_blocks l → index_at l round i ≡ (i * code_rounds l + round) ∷ []
index-here l round i lt = ap (λ b. cond b ((i * code_rounds l + round) ∷ []) []) (lt-ltb (i * code_rounds l + round) (covered_blocks l) lt)

pub index-past : (l : Layout) (round i : ℕ) → covered_blocks l ≤ i * code_rounds l + round → index_at l round i ≡ []
index-past l round i le = ap (λ b. cond b ((i * code_rounds l + round) ∷ []) []) (le-ltb (i * code_rounds l + round) (covered_blocks l) le)

pub kept-lost : (l : Layout) (round : ℕ) (places : List ℕ) (i : ℕ) → is_among places i ≡ true → kept_index_at l round places i ≡ []
kept-lost l round places i lost = ap (λ b. cond b [] (index_at l round i)) lost

pub kept-other : (l : Layout) (round : ℕ) (places : List ℕ) (i : ℕ) → is_among places i ≡ false → kept_index_at l round places i ≡ index_at l round i
kept-other l round places i other = ap (λ b. cond b [] (index_at l round i)) other

-- the blocks at positions that aren't lost are those that are kept
kept-same : (sought : LostBlock) (places : List ℕ) → IsLayout sought.layout.now → sought.index < covered_blocks sought.layout.now → AreLostPlaces sought.layout.now sought.lost.now sought.index places
    → (i : ℕ) → kept_index_at sought.layout.now (round_of sought.layout.now sought.index) places i ≡ kept_index sought i
kept-same sought places valid inside are i =
    let l = sought.layout.now in
    let lost = sought.lost.now in
    let round = round_of l sought.index in
    let j : ℕ = i * code_rounds l + round in
    let kept = is_kept l lost sought.index j in
    elim (cases_Bool (is_among places i)) [
      | inl taken ↦ kept-lost l round places i taken ∙ sym (ap (λ b. cond b (j ∷ []) []) (lost-there l lost places sought.index i are taken))
      | inr other ↦ elim (cases_lt j (covered_blocks l)) [
        | inl here ↦ kept-other l round places i other ∙ index-here l round i here ∙ sym (ap (λ b. cond b (j ∷ []) []) (kept-there l lost places sought.index i valid inside are other here))
        | inr past ↦ kept-other l round places i other ∙ index-past l round i past ∙ sym (ap (λ b. cond b (j ∷ []) []) (and_left (is_beside l sought.index j) (not (is_among lost j)) (beside-past l sought.index j past)))
      ]
    ]

pub kept-all : (sought : LostBlock) (places ps : List ℕ) (round : ℕ) → IsLayout sought.layout.now → sought.index < covered_blocks sought.layout.now → AreLostPlaces sought.layout.now sought.lost.now sought.index places
    → round ≡ round_of sought.layout.now sought.index → ps ≡ places → gathered (kept_index_at sought.layout.now round ps) (255 - sought.layout.now.roots) ≡ kept_indices sought
kept-all sought places ps round valid inside are at same =
    let l = sought.layout.now in
    let n : ℕ = 255 - l.roots in
    ap (λ r. gathered (kept_index_at l r ps) n) at ∙ ap (λ qs. gathered (kept_index_at l (round_of l sought.index) qs) n) same
    ∙ gathered-same (kept_index_at l (round_of l sought.index) places) (kept_index sought) n (kept-same sought places valid inside are)

-- ---- the calls

-- a read of one of the two devices
pub data-given : {D H : Type 0} (asks : D → Call → D → Type 0) (does : H → Call → H → Type 0) (l : Layout) (index : ℕ) (bytes : List ℕ) (d d' : D) (h : H) (ok : Bool) → index < l.data_blocks
    → asks d (Read (index * (l.block / 512)) bytes ok) d' → GivesBlock asks does l index bytes d h d' h ok
data-given asks does l index bytes d d' h ok lt call =
    let here = lt-ltb index l.data_blocks lt in
    let first : Call = Read (index * (l.block / 512)) bytes ok in
    let other : Call = Read ((l.hash_first + (index - l.data_blocks)) * (l.block / 512)) bytes ok in (
      subst (λ (b : Bool). Calls asks d (cond b (first ∷ []) []) d') (sym here) (d', call, refl),
      subst (λ (b : Bool). Calls does h (cond b [] (other ∷ [])) h) (sym here) refl,
    )

pub hash-given : {D H : Type 0} (asks : D → Call → D → Type 0) (does : H → Call → H → Type 0) (l : Layout) (index : ℕ) (bytes : List ℕ) (d : D) (h h' : H) (ok : Bool) → l.data_blocks ≤ index
    → does h (Read ((l.hash_first + (index - l.data_blocks)) * (l.block / 512)) bytes ok) h' → GivesBlock asks does l index bytes d h d h' ok
hash-given asks does l index bytes d h h' ok le call =
    let there = le-ltb index l.data_blocks le in
    let first : Call = Read (index * (l.block / 512)) bytes ok in
    let other : Call = Read ((l.hash_first + (index - l.data_blocks)) * (l.block / 512)) bytes ok in (
      subst (λ (b : Bool). Calls asks d (cond b (first ∷ []) []) d) (sym there) refl,
      subst (λ (b : Bool). Calls does h (cond b [] (other ∷ [])) h') (sym there) (h', call, refl),
    )

module _ {D H : Type 0} (asks : D → Call → D → Type 0) (does : H → Call → H → Type 0) (l : Layout) where
  -- no block
  pub all-none : (indices : List ℕ) → indices ≡ [] → (F : List (List ℕ) → List (List ℕ) → Type 0) → ((x y : List (List ℕ)) → F x y) → (d : D) (h : H) → GivesAll asks does l indices F d h d h
  all-none indices is F fact d h = record { blocks = []; are = sym is; of_data = refl; of_hash = refl; fact = λ x y held. fact x y }

  -- one block
  pub all-one : (indices : List ℕ) (index : ℕ) (bytes : List ℕ) → indices ≡ index ∷ [] → (F : List (List ℕ) → List (List ℕ) → Type 0) → ((x y : List (List ℕ)) → covered l x y index ≡ bytes → F x y)
      → (d : D) (h : H) (d' : D) (h' : H) → GivesBlock asks does l index bytes d h d' h' true → GivesAll asks does l indices F d h d' h'
  all-one indices index bytes is F fact d h d' h' given =
      let b : GivenBlock = record { index = index; bytes = bytes } in
      record {
        blocks = b ∷ [];
        are = sym is;
        of_data = subst (λ (calls : List Call). Calls asks d calls d') (sym (append-nil (data_read l b true))) given.0;
        of_hash = subst (λ (calls : List Call). Calls does h calls h') (sym (append-nil (hash_read l b true))) given.1;
        fact = λ x y held. fact x y held.0;
      }

  pub first-one : (indices : List ℕ) (index : ℕ) (bytes : List ℕ) → indices ≡ index ∷ [] → (d : D) (h : H) (d' : D) (h' : H) → GivesBlock asks does l index bytes d h d' h' false → GivesFirst asks does l indices d h d' h'
  first-one indices index bytes is d h d' h' given = record { blocks = []; last = record { index = index; bytes = bytes }; rest = []; are = is; of_data = given.0; of_hash = given.1 }

  -- blocks and more blocks
  pub all-then : (is js ks : List ℕ) → is ++ js ≡ ks → (F G K : List (List ℕ) → List (List ℕ) → Type 0) → ((x y : List (List ℕ)) → F x y → G x y → K x y) → (d : D) (h : H) (d' : D) (h' : H) (d'' : D) (h'' : H)
      → GivesAll asks does l is F d h d' h' → GivesAll asks does l js G d' h' d'' h'' → GivesAll asks does l ks K d h d'' h''
  all-then is js ks whole F G K both d h d' h' d'' h'' p q = record {
    blocks = p.blocks ++ q.blocks;
    are = indices-append p.blocks q.blocks ∙ ap (λ (xs : List ℕ). xs ++ indices_of q.blocks) p.are ∙ ap (λ (xs : List ℕ). is ++ xs) q.are ∙ whole;
    of_data = subst (λ (calls : List Call). Calls asks d calls d'') (sym (data-append l p.blocks q.blocks)) (calls-append asks d d' d'' (data_reads l p.blocks) (data_reads l q.blocks) p.of_data q.of_data);
    of_hash = subst (λ (calls : List Call). Calls does h calls h'') (sym (hash-append l p.blocks q.blocks)) (calls-append does h h' h'' (hash_reads l p.blocks) (hash_reads l q.blocks) p.of_hash q.of_hash);
    fact = λ x y held. both x y (p.fact x y (hold-left l x y p.blocks q.blocks held)) (q.fact x y (hold-right l x y p.blocks q.blocks held));
  }

  -- a read of one of these failed
  pub first-then : (is js all rest : List ℕ) → all ≡ (is ++ js) ++ rest → (F : List (List ℕ) → List (List ℕ) → Type 0) → (d : D) (h : H) (d' : D) (h' : H) (d'' : D) (h'' : H)
      → GivesAll asks does l is F d h d' h' → GivesFirst asks does l js d' h' d'' h'' → GivesFirst asks does l all d h d'' h''
  first-then is js all rest whole F d h d' h' d'' h'' p q =
      let last = q.last.index in
      let part : is ++ js ≡ indices_of (p.blocks ++ q.blocks) ++ last ∷ q.rest =
      ap (λ (xs : List ℕ). is ++ xs) q.are ∙ sym (append_assoc is (indices_of q.blocks) (last ∷ q.rest))
      ∙ ap (λ (xs : List ℕ). (xs ++ indices_of q.blocks) ++ last ∷ q.rest) (sym p.are) ∙ ap (λ (xs : List ℕ). xs ++ last ∷ q.rest) (sym (indices-append p.blocks q.blocks)) in
      record {
        blocks = p.blocks ++ q.blocks;
        last = q.last;
        rest = q.rest ++ rest;
        are = whole ∙ ap (λ (xs : List ℕ). xs ++ rest) part ∙ append_assoc (indices_of (p.blocks ++ q.blocks)) (last ∷ q.rest) rest;
        of_data =
            subst (λ (calls : List Call). Calls asks d calls d'')
            (sym (append_assoc (data_reads l p.blocks) (data_reads l q.blocks) (data_read l q.last false)) ∙ ap (λ (calls : List Call). calls ++ data_read l q.last false) (sym (data-append l p.blocks q.blocks)))
            (calls-append asks d d' d'' (data_reads l p.blocks) (data_reads l q.blocks ++ data_read l q.last false) p.of_data q.of_data);
        of_hash =
            subst (λ (calls : List Call). Calls does h calls h'')
            (sym (append_assoc (hash_reads l p.blocks) (hash_reads l q.blocks) (hash_read l q.last false)) ∙ ap (λ (calls : List Call). calls ++ hash_read l q.last false) (sym (hash-append l p.blocks q.blocks)))
            (calls-append does h h' h'' (hash_reads l p.blocks) (hash_reads l q.blocks ++ hash_read l q.last false) p.of_hash q.of_hash);
      }

  -- what follows from the fact
  pub gives-weaker : (is js : List ℕ) → is ≡ js → (F G : List (List ℕ) → List (List ℕ) → Type 0) → ((x y : List (List ℕ)) → F x y → G x y) → (d : D) (h : H) (d' : D) (h' : H) (ok : Bool)
      → Gives asks does l is F d h d' h' ok → Gives asks does l js G d h d' h' ok
  gives-weaker is js same F G weaker d h d' h' true p = record { blocks = p.blocks; are = p.are ∙ same; of_data = p.of_data; of_hash = p.of_hash; fact = λ x y held. weaker x y (p.fact x y held) }
  gives-weaker is js same F G weaker d h d' h' false p = record { blocks = p.blocks; last = p.last; rest = p.rest; are = sym same ∙ p.are; of_data = p.of_data; of_hash = p.of_hash }

-- ---- the lost block

module _ {D H P : Type 0} (asks : D → Call → D → Type 0) (does : H → Call → H → Type 0) (reads : P → Call → P → Type 0) (sought : LostBlock) (places ps : List ℕ) (round : ℕ) (bytes : List ℕ)
    (valid : IsLayout sought.layout.now) (inside : sought.index < covered_blocks sought.layout.now) (are : AreLostPlaces sought.layout.now sought.lost.now sought.index places)
    (at : round ≡ round_of sought.layout.now sought.index) (same : ps ≡ places) (d : D) (h : H) (p : P) (d' : D) (h' : H) (p' : P) where
  abbrev pub l : Layout
  l = sought.layout.now

  abbrev pub here : List ℕ
  here = gathered (kept_index_at l round ps) (255 - l.roots)

  abbrev pub FirstLost : List ℕ → List (List ℕ) → List (List ℕ) → Type 0
  FirstLost parity x y = IsFirstRestored l x y round parity ps bytes

  parity-at : (parity : List ℕ) (ok : Bool) → reads p (Read (round * round_sectors l) parity ok) p' → reads p (Read (round_of l sought.index * round_sectors l) parity ok) p'
  parity-at parity ok call = subst (λ (r : ℕ). reads p (Read (r * round_sectors l) parity ok) p') at call

  restored-at : length bytes ≡ l.block → (parity : List ℕ) (x y : List (List ℕ)) → FirstLost parity x y → IsRestoredBy l x y parity sought.lost.now sought.index bytes
  restored-at size parity x y first =
      restored-by l x y parity sought.lost.now places sought.index bytes valid inside size are
      (subst (λ (r : ℕ). IsFirstRestored l x y r parity places bytes) at (subst (λ (qs : List ℕ). IsFirstRestored l x y round parity qs bytes) same first))

  pub lost-given : length bytes ≡ l.block → GivesByParity asks does reads l round here FirstLost d h p d' h' p' true → GivesLost asks does reads sought bytes d h p d' h' p' true
  lost-given size given = record {
    parity = given.parity;
    of_parity = parity-at given.parity true given.of_parity;
    blocks = gives-weaker asks does l here (kept_indices sought) (kept-all sought places ps round valid inside are at same) (FirstLost given.parity) (λ x y. IsRestoredBy l x y given.parity sought.lost.now sought.index bytes)
        (restored-at size given.parity) d h d' h' true given.blocks;
  }

  pub lost-stopped : GivesNoParity reads l round d h p d' h' p' ⊎ GivesByParity asks does reads l round here FirstLost d h p d' h' p' false
      → GivesNoParity reads l (round_of l sought.index) d h p d' h' p' ⊎ GivesLost asks does reads sought bytes d h p d' h' p' false
  lost-stopped (inl none) = inl (none.0, parity-at none.0 false none.1, none.2, none.3)
  lost-stopped (inr given) = inr record {
    parity = given.parity;
    of_parity = parity-at given.parity true given.of_parity;
    blocks = record {
      blocks = given.blocks.blocks;
      last = given.blocks.last;
      rest = given.blocks.rest;
      are = sym (kept-all sought places ps round valid inside are at same) ∙ given.blocks.are;
      of_data = given.blocks.of_data;
      of_hash = given.blocks.of_hash;
    };
  }
