-- Sectors that are asked of devices, call by call and place by place.
use Rattle.std.proofs.Common.{◌≡◌, ◌≢◌, ℕ, ◌+◌, ◌-◌, ◌*◌, ◌/◌, ◌%◌, ◌<◌, ◌≤◌, suc, Bool, true, false, cond, not, ◌&&◌, nat_lt, IsTrue, List, [], ◌∷◌, length, inl, inr, refl, sym, ap, ◌∙◌, subst, arith}
use Rattle.std.specs.Prelude.{slice_index, ◌==◌}
use Rattle.std.proofs.lemmas.Bool.{and_from, and_left, and_parts, and_right, both_ways, cases_Bool, cases_lt, cond-false, cond-true, eq-eqb, eqb-true, false_from_ne_true, le-ltb, lt-ltb, not_from_false, not_from_true, or_cases, true≢false}
use Rattle.std.proofs.lemmas.List.Folds.{list_any_at}
use Rattle.std.proofs.lemmas.Nat.{div-mul-add, mod-mul-add, div-add-mod'}
use Rattle.block_device.specs.Device.{Device, IsRead}
use Rattle.verity_format.specs.Blocks.{IsOnlyRead}
use Rattle.fec_area.specs.declared.layout.Layout.{Layout}
use Rattle.fec_area.specs.Asking.{AreAsked, AreAskedFor, IsAsked, IsAskedFor, is_among, is_kept, kept_at, kept_data, kept_hash, kept_of, sectors_on_data, sectors_on_hash, sum_to}
use Rattle.fec_area.specs.Layouts.{IsLayout, covered_blocks, code_rounds}
use Rattle.fec_area.specs.Restoring.{AreLostPlaces, IsAmong, is_beside, round_of}
use Rattle.fec_area.proofs.CallLemmas.{call-read}
use Rattle.fec_area.proofs.RestoringLemmas.{beside-from, beside-round, rounds-room, round-below}
use Rattle.fec_area.proofs.SumLemmas.{count-sum, sum-next, sum-none, sum-past, sum-rounds, sum-same, sum-split, sum-zero}

-- ---- calls

pub asked-none : (d : Device) → IsAsked d 0 d
asked-none d = record { most = omega arith; each = λ h. omega arith }

asked-then : {a b c : Device} (n m : ℕ) → IsAsked a n b → IsAsked b m c → IsAsked a (n + m) c
asked-then {a = a} {b = b} {c = c} n m p q = record {
  most = omega (arith, p.most, q.most);
  each = λ h.
      let one : b.reads ≡ a.reads + n = p.each (omega arith) in
      let two : c.reads ≡ b.reads + m = q.each (omega (arith, one)) in
      omega (arith, one, two);
}

pub asked-read : {old new : Device} {n : ℕ} {ok : Bool} → IsRead old n ok new → IsAsked old n new
asked-read p = record { most = omega (arith, p.reads); each = λ h. omega (arith, p.reads) }

asked-as : {a b : Device} (n m : ℕ) → n ≡ m → IsAsked a n b → IsAsked a m b
asked-as {a = a} {b = b} n m e p = subst (λ (k : ℕ). IsAsked a k b) e p

pub both-none : (a b : Device) → AreAsked 0 0 a b a b
both-none a b = record { of_data = asked-none a; of_hash = asked-none b }

pub both-as : {a b c d : Device} (n m n' m' : ℕ) → n ≡ n' → m ≡ m' → AreAsked n m a b c d → AreAsked n' m' a b c d
both-as n m n' m' e e' p = record { of_data = asked-as n n' e p.of_data; of_hash = asked-as m m' e' p.of_hash }

-- at one place more
pub both-then : {a b c d e f : Device} (x y x' y' n m : ℕ) → x + n ≡ x' → y + m ≡ y' → AreAsked x y a b c d → AreAsked n m c d e f → AreAsked x' y' a b e f
both-then x y x' y' n m e e' p q = record { of_data = asked-as (x + n) x' e (asked-then x n p.of_data q.of_data); of_hash = asked-as (y + m) y' e' (asked-then y m p.of_hash q.of_hash) }

-- all of them, by a call that ended well
pub asked-all : {a b : Device} (n m : ℕ) (ok : Bool) → n ≡ m → IsOnlyRead a b → b.failures ≡ a.failures → IsAsked a n b → IsAskedFor a m ok b
asked-all n m ok e read kept p =
    let here = asked-as n m e p in
    record {
      most = here.most;
      full = λ h. record { read = read; reads = λ small. here.each small; failures = kept };
    }

-- some of them, by one that failed
pub asked-some : {a b : Device} (n m : ℕ) (ok : Bool) → n ≤ m → ok ≡ false → IsAsked a n b → IsAskedFor a m ok b
asked-some n m ok le failed p = record {
  most = omega (arith, p.most, le);
  full = λ h. absurd (both_ways ok failed h);
}

pub both-some : {a b c d : Device} (n m n' m' : ℕ) (ok : Bool) → n ≤ n' → m ≤ m' → ok ≡ false → AreAsked n m a b c d → IsAskedFor a n' ok c × IsAskedFor b m' ok d
both-some n m n' m' ok le le' failed p = (asked-some n n' ok le failed p.of_data, asked-some m m' ok le' failed p.of_hash)

asked-again : {a b : Device} (n : ℕ) (ok ok' : Bool) → ok' ≡ false → IsAskedFor a n ok b → IsAskedFor a n ok' b
asked-again n ok ok' failed p = record { most = p.most; full = λ h. absurd (both_ways ok' failed h) }

-- what one call that failed read, after the parity's
pub first-again : {a b c a' b' c' : Device} (n m k p : ℕ) (ok ok' last : Bool) → p ≡ k → ok' ≡ false → IsAskedFor a n ok a' × IsAskedFor b m ok b' → IsRead c p last c' → AreAskedFor n m k ok' a b c a' b' c'
first-again n m k p ok ok' last e failed both read = record {
  of_data = asked-again n ok ok' failed both.0;
  of_hash = asked-again m ok ok' failed both.1;
  of_parity = asked-some p k ok' (omega (arith, e)) failed (asked-read read);
}

-- those of the parity alone
pub parity-asked : {c c' : Device} (a b : Device) (n m k p : ℕ) (ok last : Bool) → p ≡ k → ok ≡ false → IsRead c p last c' → AreAskedFor n m k ok a b c a b c'
parity-asked a b n m k p ok last e failed read = record {
  of_data = asked-some 0 n ok (omega arith) failed (asked-none a);
  of_hash = asked-some 0 m ok (omega arith) failed (asked-none b);
  of_parity = asked-some p k ok (omega (arith, e)) failed (asked-read read);
}

-- none
pub none-asked : (n m k : ℕ) (ok : Bool) (a b c : Device) → ok ≡ false → AreAskedFor n m k ok a b c a b c
none-asked n m k ok a b c failed = record {
  of_data = asked-some 0 n ok (omega arith) failed (asked-none a);
  of_hash = asked-some 0 m ok (omega arith) failed (asked-none b);
  of_parity = asked-some 0 k ok (omega arith) failed (asked-none c);
}

pub asked-for-read : {old new : Device} {n : ℕ} (m : ℕ) (ok : Bool) → n ≡ m → IsRead old n true new → IsAskedFor old m ok new
asked-for-read {n = n} m ok e p = asked-all n m ok e (call-read p) p.failures (asked-read p)

-- ---- blocks

on-data : (l : Layout) (j : ℕ) → j < l.data_blocks → sectors_on_data l j ≡ l.block / 512
on-data l j lt = cond-true (nat_lt j l.data_blocks) (l.block / 512) 0 (lt-ltb j l.data_blocks lt)

off-data : (l : Layout) (j : ℕ) → l.data_blocks ≤ j → sectors_on_data l j ≡ 0
off-data l j le = cond-false (nat_lt j l.data_blocks) (l.block / 512) 0 (le-ltb j l.data_blocks le)

abbrev hash_rest : Layout → ℕ → ℕ
hash_rest l j = cond (nat_lt j (covered_blocks l)) (l.block / 512) 0

off-hash : (l : Layout) (j : ℕ) → j < l.data_blocks → sectors_on_hash l j ≡ 0
off-hash l j lt = cond-true (nat_lt j l.data_blocks) 0 (hash_rest l j) (lt-ltb j l.data_blocks lt)

on-hash : (l : Layout) (j : ℕ) → l.data_blocks ≤ j → j < covered_blocks l → sectors_on_hash l j ≡ l.block / 512
on-hash l j le lt = cond-false (nat_lt j l.data_blocks) 0 (hash_rest l j) (le-ltb j l.data_blocks le) ∙ cond-true (nat_lt j (covered_blocks l)) (l.block / 512) 0 (lt-ltb j (covered_blocks l) lt)

past-hash : (l : Layout) (j : ℕ) → covered_blocks l ≤ j → sectors_on_hash l j ≡ 0
past-hash l j le = cond-false (nat_lt j l.data_blocks) 0 (hash_rest l j) (le-ltb j l.data_blocks (omega (arith, le))) ∙ cond-false (nat_lt j (covered_blocks l)) (l.block / 512) 0 (le-ltb j (covered_blocks l) le)

pub data-asked : (l : Layout) (j len : ℕ) {a b a' : Device} {ok : Bool} → len ≡ l.block → j < l.data_blocks → IsRead a (len / 512) ok a' → AreAsked (sectors_on_data l j) (sectors_on_hash l j) a b a' b
data-asked l j len {b = b} is lt p =
    both-as (len / 512) 0 (sectors_on_data l j) (sectors_on_hash l j) (ap (λ n. n / 512) is ∙ sym (on-data l j lt)) (sym (off-hash l j lt)) record { of_data = asked-read p; of_hash = asked-none b }

pub hash-asked : (l : Layout) (j len : ℕ) {a b b' : Device} {ok : Bool} → len ≡ l.block → l.data_blocks ≤ j → j < covered_blocks l → IsRead b (len / 512) ok b'
    → AreAsked (sectors_on_data l j) (sectors_on_hash l j) a b a b'
hash-asked l j len {a = a} is le lt p =
    both-as 0 (len / 512) (sectors_on_data l j) (sectors_on_hash l j) (sym (off-data l j le)) (ap (λ n. n / 512) is ∙ sym (on-hash l j le lt)) record { of_data = asked-none a; of_hash = asked-read p }

-- past the last block none is
pub past-asked : (l : Layout) (j : ℕ) (a b : Device) → covered_blocks l ≤ j → AreAsked (sectors_on_data l j) (sectors_on_hash l j) a b a b
past-asked l j a b le =
    both-as 0 0 (sectors_on_data l j) (sectors_on_hash l j) (sym (off-data l j (omega (arith, le)))) (sym (past-hash l j le)) (both-none a b)

-- block i is accessed as block j if the two numbers are equal
pub asked-at : {i j : ℕ} {a b c d : Device} (l : Layout) → i ≡ j → AreAsked (sectors_on_data l i) (sectors_on_hash l i) a b c d → AreAsked (sectors_on_data l j) (sectors_on_hash l j) a b c d
asked-at {a = a} {b = b} {c = c} {d = d} l e p = subst (λ (n : ℕ). AreAsked (sectors_on_data l n) (sectors_on_hash l n) a b c d) e p

-- at a lost place none is, at another one those of its block are
pub lost-asked : (l : Layout) (round : ℕ) (places : List ℕ) (i : ℕ) (a b : Device) → is_among places i ≡ true → AreAsked (kept_at (sectors_on_data l) l round places i) (kept_at (sectors_on_hash l) l round places i) a b a b
lost-asked l round places i a b taken =
    let j : ℕ = i * code_rounds l + round in
    both-as 0 0 (kept_at (sectors_on_data l) l round places i) (kept_at (sectors_on_hash l) l round places i) (sym (cond-true (is_among places i) 0 (sectors_on_data l j) taken)) (sym (cond-true (is_among places i) 0 (sectors_on_hash l j) taken)) (both-none a b)

pub kept-asked : (l : Layout) (round : ℕ) (places : List ℕ) (i : ℕ) {a b c d : Device} → is_among places i ≡ false
    → AreAsked (sectors_on_data l (i * code_rounds l + round)) (sectors_on_hash l (i * code_rounds l + round)) a b c d → AreAsked (kept_at (sectors_on_data l) l round places i) (kept_at (sectors_on_hash l) l round places i) a b c d
kept-asked l round places i other p =
    let j : ℕ = i * code_rounds l + round in
    both-as (sectors_on_data l j) (sectors_on_hash l j) (kept_at (sectors_on_data l) l round places i) (kept_at (sectors_on_hash l) l round places i) (sym (cond-false (is_among places i) 0 (sectors_on_data l j) other)) (sym (cond-false (is_among places i) 0 (sectors_on_hash l j) other)) p

-- those of the first places, and of one more
pub places-none : (f g : ℕ → ℕ) (a b : Device) → AreAsked (sum_to f 0) (sum_to g 0) a b a b
places-none f g a b = both-as 0 0 (sum_to f 0) (sum_to g 0) (sym (sum-none f)) (sym (sum-none g)) (both-none a b)

pub places-more : {a b c d e h : Device} (f g : ℕ → ℕ) (n : ℕ) → AreAsked (sum_to f n) (sum_to g n) a b c d → AreAsked (f n) (g n) c d e h → AreAsked (sum_to f (n + 1)) (sum_to g (n + 1)) a b e h
places-more f g n p q = both-then (sum_to f n) (sum_to g n) (sum_to f (n + 1)) (sum_to g (n + 1)) (f n) (g n) (sum-next f n) (sum-next g n) p q

-- ---- lost places

-- a number that a list has, by its index
pub among-at : (xs : List ℕ) (j : ℕ) → is_among xs j ≡ true → IsAmong xs j
among-at [] j e = absurd (true≢false (sym e))
among-at (x ∷ xs) j e = elim (or_cases (x == j) (is_among xs j) e) [
  | inl here ↦ (0, (omega arith, eqb-true x j here))
  | inr later ↦
      let rest = among-at xs j later in
      (suc rest.0, (omega (arith, rest.1.0), rest.1.1))
]

among-from : (xs : List ℕ) (j k : ℕ) → k < length xs → slice_index xs k ≡ j → is_among xs j ≡ true
among-from xs j k lt e = list_any_at (λ n. n == j) xs k 0 lt (eq-eqb (slice_index xs k) j e)

-- at a lost place there is no block that is kept
pub lost-there : (l : Layout) (lost places : List ℕ) (index i : ℕ) → AreLostPlaces l lost index places → is_among places i ≡ true → is_kept l lost index (i * code_rounds l + round_of l index) ≡ false
lost-there l lost places index i are among =
    let n = code_rounds l in
    let r = round_of l index in
    let j : ℕ = i * n + r in
    let found = among-at places i among in
    elim (are.alone found.0 found.1.0) [
      | inl own ↦
          let same : j ≡ index = ap (λ k. k * n + r) (sym found.1.1 ∙ own) ∙ div-add-mod' index n in
          let none : is_beside l index j ≡ false = and_right (nat_lt j (covered_blocks l) && (j % n == r)) (not (j == index)) (not_from_true (j == index) (eq-eqb j index same)) in
          and_left (is_beside l index j) (not (is_among lost j)) none
      | inr other ↦
          let k = other.0 in
          let beside = other.1.1.0 in
          let at : slice_index lost k ≡ j = sym (div-add-mod' (slice_index lost k) n) ∙ ap (λ q. q * n + slice_index lost k % n) (other.1.1.1 ∙ found.1.1) ∙ ap (λ q. i * n + q) (beside-round l index (slice_index lost k) beside) in
          and_right (is_beside l index j) (not (is_among lost j)) (not_from_true (is_among lost j) (among-from lost j k other.1.0 at))
    ]

-- at another one it is kept
pub kept-there : (l : Layout) (lost places : List ℕ) (index i : ℕ) → IsLayout l → index < covered_blocks l → AreLostPlaces l lost index places → is_among places i ≡ false
    → i * code_rounds l + round_of l index < covered_blocks l → is_kept l lost index (i * code_rounds l + round_of l index) ≡ true
kept-there l lost places index i valid inside are apart here =
    let n = code_rounds l in
    let r = round_of l index in
    let j : ℕ = i * n + r in
    let low = round-below l index valid inside in
    let place : j / n ≡ i = div-mul-add i n r low in
    let other : j ≢ index = λ same. both_ways (is_among places i) apart (among-from places i 0 (omega (arith, are.count)) (are.own ∙ ap (λ k. k / n) (sym same) ∙ place)) in
    let beside = beside-from l index j here (mod-mul-add i n r low) other in
    let free : is_among lost j ≡ false = false_from_ne_true (is_among lost j) (λ among.
    let known = among-at lost j among in
    let at = known.1.1 in
    let found = are.each known.0 known.1.0 (subst (λ k. IsTrue (is_beside l index k)) (sym at) beside) in
    both_ways (is_among places i) apart (among-from places i found.0 found.1.0 (found.1.1 ∙ ap (λ k. k / n) at ∙ place))) in
    and_from (is_beside l index j) (not (is_among lost j)) beside (not_from_false (is_among lost j) free)

cond-none : (b : Bool) (x : ℕ) → x ≡ 0 → cond b x 0 ≡ 0
cond-none true x e = e
cond-none false x e = refl

-- the sectors of covered block j, if it is kept
abbrev kept_sectors : (ℕ → ℕ) → Layout → List ℕ → ℕ → ℕ → ℕ
kept_sectors sectors l lost index j = cond (is_kept l lost index j) (sectors j) 0

kept-place : (sectors : ℕ → ℕ) (l : Layout) (lost places : List ℕ) (index i : ℕ) → IsLayout l → index < covered_blocks l → AreLostPlaces l lost index places → ((j : ℕ) → covered_blocks l ≤ j → sectors j ≡ 0)
    → kept_at sectors l (round_of l index) places i ≡ kept_sectors sectors l lost index (i * code_rounds l + round_of l index)
kept-place sectors l lost places index i valid inside are none =
    let j : ℕ = i * code_rounds l + round_of l index in
    let kept = is_kept l lost index j in
    elim (cases_Bool (is_among places i)) [
      | inl taken ↦ cond-true (is_among places i) 0 (sectors j) taken ∙ sym (cond-false kept (sectors j) 0 (lost-there l lost places index i are taken))
      | inr other ↦
          let free = cond-false (is_among places i) 0 (sectors j) other in
          elim (cases_lt j (covered_blocks l)) [
            | inl here ↦ free ∙ sym (cond-true kept (sectors j) 0 (kept-there l lost places index i valid inside are other here))
            | inr past ↦ free ∙ none j past ∙ sym (cond-none kept (sectors j) (none j past))
          ]
    ]

-- so the places' sum is one over blocks
kept-blocks : (sectors : ℕ → ℕ) (l : Layout) (lost places : List ℕ) (index : ℕ) → IsLayout l → index < covered_blocks l → AreLostPlaces l lost index places → ((j : ℕ) → covered_blocks l ≤ j → sectors j ≡ 0)
    → kept_of sectors l (round_of l index) places ≡ sum_to (kept_sectors sectors l lost index) (covered_blocks l)
kept-blocks sectors l lost places index valid inside are none =
    let n = code_rounds l in
    let r = round_of l index in
    let m : ℕ = 255 - l.roots in
    let f = kept_sectors sectors l lost index in
    let room = rounds-room l valid in
    let swap : n * m ≡ m * n = grind arith in
    let apart : (j : ℕ) → j % n ≢ r → f j ≡ 0 = λ j ne. elim (cases_Bool (is_kept l lost index j)) [
      | inl taken ↦ absurd (ne (beside-round l index j (and_parts (is_beside l index j) (not (is_among lost j)) taken).0))
      | inr other ↦ cond-false (is_kept l lost index j) (sectors j) 0 other
    ] in
    sum-same (kept_at sectors l r places) (λ i. f (i * n + r)) m (λ i h. kept-place sectors l lost places index i valid inside are none)
    ∙ sym (sum-rounds f n r m (round-below l index valid inside) apart)
    ∙ sum-past f (covered_blocks l) (m * n) (omega (arith, room, swap)) (λ j h. cond-none (is_kept l lost index j) (sectors j) (none j h))

pub kept-data : (l : Layout) (lost places : List ℕ) (index : ℕ) → IsLayout l → index < covered_blocks l → AreLostPlaces l lost index places
    → kept_of (sectors_on_data l) l (round_of l index) places ≡ kept_data l lost index * (l.block / 512)
unfolding kept_data
kept-data l lost places index valid inside are =
    let f = kept_sectors (sectors_on_data l) l lost index in
    let p = is_kept l lost index in
    let s : ℕ = l.block / 512 in
    kept-blocks (sectors_on_data l) l lost places index valid inside are (λ j h. off-data l j (omega (arith, h)))
    ∙ sum-past f l.data_blocks (covered_blocks l) (omega arith) (λ j h. cond-none (p j) (sectors_on_data l j) (off-data l j h))
    ∙ sum-same f (λ k. cond (p (0 + k)) s 0) l.data_blocks (λ k h.
    let same : k ≡ 0 + k = omega arith in
    ap (λ x. cond (p k) x 0) (on-data l k h) ∙ ap (λ q. cond (p q) s 0) same)
    ∙ sym (count-sum p 0 l.data_blocks s)

pub kept-hash : (l : Layout) (lost places : List ℕ) (index : ℕ) → IsLayout l → index < covered_blocks l → AreLostPlaces l lost index places
    → kept_of (sectors_on_hash l) l (round_of l index) places ≡ kept_hash l lost index * (l.block / 512)
unfolding kept_hash
kept-hash l lost places index valid inside are =
    let f = kept_sectors (sectors_on_hash l) l lost index in
    let p = is_kept l lost index in
    let d = l.data_blocks in
    let s : ℕ = l.block / 512 in
    let split : sum_to f (covered_blocks l) ≡ sum_to f d + sum_to (λ k. f (d + k)) l.hash_blocks = sum-split f d l.hash_blocks in
    let front : sum_to f d ≡ 0 = sum-zero f d (λ j h. cond-none (p j) (sectors_on_hash l j) (off-hash l j h)) in
    let back : sum_to (λ k. f (d + k)) l.hash_blocks ≡ sum_to (λ k. cond (p (d + k)) s 0) l.hash_blocks = sum-same (λ k. f (d + k)) (λ k. cond (p (d + k)) s 0) l.hash_blocks (λ k h. ap (λ x. cond (p (d + k)) x 0) (on-hash l (d + k) (omega arith) (omega (arith, h)))) in
    let whole : sum_to f (covered_blocks l) ≡ sum_to (λ k. cond (p (d + k)) s 0) l.hash_blocks = omega (arith, split, front, back) in
    kept-blocks (sectors_on_hash l) l lost places index valid inside are (past-hash l) ∙ whole ∙ sym (count-sum p d l.hash_blocks s)

-- those of the places are those of the blocks
pub first-kept : {a b c a' b' c' : Device} (l : Layout) (lost places ps : List ℕ) (index round k : ℕ) (ok : Bool) → IsLayout l → index < covered_blocks l → AreLostPlaces l lost index places → round ≡ round_of l index → ps ≡ places
    → AreAskedFor (kept_of (sectors_on_data l) l round ps) (kept_of (sectors_on_hash l) l round ps) k ok a b c a' b' c'
    → AreAskedFor (kept_data l lost index * (l.block / 512)) (kept_hash l lost index * (l.block / 512)) k ok a b c a' b' c'
first-kept {a = a} {b = b} {a' = a'} {b' = b'} l lost places ps index round k ok valid inside are at same p =
    let whole : (f : ℕ → ℕ) → kept_of f l round ps ≡ kept_of f l (round_of l index) places = λ f. ap (λ r. kept_of f l r ps) at ∙ ap (λ xs. kept_of f l (round_of l index) xs) same in
    record {
      of_data = subst (λ (n : ℕ). IsAskedFor a n ok a') (whole (sectors_on_data l) ∙ kept-data l lost places index valid inside are) p.of_data;
      of_hash = subst (λ (n : ℕ). IsAskedFor b n ok b') (whole (sectors_on_hash l) ∙ kept-hash l lost places index valid inside are) p.of_hash;
      of_parity = p.of_parity;
    }
