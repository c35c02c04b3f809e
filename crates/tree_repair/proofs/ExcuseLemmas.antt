-- Failures that are counted, one after another, and blocks that were bad for another reason.
use Rattle.std.proofs.Common.{◌≡◌, ◌≢◌, ◌⊎◌, ◌≤◌, ◌+◌, ◌-◌, ◌^◌, ℕ, zero, suc, Bool, true, false, IsTrue, List, [], ◌∷◌, refl, ap, ◌∙◌, arith, inl, inr}
use Rattle.std.proofs.lemmas.Bool.{cases_lt}
use Rattle.block_device.specs.Device.{Device, HasFailed}
use Rattle.tree_shape.specs.Digests.{digest}
use Rattle.hash_tree.specs.Chain.{formed}
use Rattle.hash_tree.specs.Laws.{FormedChainsAreGood}
use Rattle.tree_path.specs.Laws.{Collide}
use Rattle.tree_survey.specs.Laws.{AreContents}
use Rattle.tree_survey.specs.Failing.{HasFailedRead, HasFailedTimes}
use Rattle.verity_format.specs.Blocks.{IsOnlyRead}
use Rattle.tree_repair.specs.declared.mending.Mended.{Mended}
use Rattle.tree_repair.specs.declared.mending.Mended.TheVariants as mended
use Rattle.tree_repair.specs.Coverage.{IsPassedBy}
use Rattle.tree_repair.specs.UnreadBlocks.{AreUnreadCounted, IsLeftAlone, IsTreatedRightly, StandsIntact, Throughout, first_counts, if_data, if_hash, unread_data, unread_hash, unread_look, unread_visit}
use Rattle.tree_repair.specs.Mending.{IsAllowedPut, IsMended, BlockCheck}
use Rattle.tree_repair.specs.Runs.{IsVisited, Job, OtherStays, VisitsAll, Visit, look_at, other, own}
use Rattle.tree_repair.specs.Sources.{IsBad, IsOther, Wanted, bytes_on_device}
use Rattle.tree_repair.specs.ParitySearches.{IsCutOff}
use Rattle.tree_repair.specs.Worlds.{HasCountedNone, IsWorldRead, RepairWorld}
use Rattle.tree_repair.proofs.LawLemmas.{formed-chain, way-digest}
use Rattle.tree_repair.proofs.RunLemmas.{world-none}

-- ---- a device

pub more-none : (a b : Device) → a.failures ≤ b.failures → HasFailedTimes a 0 b
more-none a b more = inl (omega (arith, more))

stays-none : (a b : Device) → b ≡ a → HasFailedTimes a 0 b
stays-none a b stays = more-none a b (omega (arith, ap (λ (d : Device). d.failures) stays))

times-then : (a b c : Device) (n m k : ℕ) → k ≡ n + m → HasFailedTimes a n b → HasFailedTimes b m c → HasFailedTimes a k c
times-then a b c n m k is (inl few) (inl more) = inl (omega (arith, is, few, more))
times-then a b c n m k is (inr most) (inl more) = inr (omega (arith, most, more))
times-then a b c n m k is p (inr most) = inr most

-- a read that failed
bad-counted : (old : Device) (first : ℕ) (w : Wanted) (new : Device) → (bad : IsBad old first w new) → old.failures ≤ new.failures → HasFailedTimes old (first_counts bad) new
bad-counted old first w new (inl (inl less, unsure)) more = inl (omega (arith, less))
bad-counted old first w new (inl (inr most, unsure)) more = inr (omega (arith, most, more))
bad-counted old first w new (inr read) more = more-none old new more

-- a write counts a failure or none
put-counted : (write : Bool) (old : Device) (first sectors : ℕ) (bytes : List ℕ) (done : Bool) (new : Device) → IsAllowedPut write old first sectors bytes done new → HasFailedTimes old 0 new
put-counted true old first sectors bytes true new put = more-none old new (omega (arith, put.moved.failures))
put-counted true old first sectors bytes false new put = elim (cases_lt old.failures (2 ^ 64 - 1)) [
  | inl low ↦ inl (omega (arith, low, put.moved.failures))
  | inr high ↦ inr (omega (arith, high, put.moved.failures))
]
put-counted false old first sectors bytes done new put = stays-none old new put.0

-- ---- a look at a block

look-counted : (l : BlockCheck) (bytes : List ℕ) (done : Bool) (m : Mended) (found : IsMended l bytes done m) → HasFailedTimes l.old (unread_look l bytes done m found) l.new
look-counted l bytes done mended.Good found = more-none l.old l.new found.more
look-counted l bytes done (mended.Copy k) found =
    times-then l.old found.between l.new (first_counts found.bad) 0 _ (omega arith) (bad-counted l.old l.first l.w found.between found.bad found.more)
    (put-counted l.write found.between l.first l.w.sectors bytes done l.new found.put)
look-counted l bytes done mended.Remade found =
    times-then l.old found.seen l.new (first_counts found.bad) 0 _ (omega arith) (bad-counted l.old l.first l.w found.seen found.bad found.more)
    (times-then found.seen found.between l.new 0 0 0 refl (more-none found.seen found.between found.beneath_more) (put-counted l.write found.between l.first l.w.sectors bytes done l.new found.put))
look-counted l bytes done mended.Parity found =
    let r = found.replaced in
    times-then l.old r.between l.new (first_counts r.bad) 0 _ (omega arith) (bad-counted l.old l.first l.w r.between r.bad r.more)
    (put-counted l.write r.between l.first l.w.sectors bytes done l.new r.put)
look-counted l bytes done mended.Lost found =
    times-then l.old found.seen l.new (first_counts found.bad) 0 _ (omega arith) (bad-counted l.old l.first l.w found.seen found.bad found.more) (more-none found.seen l.new found.beneath_more)

-- the bytes that are stored there haven't the digest
abbrev HasOther : Device → ℕ → Wanted → Type 0
HasOther old first w = IsTrue old.steady → digest w.salt (bytes_on_device old first w.sectors) ≢ w.digest_is

other-stood : (old : Device) (first : ℕ) (w : Wanted) → IsOther old first w → HasOther old first w
other-stood old first w read steady same = read.other (ap (digest w.salt) (read.stand steady) ∙ same)

bad-why : (old : Device) (first : ℕ) (w : Wanted) (new : Device) → (bad : IsBad old first w new) → (first_counts bad ≡ 1) ⊎ HasOther old first w
bad-why old first w new (inl failed) = inl refl
bad-why old first w new (inr read) = inr (other-stood old first w read)

-- it is good, or it couldn't be read, or it isn't
abbrev IsLookFor : BlockCheck → Mended → ℕ → Type 0
IsLookFor l m n = (n ≡ 1) ⊎ (((m ≡ mended.Good) × IsOnlyRead l.old l.new) ⊎ HasOther l.old l.first l.w)

bad-for : (l : BlockCheck) (m : Mended) (n : ℕ) → (n ≡ 1) ⊎ HasOther l.old l.first l.w → IsLookFor l m n
bad-for l m n (inl unread) = inl unread
bad-for l m n (inr stood) = inr (inr stood)

look-why : (l : BlockCheck) (bytes : List ℕ) (done : Bool) (m : Mended) (found : IsMended l bytes done m) → IsLookFor l m (unread_look l bytes done m found)
look-why l bytes done mended.Good found = inr (inl (refl, found.read))
look-why l bytes done (mended.Copy k) found = bad-for l (mended.Copy k) (first_counts found.bad) (bad-why l.old l.first l.w found.between found.bad)
look-why l bytes done mended.Remade found = bad-for l mended.Remade (first_counts found.bad) (bad-why l.old l.first l.w found.seen found.bad)
look-why l bytes done mended.Parity found = bad-for l mended.Parity (first_counts found.replaced.bad) (bad-why l.old l.first l.w found.replaced.between found.replaced.bad)
look-why l bytes done mended.Lost found = bad-for l mended.Lost (first_counts found.bad) (bad-why l.old l.first l.w found.seen found.bad)

-- ---- a visit

other-counted : (h : ℕ) (m : Mended) (old new : Device) → OtherStays h m old new → HasFailedTimes old 0 new
other-counted zero m old new stays = stays-none old new stays
other-counted (suc l) mended.Good old new stays = stays-none old new stays
other-counted (suc l) (mended.Copy k) old new stays = stays-none old new stays
other-counted (suc l) mended.Remade old new stays = more-none old new stays.1
other-counted (suc l) mended.Parity old new stays = stays-none old new stays
other-counted (suc l) mended.Lost old new stays = more-none old new stays.1

data-counted : (h n : ℕ) (a b : RepairWorld) → HasFailedTimes (own h a) n (own h b) → HasFailedTimes (other h a) 0 (other h b) → HasFailedTimes a.data_dev (if_data h n) b.data_dev
data-counted zero n a b here there = here
data-counted (suc l) n a b here there = there

hash-counted : (h n : ℕ) (a b : RepairWorld) → HasFailedTimes (own h a) n (own h b) → HasFailedTimes (other h a) 0 (other h b) → HasFailedTimes a.hash_dev (if_hash h n) b.hash_dev
hash-counted zero n a b here there = there
hash-counted (suc l) n a b here there = here

module _ (j : Job) (v : Visit) (a b : RepairWorld) (here : IsVisited j v a b) where
  own-counted : HasFailedTimes (own v.height a) (unread_visit j v a b here) (own v.height b)
  own-counted = look-counted (look_at j here.p v.height v.index a b) v.bytes v.done v.mended here.mended_as

  beside-counted : HasFailedTimes (other v.height a) 0 (other v.height b)
  beside-counted = other-counted v.height v.mended (other v.height a) (other v.height b) here.other_stays

  rightly : IsLookFor (look_at j here.p v.height v.index a b) v.mended (unread_visit j v a b here) → (unread_visit j v a b here ≡ 1) ⊎ IsTreatedRightly j v a b
  rightly (inl unread) = inl unread
  rightly (inr (inl (good, read))) = inr (inl (record { good = good; read = read }))
  rightly (inr (inr stood)) = inr (inr (record { p = here.p; way = here.way; bad = stood }))

  visit-why : (unread_visit j v a b here ≡ 1) ⊎ IsTreatedRightly j v a b
  visit-why = rightly (look-why (look_at j here.p v.height v.index a b) v.bytes v.done v.mended here.mended_as)

-- ---- a run

data-more : (j : Job) (visits : List Visit) (w w' : RepairWorld) (runs : VisitsAll j visits w w') → HasFailedTimes w.data_dev (unread_data j visits w w' runs) w'.data_dev
data-more j [] w w' read = more-none w.data_dev w'.data_dev read.data_more
data-more j (v ∷ more) w w' (a, (b, (read, (here, rest)))) =
    let n = if_data v.height (unread_visit j v a b here) in
    let m = unread_data j more b w' rest in
    times-then w.data_dev a.data_dev w'.data_dev 0 (n + m) (n + m) (omega arith) (more-none w.data_dev a.data_dev read.data_more)
    (times-then a.data_dev b.data_dev w'.data_dev n m (n + m) refl (data-counted v.height (unread_visit j v a b here) a b (own-counted j v a b here) (beside-counted j v a b here)) (data-more j more b w' rest))

hash-more : (j : Job) (visits : List Visit) (w w' : RepairWorld) (runs : VisitsAll j visits w w') → HasFailedTimes w.hash_dev (unread_hash j visits w w' runs) w'.hash_dev
hash-more j [] w w' read = more-none w.hash_dev w'.hash_dev read.hash_more
hash-more j (v ∷ more) w w' (a, (b, (read, (here, rest)))) =
    let n = if_hash v.height (unread_visit j v a b here) in
    let m = unread_hash j more b w' rest in
    times-then w.hash_dev a.hash_dev w'.hash_dev 0 (n + m) (n + m) (omega arith) (more-none w.hash_dev a.hash_dev read.hash_more)
    (times-then a.hash_dev b.hash_dev w'.hash_dev n m (n + m) refl (hash-counted v.height (unread_visit j v a b here) a b (own-counted j v a b here) (beside-counted j v a b here)) (hash-more j more b w' rest))

pub unread-counted : (j : Job) (visits : List Visit) (w w' : RepairWorld) (runs : VisitsAll j visits w w') → AreUnreadCounted j visits w w' runs
unread-counted j visits w w' runs = record { data_counts = data-more j visits w w' runs; hash_counts = hash-more j visits w w' runs }

pub touched-for : (j : Job) (visits : List Visit) (w w' : RepairWorld) (runs : VisitsAll j visits w w')
    → Throughout j (λ v a b here. (unread_visit j v a b here ≡ 1) ⊎ IsTreatedRightly j v a b) visits w w' runs
touched-for j [] w w' runs = tt
touched-for j (v ∷ more) w w' (a, (b, (read, (here, rest)))) = (visit-why j v a b here, touched-for j more b w' rest)

module _ (form : FormedChainsAreGood) (j : Job) (contents : List (List ℕ)) (are : AreContents j.tree contents) where
  -- the digest that is due is that of the block as it was formatted
  intact-or : (v : Visit) (a b : RepairWorld) (here : IsVisited j v a b) → StandsIntact j contents v a → (unread_visit j v a b here ≡ 1) ⊎ IsTreatedRightly j v a b
      → IsLeftAlone v a b ⊎ ((unread_visit j v a b here ≡ 1) ⊎ Collide j.tree.salt)
  intact-or v a b here intact (inl unread) = inr (inl unread)
  intact-or v a b here intact (inr (inl left)) = inl left
  intact-or v a b here intact (inr (inr stood)) =
      elim (way-digest j.tree stood.p v.index v.height (formed j.tree.shape j.tree.salt contents v.index) stood.way (formed-chain form j.tree contents are v.index here.inside)) [
        | inl same ↦ absurd (stood.bad intact.steady (ap (digest j.tree.salt) intact.is ∙ same))
        | inr clash ↦ inr (inr clash)
      ]

  pub intact-left : (visits : List Visit) (w w' : RepairWorld) (runs : VisitsAll j visits w w')
      → Throughout j (λ v a b here. StandsIntact j contents v a → IsLeftAlone v a b ⊎ ((unread_visit j v a b here ≡ 1) ⊎ Collide j.tree.salt)) visits w w' runs
  intact-left [] w w' runs = tt
  intact-left (v ∷ more) w w' (a, (b, (read, (here, rest)))) = (λ intact. intact-or v a b here intact (visit-why j v a b here), intact-left more b w' rest)

-- ---- where a device counts none

-- the calls before and after some count none either
none-within : (a b c e : Device) (n : ℕ) → HasFailedTimes a 0 b → HasFailedTimes b n c → HasFailedTimes c 0 e → HasCountedNone a e → n ≡ 0
none-within a b c e n before at behind none = elim (times-then a b e 0 n n (omega arith) before (times-then b c e n 0 n (omega arith) at behind)) [
  | inl few ↦ omega (arith, few, none.none)
  | inr most ↦ absurd (omega (arith, most, none.below))
]

-- if none was counted from a device to a later one, none was to one between them, and none from it
pub counted-left : (a b c : Device) → HasFailedTimes b 0 c → HasCountedNone a c → HasCountedNone a b
counted-left a b c (inl few) none = record { none = omega (arith, few, none.none); below = omega (arith, few, none.below) }
counted-left a b c (inr most) none = absurd (omega (arith, most, none.below))

pub counted-right : (a b c : Device) → HasFailedTimes a 0 b → HasCountedNone a c → HasCountedNone b c
counted-right a b c (inl few) none = record { none = omega (arith, few, none.none); below = none.below }
counted-right a b c (inr most) none = record { none = omega (arith, most, none.below); below = none.below }

-- whatever a run counts
some-less : (a b : Device) (n : ℕ) → HasFailedTimes a n b → HasFailedTimes a 0 b
some-less a b n (inl few) = inl (omega (arith, few))
some-less a b n (inr most) = inr most

own-of : (h : ℕ) (a b : RepairWorld) → HasFailedTimes a.data_dev 0 b.data_dev → HasFailedTimes a.hash_dev 0 b.hash_dev → HasFailedTimes (own h a) 0 (own h b)
own-of zero a b one two = one
own-of (suc l) a b one two = two

pub runs-own : (j : Job) (h : ℕ) (visits : List Visit) (w w' : RepairWorld) → VisitsAll j visits w w' → HasFailedTimes (own h w) 0 (own h w')
runs-own j h visits w w' runs =
    own-of h w w' (some-less w.data_dev w'.data_dev (unread_data j visits w w' runs) (data-more j visits w w' runs)) (some-less w.hash_dev w'.hash_dev (unread_hash j visits w w' runs) (hash-more j visits w w' runs))

world-own : (h : ℕ) (a b : RepairWorld) → IsWorldRead a b → HasFailedTimes (own h a) 0 (own h b)
world-own h a b read = own-of h a b (more-none a.data_dev b.data_dev read.data_more) (more-none a.hash_dev b.hash_dev read.hash_more)

not-unread : (j : Job) (v : Visit) (a b : RepairWorld) (n : ℕ) → n ≡ 0 → (n ≡ 1) ⊎ IsTreatedRightly j v a b → IsTreatedRightly j v a b
not-unread j v a b n none (inl unread) = absurd (omega (arith, none, unread))
not-unread j v a b n none (inr right) = right

-- a run after calls that count from another world
left-alone : (j : Job) (visits : List Visit) (x w w' : RepairWorld) (runs : VisitsAll j visits w w') → ((h : ℕ) → HasFailedTimes (own h x) 0 (own h w))
    → Throughout j (λ v a b here. HasCountedNone (own v.height x) (own v.height w') → IsTreatedRightly j v a b) visits w w' runs
left-alone j [] x w w' runs before = tt
left-alone j (v ∷ more) x w w' (a, (b, (read, (here, rest)))) before =
    let until : (h : ℕ) → HasFailedTimes (own h x) 0 (own h a) = λ h. times-then (own h x) (own h w) (own h a) 0 0 0 refl (before h) (world-own h w a read) in
    let n = unread_visit j v a b here in
    let from : (h : ℕ) → HasFailedTimes (own h a) 0 (own h b) = λ h. runs-own j h (v ∷ []) a b (a, (b, (world-none a, (here, world-none b)))) in (
      λ none. not-unread j v a b n (none-within (own v.height x) (own v.height a) (own v.height b) (own v.height w') n (until v.height) (own-counted j v a b here) (runs-own j v.height more b w' rest) none) (visit-why j v a b here),
      left-alone j more x b w' rest (λ h. times-then (own h x) (own h a) (own h b) 0 0 0 refl (until h) (from h)),
    )

pub good-left : (j : Job) (visits : List Visit) (w w' : RepairWorld) (runs : VisitsAll j visits w w')
    → Throughout j (λ v a b here. HasCountedNone (own v.height w) (own v.height w') → IsTreatedRightly j v a b) visits w w' runs
good-left j visits w w' runs = left-alone j visits w w w' runs (λ h. world-own h w w (world-none w))

-- ---- blocks that are passed by

failed-none : (j : Job) (k h : ℕ) (w a b w' : Device) → HasFailedTimes w 0 a → a.failures ≤ b.failures → HasFailedTimes b 0 w' → HasCountedNone w w' → HasFailed a b → IsCutOff j.tree k h a
failed-none j k h w a b w' before more behind none (inl less) =
    let one : 1 ≡ 0 = none-within w a b w' 1 before (inl (omega (arith, less))) behind none in
    absurd (omega (arith, one))
failed-none j k h w a b w' before more behind none (inr most) =
    let one : 1 ≡ 0 = none-within w a b w' 1 before (inr (omega (arith, most, more))) behind none in
    absurd (omega (arith, one))

pub passed-for : (j : Job) (h i : ℕ) (visits : List Visit) (w w' : RepairWorld) (passed : IsPassedBy j h i visits w w') → HasCountedNone w.hash_dev w'.hash_dev
    → IsCutOff j.tree passed.beside h passed.a.hash_dev
passed-for j h i visits w w' passed none = go passed.cut
  where
    go : HasFailedRead passed.a.hash_dev passed.b.hash_dev ⊎ IsCutOff j.tree passed.beside h passed.a.hash_dev → IsCutOff j.tree passed.beside h passed.a.hash_dev
    go (inl failed) =
        failed-none j passed.beside h w.hash_dev passed.a.hash_dev passed.b.hash_dev w'.hash_dev (runs-own j 1 passed.earlier w passed.a passed.before) passed.read.hash_more
        (runs-own j 1 passed.later passed.b w' passed.behind) none failed.0
    go (inr cut) = cut
