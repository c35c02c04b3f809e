-- Puts: of runs that are cut, of the sectors of one line, and of a leaf's sectors, one after another.
use Rattle.std.proofs.Common.{◌≡◌, ℕ, zero, suc, ◌+◌, ◌-◌, ◌<◌, ◌≤◌, ◌⊎◌, Bool, true, false, nat_lt, ◌&&◌, List, [], ◌∷◌, ◌++◌, length, get_or, set, take, drop, Option, Some, refl, sym, ap, ◌∙◌, subst, arith, inl, inr}
use Rattle.std.specs.Option.{option_map_or}
use Rattle.std.proofs.lemmas.Bool.{cases_lt, lt-ltb}
use Rattle.std.proofs.lemmas.List.{set-set, set_past, set-get_or, length-set, drop_all, get_or-set_same, take-append-drop, drop-drop, append-nil}
use Rattle.block_device.specs.Device.{spliced}
use Rattle.dm_table.specs.declared.table.Line.{Line}
use Rattle.dm_table.specs.declared.table.Target.{Target}
use Rattle.stack_rules.specs.declared.lower.Lower.{Lower}
use Rattle.stack_rules.specs.declared.lower.Lower.TheVariants.{Leaf as leaf, Device as device}
use Rattle.stack_rules.specs.Records.{Configuration}
use Rattle.stack_rules.specs.Names.{mapped, lines_of}
use Rattle.stack_rules.specs.Descend.{descend, most_devices, depth}
use Rattle.stack_rules.specs.Lines.{line_at}
use Rattle.stack_rules.proofs.lemmas.UnrollLemmas.{IsLocal, descend-rule, falls-at}
use Rattle.stack_rules.specs.Rules.{IsValid, most_depth}
use Rattle.stack_rules.proofs.lemmas.ValidLemmas.{depth-low}
use Rattle.stack_meaning.specs.Sectors.{on_found, sector_rule}
use Rattle.stack_meaning.specs.Outcomes.{Images}
use Rattle.stack_meaning.specs.Beneath.{beneath, below, said_or, HandsOn}
use Rattle.stack_meaning.specs.TargetMeaning.{Meant, handed, own, put_as, IsHanded}
use Rattle.stack_meaning.specs.MeaningOf.{meaning_of}
use Rattle.stack_meaning.specs.Puts.{Put, done, stopped, then_put, Putting, none_put, Run, sector_before, runs_from, put_runs, together, in_one_run, leaf_put, line_put, put_rule, put_on}
use Rattle.stack_lines.specs.Writing.{put_by_name}
use Rattle.stack_meaning.specs.Meaning.{none_said, said_by_name}
use Rattle.stack_meaning.proofs.lemmas.LineLemmas.{found-more}
use Rattle.stack_meaning.proofs.lemmas.SectorLemmas.{AsksOfNames, said_or-same, below-same, sector_rule-local}

-- ---- one put after another

pub then_assoc : (p : Put) (f g : Images → Put) → then_put (then_put p f) g ≡ then_put p (λ images. then_put (f images) g)
then_assoc (done images) f g = refl
then_assoc (stopped fault images) f g = refl

then_done : (p : Put) → then_put p (λ images. done images) ≡ p
then_done (done images) = refl
then_done (stopped fault images) = refl

pub then_same : (p : Put) (f g : Images → Put) → ((images : Images) → f images ≡ g images) → then_put p f ≡ then_put p g
then_same (done images) f g same = same images
then_same (stopped fault images) f g same = refl

-- ---- sectors one by one

-- each sector put by itself, in rising order up to the first fault
abbrev pub put_each : (ℕ → Putting) → ℕ → Putting
put_each at s [] images = done images
put_each at s (bytes ∷ more) images = then_put (at s (bytes ∷ []) images) (put_each at (suc s) more)

-- a run is put as its first sector and then the others
abbrev pub AddsAt : (ℕ → Putting) → ℕ → Type 0
AddsAt at s = (bytes : List ℕ) (more : List (List ℕ)) (images : Images) → at s (bytes ∷ more) images ≡ then_put (at s (bytes ∷ []) images) (at (suc s) more)

abbrev pub Adds : (ℕ → Putting) → Type 0
Adds at = (s : ℕ) → AddsAt at s

-- no sectors are put by changing nothing
abbrev pub PutsNone : (ℕ → Putting) → Type 0
PutsNone at = (s : ℕ) (images : Images) → at s [] images ≡ done images

pub put-some : (at : ℕ → Putting) → Adds at → (s : ℕ) (bytes : List ℕ) (more : List (List ℕ)) (images : Images) → at s (bytes ∷ more) images ≡ put_each at s (bytes ∷ more) images
put-some at adds s bytes [] images = sym (then_done (at s (bytes ∷ []) images))
put-some at adds s bytes (next ∷ more) images = adds s bytes (next ∷ more) images ∙ then_same (at s (bytes ∷ []) images) _ _ (λ i. put-some at adds (suc s) next more i)

pub put-all : (at : ℕ → Putting) → Adds at → PutsNone at → (s : ℕ) (sectors : List (List ℕ)) (images : Images) → at s sectors images ≡ put_each at s sectors images
put-all at adds empty s [] images = empty s images
put-all at adds empty s (bytes ∷ more) images = put-some at adds s bytes more images

pub put_each-append : (at : ℕ → Putting) (s : ℕ) (xs ys : List (List ℕ)) (images : Images) → put_each at s (xs ++ ys) images ≡ then_put (put_each at s xs images) (put_each at (s + length xs) ys)
put_each-append at s [] ys images = let e : s ≡ s + 0 = omega arith in ap (λ (k : ℕ). put_each at k ys images) e
put_each-append at s (x ∷ xs) ys images =
    let e : suc s + length xs ≡ s + suc (length xs) = omega arith in
    then_same (at s (x ∷ []) images) _ _ (λ i. put_each-append at (suc s) xs ys i ∙ ap (λ (k : ℕ). then_put (put_each at (suc s) xs i) (put_each at k ys)) e)
    ∙ sym (then_assoc (at s (x ∷ []) images) (put_each at (suc s) xs) (put_each at (s + length (x ∷ xs)) ys))

-- ---- runs

abbrev pub Apart : (ℕ → Bool) → ℕ → List (List ℕ) → List (List ℕ) → Type 0
Apart tog s xs ys = (xs ≡ []) ⊎ ((ys ≡ []) ⊎ (tog (s + length xs - 1) ≡ false))

one_run : (s : ℕ) (bytes : List ℕ) (b : Bool) → sector_before s bytes b [] ≡ (s, bytes ∷ []) ∷ []
one_run s bytes true = refl
one_run s bytes false = refl

-- a sector before some runs, and others after these
before-append : (s : ℕ) (bytes : List ℕ) (b : Bool) (run : Run) (runs more : List Run) → sector_before s bytes b (run ∷ (runs ++ more)) ≡ sector_before s bytes b (run ∷ runs) ++ more
before-append s bytes true run runs more = refl
before-append s bytes false run runs more = refl

before-some : (s : ℕ) (bytes : List ℕ) (b : Bool) (runs : List Run) → (run : Run) × (rest : List Run) × (sector_before s bytes b runs ≡ run ∷ rest)
before-some s bytes true [] = ((s, bytes ∷ []), [], refl)
before-some s bytes true (run ∷ more) = ((s, bytes ∷ run.1), more, refl)
before-some s bytes false runs = ((s, bytes ∷ []), runs, refl)

-- runs of sectors that are cut in two
runs-cut : (tog : ℕ → Bool) (s : ℕ) (x : List ℕ) (xs ys : List (List ℕ)) → tog (s + length xs) ≡ false → runs_from tog s (x ∷ (xs ++ ys)) ≡ runs_from tog s (x ∷ xs) ++ runs_from tog (suc s + length xs) ys
runs-cut tog s x [] ys cut =
    let at : s + 0 ≡ s = omega arith in
    let next : suc s ≡ suc s + 0 = omega arith in
    let here : tog s ≡ false = ap tog (sym at) ∙ cut in
    ap (λ (b : Bool). sector_before s x b (runs_from tog (suc s) ys)) here
    ∙ ap (λ (k : ℕ). (s, x ∷ []) ∷ runs_from tog k ys) next
    ∙ ap (λ (runs : List Run). runs ++ runs_from tog (suc s + 0) ys) (sym (one_run s x (tog s)))
runs-cut tog s x (y ∷ xs) ys cut =
    let at : s + suc (length xs) ≡ suc s + length xs = omega arith in
    let next : suc (suc s) + length xs ≡ suc s + suc (length xs) = omega arith in
    let rest = runs-cut tog (suc s) y xs ys (ap tog (sym at) ∙ cut) in
    let some = before-some (suc s) y (tog (suc s)) (runs_from tog (suc (suc s)) xs) in
    ap (sector_before s x (tog s)) rest
    ∙ ap (λ (runs : List Run). sector_before s x (tog s) (runs ++ runs_from tog (suc (suc s) + length xs) ys)) some.2
    ∙ before-append s x (tog s) some.0 some.1 (runs_from tog (suc (suc s) + length xs) ys)
    ∙ ap (λ (runs : List Run). sector_before s x (tog s) runs ++ runs_from tog (suc (suc s) + length xs) ys) (sym some.2)
    ∙ ap (λ (k : ℕ). runs_from tog s (x ∷ y ∷ xs) ++ runs_from tog k ys) next

put_runs-append : (at : ℕ → Putting) (xs ys : List Run) (images : Images) → put_runs at (xs ++ ys) images ≡ then_put (put_runs at xs images) (put_runs at ys)
put_runs-append at [] ys images = refl
put_runs-append at (x ∷ xs) ys images =
    then_same (at x.0 x.1 images) _ _ (λ i. put_runs-append at xs ys i) ∙ sym (then_assoc (at x.0 x.1 images) (put_runs at xs) (put_runs at ys))

-- sectors cut where two don't go down together are put in two parts
pub put-apart : (at : ℕ → Putting) (tog : ℕ → Bool) (s : ℕ) (xs ys : List (List ℕ)) (images : Images) → Apart tog s xs ys
    → put_runs at (runs_from tog s (xs ++ ys)) images ≡ then_put (put_runs at (runs_from tog s xs) images) (put_runs at (runs_from tog (s + length xs) ys))
put-apart at tog s [] ys images apart = let e : s ≡ s + 0 = omega arith in ap (λ (k : ℕ). put_runs at (runs_from tog k ys) images) e
put-apart at tog s (x ∷ xs) ys images apart = elim apart [
  | inl none ↦ cc
  | inr other ↦ elim other [
    | inl none ↦
        ap (λ (l : List (List ℕ)). put_runs at (runs_from tog s (x ∷ (xs ++ l))) images) none
        ∙ ap (λ (l : List (List ℕ)). put_runs at (runs_from tog s (x ∷ l)) images) (append-nil xs)
        ∙ sym (then_done (put_runs at (runs_from tog s (x ∷ xs)) images))
        ∙ ap (λ (l : List (List ℕ)). then_put (put_runs at (runs_from tog s (x ∷ xs)) images) (put_runs at (runs_from tog (s + suc (length xs)) l))) (sym none)
    | inr cut ↦
        let last : s + suc (length xs) - 1 ≡ s + length xs = omega arith in
        let next : suc s + length xs ≡ s + suc (length xs) = omega arith in
        ap (λ (runs : List Run). put_runs at runs images) (runs-cut tog s x xs ys (ap tog (sym last) ∙ cut))
        ∙ put_runs-append at (runs_from tog s (x ∷ xs)) (runs_from tog (suc s + length xs) ys) images
        ∙ ap (λ (k : ℕ). then_put (put_runs at (runs_from tog s (x ∷ xs)) images) (put_runs at (runs_from tog k ys))) next
  ]
]

-- sectors all of which go down together are one run
runs-one : (tog : ℕ → Bool) (s : ℕ) (x : List ℕ) (xs : List (List ℕ)) → ((j : ℕ) → suc j < length (x ∷ xs) → tog (s + j) ≡ true) → runs_from tog s (x ∷ xs) ≡ (s, x ∷ xs) ∷ []
runs-one tog s x [] all = one_run s x (tog s)
runs-one tog s x (y ∷ xs) all =
    let at : s + 0 ≡ s = omega arith in
    let rest = runs-one tog (suc s) y xs (λ j h. let e : suc s + j ≡ s + suc j = omega arith in ap tog e ∙ all (suc j) (omega (arith, h))) in
    ap (sector_before s x (tog s)) rest ∙ ap (λ (b : Bool). sector_before s x b ((suc s, y ∷ xs) ∷ [])) (ap tog (sym at) ∙ all 0 (omega arith))

pub put-together : (at : ℕ → Putting) (tog : ℕ → Bool) (s : ℕ) (sectors : List (List ℕ)) (images : Images) → 0 < length sectors → ((j : ℕ) → suc j < length sectors → tog (s + j) ≡ true)
    → put_runs at (runs_from tog s sectors) images ≡ at s sectors images
put-together at tog s [] images some all = absurd (omega (arith, some))
put-together at tog s (x ∷ xs) images some all = ap (λ (runs : List Run). put_runs at runs images) (runs-one tog s x xs all) ∙ then_done (at s (x ∷ xs) images)

-- runs of sectors from t on are those of sectors from s on, sector for sector
abbrev AreShifted : ℕ → ℕ → ℕ → List Run → List Run → Type 0
AreShifted s t n [] [] = Unit {0}
AreShifted s t n [] (r ∷ more) = ⊥
AreShifted s t n (r ∷ more) [] = ⊥
AreShifted s t n (x ∷ xs) (y ∷ ys) = ((j : ℕ) × (j < n) × (x ≡ (s + j, y.1)) × (y.0 ≡ t + j)) × AreShifted s t n xs ys

before-shifted : (s t n k : ℕ) (x : List ℕ) (b b' : Bool) (xs ys : List Run) → k < n → ((r : Run) (rest : List Run) → xs ≡ r ∷ rest → b ≡ b') → AreShifted s t n xs ys
    → AreShifted s t n (sector_before (s + k) x b xs) (sector_before (t + k) x b' ys)
before-shifted s t n k x true true [] [] low same all = ((k, low, refl, refl), tt)
before-shifted s t n k x true false [] [] low same all = ((k, low, refl, refl), tt)
before-shifted s t n k x false true [] [] low same all = ((k, low, refl, refl), tt)
before-shifted s t n k x false false [] [] low same all = ((k, low, refl, refl), tt)
before-shifted s t n k x b b' [] (y ∷ ys) low same all = absurd all
before-shifted s t n k x b b' (z ∷ xs) [] low same all = absurd all
before-shifted s t n k x true true (z ∷ xs) (y ∷ ys) low same all = ((k, low, ap (λ (r : Run). (s + k, x ∷ r.1)) all.0.2, refl), all.1)
before-shifted s t n k x true false (z ∷ xs) (y ∷ ys) low same all = let clash : true ≡ false = same z xs refl in cc
before-shifted s t n k x false true (z ∷ xs) (y ∷ ys) low same all = let clash : false ≡ true = same z xs refl in cc
before-shifted s t n k x false false (z ∷ xs) (y ∷ ys) low same all = ((k, low, refl, refl), all)

runs-shifted : (tog tog' : ℕ → Bool) (s t n k : ℕ) (sectors : List (List ℕ)) → k + length sectors ≤ n → ((j : ℕ) → suc j < n → tog (s + j) ≡ tog' (t + j)) → AreShifted s t n (runs_from tog (s + k) sectors) (runs_from tog' (t + k) sectors)
runs-shifted tog tog' s t n k [] h same = tt
runs-shifted tog tog' s t n k (x ∷ xs) h same =
    let a : s + suc k ≡ suc (s + k) = omega arith in
    let b : t + suc k ≡ suc (t + k) = omega arith in
    let rest = runs-shifted tog tog' s t n (suc k) xs (omega (arith, h)) same in
    before-shifted s t n k x (tog (s + k)) (tog' (t + k)) (runs_from tog (suc (s + k)) xs) (runs_from tog' (suc (t + k)) xs) (omega (arith, h))
    (λ r more e. same k (behind xs r more e (omega (arith, h))))
    (subst (λ (q : ℕ). AreShifted s t n (runs_from tog (suc (s + k)) xs) (runs_from tog' q xs)) b (subst (λ (q : ℕ). AreShifted s t n (runs_from tog q xs) (runs_from tog' (t + suc k) xs)) a rest))
  where
    behind : (list : List (List ℕ)) (r : Run) (more : List Run) → runs_from tog (suc (s + k)) list ≡ r ∷ more → suc k + length list ≤ n → suc k < n
    behind [] r more e fits = cc
    behind (y ∷ list) r more e fits = omega (arith, fits)

put-shifted : (f g : ℕ → Putting) (s t n : ℕ) (xs ys : List Run) (images : Images) → AreShifted s t n xs ys → ((j : ℕ) (run : List (List ℕ)) (i : Images) → j < n → f (s + j) run i ≡ g (t + j) run i) → put_runs f xs images ≡ put_runs g ys images
put-shifted f g s t n [] [] images all same = refl
put-shifted f g s t n [] (y ∷ ys) images all same = absurd all
put-shifted f g s t n (x ∷ xs) [] images all same = absurd all
put-shifted f g s t n (x ∷ xs) (y ∷ ys) images all same =
    let one : f x.0 x.1 images ≡ g y.0 y.1 images =
    ap (λ (r : Run). f r.0 r.1 images) all.0.2 ∙ same all.0.0 y.1 images all.0.1 ∙ ap (λ (q : ℕ). g q y.1 images) (sym all.0.3) in
    ap (λ (p : Put). then_put p (put_runs f xs)) one ∙ then_same (g y.0 y.1 images) _ _ (λ i. put-shifted f g s t n xs ys i all.1 same)

-- sectors that go down together alike are put alike at two places
pub put-alike : (f g : ℕ → Putting) (tog tog' : ℕ → Bool) (s t : ℕ) (sectors : List (List ℕ)) (images : Images) → ((j : ℕ) (run : List (List ℕ)) (i : Images) → j < length sectors → f (s + j) run i ≡ g (t + j) run i)
    → ((j : ℕ) → suc j < length sectors → tog (s + j) ≡ tog' (t + j)) → put_runs f (runs_from tog s sectors) images ≡ put_runs g (runs_from tog' t sectors) images
put-alike f g tog tog' s t sectors images same togs =
    let a : s + 0 ≡ s = omega arith in
    let b : t + 0 ≡ t = omega arith in
    let all = runs-shifted tog tog' s t (length sectors) 0 sectors (omega arith) togs in
    put-shifted f g s t (length sectors) (runs_from tog s sectors) (runs_from tog' t sectors) images
    (subst (λ (q : ℕ). AreShifted s t (length sectors) (runs_from tog s sectors) (runs_from tog' q sectors)) b (subst (λ (q : ℕ). AreShifted s t (length sectors) (runs_from tog q sectors) (runs_from tog' (t + 0) sectors)) a all)) same

-- ---- leaves

splice_more : (image : List (List ℕ)) (s : ℕ) (bytes : List ℕ) (more : List (List ℕ)) → spliced image s (bytes ∷ more) ≡ spliced (spliced image s (bytes ∷ [])) (suc s) more
splice_more image zero bytes more =
    let a : 0 + length (bytes ∷ more) ≡ 1 + length more = omega arith in
    let b : 0 + length (bytes ∷ []) ≡ 1 = omega arith in
    let e : suc 0 + length more ≡ suc (length more) = omega arith in
    ap (λ (k : ℕ). bytes ∷ (more ++ drop k image)) a
    ∙ ap (λ (l : List (List ℕ)). bytes ∷ (more ++ l)) (sym (drop-drop (length more) 1 image))
    ∙ ap (λ (k : ℕ). bytes ∷ (more ++ drop k (bytes ∷ drop 1 image))) (sym e)
    ∙ ap (λ (k : ℕ). spliced (bytes ∷ drop k image) 1 more) (sym b)
splice_more [] (suc s) bytes more =
    let a : drop {A = List ℕ} (suc s + suc (length more)) [] ≡ [] = drop_all (suc s + suc (length more)) [] (omega arith) in
    let b : drop {A = List ℕ} (suc s + 1) [] ≡ [] = drop_all (suc s + 1) [] (omega arith) in
    let e : drop {A = List ℕ} (suc (suc s) + length more) (bytes ∷ []) ≡ [] = drop_all (suc (suc s) + length more) (bytes ∷ []) (omega arith) in
    let n : take {A = List ℕ} (suc s) [] ≡ [] = refl in
    ap (λ (l : List (List ℕ)). bytes ∷ (more ++ l)) (a ∙ sym e)
    ∙ ap (λ (l : List (List ℕ)). bytes ∷ (take (suc s) l ++ more ++ drop (suc (suc s) + length more) (bytes ∷ l))) (sym b)
splice_more (x ∷ image) (suc s) bytes more =
    let mid : ℕ → List (List ℕ) = λ k. take s image ++ bytes ∷ [] ++ drop k (x ∷ image) in
    let a : suc s + suc (length more) ≡ suc (s + suc (length more)) = omega arith in
    let b : suc s + 1 ≡ suc (s + 1) = omega arith in
    let e : suc (suc s) + length more ≡ suc (suc s + length more) = omega arith in
    ap (λ (k : ℕ). x ∷ (take s image ++ bytes ∷ more ++ drop k (x ∷ image))) a
    ∙ ap (λ (l : List (List ℕ)). x ∷ l) (splice_more image s bytes more)
    ∙ ap (λ (k : ℕ). x ∷ (take (suc s) (mid k) ++ more ++ drop (suc s + length more) (mid k))) (sym b)
    ∙ ap (λ (k : ℕ). x ∷ (take (suc s) (mid (suc s + 1)) ++ more ++ drop k (x ∷ mid (suc s + 1)))) (sym e)

leaf-adds : (i : ℕ) → Adds (leaf_put i)
leaf-adds i s bytes more images =
    let image : List (List ℕ) = get_or images i [] in
    let one : List (List ℕ) = spliced image s (bytes ∷ []) in
    elim (cases_lt i (length images)) [
      | inl low ↦
          ap (λ (l : List (List ℕ)). done (set images i l)) (splice_more image s bytes more)
          ∙ ap done (sym (set-set images i one (spliced one (suc s) more)))
          ∙ ap (λ (l : List (List ℕ)). done (set (set images i one) i (spliced l (suc s) more))) (sym (get_or-set_same images i one [] low))
      | inr high ↦
          ap done (set_past images i (spliced image s (bytes ∷ more)) high ∙ sym (set_past images i one high)
          ∙ sym (set_past (set images i one) i (spliced (get_or (set images i one) i []) (suc s) more) (omega (arith, high, length-set images i one))))
    ]

leaf-none : (i : ℕ) → PutsNone (leaf_put i)
leaf-none i s images =
    let image : List (List ℕ) = get_or images i [] in
    let e : s + 0 ≡ s = omega arith in
    ap (λ (k : ℕ). done (set images i (take s image ++ [] ++ drop k image))) e
    ∙ ap (λ (l : List (List ℕ)). done (set images i (l ++ drop s image))) (append-nil (take s image))
    ∙ ap (λ (l : List (List ℕ)). done (set images i l)) (take-append-drop s image)
    ∙ ap done (set-get_or images i [])

-- sectors of a leaf put in two parts
pub leaf-append : (i s : ℕ) (xs ys : List (List ℕ)) (images : Images) → leaf_put i s (xs ++ ys) images ≡ then_put (leaf_put i s xs images) (leaf_put i (s + length xs) ys)
leaf-append i s xs ys images =
    let all = put-all (leaf_put i) (leaf-adds i) (leaf-none i) in
    all s (xs ++ ys) images ∙ put_each-append (leaf_put i) s xs ys images
    ∙ ap (λ (p : Put). then_put p (put_each (leaf_put i) (s + length xs) ys)) (sym (all s xs images))
    ∙ then_same (leaf_put i s xs images) _ _ (λ j. sym (all (s + length xs) ys j))

pub put-none : (c : Configuration) (x : Lower) → PutsNone (put_on c x)
unfolding descend
put-none c (leaf i) s images = leaf-none i s images
put-none c (device d) s images = refl

-- ---- the sectors of one line

line_put-asks : (c : Configuration) → AsksOfNames (line_put c)
line_put-asks c at at' d l target s all =
    ap (λ (x : Putting). put_as (meaning_of target).meant x (below none_said (said_by_name c) target) (below none_put at target) s) (said_or-same none_put at at' target s all)
    ∙ ap (λ (f : ℕ → ℕ → Putting). put_as (meaning_of target).meant (said_or none_put at' (beneath target s)) (below none_said (said_by_name c) target) f s) (below-same none_put at at' target all)

put_rule-local : (c : Configuration) → IsLocal c (put_rule c)
put_rule-local c f g (leaf i) all = refl
put_rule-local c f g (device d) all =
    ap (λ (h : ℕ → Putting). λ (s : ℕ) (sectors : List (List ℕ)) (images : Images). put_runs h (runs_from (in_one_run c d.0) s sectors) images)
    (sector_rule-local c none_put leaf_put (line_put c) (line_put-asks c) f g (device d) all)

put-rule : (c : Configuration) → IsValid c → (x : Lower) → put_on c x ≡ put_rule c (put_on c) x
put-rule c valid x =
    let low : (y : Lower) → depth c y < most_devices = λ y. let l : depth c y ≤ most_depth = depth-low c valid y in omega (arith, l) in
    descend-rule c (λ s. none_put) (put_rule c) (put_rule-local c) (depth c) (falls-at c low) x (let l : depth c x ≤ most_depth = depth-low c valid x in omega (arith, l))

-- the sectors of a device, cut where two of them don't go down together, are put in two parts
pub device-apart : (c : Configuration) → IsValid c → (d s : ℕ) (xs ys : List (List ℕ)) (images : Images) → Apart (in_one_run c d) s xs ys
    → put_on c (mapped d) s (xs ++ ys) images ≡ then_put (put_on c (mapped d) s xs images) (put_on c (mapped d) (s + length xs) ys)
device-apart c valid d s xs ys images apart =
    let f : ℕ → Putting = sector_rule c none_put leaf_put (line_put c) (put_on c) (mapped d) in
    let rule = put-rule c valid (mapped d) in
    ap (λ (h : ℕ → Putting). h s (xs ++ ys) images) rule
    ∙ put-apart f (in_one_run c d) s xs ys images apart
    ∙ ap (λ (h : ℕ → Putting). then_put (h s xs images) (h (s + length xs) ys)) (sym rule)

-- the sectors of one line
pub put_on-line : (c : Configuration) (valid : IsValid c) (d s l : ℕ) (line : Line) (sectors : List (List ℕ)) (images : Images) → line_at c d s ≡ Some (l, line) → line.start ≤ s → s + length sectors ≤ line.start + line.length
    → put_on c (mapped d) s sectors images ≡ put_runs (line_put c (put_by_name c) d l line.target) (runs_from (together line.target) (s - line.start) sectors) images
put_on-line c valid d s l line sectors images found start fits =
    let f : ℕ → Putting = sector_rule c none_put leaf_put (line_put c) (put_on c) (mapped d) in
    let g : ℕ → Putting = line_put c (put_by_name c) d l line.target in
    let at : (j : ℕ) → j < length sectors → line_at c d (s + j) ≡ Some (l, line) = λ j h. found-more 0 (lines_of c d) s (s + j) (l, line) found (omega arith) (omega (arith, h, fits)) in
    let within : (j : ℕ) → s + j - line.start ≡ s - line.start + j = λ j. omega (arith, start) in
    ap (λ (h : ℕ → Putting). h s sectors images) (put-rule c valid (mapped d))
    ∙ put-alike f g (in_one_run c d) (together line.target) s (s - line.start) sectors images
    (λ j run i h.
    ap (λ (q : Option (ℕ × Line)). on_found none_put (line_put c (put_by_name c)) d (s + j) q run i) (at j h)
    ∙ ap (λ (k : ℕ). g k run i) (within j))
    (λ j h.
    let inside : nat_lt (suc (s + j)) (line.start + line.length) ≡ true = lt-ltb (suc (s + j)) (line.start + line.length) (omega (arith, h, fits)) in
    ap (λ (q : Option (ℕ × Line)). option_map_or (λ p. nat_lt (suc (s + j)) (p.1.start + p.1.length) && together p.1.target (s + j - p.1.start)) q false) (at j (omega (arith, h)))
    ∙ ap (λ (b : Bool). b && together line.target (s + j - line.start)) inside
    ∙ ap (together line.target) (within j))

-- a line that hands on the sectors beneath
pub line_put-beneath : (c : Configuration) (at : List ℕ → ℕ → Putting) (d l : ℕ) (target : Target) (s : ℕ) (p : List ℕ × ℕ) (sectors : List (List ℕ)) (images : Images) → HandsOn target → beneath target s ≡ Some p
    → line_put c at d l target s sectors images ≡ at p.0 p.1 sectors images
line_put-beneath c at d l target s p sectors images hands e = go (meaning_of target).meant hands
  where
    go : (m : Meant) → IsHanded m → put_as m (said_or none_put at (beneath target s)) (below none_said (said_by_name c) target) (below none_put at target) s sectors images ≡ at p.0 p.1 sectors images
    go handed h = ap (λ (o : Option (List ℕ × ℕ)). said_or none_put at o sectors images) e
    go (own m) h = absurd h
