-- Two lists, element by element.
use Rattle.std.proofs.Common.{◌≡◌, ℕ, zero, suc, ◌-◌, ◌≤◌, Bool, List, [], ◌∷◌, ◌++◌, ◌||◌, length, replicate, refl, sym, ap, ◌∙◌, append_assoc, arith}
use Rattle.std.proofs.lemmas.List.{append-nil, length-append, length-replicate}
use Rattle.rescue_map.specs.Aheads.{marks_ahead}
use Rattle.rescue_map.specs.declared.ahead.Ahead.{Ahead}
use Rattle.rescue_map.specs.Maps.{found_lost, joined, kept_lost, left_lost, marks}

-- their first elements, which are alike
pub joined-front : (f : Bool → Bool → Bool) (n : ℕ) (a b : Bool) (xs ys : List Bool) → joined f (replicate n a ++ xs) (replicate n b ++ ys) ≡ replicate n (f a b) ++ joined f xs ys
joined-front f zero a b xs ys = refl
joined-front f (suc n) a b xs ys = ap (λ (l : List Bool). f a b ∷ l) (joined-front f n a b xs ys)

joined-none : (f : Bool → Bool → Bool) (xs ys : List Bool) → length ys ≡ 0 → joined f xs ys ≡ []
joined-none f [] ys e = refl
joined-none f (x ∷ xs) [] e = refl
joined-none f (x ∷ xs) (y ∷ ys) e = absurd (omega (arith, e))

-- so many are joined, and then the rest
pub joined-more : (f : Bool → Bool → Bool) (n : ℕ) (a b : Bool) (old new xs xs' ys ys' : List Bool) → new ≡ old ++ replicate n (f a b) → xs ≡ replicate n a ++ xs' → ys ≡ replicate n b ++ ys'
    → new ++ joined f xs' ys' ≡ old ++ joined f xs ys
joined-more f n a b old new xs xs' ys ys' put front behind =
    ap (λ (l : List Bool). l ++ joined f xs' ys') put
    ∙ append_assoc old (replicate n (f a b)) (joined f xs' ys')
    ∙ ap (λ (l : List Bool). old ++ l) (sym (ap (λ (l : List Bool). joined f l ys) front ∙ ap (joined f (replicate n a ++ xs')) behind ∙ joined-front f n a b xs' ys'))

-- all were joined
pub joined-all : (f : Bool → Bool → Bool) (made xs ys whole : List Bool) → length ys ≡ 0 → made ++ joined f xs ys ≡ whole → made ≡ whole
joined-all f made xs ys whole none e = sym (ap (λ (l : List Bool). made ++ l) (joined-none f xs ys none) ∙ append-nil made) ∙ e

-- the bad sectors of a pass, of which so many are joined
pub left_lost-more : (again : Bool) (n : ℕ) (a b c : Bool) (old new xs xs' ys ys' zs zs' : List Bool) → new ≡ old ++ replicate n (kept_lost again a b || found_lost c b) → xs ≡ replicate n a ++ xs' → ys ≡ replicate n b ++ ys'
    → zs ≡ replicate n c ++ zs' → new ++ left_lost again xs' ys' zs' ≡ old ++ left_lost again xs ys zs
left_lost-more again n a b c old new xs xs' ys ys' zs zs' put first second third =
    joined-more (λ (kept lost : Bool). kept || lost) n (kept_lost again a b) (found_lost c b) old new (joined (kept_lost again) xs ys) (joined (kept_lost again) xs' ys') (joined found_lost zs ys) (joined found_lost zs' ys') put
    (ap (λ (l : List Bool). joined (kept_lost again) l ys) first ∙ ap (joined (kept_lost again) (replicate n a ++ xs')) second ∙ joined-front (kept_lost again) n a b xs' ys')
    (ap (λ (l : List Bool). joined found_lost l ys) third ∙ ap (joined found_lost (replicate n c ++ zs')) second ∙ joined-front found_lost n c b zs' ys')

pub left_lost-all : (again : Bool) (made xs ys zs whole : List Bool) → length ys ≡ 0 → made ++ left_lost again xs ys zs ≡ whole → made ≡ whole
left_lost-all again made xs ys zs whole none e =
    joined-all (λ (kept lost : Bool). kept || lost) made (joined (kept_lost again) xs ys) (joined found_lost zs ys) whole (ap length (joined-none found_lost zs ys none)) e

-- how many are left
pub left-more : (n : ℕ) (h : Bool) (now next : List Bool) (left : ℕ) → now ≡ replicate n h ++ next → length now ≡ left → length next ≡ left - n
left-more n h now next left is all = omega (arith, all, ap length is, length-append (replicate n h) next, length-replicate {A = Bool} n h)

-- the current run is among the sectors ahead
pub first-inside : (ahead : Ahead) → ahead.first.count ≤ length (marks_ahead ahead)
first-inside ahead = omega (arith, length-append (replicate ahead.first.count ahead.first.had) (marks ahead.rest.now), length-replicate {A = Bool} ahead.first.count ahead.first.had)
