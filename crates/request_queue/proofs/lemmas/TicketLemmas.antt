-- Requests in flight by their tickets.
use Rattle.std.proofs.Common.{◌≡◌, ◌≢◌, ◌<◌, ◌≤◌, ◌==◌, ℕ, zero, suc, true, false, Bool, nat_lt, List, [], ◌∷◌, ◌++◌, length, get_or, set, refl, ap, sym, ◌∙◌, subst, arith, Some, None}
use Rattle.std.specs.Prelude.{position, slice_get, remove, find}
use Rattle.std.proofs.lemmas.List.Quantifiers.{position-Some}
use Rattle.std.specs.List.{position_or_len}
use Rattle.std.proofs.lemmas.Bool.{ltb-false}
use Rattle.std.proofs.lemmas.List.Folds.{find_at}
use Rattle.std.proofs.lemmas.Option.{get_or_from_slice_get, slice_get_past}
use Rattle.request_queue.specs.Flights.{FlightRecord, has_ticket}
use Rattle.request_queue.specs.World.{IsAt, Rise}

same-test : (a b : ℕ) → a ≡ b → (a == b) ≡ true
same-test a b e = grind (arith, e)

other-test : (a b : ℕ) → a ≢ b → (a == b) ≡ false
other-test a b e = grind (arith, e)

pub test-same : (a b : ℕ) → (a == b) ≡ true → a ≡ b
test-same a b e = grind (arith, e)

pub test-other : (a b : ℕ) → (a == b) ≡ false → a ≢ b
test-other a b e = grind (arith, e)

pub at-ticket : (fs : List FlightRecord) (t i : ℕ) (f : FlightRecord) → IsAt fs t i f → f.ticket ≡ t
at-ticket fs t i f at =
    let p : has_ticket t (get_or fs i f) ≡ true = (position-Some (has_ticket t) fs i f at.place).1 in
    test-same f.ticket t (subst (λ x. has_ticket t x ≡ true) (get_or_from_slice_get fs i f f at.is) p)

find-skip : (t : ℕ) (f : FlightRecord) (fs : List FlightRecord) → f.ticket ≢ t → find (has_ticket t) (f ∷ fs) ≡ find (has_ticket t) fs
find-skip t f fs e = let other : (f.ticket == t) ≡ false = other-test f.ticket t e in rw other refl

find-here : (t : ℕ) (f : FlightRecord) (fs : List FlightRecord) → f.ticket ≡ t → find (has_ticket t) (f ∷ fs) ≡ Some f
find-here t f fs e = let here : (f.ticket == t) ≡ true = same-test f.ticket t e in rw here refl

rise-most : (low high : ℕ) (fs : List FlightRecord) → Rise low fs high → low ≤ high
rise-most low high [] r = r
rise-most low high (f ∷ fs) r = omega (arith, r.0, rise-most f.ticket high fs r.1)

-- no ticket at most low is among tickets that rise from above it
find-below : (low high t : ℕ) (fs : List FlightRecord) → t ≤ low → Rise low fs high → find (has_ticket t) fs ≡ None
find-below low high t [] h r = refl
find-below low high t (f ∷ fs) h r = find-skip t f fs (λ e. omega (arith, h, r.0, e)) ∙ find-below f.ticket high t fs (omega (arith, h, r.0)) r.1

-- one at a place is found
pub find-at : (low high t i : ℕ) (fs : List FlightRecord) (f : FlightRecord) → Rise low fs high → slice_get fs i ≡ Some f → f.ticket ≡ t → low < t × (find (has_ticket t) fs ≡ Some f)
find-at low high t i [] f r at e = let clash : None ≡ Some f = at in cc
find-at low high t zero (g ∷ fs) f r at e =
    let same : g ≡ f = cc in
    let one : g.ticket ≡ t = ap (λ x. x.ticket) same ∙ e in
    (omega (arith, one, r.0), find-here t g fs one ∙ ap Some same)
find-at low high t (suc i) (g ∷ fs) f r at e =
    let more = find-at g.ticket high t i fs f r.1 at e in
    (omega (arith, more.0, r.0), find-skip t g fs (λ same. omega (arith, same, more.0)) ∙ more.1)

-- where it is taken out, it isn't found
pub find-removed : (low high t i : ℕ) (fs : List FlightRecord) (f : FlightRecord) → Rise low fs high → slice_get fs i ≡ Some f → f.ticket ≡ t → low < t × (find (has_ticket t) (remove fs i) ≡ None)
find-removed low high t i [] f r at e = let clash : None ≡ Some f = at in cc
find-removed low high t zero (g ∷ fs) f r at e =
    let same : g ≡ f = cc in
    let one : g.ticket ≡ t = ap (λ x. x.ticket) same ∙ e in
    (omega (arith, one, r.0), find-below g.ticket high t fs (omega (arith, one)) r.1)
find-removed low high t (suc i) (g ∷ fs) f r at e =
    let more = find-removed g.ticket high t i fs f r.1 at e in
    (omega (arith, more.0, r.0), find-skip t g (remove fs i) (λ same. omega (arith, same, more.0)) ∙ more.1)

-- where it is changed, it is found as it is now
pub find-changed : (low high t i : ℕ) (fs : List FlightRecord) (f f' : FlightRecord) → Rise low fs high → slice_get fs i ≡ Some f → f.ticket ≡ t → f'.ticket ≡ t → low < t × (find (has_ticket t) (set fs i f') ≡ Some f')
find-changed low high t i [] f f' r at e e' = let clash : None ≡ Some f = at in cc
find-changed low high t zero (g ∷ fs) f f' r at e e' =
    let same : g ≡ f = cc in
    let one : g.ticket ≡ t = ap (λ x. x.ticket) same ∙ e in
    (omega (arith, one, r.0), find-here t f' fs e')
find-changed low high t (suc i) (g ∷ fs) f f' r at e e' =
    let more = find-changed g.ticket high t i fs f f' r.1 at e e' in
    (omega (arith, more.0, r.0), find-skip t g (set fs i f') (λ same. omega (arith, same, more.0)) ∙ more.1)

-- a request that was appended is found by its ticket
pub found-pushed : (low high t : ℕ) (fs : List FlightRecord) (f : FlightRecord) → Rise low fs high → high < t → f.ticket ≡ t → find (has_ticket t) (fs ++ f ∷ []) ≡ Some f
found-pushed low high t [] f r h e = find-here t f [] e
found-pushed low high t (g ∷ fs) f r h e = let more = rise-most g.ticket high fs r.1 in find-skip t g (fs ++ f ∷ []) (λ same. omega (arith, same, more, h)) ∙ found-pushed g.ticket high t fs f r.1 h e

-- where none is at a place, none is found
pub not-found : (t : ℕ) (fs : List FlightRecord) → position (has_ticket t) fs ≡ None → find (has_ticket t) fs ≡ None
not-found t fs none = by (nat_lt (position_or_len (has_ticket t) fs) (length fs)) refl
  where
    by : (b : Bool) → nat_lt (position_or_len (has_ticket t) fs) (length fs) ≡ b → find (has_ticket t) fs ≡ None
    by true e =
        let found : position (has_ticket t) fs ≡ Some (position_or_len (has_ticket t) fs) = rw e refl in
        let clash : None ≡ Some (position_or_len (has_ticket t) fs) = sym none ∙ found in cc
    by false e = find_at (has_ticket t) fs ∙ slice_get_past fs (position_or_len (has_ticket t) fs) (ltb-false (position_or_len (has_ticket t) fs) (length fs) e)

-- ---- the others

go-on : (u : ℕ) (g : FlightRecord) (fs fs' : List FlightRecord) → find (has_ticket u) fs' ≡ find (has_ticket u) fs → find (has_ticket u) (g ∷ fs') ≡ find (has_ticket u) (g ∷ fs)
go-on u g fs fs' e = by (g.ticket == u) refl
  where
    by : (b : Bool) → (g.ticket == u) ≡ b → find (has_ticket u) (g ∷ fs') ≡ find (has_ticket u) (g ∷ fs)
    by true here = rw here refl
    by false other = rw other e

pub others-set : (u i : ℕ) (fs : List FlightRecord) (f f' : FlightRecord) → slice_get fs i ≡ Some f → f.ticket ≢ u → f'.ticket ≢ u → find (has_ticket u) (set fs i f') ≡ find (has_ticket u) fs
others-set u i [] f f' at e e' = refl
others-set u zero (g ∷ fs) f f' at e e' =
    let same : g ≡ f = cc in
    find-skip u f' fs e' ∙ sym (find-skip u g fs (λ x. e (ap (λ (y : FlightRecord). y.ticket) (sym same) ∙ x)))
others-set u (suc i) (g ∷ fs) f f' at e e' = go-on u g fs (set fs i f') (others-set u i fs f f' at e e')

pub others-remove : (u i : ℕ) (fs : List FlightRecord) (f : FlightRecord) → slice_get fs i ≡ Some f → f.ticket ≢ u → find (has_ticket u) (remove fs i) ≡ find (has_ticket u) fs
others-remove u i [] f at e = let clash : None ≡ Some f = at in cc
others-remove u zero (g ∷ fs) f at e =
    let same : g ≡ f = cc in
    sym (find-skip u g fs (λ x. e (ap (λ (y : FlightRecord). y.ticket) (sym same) ∙ x)))
others-remove u (suc i) (g ∷ fs) f at e = go-on u g fs (remove fs i) (others-remove u i fs f at e)

pub others-push : (u : ℕ) (fs : List FlightRecord) (f : FlightRecord) → f.ticket ≢ u → find (has_ticket u) (fs ++ f ∷ []) ≡ find (has_ticket u) fs
others-push u [] f e = find-skip u f [] e
others-push u (g ∷ fs) f e = go-on u g fs (fs ++ f ∷ []) (others-push u fs f e)

-- ---- tickets

pub rise-less : (low low' high : ℕ) (fs : List FlightRecord) → low ≤ low' → Rise low' fs high → Rise low fs high
rise-less low low' high [] h r = omega (arith, r, h)
rise-less low low' high (f ∷ fs) h r = (omega (arith, r.0, h), r.1)

pub rise-push : (low high : ℕ) (fs : List FlightRecord) (f : FlightRecord) → high < f.ticket → Rise low fs high → Rise low (fs ++ f ∷ []) f.ticket
rise-push low high [] f h r = (omega (arith, r, h), omega arith)
rise-push low high (g ∷ fs) f h r = (r.0, rise-push g.ticket high fs f h r.1)

pub rise-set : (low high : ℕ) (fs : List FlightRecord) (i : ℕ) (d f : FlightRecord) → f.ticket ≡ (get_or fs i d).ticket → Rise low fs high → Rise low (set fs i f) high
rise-set low high [] i d f same r = r
rise-set low high (g ∷ fs) zero d f same r = (omega (arith, same, r.0), subst (λ t. Rise t fs high) (sym same) r.1)
rise-set low high (g ∷ fs) (suc i) d f same r = (r.0, rise-set g.ticket high fs i d f same r.1)

pub rise-remove : (low high : ℕ) (fs : List FlightRecord) (i : ℕ) → Rise low fs high → Rise low (remove fs i) high
rise-remove low high [] zero r = r
rise-remove low high [] (suc i) r = r
rise-remove low high (g ∷ fs) zero r = rise-less low g.ticket high fs (omega (arith, r.0)) r.1
rise-remove low high (g ∷ fs) (suc i) r = (r.0, rise-remove g.ticket high fs i r.1)
