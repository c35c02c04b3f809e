-- The test of a cycle is true exactly where a chain leads from a device to itself.
use Rattle.std.proofs.Common.{◌≡◌, ◌+◌, ◌-◌, ◌≤◌, ◌<◌, ℕ, zero, suc, [], ◌∷◌, refl, sym, ◌∙◌, Bool, true, false, ◌&&◌, ◌||◌, ◌⊎◌, inl, inr, None, length, arith}
use Rattle.std.specs.Prelude.{slice_get}
use Rattle.std.specs.Bool.{Decides}
use Rattle.std.proofs.Math.Decide.{dec_le}
use Rattle.stack_rules.specs.declared.refusal.LoadKind.TheVariants.{StandsOnItself}
use Rattle.stack_rules.specs.Records.{Configuration, DeviceRecord}
use Rattle.stack_rules.specs.Cycles.{names_device, Leads, by_line, by_chain, IsOnCycle, leads_below, is_on_cycle}
use Rattle.stack_rules.specs.Rules.{IsValid, refuse}
use Rattle.stack_rules.proofs.lemmas.ListLemmas.{slice_get-some}
use Rattle.stack_rules.proofs.lemmas.ValidLemmas.{past_end}
use Rattle.stack_rules.proofs.lemmas.ValidLineLemmas.{rules-of, at_place, apart}

or-cases : (a b : Bool) → (a || b) ≡ true → (a ≡ true) ⊎ (b ≡ true)
or-cases true b h = inl refl
or-cases false b h = inr h

or-left : (a b : Bool) → a ≡ true → (a || b) ≡ true
or-left true b h = refl
or-left false b h = let clash : false ≡ true = h in cc

or-right : (a b : Bool) → b ≡ true → (a || b) ≡ true
or-right true b h = refl
or-right false b h = h

and-cases : (a b : Bool) → (a && b) ≡ true → (a ≡ true) × (b ≡ true)
and-cases true b h = (refl, h)
and-cases false b h = let clash : false ≡ true = h in cc

and-both : (a b : Bool) → a ≡ true → b ≡ true → (a && b) ≡ true
and-both true b p q = q
and-both false b p q = let clash : false ≡ true = p in cc

-- ---- where the test is true, there is a chain

leads-joined : {c : Configuration} {d e : ℕ} → Leads c d e → (f : ℕ) → Leads c e f → Leads c d f
leads-joined (by_line d e step) f more = by_chain d e f step more
leads-joined (by_chain d x e step rest) f more = by_chain d x f step (leads-joined rest f more)

leads_below-chain : (c : Configuration) (k d e : ℕ) → leads_below (names_device c) k d e ≡ true → Leads c d e
unfolding leads_below
leads_below-chain c zero d e h = by_line d e h
leads_below-chain c (suc k) d e h =
    elim (or-cases (leads_below (names_device c) k d e) (leads_below (names_device c) k d k && leads_below (names_device c) k k e) h) [
      | inl past ↦ leads_below-chain c k d e past
      | inr by ↦
          let both = and-cases (leads_below (names_device c) k d k) (leads_below (names_device c) k k e) by in
          leads-joined (leads_below-chain c k d k both.0) e (leads_below-chain c k k e both.1)
    ]

-- ---- where there is a chain, the test is true

leads_below-step : (step : ℕ → ℕ → Bool) (k d e : ℕ) → step d e ≡ true → leads_below step k d e ≡ true
unfolding leads_below
leads_below-step step zero d e h = h
leads_below-step step (suc k) d e h = or-left (leads_below step k d e) (leads_below step k d k && leads_below step k k e) (leads_below-step step k d e h)

-- a step to a place below k, and then on from there
leads_below-before : (step : ℕ → ℕ → Bool) (k d x e : ℕ) → x < k → step d x ≡ true → leads_below step k x e ≡ true → leads_below step k d e ≡ true
unfolding leads_below
leads_below-before step zero d x e low here rest = let no : ⊥ = omega (arith, low) in absurd no
leads_below-before step (suc k) d x e low here rest = go (dec_le k x) (λ y less there. leads_below-before step k d x y less here there)
  where
    through : leads_below step k d k ≡ true → leads_below step k k e ≡ true → (leads_below step k d e || (leads_below step k d k && leads_below step k k e)) ≡ true
    through p q = or-right (leads_below step k d e) (leads_below step k d k && leads_below step k k e) (and-both (leads_below step k d k) (leads_below step k k e) p q)

    from_k : (leads_below step k k e || (leads_below step k k k && leads_below step k k e)) ≡ true → leads_below step k k e ≡ true
    from_k h = elim (or-cases (leads_below step k k e) (leads_below step k k k && leads_below step k k e) h) [
      | inl p ↦ p
      | inr q ↦ (and-cases (leads_below step k k k) (leads_below step k k e) q).1
    ]

    below : ((y : ℕ) → x < k → leads_below step k x y ≡ true → leads_below step k d y ≡ true) → x < k → (leads_below step k d e || (leads_below step k d k && leads_below step k k e)) ≡ true
    below earlier less = elim (or-cases (leads_below step k x e) (leads_below step k x k && leads_below step k k e) rest) [
      | inl p ↦ or-left (leads_below step k d e) (leads_below step k d k && leads_below step k k e) (earlier e less p)
      | inr q ↦
          let both = and-cases (leads_below step k x k) (leads_below step k k e) q in
          through (earlier k less both.0) both.1
    ]

    go : Dec (k ≤ x) → ((y : ℕ) → x < k → leads_below step k x y ≡ true → leads_below step k d y ≡ true) → (leads_below step k d e || (leads_below step k d k && leads_below step k k e)) ≡ true
    go (yes above) earlier =
        let same : x ≡ k = omega (arith, above, low) in
        through (leads_below-step step k d k (rw (← same) here)) (from_k (rw same at rest))
    go (no under) earlier = below earlier (grind (arith, under))

-- a device that names another is one of the configuration
pub names_device-inside : (c : Configuration) (d e : ℕ) → names_device c d e ≡ true → d < length c.devices
names_device-inside c d e h = go (dec_le (length c.devices) d)
  where
    nothing : slice_get c.devices d ≡ None → names_device c d e ≡ false
    nothing none = rw none refl

    go : Dec (length c.devices ≤ d) → d < length c.devices
    go (yes past) = let clash : true ≡ false = sym h ∙ nothing (past_end d c.devices past) in cc
    go (no inside) = grind (arith, inside)

leads-inside : {c : Configuration} {d e : ℕ} → Leads c d e → d < length c.devices
leads-inside {c = c} (by_line d e step) = names_device-inside c d e step
leads-inside {c = c} (by_chain d x e step rest) = names_device-inside c d x step

chain-leads_below : {c : Configuration} {d e : ℕ} → Leads c d e → leads_below (names_device c) (length c.devices) d e ≡ true
chain-leads_below {c = c} (by_line d e step) = leads_below-step (names_device c) (length c.devices) d e step
chain-leads_below {c = c} (by_chain d x e step rest) = leads_below-before (names_device c) (length c.devices) d x e (leads-inside rest) step (chain-leads_below rest)

-- the test is true exactly on a cycle
pub is_on_cycle-decides : (c : Configuration) (d : ℕ) → Decides (is_on_cycle c d) (IsOnCycle c d)
unfolding is_on_cycle
is_on_cycle-decides c d = (leads_below-chain c (length c.devices) d d, chain-leads_below)

-- in a valid configuration no device is on a cycle
pub acyclic : (c : Configuration) → IsValid c → (d : ℕ) → IsOnCycle c d → ⊥
acyclic c valid d on =
    let there = slice_get-some c.devices d (leads-inside on) in
    let here : (d + 1) - 1 ≡ d = omega arith in
    let none = at_place (λ d (x : DeviceRecord). refuse StandsOnItself d 0 (is_on_cycle c (d - 1)) ∷ []) 1 c.devices (rules-of c valid).around d (d + 1) there.0 there.1 refl in
    let off : is_on_cycle c d ≡ false = rw here at (apart StandsOnItself (d + 1) 0 (is_on_cycle c ((d + 1) - 1)) [] none).0 in
    let clash : true ≡ false = sym ((is_on_cycle-decides c d).1 on) ∙ off in cc
