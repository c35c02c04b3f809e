-- From a list of calls on a device follows what a steady one returns and holds.
use Rattle.std.proofs.Common.{◌≡◌, ◌⊎◌, ℕ, ◌+◌, ◌-◌, ◌/◌, ◌<◌, ◌≤◌, Bool, true, false, IsTrue, List, [], ◌∷◌, length, take, drop, get_or, refl, sym, ap, subst, ◌∙◌, arith, inl, inr}
use Rattle.std.proofs.lemmas.List.{get_or-drop, get_or-take}
use Rattle.block_device.specs.Call.{Call, Calls, DeviceDoes, IsCall, Read, Sync, Write}
use Rattle.block_device.specs.Device.{Device}
use Rattle.block_device.specs.Faithful.{HoldsAfter}
use Rattle.block_device.specs.SteadyCalls.{HoldsThrough, LeavesSector}

-- one call
call-holds : (old : Device) (call : Call) (new : Device) → IsCall old call new → HoldsAfter old.steady old.image call new.image
call-holds old (Read first bytes ok) new h = (h.moved.image, h.answer)
call-holds old (Write first bytes ok) new h = (h.moved.before, h.moved.after, h.image)
call-holds old (Sync true) new h = ap (λ (d : Device). d.image) (h.done refl)
call-holds old (Sync false) new h = let failed = h.not_done refl in ap (λ (d : Device). d.image) failed.moved

call-steady : (old : Device) (call : Call) (new : Device) → IsCall old call new → new.steady ≡ old.steady
call-steady old (Read first bytes ok) new h = h.moved.same.steady
call-steady old (Write first bytes ok) new h = h.moved.same.steady
call-steady old (Sync true) new h = ap (λ (d : Device). d.steady) (h.done refl)
call-steady old (Sync false) new h = let failed = h.not_done refl in ap (λ (d : Device). d.steady) failed.moved

-- calls one after another: each read returns the sectors held, each write changes its own sectors alone
pub calls-hold : {D : Type 0} (state : D → Device) (does : D → Call → D → Type 0) (old : D) (calls : List Call) (new : D) → Calls (DeviceDoes state does) old calls new → HoldsThrough (state old).steady (state old).image calls (state new).image
calls-hold state does old [] new same = ap (λ d. (state d).image) same
calls-hold state does old (call ∷ more) new h =
    let next = state h.0 in
    let steady : next.steady ≡ (state old).steady = call-steady (state old) call next h.1.0 in
    (next.image, call-holds (state old) call next h.1.0, subst (λ (s : Bool). HoldsThrough s next.image more (state new).image) steady (calls-hold state does h.0 more new h.2))

module _ (k : ℕ) (d : List ℕ) where
  outside-holds : (first n : ℕ) (old new : List (List ℕ)) → take first new ≡ take first old → drop (first + n) new ≡ drop (first + n) old → (k < first) ⊎ (first + n ≤ k) → get_or new k d ≡ get_or old k d
  outside-holds first n old new before after (inl low) = sym (get_or-take first new k d low) ∙ ap (λ (im : List (List ℕ)). get_or im k d) before ∙ get_or-take first old k d low
  outside-holds first n old new before after (inr high) =
      let r : ℕ = k - (first + n) in
      let at : (first + n) + r ≡ k = omega (arith, high) in
      ap (λ (m : ℕ). get_or new m d) (sym at) ∙ sym (get_or-drop (first + n) new r d)
      ∙ ap (λ (im : List (List ℕ)). get_or im r d) after
      ∙ get_or-drop (first + n) old r d ∙ ap (λ (m : ℕ). get_or old m d) at

  unwritten-holds : (old : List (List ℕ)) (calls : List Call) (new : List (List ℕ)) → HoldsThrough true old calls new → LeavesSector k calls → get_or new k d ≡ get_or old k d
  unwritten-holds old [] new same leaves = ap (λ (im : List (List ℕ)). get_or im k d) same
  unwritten-holds old (Read first bytes ok ∷ more) new h leaves = unwritten-holds h.0 more new h.2 leaves ∙ ap (λ (im : List (List ℕ)). get_or im k d) (h.1.0 refl)
  unwritten-holds old (Write first bytes ok ∷ more) new h leaves = unwritten-holds h.0 more new h.2 leaves.1 ∙ outside-holds first (length bytes / 512) old h.0 (h.1.0 refl) (h.1.1 refl) leaves.0
  unwritten-holds old (Sync ok ∷ more) new h leaves = unwritten-holds h.0 more new h.2 leaves ∙ ap (λ (im : List (List ℕ)). get_or im k d) h.1

  -- a steady device holds a sector that no call wrote
  pub steady-keeps : {D : Type 0} (state : D → Device) (does : D → Call → D → Type 0) (old : D) (calls : List Call) (new : D) → Calls (DeviceDoes state does) old calls new → IsTrue (state old).steady → LeavesSector k calls
      → get_or (state new).image k d ≡ get_or (state old).image k d
  steady-keeps state does old calls new made steady leaves =
      unwritten-holds (state old).image calls (state new).image (subst (λ (s : Bool). HoldsThrough s (state old).image calls (state new).image) steady (calls-hold state does old calls new made)) leaves
