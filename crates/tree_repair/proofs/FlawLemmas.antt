-- What is noted after a run has its cause in the run.
use Rattle.std.proofs.Common.{◌≡◌, ◌≢◌, ◌⊎◌, ◌||◌, Bool, true, false, IsTrue, List, [], ◌++◌, Option, None, Some, refl, sym, inl, inr, ◌∙◌}
use Rattle.std.specs.Prelude.{not}
use Rattle.std.proofs.lemmas.Bool.{true≢false}
use Rattle.std.proofs.lemmas.Option.{none-some}
use Rattle.tree_repair.specs.declared.bad.BadBlocks.{BadBlocks}
use Rattle.tree_repair.specs.Flaws.{HappensIn, HasFlaws, IsFlaw, IsNotReadBack, IsSkipped, LeavesCorrupt}
use Rattle.tree_repair.specs.Noting.{any_after}
use Rattle.tree_repair.specs.Runs.{Job, Visit, VisitsAll}
use Rattle.tree_repair.specs.Worlds.{RepairWorld}
use Rattle.tree_repair.proofs.RunLemmas.{runs-then, world-none}

-- ---- what happened in a run happened in a longer one

module _ (j : Job) (Event : RepairWorld → RepairWorld → Type 0) where
  pub happens-here : (w w' : RepairWorld) → Event w w' → HappensIn j Event w w'
  happens-here w w' event = record { a = w; b = w'; event = event; part = record { earlier = []; later = []; before = world-none w; behind = world-none w' } }

  pub happens-left : (us : List Visit) (w x y : RepairWorld) → HappensIn j Event w x → VisitsAll j us x y → HappensIn j Event w y
  happens-left us w x y p runs = record {
    a = p.a;
    b = p.b;
    event = p.event;
    part = record { earlier = p.part.earlier; later = p.part.later ++ us; before = p.part.before; behind = runs-then j p.part.later us p.b x y p.part.behind runs };
  }

  pub happens-right : (vs : List Visit) (w x y : RepairWorld) → VisitsAll j vs w x → HappensIn j Event x y → HappensIn j Event w y
  happens-right vs w x y runs p = record {
    a = p.a;
    b = p.b;
    event = p.event;
    part = record { earlier = vs ++ p.part.earlier; later = p.part.later; before = runs-then j vs p.part.earlier w x p.a runs p.part.before; behind = p.part.behind };
  }

  pub happens-as : (Other : RepairWorld → RepairWorld → Type 0) → ((a b : RepairWorld) → Event a b → Other a b) → (w w' : RepairWorld) → HappensIn j Event w w' → HappensIn j Other w w'
  happens-as Other weaker w w' p = record { a = p.a; b = p.b; event = weaker p.a p.b p.event; part = p.part }

-- ---- what is noted

pub flaws-none : (j : Job) (w w' : RepairWorld) (a : BadBlocks) → HasFlaws j w w' a a
flaws-none j w w' a = record { corrupt = λ yes. inl yes; skipped = λ yes. inl yes; unkept = λ yes. inl yes }

pub flaws-left : (j : Job) (us : List Visit) (w x y : RepairWorld) (a b : BadBlocks) → HasFlaws j w x a b → VisitsAll j us x y → HasFlaws j w y a b
flaws-left j us w x y a b p runs = record {
  corrupt = λ yes. elim (p.corrupt yes) [
    | inl was ↦ inl was
    | inr here ↦ elim here [
      | inl one ↦ inr (inl (happens-left j (LeavesCorrupt j) us w x y one runs))
      | inr two ↦ inr (inr (happens-left j (IsNotReadBack j) us w x y two runs))
    ]
  ];
  skipped = λ yes. elim (p.skipped yes) [
    | inl was ↦ inl was
    | inr here ↦ inr (happens-left j (IsSkipped j) us w x y here runs)
  ];
  unkept = λ yes. elim (p.unkept yes) [
    | inl was ↦ inl was
    | inr here ↦ inr (happens-left j (IsNotReadBack j) us w x y here runs)
  ];
}

pub flaws-right : (j : Job) (vs : List Visit) (w x y : RepairWorld) (a b : BadBlocks) → VisitsAll j vs w x → HasFlaws j x y a b → HasFlaws j w y a b
flaws-right j vs w x y a b runs p = record {
  corrupt = λ yes. elim (p.corrupt yes) [
    | inl was ↦ inl was
    | inr here ↦ elim here [
      | inl one ↦ inr (inl (happens-right j (LeavesCorrupt j) vs w x y runs one))
      | inr two ↦ inr (inr (happens-right j (IsNotReadBack j) vs w x y runs two))
    ]
  ];
  skipped = λ yes. elim (p.skipped yes) [
    | inl was ↦ inl was
    | inr here ↦ inr (happens-right j (IsSkipped j) vs w x y runs here)
  ];
  unkept = λ yes. elim (p.unkept yes) [
    | inl was ↦ inl was
    | inr here ↦ inr (happens-right j (IsNotReadBack j) vs w x y runs here)
  ];
}

-- in two runs of the same extent
flaws-over : (j : Job) (w w' : RepairWorld) (a b c : BadBlocks) → HasFlaws j w w' a b → HasFlaws j w w' b c → HasFlaws j w w' a c
flaws-over j w w' a b c p q = record {
  corrupt = λ yes. elim (q.corrupt yes) [
    | inl was ↦ p.corrupt was
    | inr here ↦ inr here
  ];
  skipped = λ yes. elim (q.skipped yes) [
    | inl was ↦ p.skipped was
    | inr here ↦ inr here
  ];
  unkept = λ yes. elim (q.unkept yes) [
    | inl was ↦ p.unkept was
    | inr here ↦ inr here
  ];
}

pub flaws-then : (j : Job) (vs us : List Visit) (w x y : RepairWorld) (a b c : BadBlocks) → VisitsAll j vs w x → VisitsAll j us x y → HasFlaws j w x a b → HasFlaws j x y b c → HasFlaws j w y a c
flaws-then j vs us w x y a b c runs more p q = flaws-over j w y a b c (flaws-left j us w x y a b p more) (flaws-right j vs w x y b c runs q)

pub any-some : (any : Bool) (o : Option Bool) → IsTrue (any_after any o) → IsTrue any ⊎ (o ≢ None)
any-some any None is = inl is
any-some any (Some found) is = inr (λ none. none-some found (sym none))

pub any-none : (any : Bool) (o : Option Bool) → any_after any o ≡ false → (any ≡ false) × (o ≡ None)
any-none any None clean = (clean, refl)
any-none any (Some found) clean = absurd (true≢false clean)

-- ---- after a pass

some-of : (some by : Bool) → not (some || by) ≡ false → IsTrue some ⊎ IsTrue by
some-of true by is = inl refl
some-of false true is = inr refl
some-of false false is = absurd (true≢false is)

-- from notes of nothing on
pub flaws-happen : (j : Job) (w w' : RepairWorld) (a b : BadBlocks) → a.any ≡ false → a.passed ≡ false → HasFlaws j w w' a b → not (b.any || b.passed) ≡ false → HappensIn j (IsFlaw j) w w'
flaws-happen j w w' a b none by p is = elim (some-of b.any b.passed is) [
  | inl some ↦ elim (p.corrupt some) [
    | inl was ↦ absurd (true≢false (sym was ∙ none))
    | inr here ↦ elim here [
      | inl one ↦ happens-as j (LeavesCorrupt j) (IsFlaw j) (λ x y event. inl event) w w' one
      | inr two ↦ happens-as j (IsNotReadBack j) (IsFlaw j) (λ x y event. inr (inr event)) w w' two
    ]
  ]
  | inr skipped ↦ elim (p.skipped skipped) [
    | inl was ↦ absurd (true≢false (sym was ∙ by))
    | inr here ↦ happens-as j (IsSkipped j) (IsFlaw j) (λ x y event. inr (inl event)) w w' here
  ]
]
