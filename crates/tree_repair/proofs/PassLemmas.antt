-- Runs of which the blocks that aren't good are noted.
use Rattle.std.proofs.Common.{◌≡◌, ℕ, true, IsTrue, List, [], ◌++◌, Option, None, Some, Result, Ok, Err, refl, sym, ap, ◌∙◌, subst, arith, inl, inr, ◌&&◌, suc, Bool}
use Rattle.std.specs.Prelude.{IsErrAnd}
use Rattle.std.specs.List.{flat_map}
use Rattle.std.specs.Io.KnownBytes.{Appends}
use Rattle.std.specs.Result.{result_err}
use Rattle.std.proofs.lemmas.Bool.{true≢false}
use Rattle.std.proofs.lemmas.Grind.{flat_map-append}
use Rattle.std.proofs.lemmas.List.{append_assoc, append-nil}
use Rattle.std.proofs.lemmas.List.Elements.{All-append, All-cons, All-nil}
use Rattle.block_device.specs.Device.{Device}
use Rattle.fec_area.specs.declared.layout.Layout.{Layout}
use Rattle.tree_repair.specs.declared.bad.BadBlock.{BadBlock}
use Rattle.tree_repair.specs.declared.bad.BadBlocks.{BadBlocks}
use Rattle.tree_repair.specs.declared.fault.RepairFault.{RepairFault}
use Rattle.tree_repair.specs.Coverage.{IsDueAt, IsFromUp, IsLookedAt, IsVisitAt}
use Rattle.tree_repair.specs.Flaws.{IsSkipped, LeavesCorrupt}
use Rattle.tree_repair.specs.Noting.{any_after, found_of, passed_some}
use Rattle.tree_repair.specs.Passes.{ArePasses, HasNoted, IsGoodThen, IsPass, bad_of}
use Rattle.tree_repair.specs.Runs.{HasRun, IsVisited, Job, Visit, visit_line}
use Rattle.tree_repair.specs.ParitySearches.{HasSought}
use Rattle.tree_repair.specs.Worlds.{IsParityRead, IsWorldRead, RepairWorld}
use Rattle.tree_repair.proofs.BlockCheckLemmas.{in-left, in-right, looked-behind, looked-left, looked-right}
use Rattle.tree_repair.proofs.FlawLemmas.{any-none, any-some, flaws-none, flaws-right, flaws-then, happens-here}
use Rattle.tree_repair.proofs.OnceLemmas.{AreParts, all-due, due-at, due-none, due-one, once-one, once-then}
use Rattle.tree_repair.proofs.RunLemmas.{has-behind, has-none, has-one, has-read, has-then, parity-none, world-none}

pub noted-none : {j : Job} {Due : ℕ → ℕ → Type 0} {w : RepairWorld} {old : Option (List ℕ)} {a : BadBlocks} → ((h i : ℕ) → Due h i → ⊥) → HasNoted j Due w w old old a a None
noted-none {j} {Due} {w} {old} {a} none = record {
  run = has-none;
  asked = refl;
  noted = λ end on. sym (append-nil a.blocks.items);
  looked = λ end h i due. absurd (none h i due);
  only = λ end. due-none j.tree.shape Due;
  once = λ end. tt;
  any = λ end clean. (clean, All-nil (IsGoodThen j));
  passed = λ end clean. (clean, λ h i due. absurd (none h i due));
  flaws = λ end. flaws-none j w w a;
}

-- blocks that were passed by
pub noted-read : {j : Job} {Due : ℕ → ℕ → Type 0} {w w' : RepairWorld} {old : Option (List ℕ)} {a b : BadBlocks} → b ≡ passed_some a → IsWorldRead w w' → IsSkipped j w w' → ((h i : ℕ) → Due h i → IsLookedAt j h i [] w w') → HasNoted j Due w w' old old a b None
noted-read {j} {Due} {w} {w'} {old} {a} {b} same read skip looked = subst (λ (x : BadBlocks). HasNoted j Due w w' old old a x None) (sym same) (record {
  run = has-read read;
  asked = refl;
  noted = λ end on. sym (append-nil a.blocks.items);
  looked = λ end. looked;
  only = λ end. due-none j.tree.shape Due;
  once = λ end. tt;
  any = λ end clean. (clean, All-nil (IsGoodThen j));
  passed = λ end clean. absurd (true≢false clean);
  flaws = λ end. record { corrupt = λ yes. inl yes; skipped = λ yes. inr (happens-here j (IsSkipped j) w w' skip); unkept = λ yes. inl yes };
})

pub noted-then : {j : Job} {Due First Next : ℕ → ℕ → Type 0} {w x y : RepairWorld} {old now new : Option (List ℕ)} {a b c : BadBlocks} {fault : Option RepairFault} → HasNoted j First w x old now a b None → HasNoted j Next x y now new b c fault
    → AreParts j.tree.shape Due First Next → HasNoted j Due w y old new a c fault
noted-then {j} {Due} {First} {Next} {w} {x} {y} {old} {now} {new} {a} {b} {c} {fault} p q parts = record {
  run = has-then p.run q.run;
  asked = q.asked ∙ p.asked;
  noted = λ end on.
      q.noted end (subst IsTrue (sym p.asked) on)
      ∙ ap (λ (l : List BadBlock). l ++ flat_map (bad_of j) q.run.visits) (p.noted refl on)
      ∙ append_assoc a.blocks.items (flat_map (bad_of j) p.run.visits) (flat_map (bad_of j) q.run.visits)
      ∙ ap (λ (l : List BadBlock). a.blocks.items ++ l) (sym (flat_map-append (bad_of j) p.run.visits q.run.visits));
  looked = λ end h i due. elim (parts.either h i due) [
    | inl at ↦ looked-left j h i p.run.visits q.run.visits w x y (p.looked refl h i at) q.run.runs
    | inr at ↦ looked-right j h i p.run.visits q.run.visits w x y p.run.runs (q.looked end h i at)
  ];
  only = λ end. All-append (λ (v : Visit). IsDueAt j.tree.shape Due v.height v.index) p.run.visits q.run.visits
      (all-due j.tree.shape First Due p.run.visits parts.first (p.only refl)) (all-due j.tree.shape Next Due q.run.visits parts.next (q.only end));
  once = λ end. once-then j.tree.shape Due First Next parts p.run.visits q.run.visits (p.only refl) (q.only end) (p.once refl) (q.once end);
  any = λ end clean.
      let behind = q.any end clean in
      let before = p.any refl behind.0 in
      (before.0, All-append (IsGoodThen j) p.run.visits q.run.visits before.1 behind.1);
  passed = λ end clean.
      let behind = q.passed end clean in
      let before = p.passed refl behind.0 in (
        before.0,
        λ h i due. elim (parts.either h i due) [
          | inl at ↦ in-left j.tree.shape h i p.run.visits q.run.visits (before.1 h i at)
          | inr at ↦ in-right j.tree.shape h i p.run.visits q.run.visits (behind.1 h i at)
        ],
      );
  flaws = λ end. flaws-then j p.run.visits q.run.visits w x y a b c p.run.runs q.run.runs (p.flaws refl) (q.flaws end);
}

pub noted-behind : {j : Job} {Due : ℕ → ℕ → Type 0} {w x y : RepairWorld} {old new : Option (List ℕ)} {a b : BadBlocks} {fault : Option RepairFault} → IsWorldRead w x → HasNoted j Due x y old new a b fault → HasNoted j Due w y old new a b fault
noted-behind {j} {Due} {w} {x} {y} {old} {new} {a} {b} read p = record {
  run = has-behind read p.run;
  asked = p.asked;
  noted = p.noted;
  looked = λ end h i due. looked-behind j h i p.run.visits w x y read (p.looked end h i due);
  only = p.only;
  once = p.once;
  any = p.any;
  passed = p.passed;
  flaws = λ end. flaws-right j [] w x y a b read (p.flaws end);
}

pub noted-one : {j : Job} {v : Visit} {w w' : RepairWorld} {old new : Option (List ℕ)} {a b : BadBlocks} (Due : ℕ → ℕ → Type 0) → IsVisited j v w w' → v.done ≡ true → Appends old new (visit_line j v) → b.asked ≡ a.asked
    → (IsTrue a.asked → b.blocks.items ≡ a.blocks.items ++ bad_of j v) → b.any ≡ any_after a.any (found_of j.write v.mended) → b.passed ≡ a.passed → b.unkept ≡ a.unkept → ((h i : ℕ) → Due h i → IsVisitAt j.tree.shape h i v)
    → Due v.height v.index → HasNoted j Due w w' old new a b None
noted-one {j} {v} {w} {w'} {old} {new} {a} {b} Due here done told same noted any by unkept at is = record {
  run = has-one here done told;
  asked = same;
  noted = λ end on. noted on ∙ ap (λ (l : List BadBlock). a.blocks.items ++ l) (sym (append-nil (bad_of j v)));
  looked = λ end h i due. inl (inl (at h i due));
  only = λ end. due-one j.tree.shape Due v is;
  once = λ end. once-one j.tree.shape v;
  any = λ end clean. (let is = any-none a.any (found_of j.write v.mended) (sym any ∙ clean) in (is.0, All-cons (IsGoodThen j) v [] is.1 (All-nil (IsGoodThen j))));
  passed = λ end clean. (sym by ∙ clean, λ h i due. inl (at h i due));
  flaws = λ end. record {
    corrupt = λ yes. elim (any-some a.any (found_of j.write v.mended) (subst IsTrue any yes)) [
      | inl was ↦ inl was
      | inr corrupt ↦ inr (inl (happens-here j (LeavesCorrupt j) w w' (record { v = v; visited = here; corrupt = corrupt })))
    ];
    skipped = λ yes. inl (subst IsTrue by yes);
    unkept = λ yes. inl (subst IsTrue unkept yes);
  };
}

-- for the same blocks, said otherwise
pub noted-same : {j : Job} {Due More : ℕ → ℕ → Type 0} {w w' : RepairWorld} {old new : Option (List ℕ)} {a b : BadBlocks} {fault : Option RepairFault} → HasNoted j More w w' old new a b fault → ((h i : ℕ) → Due h i → More h i)
    → ((h i : ℕ) → More h i → Due h i) → HasNoted j Due w w' old new a b fault
noted-same {j} {Due} {More} p there back = record {
  run = p.run;
  asked = p.asked;
  noted = p.noted;
  looked = λ end h i due. p.looked end h i (there h i due);
  only = λ end. all-due j.tree.shape More Due p.run.visits (λ h i more. due-at j.tree.shape Due h i (back h i more)) (p.only end);
  once = p.once;
  any = p.any;
  passed = λ end clean. (let all = p.passed end clean in (all.0, λ h i due. all.1 h i (there h i due)));
  flaws = p.flaws;
}

-- one that didn't come to its end
pub noted-not : {j : Job} {Due : ℕ → ℕ → Type 0} {w w' : RepairWorld} {old new : Option (List ℕ)} {a b : BadBlocks} {fault : RepairFault} → HasRun j w w' old new (Some fault) → b.asked ≡ a.asked → HasNoted j Due w w' old new a b (Some fault)
noted-not run same = record {
  run = run;
  asked = same;
  noted = λ end. absurd (true≢false end);
  looked = λ end. absurd (true≢false end);
  only = λ end. absurd (true≢false end);
  once = λ end. absurd (true≢false end);
  any = λ end. absurd (true≢false end);
  passed = λ end. absurd (true≢false end);
  flaws = λ end. absurd (true≢false end);
}

-- a part that ended early, after one that came to its end
pub noted-ends : {j : Job} {Due First Next : ℕ → ℕ → Type 0} {w x y : RepairWorld} {old now new : Option (List ℕ)} {a b c : BadBlocks} {fault : RepairFault} → HasNoted j First w x old now a b None → HasNoted j Next x y now new b c (Some fault) → HasNoted j Due w y old new a c (Some fault)
noted-ends p q = noted-not (has-then p.run q.run) (q.asked ∙ p.asked)

pub noted-from : {T : Type 0} {j : Job} {Due : ℕ → ℕ → Type 0} {w w' : RepairWorld} {old new : Option (List ℕ)} {a b : BadBlocks} {fault : RepairFault} (r : Result T RepairFault) → IsErrAnd r (λ e. e ≡ fault) → HasNoted j Due w w' old new a b (Some fault)
    → HasNoted j Due w w' old new a b (result_err r)
noted-from (Ok x) is run = absurd is
noted-from {T} {j} {Due} {w} {w'} {old} {new} {a} {b} (Err e) is run = subst (λ (f : RepairFault). HasNoted j Due w w' old new a b (Some f)) (sym is) run

-- ---- passes

-- those that were noted in a run from none on were sought
pub pass-of : {j : Job} {l : Layout} {w x y : RepairWorld} {old new : Option (List ℕ)} {a b : BadBlocks} {p p' : Device} {hash_came : Bool} (blocks : List BadBlock) (again : Bool) → HasNoted j (IsFromUp j.tree.shape 0) w x old new a b None → IsTrue a.asked → a.blocks.items ≡ []
    → blocks ≡ b.blocks.items → HasSought j l blocks x y p p' hash_came → again ≡ (hash_came && j.write) → IsPass j l w y p p' again
pass-of {j} {l} {w} {x} {y} {old} {new} {a} {b} {p} {p'} {hash_came} blocks again noted on none are sought is = record {
  visits = noted.run.visits;
  behind = x;
  runs = noted.run.runs;
  done = noted.run.done refl;
  looked = λ h i high inside. noted.looked refl h i (omega arith, (high, inside));
  once = noted.once refl;
  hash_came = hash_came;
  sought = subst (λ (l' : List BadBlock). HasSought j l l' x y p p' hash_came) (are ∙ noted.noted refl on ∙ ap (λ (l' : List BadBlock). l' ++ flat_map (bad_of j) noted.run.visits) none) sought;
  again_is = is;
}

pub passes-first : {j : Job} {l : Layout} {w w' : RepairWorld} {p p' : Device} {again : Bool} → IsPass j l w w' p p' again → ArePasses j l 0 w w' p p' again
passes-first {j} {l} {w} {w'} {p} {p'} {again} pass = record { earlier = []; last = w; last_parity = p; before = world-none w; parity_read = parity-none p; due = (world-none w, parity-none p); pass = pass }

-- a pass that was due after those so far, which are as the run has them
pub passes-next : {j : Job} {l : Layout} {n : ℕ} {w x w' : RepairWorld} {p q p' : Device} {old new : Option (List ℕ)} {fault : Option RepairFault} {so_far again : Bool} → HasRun j w x old new fault → IsParityRead p q → ArePasses j l n w x p q so_far → IsTrue so_far → IsPass j l x w' q p' again
    → ArePasses j l (suc n) w w' p p' again
passes-next {j} {l} {n} {w} {x} {w'} {p} {q} {p'} {old} {new} {fault} {so_far} {again} run read before due pass = record {
  earlier = run.visits;
  last = x;
  last_parity = q;
  before = run.runs;
  parity_read = read;
  due = (before.last, (before.last_parity, (before.due, subst (λ (b : Bool). IsPass j l before.last x before.last_parity q b) due before.pass)));
  pass = pass;
}
