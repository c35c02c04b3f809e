use Rattle.std.proofs.Common.{◌≡◌, ◌∙◌, ℕ, List, Ok, Err, ap, inr, refl, string_bytes, subst, sym}
use Rattle.image_files.specs.Calls.{FileRelations}
use Rattle.image_files.specs.declared.calls.CreateFault.TheVariants.{Failed}
use Rattle.image_files.specs.Drafts.{AreTaken, HasNoName, beside}
use Rattle.image_files.proofs.draft.create_draft.Goals as goal

-- the first name that isn't taken can't be created, which changes nothing
has-none : {S F : Type 0} (r : FileRelations S F) (old new : S) (target name like : List ℕ) (n : ℕ) → new ≡ old → name ≡ beside target n → like ≡ target
    → AreTaken r old target n → r.creates old name like (Err Failed) new → HasNoName r new target
has-none {S} r old new target name like n same is alike taken failed =
    let here = subst (λ (s : S). r.creates old name like (Err Failed) s) same failed in
    let beside-it = subst (λ (x : List ℕ). r.creates old x like (Err Failed) old) is here in
    let of-it = subst (λ (x : List ℕ). r.creates old (beside target n) x (Err Failed) old) alike beside-it in
    subst (λ (s : S). HasNoName r s target) (sym same) (inr (n, taken, of-it))

pub returns-in-Err-Failed-clause-err : goal.returns-in-Err-Failed-clause-err
returns-in-Err-Failed-clause-err g c =
    let r = g.C.FileCalls.relations in
    let target = string_bytes c.in_ok-target.target in
    let before = c.loop-number.invariant in
    let failed = rw c.in-Err-Failed.field-0-is at c.in-Err-Failed.ensures in
    let name : c.as_str-in-loop-number.result.now ≡ beside target c.loop-number.number =
    c.as_str-in-loop-number.ensures.value ∙ c.in-Ok.ensures.ok ∙ ap (λ (t : List ℕ). beside t c.loop-number.number) c.as_str.ensures.value in
    record {
      fault_is = inr refl;
      cause = inr (
        target,
        subst (λ (s : g.row.C.Denot). r.resolves c.args.calls.now c.args.path.now (Ok target) s) (sym failed.same) before.resolved,
        has-none r _ _ target _ _ c.loop-number.number failed.same name c.as_str-in-loop-number-2.ensures.value before.taken failed.outcome,
      );
    }
