-- An opener whose values keep files keeps them in each history of its calls.
use Rattle.std.proofs.Common.{◌≡◌, ℕ, zero, suc, List, [], ◌∷◌, Some, ap, refl, sym, subst}
use Rattle.std.specs.Prelude.{slice_get}
use Rattle.std.proofs.lemmas.Option.{none-some, same_Some}
use Rattle.block_device.specs.Device.{Device}
use Rattle.image_files.specs.FileLaws.{HistoriesKeepFiles}
use Rattle.image_files.specs.Histories.{AreMade, IsCallAt, IsMade}
use Rattle.image_files.specs.ImageCalls.{ImageCall}
use Rattle.image_files.specs.Opener.{Opener}

-- the opener after n of its calls
abbrev pub value-at : {S D : Type 0} (o : Opener S D) (old : S) (calls : List (ImageCall D)) (new : S) → AreMade o old calls new → ℕ → S
value-at o old [] new made n = old
value-at o old (call ∷ rest) new made zero = old
value-at o old (call ∷ rest) new made (suc n) = value-at o made.between rest new made.rest n

value-first : {S D : Type 0} (o : Opener S D) (old : S) (calls : List (ImageCall D)) (new : S) (made : AreMade o old calls new) → value-at o old calls new made 0 ≡ old
value-first o old [] new made = refl
value-first o old (call ∷ rest) new made = refl

pub made-at : {S D : Type 0} (o : Opener S D) (old : S) (calls : List (ImageCall D)) (new : S) (made : AreMade o old calls new) (n : ℕ) (call : ImageCall D) → slice_get calls n ≡ Some call
    → IsMade o (value-at o old calls new made n) call (value-at o old calls new made (suc n))
made-at o old [] new made n call is = absurd (none-some call is)
made-at {S} {D} o old (c ∷ rest) new made zero call is =
    subst (λ (s : S). IsMade o old call s) (sym (value-first o made.between rest new made.rest))
    (subst (λ (x : ImageCall D). IsMade o old x made.between) (same_Some c call is) made.made)
made-at o old (c ∷ rest) new made (suc n) call is = made-at o made.between rest new made.rest n call is

pub kept-in-history : {S D : Type 0} (o : Opener S D) (state : D → Device) → HistoriesKeepFiles o state
kept-in-history {S} {D} o state at keeps old calls new made =
    let v = value-at o old calls new made in
    let of : (n n' : ℕ) (call : ImageCall D) → IsCallAt calls n call n' → IsMade o (v n) call (v n') =
    λ n n' call c. subst (λ (m : ℕ). IsMade o (v n) call (v m)) (sym c.1) (made-at o old calls new made n call c.0) in
    let shown = keeps.shows in
    let changed = keeps.changes in
    record {
      files = λ (n : ℕ). at (v n);
      first = ap at (value-first o old calls new made);
      keeps = record {
        shows = record {
          opened = λ n n' path writable image c. shown.opened (v n) (v n') path writable image (of n n' _ c);
          steady = λ n n' path writable image c. shown.steady (v n) (v n') path writable image (of n n' _ c);
          opened_part = λ n n' path writable part image c. shown.opened_part (v n) (v n') path writable part image (of n n' _ c);
          steady_part = λ n n' path writable part image c. shown.steady_part (v n) (v n') path writable part image (of n n' _ c);
          steady_narrowed = λ n n' device narrowed part c. shown.steady_narrowed (v n) (v n') device narrowed part (of n n' _ c);
          steady_lacking = λ n n' device lacking lost c. shown.steady_lacking (v n) (v n') device lacking lost (of n n' _ c);
          told = λ n n' path most text file c. shown.told (v n) (v n') path most text file (of n n' _ c);
          measured = λ n n' path part file c. shown.measured (v n) (v n') path part file (of n n' _ c);
          made_apart = λ n m n' path other sectors c c'. shown.made_apart (v n) (v m) (v n') path other sectors (of n m _ c) (of m n' _ c');
        };
        changes = record {
          kept_opening = λ n n' path writable outcome c. changed.kept_opening (v n) (v n') path writable outcome (of n n' _ c);
          kept_reading = λ n n' path most outcome c. changed.kept_reading (v n) (v n') path most outcome (of n n' _ c);
          kept_opening_part = λ n n' path writable part outcome c. changed.kept_opening_part (v n) (v n') path writable part outcome (of n n' _ c);
          kept_narrowing = λ n n' device narrowed part c. changed.kept_narrowing (v n) (v n') device narrowed part (of n n' _ c);
          kept_lacking = λ n n' device lacking lost c. changed.kept_lacking (v n) (v n') device lacking lost (of n n' _ c);
          kept_measuring = λ n n' path outcome c. changed.kept_measuring (v n) (v n') path outcome (of n n' _ c);
          kept_comparing = λ n n' path other outcome c. changed.kept_comparing (v n) (v n') path other outcome (of n n' _ c);
          kept_trying = λ n n' path outcome c. changed.kept_trying (v n) (v n') path outcome (of n n' _ c);
          taken = λ n n' path device file c. changed.taken (v n) (v n') path device file (of n n' _ c);
          kept_taking = λ n n' path other device file another c. changed.kept_taking (v n) (v n') path other device file another (of n n' _ c);
          taken_part = λ n n' path part device file c. changed.taken_part (v n) (v n') path part device file (of n n' _ c);
          kept_taking_part = λ n n' path other part device file another c. changed.kept_taking_part (v n) (v n') path other part device file another (of n n' _ c);
          grown = λ n n' path sectors file c. changed.grown (v n) (v n') path sectors file (of n n' _ c);
          kept_growing = λ n n' path other sectors file another c. changed.kept_growing (v n) (v n') path other sectors file another (of n n' _ c);
          shrunk = λ n n' path sectors file c. changed.shrunk (v n) (v n') path sectors file (of n n' _ c);
          kept_shrinking = λ n n' path other sectors file another c. changed.kept_shrinking (v n) (v n') path other sectors file another (of n n' _ c);
          replaced = λ n n' path bytes c. changed.replaced (v n) (v n') path bytes (of n n' _ c);
          kept_replacing = λ n n' path other bytes outcome another c. changed.kept_replacing (v n) (v n') path other bytes outcome another (of n n' _ c);
        };
      };
    }
