-- Images that are closed, from the last one to the first.
use Rattle.std.proofs.Common.{◌≡◌, ◌<◌, ◌≤◌, ℕ, zero, suc, List, [], ◌∷◌, ◌++◌, length, map, drop, get_or, arith, refl, sym, ap, subst, ◌∙◌, append_assoc}
use Rattle.block_device.specs.Device.{Device}
use Rattle.command_line.specs.declared.bindings.Binding.{Binding}
use Rattle.command_line.specs.Bindings.{BackingRecord, backing_record, binding_record}
use Rattle.image_files.specs.Opener.{Calls, Opener, calls}
use Rattle.stack_files.specs.Bindings.{ClosesBacking, ClosesEach, backings_of}

-- all but the first ones are closed
pub record AreClosed {S D : Type 0} (w : Calls S D) (backings : List BackingRecord) (all left : List D) : Type 0 where
  pub done : List D
  pub are : all ≡ left ++ done
  pub closed : ClosesEach w (drop (length left) backings) done

nil : {A : Type 0} (xs : List A) → xs ≡ xs ++ []
nil [] = refl
nil (x ∷ xs) = ap (λ t. x ∷ t) (nil xs)

length-last : {A : Type 0} (xs : List A) (x : A) → length (xs ++ x ∷ []) ≡ suc (length xs)
length-last [] x = refl
length-last (y ∷ xs) x = ap suc (length-last xs x)

drop-past : {A : Type 0} (n : ℕ) (xs : List A) → length xs ≤ n → drop n xs ≡ []
drop-past zero [] past = refl
drop-past (suc n) [] past = refl
drop-past zero (x ∷ xs) past = absurd (omega (arith, past))
drop-past (suc n) (x ∷ xs) past = drop-past n xs (omega (arith, past))

-- a list of bindings from one of them on
drop-at : (bindings : List Binding) (n : ℕ) (d : Binding) → n < length bindings
    → drop n (backings_of (map binding_record bindings)) ≡ backing_record (get_or bindings n d).backing ∷ drop (suc n) (backings_of (map binding_record bindings))
drop-at [] n d there = absurd (omega (arith, there))
drop-at (b ∷ bs) zero d there = refl
drop-at (b ∷ bs) (suc n) d there = drop-at bs n d (omega (arith, there))

length-backings : (bindings : List Binding) → length (backings_of (map binding_record bindings)) ≡ length bindings
length-backings [] = refl
length-backings (b ∷ bs) = ap suc (length-backings bs)

module _ {S D : Type 0} (o : Opener S D) (state : D → Device) where
  closes-none : (s : S) (backings : List BackingRecord) → ClosesEach (calls o state s s) backings []
  closes-none s [] = refl
  closes-none s (b ∷ bs) = refl

  pub AreClosed-none : (s : S) (backings : List BackingRecord) (all : List D) → AreClosed (calls o state s s) backings all all
  AreClosed-none s backings all = record { done = []; are = nil all; closed = closes-none s (drop (length all) backings) }

  pub AreClosed-all : (old new : S) (backings : List BackingRecord) (all : List D) → AreClosed (calls o state old new) backings all [] → ClosesEach (calls o state old new) backings all
  AreClosed-all old new backings all closed = subst (λ (ds : List D). ClosesEach (calls o state old new) backings ds) (sym closed.are) closed.closed

  -- one more is closed
  pub AreClosed-more : (old between new : S) (bindings : List Binding) (all before left : List D) (x : D) (d : Binding)
      → before ≡ left ++ x ∷ [] → length left < length bindings → AreClosed (calls o state old between) (backings_of (map binding_record bindings)) all before
      → ClosesBacking (calls o state between new) (backing_record (get_or bindings (length left) d).backing) x
      → AreClosed (calls o state old new) (backings_of (map binding_record bindings)) all left
  AreClosed-more old between new bindings all before left x d is there so_far last =
      let all_backings = backings_of (map binding_record bindings) in
      let n : length before ≡ suc (length left) = ap (λ (l : List D). length l) is ∙ length-last left x in
      let closed = subst (λ (k : ℕ). ClosesEach (calls o state old between) (drop k (backings_of (map binding_record bindings))) so_far.done) n so_far.closed in
      record {
        done = x ∷ so_far.done;
        are = so_far.are ∙ (ap (λ (l : List D). l ++ so_far.done) is ∙ append_assoc left (x ∷ []) so_far.done);
        closed = subst (λ (bs : List BackingRecord). ClosesEach (calls o state old new) bs (x ∷ so_far.done)) (sym (drop-at bindings (length left) d there)) (between, closed, last);
      }

  -- one more is closed, whose binding is looked up by its index
  pub AreClosed-found : (old between new : S) (bindings : List Binding) (all before left : List D) (x : D) (binding : Binding) (n : ℕ)
      → before ≡ left ++ x ∷ [] → n ≡ length left → n < length bindings → binding ≡ get_or bindings n binding → AreClosed (calls o state old between) (backings_of (map binding_record bindings)) all before
      → ClosesBacking (calls o state between new) (backing_record binding.backing) x
      → AreClosed (calls o state old new) (backings_of (map binding_record bindings)) all left
  AreClosed-found old between new bindings all before left x binding n is len there found so_far last =
      let one : binding ≡ get_or bindings (length left) binding = found ∙ ap (λ (k : ℕ). get_or bindings k binding) len in
      AreClosed-more old between new bindings all before left x binding is (omega (arith, len, there)) so_far
      (subst (λ (b : Binding). ClosesBacking (calls o state between new) (backing_record b.backing) x) one last)

  -- one that has no name
  pub AreClosed-past : (old new : S) (bindings : List Binding) (all before left : List D) (x : D)
      → before ≡ left ++ x ∷ [] → length bindings ≤ length left → AreClosed (calls o state old new) (backings_of (map binding_record bindings)) all before
      → AreClosed (calls o state old new) (backings_of (map binding_record bindings)) all left
  AreClosed-past old new bindings all before left x is past so_far =
      let n : length before ≡ suc (length left) = ap (λ (l : List D). length l) is ∙ length-last left x in
      let none : drop (length before) (backings_of (map binding_record bindings)) ≡ [] =
      drop-past (length before) (backings_of (map binding_record bindings)) (omega (arith, n, past, length-backings bindings)) in
      let same : new ≡ old = subst (λ (bs : List BackingRecord). ClosesEach (calls o state old new) bs so_far.done) none so_far.closed in
      record {
        done = x ∷ so_far.done;
        are = so_far.are ∙ (ap (λ (l : List D). l ++ so_far.done) is ∙ append_assoc left (x ∷ []) so_far.done);
        closed = subst (λ (bs : List BackingRecord). ClosesEach (calls o state old new) bs (x ∷ so_far.done))
            (sym (drop-past (length left) (backings_of (map binding_record bindings)) (omega (arith, past, length-backings bindings)))) same;
      }
