-- Bindings that are opened one after another, and those that aren't.
use Rattle.std.proofs.Common.{◌≡◌, ◌<◌, ◌≤◌, ◌+◌, ℕ, Bool, zero, suc, List, [], ◌∷◌, ◌++◌, length, map, take, get_or, arith, refl, sym, ap, subst, ◌∙◌, append_assoc, inl, inr, Result, Ok, Err}
use Rattle.std.proofs.lemmas.List.{map-append, take_more}
use Rattle.std.proofs.lemmas.List.Sums.{sum_by-cons}
use Rattle.std.specs.List.{sum_by}
use Rattle.std.specs.Prelude.{IfErr, IsErrAnd}
use Rattle.allocation.specs.Refusal.{IsOutOfMemory}
use Rattle.block_device.specs.Device.{Device}
use Rattle.command_line.specs.declared.bindings.Binding.{Binding}
use Rattle.command_line.specs.Bindings.{BackingRecord, BindingRecord, backing_record, binding_record, part}
use Rattle.command_line.specs.PartBindings.{PartRecord}
use Rattle.image_files.specs.declared.file_use.FileUse.{FileUse}
use Rattle.image_files.specs.declared.parts.UnopenedPart.{UnopenedPart}
use Rattle.image_files.specs.declared.parts.UnopenedPart.TheVariants.{File, Outside as OutsideFile}
use Rattle.image_files.specs.OpenParts.{RefusesPart}
use Rattle.image_files.specs.Opener.{Calls, Opener, calls}
use Rattle.stack_meaning.specs.Leaves.{ServeLeaves}
use Rattle.stack_files.specs.declared.opening_fault.OpeningFault.{OpeningFault}
use Rattle.stack_files.specs.declared.opening_fault.OpeningFault.TheVariants.{NoMemory, Open, Outside, TooLong}
use Rattle.stack_files.specs.declared.leaves.OpenLeaves.{OpenLeaves}
use Rattle.image_files.specs.Places.{device_part}
use Rattle.stack_files.specs.Bindings.{OpensBacking, OpensEach, backings_of}
use Rattle.stack_files.specs.Openings.{IsAtBacking, IsBackingEnd, IsBindingEnd, RefusesBacking, RefusesBinding, RunsOut, backing_room, binding_room, bindings_room, part_ending}

-- what holds of a fault holds of the result that hands it on
pub err-from : {T E : Type 0} (r : Result T E) (P : E → Type 0) (fault : E) → IsErrAnd r (λ e. e ≡ fault) → P fault → IfErr r P
err-from (Ok done) P fault is holds = tt
err-from (Err e) P fault is holds = subst P (sym is) holds

-- a bound of a refused allocation, and a larger one
pub wider : (m n : ℕ) → m ≤ n → IsOutOfMemory m → IsOutOfMemory n
wider m n more refused = (refused.0, omega (arith, more, refused.1), refused.2)

-- the first of two is no more than both, and what is no more than the second isn't either
le-first : (m n all : ℕ) → all ≡ m + n → m ≤ all
le-first m n all is = omega (arith, is)

le-second : (k m n all : ℕ) → all ≡ m + n → k ≤ n → k ≤ all
le-second k m n all is below = omega (arith, is, below)

-- no binding asks for more than all of them
room-at : (bindings : List Binding) (i : ℕ) (d : Binding) → i < length bindings
    → binding_room (binding_record (get_or bindings i d)) ≤ sum_by binding_room (map binding_record bindings)
room-at [] i d there = absurd (omega (arith, there))
room-at (b ∷ bs) zero d there = le-first (binding_room (binding_record b)) (sum_by binding_room (map binding_record bs)) _ (sum_by-cons binding_room (binding_record b) (map binding_record bs))
room-at (b ∷ bs) (suc i) d there = le-second _ (binding_room (binding_record b)) (sum_by binding_room (map binding_record bs)) _ (sum_by-cons binding_room (binding_record b) (map binding_record bs)) (room-at bs i d (omega (arith, there)))

-- a part that is refused ends the opening of what its name is bound to
pub part-refused : {S D : Type 0} (w : Calls S D) (files : List FileUse) (path : List ℕ) (writable : Bool) (at : PartRecord) (unopened : UnopenedPart)
    → RefusesPart w files path writable (device_part at) unopened → IsBackingEnd w files (part path writable at) (part_ending unopened)
part-refused w files path writable at (File file) refused = refused
part-refused w files path writable at (OutsideFile of) refused = refused

-- the first of some bindings were opened, and are those leaves and files
pub record AreOpen {S D : Type 0} (w : Calls S D) (files : List FileUse) (bindings : List BindingRecord) (over : OpenLeaves D) (files' : List FileUse) : Type 0 where
  pub names : map (λ leaf. leaf.name) over.leaves.items ≡ map (λ binding. binding.name) bindings
  pub opened : OpensEach w files (backings_of bindings) over.devices.items files'
  pub served : ServeLeaves over.leaves.items (map w.state over.devices.items)

-- a list of bindings at one of them
split : (bindings : List Binding) (i : ℕ) (d : Binding) → i < length bindings
    → (rest : List BackingRecord) × (backings_of (map binding_record bindings) ≡ backings_of (map binding_record (take i bindings)) ++ backing_record (get_or bindings i d).backing ∷ rest)
split [] i d there = absurd (omega (arith, there))
split (b ∷ bs) zero d there = (backings_of (map binding_record bs), refl)
split (b ∷ bs) (suc i) d there =
    let more = split bs i d (omega (arith, there)) in
    (more.0, ap (λ (t : List BackingRecord). backing_record b.backing ∷ t) more.1)

module _ {S D : Type 0} (o : Opener S D) (state : D → Device) where
  -- one more is opened
  pub OpensEach-last : (old between new : S) (files more files' : List FileUse) (backings : List BackingRecord) (devices : List D) (backing : BackingRecord) (device : D)
      → OpensEach (calls o state old between) files backings devices more → OpensBacking (calls o state between new) more backing device files'
      → OpensEach (calls o state old new) files (backings ++ backing ∷ []) (devices ++ device ∷ []) files'
  OpensEach-last old between new files more files' [] [] backing device each last =
      let here = subst (λ (s : S). OpensBacking (calls o state s new) more backing device files') each.0 last in
      (new, files', subst (λ (fs : List FileUse). OpensBacking (calls o state old new) fs backing device files') each.1 here, (refl, refl))
  OpensEach-last old between new files more files' [] (d ∷ ds) backing device each last = absurd each
  OpensEach-last old between new files more files' (b ∷ bs) [] backing device each last = absurd each
  OpensEach-last old between new files more files' (b ∷ bs) (d ∷ ds) backing device each last =
      (each.0, each.1, each.2, OpensEach-last each.0 between new each.1 more files' bs ds backing device each.3 last)

  pub AreOpen-more : (old between new : S) (files more files' : List FileUse) (bindings : List Binding) (i : ℕ) (d : Binding) (over over' : OpenLeaves D) (device : D)
      → i < length bindings → AreOpen (calls o state old between) files (map binding_record (take i bindings)) over more
      → map (λ leaf. leaf.name) over'.leaves.items ≡ map (λ leaf. leaf.name) over.leaves.items ++ (get_or bindings i d).name.now ∷ []
      → over'.devices.items ≡ over.devices.items ++ device ∷ [] → OpensBacking (calls o state between new) more (backing_record (get_or bindings i d).backing) device files'
      → ServeLeaves over'.leaves.items (map state over'.devices.items)
      → AreOpen (calls o state old new) files (map binding_record (take (i + 1) bindings)) over' files'
  AreOpen-more old between new files more files' bindings i d over over' device there open_so_far named added last served =
      let first = map binding_record (take i bindings) in
      let binding = binding_record (get_or bindings i d) in
      let one : map binding_record (take (i + 1) bindings) ≡ map binding_record (take i bindings) ++ binding_record (get_or bindings i d) ∷ [] =
      ap (map binding_record) (take_more bindings i d there) ∙ map-append binding_record (take i bindings) (get_or bindings i d ∷ []) in
      let backings : backings_of (map binding_record (take (i + 1) bindings)) ≡ backings_of (map binding_record (take i bindings)) ++ backing_record (get_or bindings i d).backing ∷ [] =
      ap backings_of one ∙ map-append (λ (b : BindingRecord). b.backing) (map binding_record (take i bindings)) (binding_record (get_or bindings i d) ∷ []) in
      let names : map (λ (b : BindingRecord). b.name) (map binding_record (take (i + 1) bindings)) ≡ map (λ (b : BindingRecord). b.name) (map binding_record (take i bindings)) ++ (get_or bindings i d).name.now ∷ [] =
      ap (map (λ (b : BindingRecord). b.name)) one ∙ map-append (λ (b : BindingRecord). b.name) (map binding_record (take i bindings)) (binding_record (get_or bindings i d) ∷ []) in
      let each = OpensEach-last old between new files more files' (backings_of first) over.devices.items binding.backing device open_so_far.opened last in
      record {
        names = named ∙ (ap (λ (t : List (List ℕ)). t ++ (get_or bindings i d).name.now ∷ []) open_so_far.names ∙ sym names);
        opened = subst (λ (bs : List BackingRecord). OpensEach (calls o state old new) files bs over'.devices.items files') (sym backings)
            (subst (λ (ds : List D). OpensEach (calls o state old new) files (backings_of (map binding_record (take i bindings)) ++ backing_record (get_or bindings i d).backing ∷ []) ds files') (sym added) each);
        served = served;
      }

  -- memory ran out after the last one was opened
  pub runs_out-behind : (old between new : S) (files more files' : List FileUse) (backings first rest : List BackingRecord) (devices : List D) (backing : BackingRecord) (device : D)
      → backings ≡ first ++ backing ∷ rest → OpensEach (calls o state old between) files first devices more
      → OpensBacking (calls o state between new) more backing device files' → RunsOut (calls o state old new) files backings
  runs_out-behind old between new files more files' backings first rest devices backing device all each last = record {
    first = first ++ backing ∷ [];
    more = rest;
    devices = devices ++ device ∷ [];
    files' = files';
    are = all ∙ sym (append_assoc first (backing ∷ []) rest);
    opened = OpensEach-last old between new files more files' first devices backing device each last;
  }

  module _ (old between new : S) (files more : List FileUse) (bindings : List BindingRecord) (first rest : List BackingRecord) (devices : List D) where
    -- one of them is refused
    refuses-at : (backing : BackingRecord) (fault : OpeningFault) → backings_of bindings ≡ first ++ backing ∷ rest → OpensEach (calls o state old between) files first devices more
        → RefusesBacking (calls o state between new) more backing fault → RefusesBinding (calls o state old new) files (backings_of bindings) fault
    refuses-at backing fault all each refused = record {
      first = first;
      backing = backing;
      more = rest;
      devices = devices;
      files' = more;
      between = between;
      are = all;
      opened = each;
      refused = refused;
    }

    -- an allocation is refused at one of them
    runs_out-at : (backing : BackingRecord) → backings_of bindings ≡ first ++ backing ∷ rest → OpensEach (calls o state old between) files first devices more
        → IsAtBacking (calls o state between new) more backing → RunsOut (calls o state old new) files (backings_of bindings)
    runs_out-at backing all each (inl idle) = record {
      first = first;
      more = backing ∷ rest;
      devices = devices;
      files' = more;
      are = all;
      opened = subst (λ (s : S). OpensEach (calls o state old s) files first devices more) (sym idle) each;
    }
    runs_out-at backing all each (inr one) = runs_out-behind old between new files more one.1 (backings_of bindings) first rest devices backing one.0 all each one.2

    -- an end at one of them
    ends-at : (backing : BackingRecord) (fault : OpeningFault) → backing_room backing ≤ bindings_room files bindings → backings_of bindings ≡ first ++ backing ∷ rest
        → OpensEach (calls o state old between) files first devices more → IsBackingEnd (calls o state between new) more backing fault → IsBindingEnd (calls o state old new) files bindings fault
    ends-at backing NoMemory room all each ends = (runs_out-at backing all each ends.0, wider (backing_room backing) (bindings_room files bindings) room ends.1)
    ends-at backing TooLong room all each refused = refuses-at backing TooLong all each refused
    ends-at backing (Open unopened) room all each refused = refuses-at backing (Open unopened) all each refused
    ends-at backing (Outside path) room all each refused = refuses-at backing (Outside path) all each refused

  pub IsBindingEnd-at : (old between new : S) (files more : List FileUse) (bindings : List Binding) (i : ℕ) (d : Binding) (over : OpenLeaves D) (fault : OpeningFault)
      → i < length bindings → AreOpen (calls o state old between) files (map binding_record (take i bindings)) over more
      → IsBackingEnd (calls o state between new) more (backing_record (get_or bindings i d).backing) fault → IsBindingEnd (calls o state old new) files (map binding_record bindings) fault
  IsBindingEnd-at old between new files more bindings i d over fault there open_so_far ends =
      let at = split bindings i d there in
      let room = room-at bindings i d there in
      ends-at old between new files more (map binding_record bindings) (backings_of (map binding_record (take i bindings))) at.0 over.devices.items (backing_record (get_or bindings i d).backing) fault
      (omega (arith, room)) at.1 open_so_far.opened ends

  -- the image of one is open, and an allocation for its leaf is refused
  pub IsBindingEnd-memory : (old between new : S) (files more files' : List FileUse) (bindings : List Binding) (i : ℕ) (d : Binding) (over : OpenLeaves D) (device : D)
      → i < length bindings → AreOpen (calls o state old between) files (map binding_record (take i bindings)) over more
      → OpensBacking (calls o state between new) more (backing_record (get_or bindings i d).backing) device files' → IsOutOfMemory (length (get_or bindings i d).name.now + 1)
      → IsBindingEnd (calls o state old new) files (map binding_record bindings) NoMemory
  IsBindingEnd-memory old between new files more files' bindings i d over device there open_so_far last refused =
      let at = split bindings i d there in
      let room = room-at bindings i d there in (
        runs_out-behind old between new files more files' (backings_of (map binding_record bindings)) (backings_of (map binding_record (take i bindings))) at.0 over.devices.items
            (backing_record (get_or bindings i d).backing) device at.1 open_so_far.opened last,
        wider (length (get_or bindings i d).name.now + 1) (bindings_room files (map binding_record bindings)) (omega (arith, room)) refused,
      )

  -- before any is opened
  pub IsBindingEnd-first : (old : S) (files : List FileUse) (bindings : List Binding) → IsOutOfMemory (length files) → IsBindingEnd (calls o state old old) files (map binding_record bindings) NoMemory
  IsBindingEnd-first old files bindings refused = (
    record { first = []; more = backings_of (map binding_record bindings); devices = []; files' = files; are = refl; opened = (refl, refl) },
    wider (length files) (bindings_room files (map binding_record bindings)) (omega arith) refused,
  )
