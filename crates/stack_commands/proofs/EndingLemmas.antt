-- Commands that end early.
use Rattle.std.proofs.Common.{◌≡◌, ◌∙◌, ℕ, Bool, true, false, List, None, Option, Result, Ok, Err, Some, inl, inr, refl, sym, subst}
use Rattle.std.proofs.KnownBytes.{Appends-nil}
use Rattle.std.specs.Io.KnownBytes.{Appends}
use Rattle.std.specs.Prelude.{◌⊎◌}
use Rattle.command_line.specs.declared.misuse.Misuse.{Misuse}
use Rattle.manual_pages.specs.MessageLines.{message_line}
use Rattle.manual_pages.specs.UsageErrors.{explanation}
use Rattle.program_io.specs.Counted.{CountedRecord, Writes, Writing}
use Rattle.program_io.specs.declared.fault.WriteFault.{WriteFault}
use Rattle.stack_commands.specs.declared.command_end.CommandEnd.{CommandEnd}
use Rattle.stack_commands.specs.declared.fault.CommandFault.{CommandFault}
use Rattle.stack_commands.specs.declared.fault.CommandFault.TheVariants.{Usage, NoMemory, Stack, Linux, Request, Io, Recovering, Stream, Verity, Fec, Partitions, Trees, Session, Service, Faults}
use Rattle.verity_commands.proofs.EndingLemmas.{quiet as verity-quiet}
use Rattle.stack_commands.specs.Commands.{ExplainsEnd, ExplainsUsage, IsEndAsOr, IsEndOr, IsTold, TellsErrors, Told, is_usage, misuse_of, reason_line}
use Rattle.stack_commands.specs.Endings.{IsSilent}

pub quiet : (fault : CommandFault) (bytes : Option (List ℕ)) → IsSilent fault bytes bytes
quiet (Usage misuse) bytes = refl
quiet NoMemory bytes = refl
quiet (Stack fault) bytes = refl
quiet (Linux refusal) bytes = refl
quiet (Request fault) bytes = refl
quiet (Io fault) bytes = refl
quiet (Recovering fault) bytes = refl
quiet (Stream fault) bytes = refl
quiet (Verity fault) bytes = verity-quiet fault bytes
quiet (Fec fault) bytes = refl
quiet (Partitions fault) bytes = refl
quiet (Trees fault) bytes = refl
quiet (Session fault) bytes = tt
quiet (Service fault) bytes = refl
quiet (Faults tally) bytes = refl

-- how an end is reported: by the writer, or elsewhere
pub told-here : (cat : Bool) (ended : CommandEnd) (old new : Option (List ℕ)) (told : Told) (status : ℕ) → cat ≡ false
    → IsEndAsOr ended.json told.failed ended.fault old new status → TellsErrors ended told → IsTold cat ended old new told status
told-here cat ended old new told status is ends kept = subst (λ (b : Bool). IsTold b ended old new told status) (sym is) (ends, kept)

pub told-elsewhere : (cat : Bool) (ended : CommandEnd) (output before : Option (List ℕ)) (told : Told) (status : ℕ) → cat ≡ true
    → (is_usage ended.fault ≡ true → ExplainsUsage ended.fault told.words told.old before told.errors_failed)
    → (is_usage ended.fault ≡ false → ExplainsEnd ended.quiet ended.fault told.old before told.errors_failed)
    → IsEndOr told.errors_failed ended.fault before told.new status → IsTold cat ended output output told status
told-elsewhere cat ended output before told status is explained reason ends =
    subst (λ (b : Bool). IsTold b ended output output told status) (sym is) (refl, record { before = before; explained = explained; reason = reason; ends = ends })

-- a text was written, or the writer failed and remembers it
pub written-or : {T : Type 0} (old new : CountedRecord T) (result : Result Unit WriteFault) (Done : Type 0) → Writing old new result Done → Done ⊎ (new.failed ≡ true)
written-or old new (Ok done) Done writing = inl writing.ok
written-or old new (Err fault) Done writing = inr writing.failed

-- which argument is misused was printed
pub usage-explained : {T : Type 0} (contents : T → Option (List ℕ)) (words : List (List ℕ)) (old new : CountedRecord T) (fault : CommandFault) (misuse : Option Misuse) (result : Result Unit WriteFault)
    → misuse ≡ misuse_of fault → Writes contents old new (explanation words misuse) result → ExplainsUsage fault words (contents old.inner) (contents new.inner) new.failed
usage-explained contents words old new fault misuse result is writes =
    subst (λ (m : Option Misuse). Appends (contents old.inner) (contents new.inner) (explanation words m) ⊎ (new.failed ≡ true)) is (written-or old new result _ writes)

-- a write by a writer that had failed leaves it failed
pub still-failed : {T D : Type 0} (old new : CountedRecord T) (result : Result Unit WriteFault) → Writing old new result D → old.failed ≡ true → new.failed ≡ true
still-failed old new (Ok done) writing failed = writing.kept ∙ failed
still-failed old new (Err fault) writing failed = writing.failed

-- the sentence on an end was printed, or there is none
pub end-explained : {T : Type 0} (contents : T → Option (List ℕ)) (old new : CountedRecord T) (said : Option (List ℕ)) (message : List ℕ) (result : Result Unit WriteFault)
    → said ≡ Some message → Writes contents old new (message_line message) result → Appends (contents old.inner) (contents new.inner) (reason_line said) ⊎ (new.failed ≡ true)
end-explained contents old new said message result is writes = rw is (written-or old new result _ writes)

pub end-unexplained : {T : Type 0} (contents : T → Option (List ℕ)) (old : CountedRecord T) (said : Option (List ℕ)) → said ≡ None
    → Appends (contents old.inner) (contents old.inner) (reason_line said) ⊎ (old.failed ≡ true)
end-unexplained contents old said is = rw is (inl (Appends-nil (contents old.inner)))

-- what follows leaves the explanation, and a failure is remembered
pub explained-failed : (done : Type 0) (mid last : Bool) → (mid ≡ true → last ≡ true) → done ⊎ (mid ≡ true) → done ⊎ (last ≡ true)
explained-failed done mid last kept (inl printed) = inl printed
explained-failed done mid last kept (inr failed) = inr (kept failed)
