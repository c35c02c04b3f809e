-- Commands that end early.
use Rattle.std.proofs.Common.{◌≡◌, ℕ, Bool, List, Option, None, Result, Ok, Err, refl, sym, subst}
use Rattle.std.specs.Prelude.{IfErr, IsErrAnd}
use Rattle.image_commands.proofs.lemmas.EndingLemmas.{quiet as image-quiet}
use Rattle.image_commands.specs.declared.fault.ImageFault.{ImageFault}
use Rattle.image_commands.specs.declared.fault.ImageFault.TheVariants as image
use Rattle.image_commands.specs.Endings.{IsLineUnwritten}
use Rattle.verity_commands.specs.declared.verity_fault.VerityFault.{VerityFault}
use Rattle.verity_commands.specs.declared.verity_fault.VerityFault.TheVariants as verity
use Rattle.command_line.specs.CommandWords.{RefusesWords}
use Rattle.command_line.specs.FormatOptions.{OptionTexts}
use Rattle.command_line.specs.ImageValues.{options_read}
use Rattle.command_line.specs.Misuses.{misuse_record}
use Rattle.command_line.specs.declared.fault.WordsFault.{WordsFault}
use Rattle.command_line.specs.declared.fault.WordsFault.TheVariants as words
use Rattle.verity_commands.specs.Endings.{IsUnsaid, IsVerityQuiet, words_ending}
use Rattle.fec_commands.specs.declared.fault.FecFault.{FecFault}
use Rattle.fec_commands.specs.declared.fault.FecFault.TheVariants as fec
use Rattle.fec_commands.specs.Growing.{needed_in, needed_of}
use Rattle.fec_commands.specs.Verifying.{IsFecQuiet}

pub verity-quiet : (fault : VerityFault) (bytes : Option (List ℕ)) → IsVerityQuiet fault bytes bytes
verity-quiet verity.Usage bytes = refl
verity-quiet (verity.Image fault) bytes = image-quiet fault bytes

pub quiet : (fault : FecFault) (bytes : Option (List ℕ)) → IsFecQuiet fault bytes bytes
quiet (fec.Verity fault) bytes = verity-quiet fault bytes
quiet fec.BlockSizes bytes = refl
quiet (fec.Parity fault) bytes = refl
quiet (fec.Differs round) bytes = refl

-- what holds of a fault holds of the result that hands it on
pub err-from : {T E : Type 0} (r : Result T E) (P : E → Type 0) (fault : E) → IsErrAnd r (λ e. e ≡ fault) → P fault → IfErr r P
err-from (Ok done) P fault is holds = tt
err-from (Err e) P fault is holds = subst P (sym is) holds

-- what holds of a result's fault, where that is known
pub at-fault : {T E : Type 0} (r : Result T E) (P : E → Type 0) (fault : E) → r ≡ Err fault → IfErr r P → P fault
at-fault {T} {E} r P fault is holds = subst (λ (x : Result T E). IfErr x P) is holds

-- what holds of a fault that isn't for want of sectors in the parity file
pub err-enough : {T : Type 0} (r : Result T FecFault) (P Q : FecFault → Type 0) → needed_of r ≡ None → ((fault : FecFault) → needed_in fault ≡ None → P fault → Q fault) → IfErr r P → IfErr r Q
err-enough (Ok done) P Q enough f holds = tt
err-enough (Err fault) P Q enough f holds = f fault enough holds

-- an option that states no value
pub unsaid : (texts : OptionTexts) (fault : WordsFault) → RefusesWords (options_read texts) fault → IsUnsaid texts (words_ending fault)
unsaid texts (words.Usage misuse) refused = (misuse_record misuse, refused)
unsaid texts words.NoMemory refused = refused

-- where a line can't be written, what was written before may be anything
pub unwritten-quiet : (failed : Bool) (fault : ImageFault) (old new : Option (List ℕ)) → IsLineUnwritten failed fault → IsFecQuiet (fec.Verity (verity.Image fault)) old new
unwritten-quiet failed image.Write old new h = tt
unwritten-quiet failed image.NoMemory old new h = absurd h
unwritten-quiet failed (image.Open file) old new h = absurd h
unwritten-quiet failed (image.Format fault) old new h = absurd h
unwritten-quiet failed (image.Verify fault) old new h = absurd h
unwritten-quiet failed (image.Differs verdict) old new h = absurd h
unwritten-quiet failed image.RootText old new h = absurd h
unwritten-quiet failed image.Unaligned old new h = absurd h
unwritten-quiet failed image.DataOverlapsTree old new h = absurd h
unwritten-quiet failed (image.Pin fault) old new h = absurd h
unwritten-quiet failed (image.Unpinned mismatch) old new h = absurd h
unwritten-quiet failed (image.PinUnwritten fault) old new h = absurd h
unwritten-quiet failed image.Random old new h = absurd h
