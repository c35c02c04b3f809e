-- What is printed among the errors of a stack, by equal words.
use Rattle.std.proofs.Common.{◌≡◌, ℕ, List, subst}
use Rattle.image_files.specs.Opener.{Calls}
use Rattle.request_queue.specs.Requests.{RequestRecord}
use Rattle.stack_files.specs.NamedDevices.{NotesDevice, device_words}
use Rattle.stack_files.specs.OpenStacks.{StackWords}
use Rattle.stack_files.specs.StacksOfTexts.{NotesFile}
use Rattle.stack_files.specs.Warnings.{Notes}
use Rattle.transfer_commands.specs.StoredFiles.{NotesTarget, file_words}
use Rattle.transfer_commands.specs.Writes.{NotesPut, put_words}

pub file-notes : {S D : Type 0} (w : Calls S D) (cache : ℕ) (notes : Notes) {words words' : StackWords} → words ≡ words' → NotesFile w words cache notes → NotesFile w words' cache notes
file-notes w cache notes is h = subst (λ (x : StackWords). NotesFile w x cache notes) is h

pub put-notes : {S D : Type 0} (w : Calls S D) (cache : ℕ) (source : List ℕ) (put : List ℕ → RequestRecord) (notes : Notes) {words words' : StackWords} → words ≡ words' → NotesPut w (put_words words cache source put) notes → NotesPut w (put_words words' cache source put) notes
put-notes w cache source put notes is h = subst (λ (x : StackWords). NotesPut w (put_words x cache source put) notes) is h

pub device-notes : {S D : Type 0} (w : Calls S D) (name : List ℕ) (cache : ℕ) (notes : Notes) {words words' : StackWords} → words ≡ words' → NotesDevice w (device_words words name cache) notes → NotesDevice w (device_words words' name cache) notes
device-notes w name cache notes is h = subst (λ (x : StackWords). NotesDevice w (device_words x name cache) notes) is h

pub target-notes : {S D : Type 0} (w : Calls S D) (name : List ℕ) (cache : ℕ) (source : List ℕ) (first : ℕ) (notes : Notes) {words words' : StackWords} → words ≡ words' → NotesTarget w (file_words (device_words words name cache) source first) notes → NotesTarget w (file_words (device_words words' name cache) source first) notes
target-notes w name cache source first notes is h = subst (λ (x : StackWords). NotesTarget w (file_words (device_words x name cache) source first) notes) is h
