-- Which files are open, and how: no sector of a file may be open twice if one of the two may write.
use Rattle.std.specs.Prelude.{◌&&◌, ◌||◌, Bool, false, true, List, Option, None, Some}
use Rattle.std.specs.List.{list_any}
use Rattle.device_adapters.specs.declared.part.Part.{Part}
use Rattle.device_adapters.specs.Parts.{overlaps}
use Rattle.image_files.specs.declared.file_use.FileUse.{FileUse}
use Rattle.image_files.specs.declared.images.FileText.{FileText}
use Rattle.image_files.specs.declared.images.OpenImage.{OpenImage}
use Rattle.image_files.specs.OneFile.{is_one_file}

-- both have a sector in common; all of a file meets each part of it
abbrev pub do_meet : Option Part → Option Part → Bool
do_meet (Some a) (Some b) = overlaps a b
do_meet (Some a) None = true
do_meet None b = true

-- both are one file, one of them may write, and they meet
abbrev pub is_clash : FileUse → FileUse → Bool
is_clash a b = is_one_file a.id b.id && (a.writable || b.writable) && do_meet a.part b.part

-- a file clashes with one of these files
abbrev pub has_clash : List FileUse → FileUse → Bool
has_clash files file = list_any (λ other. is_clash other file) files

-- no file is in use
abbrev pub no_use : FileUse
no_use = record { id = None; writable = false; part = None }

-- how an image uses its file that was opened with this right
abbrev pub image_use : {D : Type 0} → Bool → OpenImage D → FileUse
image_use writable image = record { id = image.id; writable = writable; part = None }

-- how a part of an image uses its file that was opened with this right
abbrev pub part_use : {D : Type 0} → Bool → Part → OpenImage D → FileUse
part_use writable part image = record { id = image.id; writable = writable; part = Some part }

-- a text is only read
abbrev pub text_use : FileText → FileUse
text_use text = record { id = text.id; writable = false; part = None }
