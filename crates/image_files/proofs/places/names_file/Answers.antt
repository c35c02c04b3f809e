use Rattle.std.proofs.Common.{◌≡◌, ℕ, List, Some, true, false, inl, inr, refl, sym}
use Rattle.std.specs.Prelude.{Bool}
use Rattle.std.proofs.lemmas.Result.{IfOk-weaker}
use Rattle.command_line.specs.FilePlaces.{FilePlaceRecord, file_place_of, file_place_record}
use Rattle.image_files.specs.Opener.{Calls, calls}
use Rattle.image_files.specs.OpenPlaces.{TellsName, TellsThere}
use Rattle.image_files.proofs.places.names_file.Goals as goal

-- whether there is a file under an argument that names a part
tells-name : {S D : Type 0} (w : Calls S D) (text : List ℕ) (place : FilePlaceRecord) → file_place_of text ≡ Some place → (there : Bool) → TellsThere w text there → TellsName w text there
tells-name w text place named true told = inr told
tells-name w text place named false missing = record { place = place; named = named; missing = missing }

pub returns-in-Some-clause-ok : goal.returns-in-Some-clause-ok
returns-in-Some-clause-ok g c =
    let w = calls g.I.Images.relations g.I.Dev.BlockDev.state c.args.images.now c.is_there.new.images in
    IfOk-weaker c.is_there.result _ _ (tells-name w c.args.text.now (file_place_record c.in-Some.field-0) (sym c.in-Some.ensures.is)) c.is_there.ensures.ok

pub returns-in-None-clause-ok : goal.returns-in-None-clause-ok
returns-in-None-clause-ok g c = inl (sym c.in-None.ensures.is, refl)
