use Rattle.std.proofs.Common.{◌≡◌, ℕ, List, Some, None, inl, sym}
use Rattle.std.specs.Prelude.{Bool, Option}
use Rattle.std.proofs.lemmas.Result.{IfErr-weaker, IfOk-weaker}
use Rattle.command_line.specs.FilePlaces.{file_place_of}
use Rattle.image_files.specs.declared.placed_image.PlacedImage.{PlacedImage}
use Rattle.image_files.specs.Opener.{Calls, calls}
use Rattle.image_files.specs.OpenPlaces.{FindsPlace, FindsWhole}
use Rattle.image_files.proofs.places.find_place.Goals as goal

-- what was found under an argument that names no part
finds-whole : {S D : Type 0} (w : Calls S D) (text : List ℕ) (writable : Bool) → file_place_of text ≡ None → (found : Option (PlacedImage D)) → FindsWhole w text writable found
    → FindsPlace w text writable found
finds-whole w text writable none (Some image) whole = inl whole
finds-whole w text writable none None missing = record { none = none; missing = missing }

pub returns-in-None-clause-ok : goal.returns-in-None-clause-ok
returns-in-None-clause-ok g c =
    let w = calls g.I.Images.relations g.I.Dev.BlockDev.state c.args.images.now c.find_whole.new.images in
    IfOk-weaker c.find_whole.result _ _ (finds-whole w c.args.text.now c.args.writable (sym c.in-None.ensures.is)) c.find_whole.ensures.ok

pub returns-in-None-clause-err : goal.returns-in-None-clause-err
returns-in-None-clause-err g c = IfErr-weaker c.find_whole.result _ _ (λ file refused. inl refused) c.find_whole.ensures.err
