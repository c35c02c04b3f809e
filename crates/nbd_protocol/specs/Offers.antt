-- The mapped devices of a stack as exports.
use Rattle.std.specs.Prelude.{◌≡◌, ◌⊎◌, ℕ, List, Vec, [], ◌∷◌, ◌++◌, map}
use Rattle.std.specs.Global.{Global}
use Rattle.stack_rules.specs.Records.{Configuration, DeviceRecord}
use Rattle.nbd_protocol.specs.Exports.{ExportRecord, HasNoExport, IsExport, export_records}
use Rattle.nbd_protocol.specs.declared.export.Export.{Export}

-- the most bytes of a device's name
abbrev pub longest_name : ℕ
longest_name = 127

-- these are the names of the devices, in the same order
abbrev pub AreNames : List DeviceRecord → List (List ℕ) → Type 0
AreNames devices names = names ≡ map (λ d. d.name) devices

-- the export of the device with that name was appended, or the device can't be exported
abbrev pub AddsExport : Configuration → List ℕ → List ExportRecord → List ExportRecord → Type 0
AddsExport c name es es' =
    ((e : ExportRecord) × IsExport c e × (e.name ≡ name) × (es' ≡ es ++ e ∷ [])) ⊎ (HasNoExport c name × (es' ≡ es))

-- The exports of the devices with these names, in the same order. A device that can't be exported is left out.
pub data Offers (c : Configuration) : List (List ℕ) → List ExportRecord → Type 0 where
  offers_none : Offers c [] []
  offers_more : {names : List (List ℕ)} {es es' : List ExportRecord} (name : List ℕ) → Offers c names es → AddsExport c name es es' → Offers c (names ++ name ∷ []) es'

-- ---- the same two relations for exports and names in memory

abbrev pub AddsTo : Configuration → List ℕ → Vec Export Global → Vec Export Global → Type 0
AddsTo c name old new = AddsExport c name (export_records old.items) (export_records new.items)

abbrev pub OffersBy : Configuration → List (Vec ℕ Global) → Vec Export Global → Type 0
OffersBy c names exports = Offers c (map (λ n. n.items) names) (export_records exports.items)
