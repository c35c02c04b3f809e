-- Windows of devices that are the same.
use Rattle.std.proofs.Common.{◌≡◌, ◌+◌, ◌^◌, ◌<◌, ◌≤◌, ℕ, ap, arith, inl, inr, subst, ◌∙◌}
use Rattle.block_device.specs.Device.{Device}
use Rattle.device_adapters.specs.declared.part.Part.{Part}
use Rattle.device_adapters.specs.Parts.{part_behind}
use Rattle.device_adapters.specs.Windows.{windowed}
use Rattle.verity_format.specs.declared.formatting.FormatFault.{FormatFault}
use Rattle.verity_format.specs.declared.formatting.FormatOptions.{FormatOptions}
use Rattle.image_commands.specs.declared.fault.ImageFault.TheVariants.{Format}
use Rattle.image_commands.specs.declared.format.MadeImage.{MadeImage}
use Rattle.image_commands.specs.Formats.{IsFormatEnd, IsMade}
use Rattle.image_commands.specs.PlacedFormats.{IsMadePlaced, IsPlacedEnd, Placing}
use Rattle.image_commands.specs.Places.{IsPartState}

pub windowed-same : (d d' : Device) (p p' : Part) → d ≡ d' → p ≡ p' → windowed d p ≡ windowed d' p'
windowed-same d d' p p' e f = ap (λ (x : Device). windowed x p) e ∙ ap (windowed d') f

-- an image by what else holds of the device that was cleared
made-known : {Hash Hash' : Device → Type 0} (o : FormatOptions) (a b d e : Device) (image : MadeImage) → IsMade Hash o a b d e image → ((c : Device) → Hash c → Hash' c) → IsMade Hash' o a b d e image
made-known o a b d e image made to = record {
  cleared = made.cleared;
  written = made.written;
  left = to made.cleared made.left;
  allowed = made.allowed;
  clearing = made.clearing;
  formatting = made.formatting;
  image = made.image;
  kept = made.kept;
  salt = made.salt;
  uuid = made.uuid;
  blocks = made.blocks;
}

pub made-as : {Hash Hash' : Device → Type 0} (o : FormatOptions) (a a' b b' d e e' : Device) (image : MadeImage) → a ≡ a' → b ≡ b' → e ≡ e' → IsMade Hash o a b d e image → ((c : Device) → Hash c → Hash' c) → IsMade Hash' o a' b' d e' image
made-as {Hash} {Hash'} o a a' b b' d e e' image x y z made to =
    subst (λ (v : Device). IsMade Hash' o v b' d e' image) x
    (subst (λ (v : Device). IsMade Hash' o a v d e' image) y (subst (λ (v : Device). IsMade Hash' o a b d v image) z (made-known o a b d e image made to)))

end-known : {Hash Hash' : Device → Type 0} (o : FormatOptions) (a b d e : Device) (fault : FormatFault) → IsFormatEnd Hash o a b d e (Format fault) → ((c : Device) → Hash c → Hash' c) → IsFormatEnd Hash' o a b d e (Format fault)
end-known o a b d e fault (inl refused) to = inl refused
end-known o a b d e fault (inr (inl uncleared)) to = inr (inl uncleared)
end-known o a b d e fault (inr (inr (inl unfinished))) to =
    inr (inr (inl (record { cleared = unfinished.cleared; left = to unfinished.cleared unfinished.left; clearing = unfinished.clearing; formatting = unfinished.formatting })))
end-known o a b d e fault (inr (inr (inr unkept))) to =
    inr (inr (inr (record {
      root = unkept.root;
      cleared = unkept.cleared;
      written = unkept.written;
      left = to unkept.cleared unkept.left;
      clearing = unkept.clearing;
      formatting = unkept.formatting;
      unsynced = unkept.unsynced;
      is = unkept.is;
    })))

pub end-as : {Hash Hash' : Device → Type 0} (o : FormatOptions) (a a' b b' d e e' : Device) (fault : FormatFault) → a ≡ a' → b ≡ b' → e ≡ e' → IsFormatEnd Hash o a b d e (Format fault) → ((c : Device) → Hash c → Hash' c)
    → IsFormatEnd Hash' o a' b' d e' (Format fault)
end-as {Hash} {Hash'} o a a' b b' d e e' fault x y z ends to =
    subst (λ (v : Device). IsFormatEnd Hash' o v b' d e' (Format fault)) x
    (subst (λ (v : Device). IsFormatEnd Hash' o a v d e' (Format fault)) y (subst (λ (v : Device). IsFormatEnd Hash' o a b d v (Format fault)) z (end-known o a b d e fault ends to)))

-- an image made over a data device around another one, of the type of `outer`
pub made-inner : {D E : Type 0} {Hash : Device → Type 0} (outer : E) (inner : E → D) (state : D → Device) (o : FormatOptions) (p : Placing) (image : MadeImage)
    → IsMadePlaced (IsPartState (λ (e : E). state (inner e))) Hash o p image → IsMadePlaced (IsPartState state) Hash o p image
made-inner outer inner state o p image m = record { data_dev' = m.data_dev'; left = (inner m.left.0, m.left.1); made = m.made; kept = m.kept }

pub end-inner : {D E : Type 0} {Hash : Device → Type 0} (outer : E) (inner : E → D) (state : D → Device) (o : FormatOptions) (p : Placing) (fault : FormatFault)
    → IsPlacedEnd (IsPartState (λ (e : E). state (inner e))) Hash o p fault → IsPlacedEnd (IsPartState state) Hash o p fault
end-inner outer inner state o p fault m = record { data_dev' = m.data_dev'; left = (inner m.left.0, m.left.1); ends = m.ends; kept = m.kept }

-- a device that has a sector from that one on doesn't end before it
pub first-small : (device : Device) (first : ℕ) (part : Part) → part ≡ part_behind device first → part.first + part.count ≤ 2 ^ 54 → 0 < part.count → first ≤ 2 ^ 54
first-small device first part is small some = omega (arith, ap (λ (p : Part). p.first) is, ap (λ (p : Part). p.count) is, small, some)
