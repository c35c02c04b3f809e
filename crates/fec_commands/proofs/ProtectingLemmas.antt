-- Parity that was written over devices of one type, or wasn't.
use Rattle.std.proofs.Common.{◌⊎◌, inl, inr}
use Rattle.block_device.specs.Device.{Device}
use Rattle.fec_area.specs.declared.layout.Layout.{Layout}
use Rattle.fec_area.specs.declared.writing.ParityFault.{ParityFault}
use Rattle.fec_commands.specs.Protecting.{IsSealed, IsSealingEnd}

-- what holds of the devices that calls left, weakened
pub sealed-left : {Data Data' Hash Hash' : Device → Type 0} {l : Layout} {d h p p' : Device} → IsSealed Data Hash l d h p p' → ((device : Device) → Data device → Data' device) → ((device : Device) → Hash device → Hash' device)
    → IsSealed Data' Hash' l d h p p'
sealed-left s f k = record {
  data_dev' = s.data_dev';
  hash_dev' = s.hash_dev';
  left = (f s.data_dev' s.left.0, k s.hash_dev' s.left.1);
  written_dev = s.written_dev;
  written = s.written;
  only = s.only;
  is_synced = s.is_synced;
}

pub sealing_end-left : {Data Data' Hash Hash' : Device → Type 0} {l : Layout} {d h p p' : Device} {fault : ParityFault} → IsSealingEnd Data Hash l d h p p' fault → ((device : Device) → Data device → Data' device) → ((device : Device) → Hash device → Hash' device)
    → IsSealingEnd Data' Hash' l d h p p' fault
sealing_end-left (inl u) f k = inl (record {
  data_dev' = u.data_dev';
  hash_dev' = u.hash_dev';
  left = (f u.data_dev' u.left.0, k u.hash_dev' u.left.1);
  cause = u.cause;
  only = u.only;
})
sealing_end-left (inr u) f k = inr (record {
  data_dev' = u.data_dev';
  hash_dev' = u.hash_dev';
  left = (f u.data_dev' u.left.0, k u.hash_dev' u.left.1);
  written_dev = u.written_dev;
  written = u.written;
  only = u.only;
  failed = u.failed;
  is = u.is;
})
