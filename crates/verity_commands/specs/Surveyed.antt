-- The devices of an image that is scanned.
use Rattle.block_device.specs.Device.{Device}
use Rattle.image_commands.specs.declared.comparing.ImagePair.{ImagePair}

-- the data device and the hash device
pub record SurveyedDevices : Type 0 where
  pub data_dev : Device
  pub hash_dev : Device

abbrev pub surveyed_devices : Device → Device → SurveyedDevices
surveyed_devices data_dev hash_dev = record { data_dev = data_dev; hash_dev = hash_dev }

-- of two devices of any type
abbrev pub surveyed : {D H : Type 0} → (D → Device) → (H → Device) → ImagePair D H → SurveyedDevices
surveyed data_state hash_state image = surveyed_devices (data_state image.«data») (hash_state image.hash)
