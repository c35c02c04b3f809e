-- The devices of a repair.
use Rattle.std.specs.Prelude.{◌≡◌, ◌-◌, ◌^◌, ◌<◌, ◌≤◌, List}
use Rattle.block_device.specs.Device.{Device}
use Rattle.verity_format.specs.Blocks.{AreOnlyRead, IsOnlyRead}
use Rattle.tree_repair.specs.Sources.{AreEachRead}

-- no failure was counted, and the counter is below its maximum
pub record HasCountedNone (old new : Device) : Type 0 where
  pub none : new.failures ≤ old.failures
  pub below : new.failures < 2 ^ 64 - 1

-- the data device, the hash device, and the copies of each
pub record RepairWorld : Type 0 where
  pub data_dev : Device
  pub hash_dev : Device
  pub data_copies : List Device
  pub hash_copies : List Device

abbrev pub repair_world : Device → Device → List Device → List Device → RepairWorld
repair_world data_dev hash_dev data_copies hash_copies = record { data_dev = data_dev; hash_dev = hash_dev; data_copies = data_copies; hash_copies = hash_copies }

-- the devices of an image and their states: clauses on states name the world, clauses on calls the devices
pub record ImageRecord (D H : Type 0) : Type 0 where
  pub world : RepairWorld
  pub data_dev : D
  pub hash_dev : H

abbrev pub image_record : {D H : Type 0} → RepairWorld → D → H → ImageRecord D H
image_record world data_dev hash_dev = record { world = world; data_dev = data_dev; hash_dev = hash_dev }

abbrev pub world_of : {D H : Type 0} → ImageRecord D H → RepairWorld
world_of image = image.world

-- all devices were only read, and the failure counters of the data device and the hash device didn't decrease
pub record IsWorldRead (w w' : RepairWorld) : Type 0 where
  pub data_read : IsOnlyRead w.data_dev w'.data_dev
  pub hash_read : IsOnlyRead w.hash_dev w'.hash_dev
  pub data_more : w.data_dev.failures ≤ w'.data_dev.failures
  pub hash_more : w.hash_dev.failures ≤ w'.hash_dev.failures
  pub data_copies_read : AreEachRead w.data_copies w'.data_copies
  pub hash_copies_read : AreEachRead w.hash_copies w'.hash_copies

-- the parity device was only read, and its failure counter didn't decrease
pub record IsParityRead (old new : Device) : Type 0 where
  pub read : IsOnlyRead old new
  pub more : old.failures ≤ new.failures

-- the data device and the hash device were only read, failures are counted, and no copy was accessed
pub record AreBothRead (w w' : RepairWorld) : Type 0 where
  pub devices : AreOnlyRead w.data_dev w.hash_dev w'.data_dev w'.hash_dev
  pub data_more : w.data_dev.failures ≤ w'.data_dev.failures
  pub hash_more : w.hash_dev.failures ≤ w'.hash_dev.failures
  pub data_copies_are : w'.data_copies ≡ w.data_copies
  pub hash_copies_are : w'.hash_copies ≡ w.hash_copies

-- neither device of an image counted a failure between two states
pub record IsImageUnfailed (w w' : RepairWorld) : Type 0 where
  pub data_none : HasCountedNone w.data_dev w'.data_dev
  pub hash_none : HasCountedNone w.hash_dev w'.hash_dev
