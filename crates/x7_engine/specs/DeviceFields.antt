-- A device as its fields hold it, and what holds of each device (this project's choice).
use Rattle.x7_flow.specs.Standing.{FramesFit}
use Rattle.x7_engine.specs.declared.device.Device.TheInside.{Inside}
use Rattle.x7_engine.specs.Past.{HasSomePast}
use Rattle.x7_engine.specs.Standing.{DeviceState, registers_in}

-- all that a device stores, as its fields hold it
abbrev pub device_in : Inside → DeviceState
device_in d = record { part = d.part; cutter = d.cutter; registers = registers_in d.registers; wrapped = d.wrapped; taken = d.taken; fed = d.fed }

-- the frames of a device are those of its part, and it has a past
pub record DeviceFits (d : DeviceState) : Type 0 where
  pub frames : FramesFit d.part d.registers.frames
  pub past : HasSomePast d
