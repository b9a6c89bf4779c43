-- What was read of a block without fault, whichever list of faults it was read by.
-- Assumes nothing.
use Rattle.std.specs.Prelude.{◌≡◌, true, ℕ, ◌≤◌}
use Rattle.block_fault.specs.declared.Contents.{Contents}
use Rattle.block_fault.specs.Faults.{fault_of}
use Rattle.block_fault.specs.inner.Settings.{contents_of}

pub record Read (fp B : ℕ) (contents : Contents) : Type 0 where
  pub low : fp ≤ 23
  pub no_fault : fault_of true fp B ≡ 0
  pub is : contents ≡ contents_of fp B
