-- Beyond 02, b: "one agreed form of each frame". The canonical form of any block: without fault (02, i: by kind 2's list) what the writer makes from
-- its own sheet, with a fault the block as it is.
-- Assumes nothing.
use Rattle.std.specs.Prelude.{◌≡◌, Bool, true, ℕ, ◌^◌, ◌≤◌, ◌<◌, eqb}
use Rattle.laws.specs.Choice.{pick}
use Rattle.interpolation.specs.declared.Kind.{Kind}
use Rattle.block_fault.specs.Faults.{fault_of}
use Rattle.texel.specs.BlockTexel.{block_texel}
use Rattle.symbolic_block.specs.Reading.{read_block}
use Rattle.block_reading.specs.declared.Reading.TheVariants.{Strict}
use Rattle.block_reading.specs.Faults.{canonical_of, fault_in}

unfoldable pub canonical_in : ℕ → ℕ → ℕ
unfolding canonical_of
canonical_in fp B = pick (eqb (fault_of true fp B) 0) (canonical_of fp B) B

-- What it is.
pub record CanonicalForm (fp B : ℕ) : Type 0 where
  -- it is a block
  pub fits : B < 2 ^ 128 → canonical_in fp B < 2 ^ 128
  -- a block with a fault is left as it is
  pub faulty_kept : (fault_of true fp B ≡ 0 → ⊥) → canonical_in fp B ≡ B
  -- the strict reading of it has the ordinary fault of the block in every kind, and so none where that has none: 21 never
  pub passes : (hdr : Bool) → fault_in Strict hdr fp (canonical_in fp B) ≡ fault_of hdr fp B
  -- so the faults are as they were
  pub same_faults : (hdr : Bool) → fault_of hdr fp (canonical_in fp B) ≡ fault_of hdr fp B
  -- it shows the same texel at every place, in every kind
  pub same_texels : (kind : Kind) (x y z : ℕ) → block_texel fp kind (canonical_in fp B) x y z ≡ block_texel fp kind B x y z
  -- it reads as the same sheet
  pub same_sheet : read_block fp (canonical_in fp B) ≡ read_block fp B
  -- and is its own canonical form
  pub settled : canonical_in fp (canonical_in fp B) ≡ canonical_in fp B

-- of every block, at every footprint that is covered. Theorem: proofs/Forms.antt, `canonical_form`.
abbrev pub CanonicalForms : Type 0
CanonicalForms = (fp B : ℕ) → fp ≤ 23 → CanonicalForm fp B
