-- Unquantising by products, as the code does it: what a rule reckons, and when it is right for a range.
-- Assumes nothing.
use Rattle.std.specs.Prelude.{◌≡◌, ℕ, ◌+◌, ◌*◌, ◌/◌, ◌%◌, ◌<◌, ltb}
use Rattle.std.specs.Int.Bits.{bit_and, bit_xor}
use Rattle.laws.specs.Choice.{pick}
use Rattle.quantization.specs.declared.Rule.{Rule}

-- A is v % 2 * r.5, B and D are products of the stored number; 0 above the range
unfoldable pub by_rule : Rule → ℕ → ℕ
by_rule r v =
    pick (ltb r.0 v) 0
    (((v % 2 * r.5 + 1) / 4 + bit_xor (v * r.1 / 256 * r.3 + bit_and v r.2 * r.4 / 128) (v % 2 * r.5) / 4) % 256)

-- the rule gives each stored number its level
unfoldable pub Right : (ℕ → ℕ) → Rule → Type 0
Right level r = (v : ℕ) → v < 256 → by_rule r v ≡ level v
