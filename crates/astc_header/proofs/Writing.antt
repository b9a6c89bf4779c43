-- Sides that the writer takes, and what it writes.
-- Assumes nothing.
use Prim.Native.Nat.{ℕ, ◌^◌, ◌<◌}
use mathlib.Core.List.{List}
use Rattle.std.specs.Prelude.{Ok}
use Rattle.footprint.specs.Footprint.{width_of, height_of}
use native.Mathlib.Omega.{arith}
use mathlib.Core.Path.{◌≡◌, sym, ◌∙◌}
use mathlib.Core.Bool.{false}
use Rattle.image_size.specs.Sides.{bad_side, size_refusal}
use Rattle.image_size.proofs.Laws.{limit_le, side_fine}
use Rattle.astc_header.specs.Header.{start_bytes, written_header}
use Rattle.astc_header.specs.inner.Parts.{header_bytes_with}

-- a side that is not refused fits three bytes
pub side_small : (n : ℕ) → bad_side n ≡ false → n < 2 ^ 24
side_small n e = omega (arith, (side_fine n e).1, limit_le)

-- a header that is not refused is written, from its parts
pub written : (fp w h : ℕ) {e : ℕ} → e ≡ size_refusal fp w h → (b : List ℕ) → e ≡ 0 → b ≡ header_bytes_with start_bytes (width_of fp) (height_of fp) w h → written_header fp w h (Ok b)
written fp w h q b z k = (sym q ∙ z, k)
