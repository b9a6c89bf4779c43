-- 02, f: what asking one texel answers, "by x and y in either kind", and in kind 2 too (02, i). The definitions of the picture calls, at one
-- place.
-- Assumes nothing.
use Rattle.std.specs.Prelude.{ℕ, Bool, List, eqb, ltb, length, Result, Ok, Err}
use Rattle.laws.specs.Choice.{pick, both}
use Rattle.reason.specs.declared.Refusal.{Refusal}
use Rattle.reason.specs.Numbers.{refusal_number}
use Rattle.interpolation.specs.declared.Kind.{Kind}
use Rattle.interpolation.specs.declared.Texel.{Texel}
use Rattle.image_layout.specs.Geometry.{block_index}
use Rattle.image_layout.specs.Numbers.{fault_at, image_number_at}
use Rattle.one_texel.specs.declared.OneTexel.{OneTexel}
use Rattle.image_texel.specs.Making.{view_refusal}

-- the numbers told: 44 or 0, the fault of the texel's block, 0 for none, and the texel's four numbers as its kind shows them
pub record Asked : Type 0 where
  pub refusal : ℕ
  pub fault : ℕ
  pub texel : Texel

-- these numbers for each case of the answer: on a refusal fault 0 and "four zeros as texel"
abbrev pub asked_of : Result OneTexel Refusal → Asked
asked_of (Ok t) = record { refusal = 0; fault = t.fault; texel = t.texel }
asked_of (Err refusal) = record { refusal = refusal_number refusal; fault = 0; texel = record { r = 0; g = 0; b = 0; a = 0 } }

-- what may be asked: a place inside the picture, of a view that making would not refuse
unfoldable pub may_ask : ℕ → ℕ → ℕ → ℕ → ℕ → ℕ → Bool
may_ask fp w h bytes x y = both (eqb (view_refusal fp w h bytes) 0) (both (ltb x w) (ltb y h))

-- the answer inside: the fault of the texel's block, 0 for none, and the picture's four numbers there: "It answers the fault with the magenta
-- texel where the block is bad." (02, i: in kind 2 65535 in all four channels)
unfoldable pub asked_in : ℕ → ℕ → List ℕ → Kind → ℕ → ℕ → Asked
asked_in fp w s kind x y = record {
  refusal = 0;
  fault = fault_at fp kind s (block_index fp w x y);
  texel = record {
    r = image_number_at fp kind w s x y 0;
    g = image_number_at fp kind w s x y 1;
    b = image_number_at fp kind w s x y 2;
    a = image_number_at fp kind w s x y 3;
  };
}

-- "refused by new number 44, with four zeros as texel"
abbrev pub refused_asking : Asked
refused_asking = record { refusal = 44; fault = 0; texel = record { r = 0; g = 0; b = 0; a = 0 } }

-- the answer, for every input: "asking outside the picture, or a view that making would refuse"
unfoldable pub asked_at : ℕ → ℕ → ℕ → List ℕ → Kind → ℕ → ℕ → Asked
asked_at fp w h s kind x y = pick (may_ask fp w h (length s) x y) (asked_in fp w s kind x y) refused_asking
