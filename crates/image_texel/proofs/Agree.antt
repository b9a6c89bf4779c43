-- 02, f: "show for every place that it agrees with the picture call".
-- Assumes nothing.
use mathlib.Core.Path.{◌≡◌, refl, sym, ap, ◌∙◌}
use mathlib.Core.List.{List}
use Prim.Native.Nat.{ℕ, zero, suc, ◌<◌}
use native.Mathlib.Omega.{arith}
use lib.ListN.{length, get_or}
use Rattle.interpolation.specs.declared.Kind.{Kind}
use Rattle.texel.specs.Meaning.{channel}
use Rattle.image_size.specs.Sides.{size_refusal, blocks_of}
use Rattle.image_size.proofs.Laws.{fine}
use Rattle.image_layout.specs.Numbers.{image_number_at}
use Rattle.image_layout.specs.Call.{image_refusal}
use Rattle.picture_regions.specs.Picture.{place}
use Rattle.block_reading.specs.declared.Reading.TheVariants.{Ordinary}
use Rattle.image_layout.proofs.Calls.{accept, decoded_out}
use Rattle.image_layout.proofs.Independence.{index_in, number_of_lem}
use Rattle.image_texel.specs.Making.{view_refusal}
use Rattle.image_texel.specs.Asking.{Asked, asked_in, asked_at}
use Rattle.image_texel.specs.Agreement.{AsPicture, AsPictureEverywhere}
use Rattle.image_texel.proofs.Ask.{all_good, asked_inside}

four : (fp : ℕ) (kind : Kind) (w : ℕ) (s : List ℕ) (x y c : ℕ) → c < 4 → channel (asked_in fp w s kind x y).texel c ≡ image_number_at fp kind w s x y c
unfolding channel asked_in
four fp kind w s x y zero h = refl
four fp kind w s x y (suc zero) h = refl
four fp kind w s x y (suc (suc zero)) h = refl
four fp kind w s x y (suc (suc (suc zero))) h = refl
four fp kind w s x y (suc (suc (suc (suc c)))) h = absurd (omega (arith, h))

module _ (fp : ℕ) (kind : Kind) (w h x y : ℕ) (s old : List ℕ) (hx : x < w) (hy : y < h) (taken : image_refusal fp w h (length s) (length old) ≡ 0) where
  -- a picture call that is taken has blocks that a view takes
  made : view_refusal fp w h (length s) ≡ 0
  made =
      let a = accept fp w h (length s) (length old) taken in
      let z : size_refusal fp w h ≡ 0 = fine fp w h (let f = a.footprint in omega arith) a.width a.height in
      sym (all_good fp w h (length s) (size_refusal fp w h) (blocks_of fp w h) refl z refl a.exact_bytes)

  is : asked_at fp w h s kind x y ≡ asked_in fp w s kind x y
  is = sym (asked_inside fp w h s kind x y made hx hy)

  as_picture : AsPicture fp kind w h x y s old
  unfolding asked_in
  as_picture = record {
    not_refused = ap (λ (a : Asked). a.refusal) is;
    in_picture = index_in fp kind w h x y 0 hx hy (omega arith) (accept fp w h (length s) (length old) taken).footprint;
    its_fault = ap (λ (a : Asked). a.fault) is;
    its_texel = λ c hc.
        ap (λ (a : Asked). channel a.texel c) is
        ∙ four fp kind w s x y c hc
        ∙ sym (ap (λ (l : List ℕ). get_or l (place w x y c) 0) (sym (decoded_out Ordinary fp kind w h s old taken)) ∙ number_of_lem Ordinary fp kind w h x y c hx hy hc s);
  }

pub agrees : AsPictureEverywhere
agrees = as_picture
