use mathlib.Core.Path.{refl, ◌∙◌}
use native.Mathlib.Nat.{mod-le, div-le_self}
use native.Mathlib.Omega.{arith}
use lib.ListN.{get_or}
use Rattle.interpolation.specs.Expansion.{shown_of}
use Rattle.line_text.specs.Lines.{texel_line}
use Rattle.line_text.specs.inner.Written.{Puts}
use Rattle.line_text.proofs.Laws.{puts_then, puts_as, texel_line_lem}
use Rattle.line_text.proofs.put_texel.Goals as goal
use Rattle.line_text.proofs.put_texel.Goals.{After-slice_known-8-1}

-- the line, part by part
line : (c : After-slice_known-8-1) → let a = c.args in
    Puts a.out.now a.at (texel_line a.width (λ i. shown_of a.kind (get_or a.numbers.now i 0)) a.k) c.put_byte.new.out c.put_byte.result
line c =
    let a = c.args in
    puts_as (texel_line_lem a.width (λ i. shown_of a.kind (get_or a.numbers.now i 0)) a.k refl refl c.shown.ensures c.shown-2.ensures c.shown-3.ensures c.shown-4.ensures)
    (puts_then c.put_decimal-a.ensures.puts (puts_then c.put_spaced-b.ensures.puts (puts_then c.put_spaced-c.ensures.puts
    (puts_then c.put_spaced-d.ensures.puts (puts_then c.put_spaced-e.ensures.puts (puts_then c.put_spaced-f.ensures.puts c.put_byte.ensures.puts))))))

pub put_byte-requires : goal.put_byte-requires
put_byte-requires c =
    let a = c.put_decimal-a.ensures in
    let b = c.put_spaced-b.ensures in
    let d = c.put_spaced-c.ensures in
    let e = c.put_spaced-d.ensures in
    let f = c.put_spaced-e.ensures in
    let g = c.put_spaced-f.ensures in
    omega (arith, a.upper_bound, b.upper_bound, d.upper_bound, e.upper_bound, f.upper_bound, g.upper_bound, g.puts.same ∙ f.puts.same ∙ e.puts.same ∙ d.puts.same ∙ b.puts.same ∙ a.puts.same, c.requires.0)

pub returns : goal.returns
returns c = record { upper_bound = omega (arith, c.put_decimal-a.ensures.upper_bound, c.put_spaced-b.ensures.upper_bound, c.put_spaced-c.ensures.upper_bound, c.put_spaced-d.ensures.upper_bound, c.put_spaced-e.ensures.upper_bound, c.put_spaced-f.ensures.upper_bound, c.put_byte.ensures.value); puts = line c }

pub overflow_cast-x : goal.overflow_cast-x
overflow_cast-x c = omega (arith, c.requires.1, mod-le c.args.k c.args.width)

pub overflow_cast-y : goal.overflow_cast-y
overflow_cast-y c = omega (arith, c.requires.1, div-le_self c.args.k c.args.width)

pub shape_of-out : goal.shape_of-out
shape_of-out c = (line c).same
