-- The four channels of an end in four lanes of sixteen bits, so that one product mixes them all. Colours and alpha are apart, since each has its own
-- factor; and the channels stand where rotation puts them.
-- Assumes nothing.
use Rattle.std.specs.Prelude.{ℕ, ◌+◌, ◌-◌, ◌*◌, ◌/◌, ◌%◌, ◌≤◌, List, [], ◌∷◌, eqb, get_or}
use Rattle.laws.specs.Choice.{pick}
use Rattle.bc7_block.specs.Picture.{rotated, end_channel}

unfoldable pub four_lanes : ℕ → ℕ → ℕ → ℕ → ℕ
four_lanes a b c d = a + b * 65536 + c * 4294967296 + d * 281474976710656

-- by lane
abbrev pub by_lane : (ℕ → ℕ) → ℕ
by_lane f = four_lanes (f 0) (f 1) (f 2) (f 3)

-- lane c of the colours g: rotation r takes one of them to alpha's place
unfoldable pub colour_lane : ℕ → (ℕ → ℕ) → ℕ → ℕ
colour_lane r g c = pick (eqb (rotated r c) 3) 0 (g (rotated r c))

-- lane c of alpha a: rotation takes it to that colour's place
unfoldable pub alpha_lane : ℕ → ℕ → ℕ → ℕ
alpha_lane r a c = pick (eqb (rotated r c) 3) a 0

-- three colours by their number
unfoldable pub three_of : ℕ → ℕ → ℕ → ℕ → ℕ
three_of x y z c = pick (eqb c 0) x (pick (eqb c 1) y z)

-- the ends of subset j: the colours of both, and the alphas of both
unfoldable pub subset_line : ℕ → (ℕ → ℕ) → ℕ → List ℕ
unfolding four_lanes colour_lane alpha_lane
subset_line m v j =
    by_lane (colour_lane (v 2) (end_channel m v j 0))
    ∷ by_lane (colour_lane (v 2) (end_channel m v j 1))
    ∷ by_lane (alpha_lane (v 2) (end_channel m v j 0 3))
    ∷ by_lane (alpha_lane (v 2) (end_channel m v j 1 3))
    ∷ []

-- no lane above 255
abbrev pub Line255 : List ℕ → Type 0
Line255 q = (k : ℕ) → get_or q k 0 ≤ 71777214294589695

-- all four channels mixed, in sixty-fourths and rounded: f is the colours' factor, g alpha's
unfoldable pub sum_on : List ℕ → ℕ → ℕ → ℕ
sum_on q f g = get_or q 0 0 * (64 - f) + get_or q 1 0 * f + (get_or q 2 0 * (64 - g) + get_or q 3 0 * g) + 9007336695791648

-- the byte of each lane
unfoldable pub lane_byte : ℕ → ℕ → ℕ
lane_byte s c = pick (eqb c 0) (s / 64 % 256) (pick (eqb c 1) (s / 4194304 % 256) (pick (eqb c 2) (s / 274877906944 % 256) (s / 18014398509481984 % 256)))
