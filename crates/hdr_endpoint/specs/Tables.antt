-- 000, "HDR Endpoint Decoding": where the masks of its procedures put the extra bits is where its tables put them.
-- Assumes nothing.
use Rattle.std.specs.Prelude.{Bool, List, [], ◌∷◌, ℕ, ◌+◌, ◌*◌, ◌/◌, ◌%◌, ◌^◌, T, eqb, get_or}
use Rattle.laws.specs.Choice.{pick, both, all}
use Rattle.hdr_endpoint.specs.Parts.{bit_of}
use Rattle.hdr_endpoint.specs.Scale.{red_high, minor_bits, scale_bits}
use Rattle.hdr_endpoint.specs.Direct.{a_high, b_bits, c_bits, d_bits}

-- a destination: bit `place` of a value
pub record Dest : Type 0 where
  pub value : ℕ
  pub place : ℕ

abbrev to : ℕ → ℕ → Dest
to v p = record { value = v; place = p }

-- the bits of a value, of the extra bits n, whose bit 0 is the first in the row
abbrev pub gathered : ℕ → List Dest → ℕ → ℕ
gathered v [] n = 0
gathered v (d ∷ ds) n = pick (eqb d.value v) (n % 2 * 2 ^ d.place) 0 + gathered v ds (n / 2)

-- "ASTC HDR mode 7 endpoint bit mode"; R, G, B and S are values 0 to 3
abbrev R : ℕ → Dest
R = to 0

abbrev G : ℕ → Dest
G = to 1

abbrev B : ℕ → Dest
B = to 2

abbrev S : ℕ → Dest
S = to 3

unfoldable pub rows7 : List (List Dest)
rows7 =
    (R 9 ∷ R 8 ∷ R 7 ∷ R 10 ∷ R 6 ∷ S 6 ∷ S 5 ∷ [])
    ∷ (R 8 ∷ G 5 ∷ R 7 ∷ B 5 ∷ R 6 ∷ R 10 ∷ R 9 ∷ [])
    ∷ (R 9 ∷ R 8 ∷ R 7 ∷ R 6 ∷ S 7 ∷ S 6 ∷ S 5 ∷ [])
    ∷ (R 8 ∷ G 5 ∷ R 7 ∷ B 5 ∷ R 6 ∷ S 6 ∷ S 5 ∷ [])
    ∷ (G 6 ∷ G 5 ∷ B 6 ∷ B 5 ∷ R 6 ∷ R 7 ∷ S 5 ∷ [])
    ∷ (G 6 ∷ G 5 ∷ B 6 ∷ B 5 ∷ R 6 ∷ S 6 ∷ S 5 ∷ [])
    ∷ []

-- x0 and x1 in v1, x2 and x3 in v2, x4, x5 and x6 in v3
unfoldable pub same7 : ℕ → ℕ → Bool
same7 mode n =
    let row = get_or rows7 mode [] in
    let v1 = bit_of n 0 * 64 + bit_of n 1 * 32 in
    let v2 = bit_of n 2 * 64 + bit_of n 3 * 32 in
    let v3 = bit_of n 4 * 128 + bit_of n 5 * 64 + bit_of n 6 * 32 in
    both (eqb (red_high mode v1 v2 v3) (gathered 0 row n))
    (both (eqb (minor_bits mode v1) (gathered 1 row n)) (both (eqb (minor_bits mode v2) (gathered 2 row n)) (eqb (scale_bits mode v3) (gathered 3 row n))))

-- over every mode and every choice of the bits. Theorem: proofs/Tables.antt, `mode_7_table`.
abbrev pub Mode7Table : Type 0
Mode7Table = T (all (λ k. same7 (k / 128) (k % 128)) 768)

-- "ASTC HDR mode 11 endpoint bit mode"; a, b0, b1, c, d0 and d1 are values 0 to 5
abbrev a : ℕ → Dest
a = to 0

abbrev b0 : ℕ → Dest
b0 = to 1

abbrev b1 : ℕ → Dest
b1 = to 2

abbrev c : ℕ → Dest
c = to 3

abbrev d0 : ℕ → Dest
d0 = to 4

abbrev d1 : ℕ → Dest
d1 = to 5

unfoldable pub rows11 : List (List Dest)
rows11 =
    (b0 6 ∷ b1 6 ∷ d0 6 ∷ d1 6 ∷ d0 5 ∷ d1 5 ∷ [])
    ∷ (b0 6 ∷ b1 6 ∷ b0 7 ∷ b1 7 ∷ d0 5 ∷ d1 5 ∷ [])
    ∷ (a 9 ∷ c 6 ∷ d0 6 ∷ d1 6 ∷ d0 5 ∷ d1 5 ∷ [])
    ∷ (b0 6 ∷ b1 6 ∷ a 9 ∷ c 6 ∷ d0 5 ∷ d1 5 ∷ [])
    ∷ (b0 6 ∷ b1 6 ∷ b0 7 ∷ b1 7 ∷ a 9 ∷ a 10 ∷ [])
    ∷ (a 9 ∷ a 10 ∷ c 7 ∷ c 6 ∷ d0 5 ∷ d1 5 ∷ [])
    ∷ (b0 6 ∷ b1 6 ∷ a 11 ∷ c 6 ∷ a 9 ∷ a 10 ∷ [])
    ∷ (a 9 ∷ a 10 ∷ a 11 ∷ c 6 ∷ d0 5 ∷ d1 5 ∷ [])
    ∷ []

-- x0 in v2, x1 in v3, x2 and x4 in v4, x3 and x5 in v5
unfoldable pub same11 : ℕ → ℕ → Bool
same11 mode n =
    let row = get_or rows11 mode [] in
    let v2 = bit_of n 0 * 64 in
    let v3 = bit_of n 1 * 64 in
    let v4 = bit_of n 2 * 64 + bit_of n 4 * 32 in
    let v5 = bit_of n 3 * 64 + bit_of n 5 * 32 in
    both (eqb (a_high mode v2 v3 v4 v5) (gathered 0 row n))
    (both (eqb (b_bits mode v2 v4) (gathered 1 row n)) (both (eqb (b_bits mode v3 v5) (gathered 2 row n)) (both (eqb (c_bits mode 0 v3 v4 v5) (gathered 3 row n))
    (both (eqb (v4 % 2 ^ d_bits mode) (gathered 4 row n)) (eqb (v5 % 2 ^ d_bits mode) (gathered 5 row n))))))

-- over every mode and every choice of the bits. Theorem: proofs/Tables.antt, `mode_11_table`.
abbrev pub Mode11Table : Type 0
Mode11Table = T (all (λ k. same11 (k / 64) (k % 64)) 512)
