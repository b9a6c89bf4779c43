-- The refusals one by one, and blocks that are rewritten one after the other.
-- Assumes nothing.
use mathlib.Core.Path.{◌≡◌, refl, sym, ap, ◌∙◌, subst}
use mathlib.Core.Bool.{Bool, true, false, not}
use mathlib.Core.List.{List}
use Prim.Native.Nat.{ℕ, ◌+◌, ◌-◌, ◌*◌, ◌/◌, ◌%◌, ◌≤◌, ◌<◌}
use native.Mathlib.Decide.{dec_lt}
use native.Mathlib.Omega.{arith}
use lib.Dec.{eqb, ltb}
use lib.ListN.{length, get_or}
use borrow.Author.Tests.{lt-ltb, le-ltb, ltb-false, eq-eqb, ne_eqb, eqb-true}
use Rattle.std.specs.Prelude.{Result, Ok, Err}
use Rattle.laws.specs.Choice.{pick, either}
use Rattle.reason.specs.declared.Refusal.{Refusal}
use Rattle.reason.specs.Numbers.{refusal_number}
use Rattle.reason.proofs.Told.{refusal_some}
use Rattle.laws.specs.Table.{tab}
use Rattle.laws.specs.inner.Filled.{Filled}
use Rattle.laws.proofs.Filling.{length_tab, get_or_tab, filled_all}
use Rattle.laws.proofs.Reasons.{none_either}
use Rattle.bits.specs.Field.{field}
use Rattle.bits.specs.Block.{number_of, bytes_of}
use Rattle.image_size.specs.Sides.{bad_side, size_refusal, blocks_of}
use Rattle.image_size.proofs.Laws.{sized}
use Rattle.interpolation.specs.declared.Kind.TheVariants.{Float16}
use Rattle.block_reading.specs.Canonical.{canonical_in}
use Rattle.block_fault.specs.Faults.{fault_of}
use Rattle.block_answer.specs.declared.Answer.TheVariants.{Refused}
use Rattle.block_answer.specs.Told.{answer_for}
use Rattle.block_store.specs.inner.Places.{Put}
use Rattle.image_layout.specs.declared.Tally.{Tally}
use Rattle.image_layout.specs.inner.Noted.{noted}
use Rattle.image_layout.specs.Numbers.{block_bytes, block_at, fault_at, fault_at_in}
use Rattle.image_layout.specs.Faulty.{tally_of}
use Rattle.image_layout.specs.Call.{told_of, image_tally_in}
use Rattle.image_layout.specs.inner.Grid.{image_grid}
use Rattle.image_layout.proofs.Calls.{sound, sizes}
use Rattle.image_layout.proofs.Independence.{same_bytes}
use Rattle.image_layout.proofs.Tallies.{tally_start, tally_more}
use Rattle.canonical_image.specs.Frames.{one_refusal, one_answer, one_out, canonical_byte, canonical_bytes, canonical_refusal, canonical_answer, canonical_told, canonical_out}

-- ---- refusals of one block

module _ (fp bytes places : ℕ) where
  pub one_1 : 23 < fp → 1 ≡ one_refusal fp bytes places
  unfolding one_refusal
  one_1 h = rw (lt-ltb _ _ h)

  module _ (k : fp ≤ 23) where
    pub one_4 : (bytes ≡ 16 → ⊥) → 4 ≡ one_refusal fp bytes places
    unfolding one_refusal
    one_4 h = rw (le-ltb _ _ k, ne_eqb _ _ h)

    pub one_5 : bytes ≡ 16 → (places ≡ 16 → ⊥) → 5 ≡ one_refusal fp bytes places
    unfolding one_refusal
    one_5 b h = rw (le-ltb _ _ k, eq-eqb _ _ b, ne_eqb _ _ h)

    pub one_none : bytes ≡ 16 → places ≡ 16 → 0 ≡ one_refusal fp bytes places
    unfolding one_refusal
    one_none b h = rw (le-ltb _ _ k, eq-eqb _ _ b, eq-eqb _ _ h)

pub record Taken (fp bytes places : ℕ) : Type 0 where
  pub known : fp ≤ 23
  pub sixteen : bytes ≡ 16
  pub room : places ≡ 16

pub taken : (fp bytes places : ℕ) → one_refusal fp bytes places ≡ 0 → Taken fp bytes places
unfolding one_refusal
taken fp bytes places e = go (ltb 23 fp) (eqb bytes 16) (eqb places 16) refl refl refl e where
  go : (a b c : Bool) → ltb 23 fp ≡ a → eqb bytes 16 ≡ b → eqb places 16 ≡ c → ◌≡◌ {A = ℕ} (pick a 1 (pick (not b) 4 (pick (not c) 5 0))) 0 → Taken fp bytes places
  go true b c p q r e = absurd (omega arith)
  go false false c p q r e = absurd (omega arith)
  go false true false p q r e = absurd (omega arith)
  go false true true p q r e = record { known = ltb-false 23 fp p; sixteen = eqb-true bytes 16 q; room = eqb-true places 16 r }

module _ (fp : ℕ) (s old : List ℕ) where
  pub one_refused : (one_refusal fp (length s) (length old) ≡ 0 → ⊥) → (n : ℕ) → n ≡ one_refusal fp (length s) (length old)
      → (Refused n ≡ one_answer fp s (length old)) × (old ≡ one_out fp s old)
  unfolding one_answer one_out
  one_refused h n e = (ap Refused e ∙ rw (ne_eqb (one_refusal fp (length s) (length old)) 0 h), rw (ne_eqb (one_refusal fp (length s) (length old)) 0 h))

  pub one_done : one_refusal fp (length s) (length old) ≡ 0
      → (answer_for (fault_of true fp (number_of s)) ≡ one_answer fp s (length old)) × (bytes_of 16 (canonical_in fp (number_of s)) ≡ one_out fp s old)
  unfolding one_answer one_out
  one_done e = (rw (eq-eqb (one_refusal fp (length s) (length old)) 0 e), rw (eq-eqb (one_refusal fp (length s) (length old)) 0 e))

-- ---- refusals of an image

module _ (fp w h bytes places : ℕ) where
  pub frame_size : (n : ℕ) → n ≡ size_refusal fp w h → (n ≡ 0 → ⊥) → n ≡ canonical_refusal fp w h bytes places
  unfolding canonical_refusal size_refusal
  frame_size n e k = go (ltb 13 fp) (either (bad_side w) (bad_side h)) e where
    go : (a b : Bool) → n ≡ pick a 1 (pick b 3 0) → n ≡ pick a 1 (pick b 3 (pick (not (eqb bytes (16 * blocks_of fp w h))) 4 (pick (not (eqb places bytes)) 5 0)))
    go true b q = q
    go false true q = q
    go false false q = absurd (k q)

  module _ (z : size_refusal fp w h ≡ 0) where
    sides : either (bad_side w) (bad_side h) ≡ false
    sides = none_either (bad_side w) (bad_side h) (sized fp w h z).wide (sized fp w h z).high

    pub frame_4 : (bytes ≡ 16 * blocks_of fp w h → ⊥) → 4 ≡ canonical_refusal fp w h bytes places
    unfolding canonical_refusal
    frame_4 n = rw (le-ltb _ _ (sized fp w h z).footprint, sides, ne_eqb _ _ n)

    module _ (b : bytes ≡ 16 * blocks_of fp w h) where
      pub frame_5 : (places ≡ bytes → ⊥) → 5 ≡ canonical_refusal fp w h bytes places
      unfolding canonical_refusal
      frame_5 n = rw (le-ltb _ _ (sized fp w h z).footprint, sides, eq-eqb bytes (16 * blocks_of fp w h) b, ne_eqb places bytes n)

      pub frame_none : places ≡ bytes → 0 ≡ canonical_refusal fp w h bytes places
      unfolding canonical_refusal
      frame_none p = rw (le-ltb _ _ (sized fp w h z).footprint, sides, eq-eqb bytes (16 * blocks_of fp w h) b, eq-eqb places bytes p)

-- what is known of a call that is not refused
pub record Accepted (fp w h bytes places : ℕ) : Type 0 where
  pub known : fp ≤ 13
  pub wide : bad_side w ≡ false
  pub high : bad_side h ≡ false
  pub exact_bytes : bytes ≡ 16 * blocks_of fp w h
  pub room : places ≡ bytes

pub accepted : (fp w h bytes places : ℕ) → canonical_refusal fp w h bytes places ≡ 0 → Accepted fp w h bytes places
unfolding canonical_refusal
accepted fp w h bytes places e =
    go (ltb 13 fp) (bad_side w) (bad_side h) (eqb bytes (16 * blocks_of fp w h)) (eqb places bytes) refl refl refl refl refl e where
      go : (f a b c d : Bool) → ltb 13 fp ≡ f → bad_side w ≡ a → bad_side h ≡ b → eqb bytes (16 * blocks_of fp w h) ≡ c → eqb places bytes ≡ d
          → ◌≡◌ {A = ℕ} (pick f 1 (pick (either a b) 3 (pick (not c) 4 (pick (not d) 5 0)))) 0 → Accepted fp w h bytes places
      go true a b c d o p q r s e = absurd (omega arith)
      go false true b c d o p q r s e = absurd (omega arith)
      go false false true c d o p q r s e = absurd (omega arith)
      go false false false false d o p q r s e = absurd (omega arith)
      go false false false true false o p q r s e = absurd (omega arith)
      go false false false true true o p q r s e =
          record { known = ltb-false 13 fp o; wide = p; high = q; exact_bytes = eqb-true bytes _ r; room = eqb-true places bytes s }

-- the blocks of so many bytes
pub record Counted (fp w h bytes : ℕ) : Type 0 where
  pub sixteens : bytes ≡ 16 * (bytes / 16)
  pub most : bytes / 16 ≤ 268435456
  pub count : bytes / 16 ≡ blocks_of fp w h

pub counted : (fp w h bytes places : ℕ) → Accepted fp w h bytes places → Counted fp w h bytes
unfolding image_grid blocks_of
counted fp w h bytes places a =
    let m = (sizes (image_grid fp w h) (sound fp w h (omega (arith, a.known)) a.wide a.high)).blocks in
    record { sixteens = omega (arith, a.exact_bytes); most = omega (arith, a.exact_bytes, m); count = omega (arith, a.exact_bytes) }

-- what a call promises: its answer, the numbers told of it, and the buffer
pub record Promised (fp w h : ℕ) (s old : List ℕ) (r : Result Tally Refusal) (new : List ℕ) : Type 0 where
  pub answer : canonical_answer fp w h s (length old) r
  pub told : told_of r ≡ canonical_told fp w h s (length old)
  pub out : new ≡ canonical_out fp w h s old

module _ (fp w h : ℕ) (s old : List ℕ) where
  pub frame_refused : (refusal : Refusal) → refusal_number refusal ≡ canonical_refusal fp w h (length s) (length old) → Promised fp w h s old (Err refusal) old
  unfolding canonical_told canonical_out
  frame_refused refusal q =
      let n : refusal_number refusal ≡ 0 → ⊥ = λ z. let p = refusal_some refusal in omega arith in
      record { answer = q; told = rw (← q, ne_eqb (refusal_number refusal) 0 n); out = rw (← q, ne_eqb (refusal_number refusal) 0 n) }

  pub frame_done : canonical_refusal fp w h (length s) (length old) ≡ 0 → (t : Tally) (new : List ℕ) → t ≡ tally_of (fault_at fp Float16 s) (blocks_of fp w h)
      → new ≡ canonical_bytes fp s → Promised fp w h s old (Ok t) new
  unfolding canonical_told canonical_out image_tally_in
  frame_done z t new e p = record { answer = (z, e); told = rw (z, e); out = rw z p }

-- ---- block by block

-- the first b blocks are rewritten, the others as they were
pub record Rewriting (fp : ℕ) (s l : List ℕ) (t : Tally) (b : ℕ) : Type 0 where
  pub size : length l ≡ length s
  pub done : (k : ℕ) → k < 16 * b → get_or l k 0 ≡ canonical_byte fp s k
  pub left : (k : ℕ) → 16 * b ≤ k → get_or l k 0 ≡ get_or s k 0
  pub tallied : t ≡ tally_of (fault_at fp Float16 s) b

pub rewriting_start : (fp : ℕ) (s : List ℕ) → Rewriting fp s s (record { count = 0; first = 0; fault = 0 }) 0
rewriting_start fp s = record { size = refl; done = λ k l. absurd (omega arith); left = λ k l. refl; tallied = sym (tally_start (fault_at fp Float16 s)) }

module _ (fp : ℕ) (s l : List ℕ) (t : Tally) (b : ℕ) (room : 16 * b + 16 ≤ length s) (r : Rewriting fp s l t b) where
  -- the next block is still the old one
  pub block_is : block_at l b ≡ block_at s b
  unfolding block_at
  block_is = ap number_of (same_bytes l s b (omega (arith, room, r.size)) room (λ k h. r.left (16 * b + k) (omega arith)))

  pub rewriting_more : (C : ℕ) → C ≡ canonical_in fp (block_at l b) → (bytes new : List ℕ) → bytes ≡ bytes_of 16 C → Put (16 * b) 16 bytes l new
      → (e : ℕ) → e ≡ fault_of true fp (block_at l b) → (t' : Tally) → t' ≡ noted t b e → Rewriting fp s new t' (b + 1)
  unfolding canonical_byte bytes_of fault_at_in
  rewriting_more C c bytes new q p e f t' n = record {
    size = p.size ∙ r.size;
    done = λ k h. elim (dec_lt k (16 * b)) [
      | yes m ↦ p.below k m ∙ r.done k m
      | no m ↦
          let i : k ≡ 16 * b + (k - 16 * b) = omega arith in
          let d : k / 16 ≡ b = omega arith in
          let o : k % 16 ≡ k - 16 * b = omega arith in
          ap (λ (j : ℕ). get_or new j 0) i ∙ p.here (k - 16 * b) (omega arith)
          ∙ ap (λ (x : List ℕ). get_or x (k - 16 * b) 0) q
          ∙ get_or_tab (λ j. field C (8 * j) 8) 16 (k - 16 * b) 0 (omega arith)
          ∙ ap (λ (x : ℕ). field x (8 * (k - 16 * b)) 8) (c ∙ ap (canonical_in fp) block_is)
          ∙ sym (rw (d, o))
    ];
    left = λ k h. p.above k (omega arith) ∙ r.left k (omega arith);
    tallied =
        n ∙ ap (λ (x : ℕ). noted t b x) (f ∙ ap (fault_of true fp) block_is)
        ∙ ap (λ (x : Tally). noted x b (fault_at fp Float16 s b)) r.tallied ∙ tally_more (fault_at fp Float16 s) b;
  }

pub rewriting_done : (fp : ℕ) (s l : List ℕ) (t : Tally) (b n : ℕ) → length s ≡ 16 * n → n ≡ b → Rewriting fp s l t b
    → (t ≡ tally_of (fault_at fp Float16 s) n) × (l ≡ canonical_bytes fp s)
unfolding canonical_bytes Filled
rewriting_done fp s l t b n e m r =
    (r.tallied ∙ ap (tally_of (fault_at fp Float16 s)) (sym m), filled_all (canonical_byte fp s) 0 l (length s) r.size (λ k h. r.done k (omega (arith, h, e, m))))
