-- What the calls' stages give.
-- Assumes nothing.
use mathlib.Core.Path.{◌≡◌, refl, sym, ap, ◌∙◌}
use mathlib.Core.Bool.{Bool, true, false}
use mathlib.Core.List.{List}
use Prim.Native.Nat.{ℕ, ◌/◌, ◌%◌}
use native.Mathlib.Omega.{arith}
use lib.Dec.{eqb}
use lib.ListN.{length, get_or}
use borrow.Author.Tests.{eqb-true, eqb-false, eq-eqb, ne_eqb}
use Rattle.laws.specs.Choice.{pick}
use Rattle.laws.specs.Table.{tab, Bytes}
use Rattle.laws.proofs.Filling.{length_tab, get_or_tab}
use Rattle.bits.specs.Field.{field}
use Rattle.bits.specs.Block.{number_of, bytes_of}
use Rattle.block_answer.specs.declared.Answer.TheVariants.{Refused, Faulty, Done}
use Rattle.block_answer.specs.Told.{answer_for, number_told}
use Rattle.bits.proofs.Halves.{loaded}
use Rattle.bc7_layout.specs.Layout.{mode_at, field_at}
use Rattle.bc7_block.specs.declared.Bc7Block.{Bc7Block}
use Rattle.bc7_block.specs.Refusals.{refusal_of}
use Rattle.bc7_block.specs.Reading.{fault_of, bc7_block, read_block}
use Rattle.bc7_block.specs.Writing.{block_of}
use Rattle.bc7_block.specs.Picture.{block_texel}
use Rattle.bc7_block.proofs.Views.{made_same}
use Rattle.bc7_block.proofs.Known.{reserved_mode, known-mode, sound}
use Rattle.bc7_core.specs.Bytes.{texel_bytes, shown_bytes}
use Rattle.bc7_calls.specs.declared.Bc7Reading.{Bc7Reading}
use Rattle.bc7_calls.specs.declared.Bc7Writing.{Bc7Writing}
use Rattle.bc7_calls.specs.Calls.{decode_refusal, decode_answer, decode_told, decode_out, nothing, reading_in, reading_of, read_told, refused_with, writing_of}

-- a block without fault is read
pub in_sound : (B : ℕ) → fault_of B ≡ 0 → reading_in B ≡ record { answer = Done; block = read_block B }
unfolding reading_in
in_sound B f = ap (λ (n : ℕ). pick (eqb n 0) (record { answer = Done; block = read_block B }) (nothing (answer_for n))) f

module _ (B : ℕ) where
  told_71 : mode_at B ≡ 8 → fault_of B ≡ 71
  unfolding fault_of
  told_71 h = ap (λ (b : Bool). pick b 71 0) (reserved_mode B h)

  pub faulty : mode_at B ≡ 8 → nothing (Faulty 71) ≡ reading_in B
  unfolding reading_in answer_for
  faulty h = ap (λ (n : ℕ). pick (eqb n 0) (record { answer = Done; block = read_block B }) (nothing (pick (eqb n 0) Done (Faulty n)))) (sym (told_71 h))

  pub done : (m : ℕ) (f : List ℕ) (r : Bc7Reading) → m ≡ mode_at B → (m ≡ 8 → ⊥) → f ≡ tab (field_at B) 60
      → r ≡ record { answer = Done; block = bc7_block m (λ k. get_or f k 0) } → r ≡ reading_in B
  unfolding reading_in read_block
  done m f r em h ef er =
      let q : (mode_at B ≡ 8 → ⊥) = λ z. h (em ∙ z) in
      er
      ∙ ap (λ (b : Bc7Block). record { answer = Done; block = b })
      (made_same m (mode_at B) (λ k. get_or f k 0) (field_at B) em (λ k l. ap (λ (x : List ℕ). get_or x k 0) ef ∙ get_or_tab (field_at B) 60 k 0 l))
      ∙ sym (in_sound B (sound B (known-mode B q).1))

pub wrong_length : (s : List ℕ) → (length s ≡ 16 → ⊥) → nothing (Refused 4) ≡ reading_of s
unfolding reading_of
wrong_length s h = rw (ne_eqb (length s) 16 h)

pub right_length : (s : List ℕ) (B : ℕ) → length s ≡ 16 → Bytes s → B ≡ field (number_of s) 0 128 → reading_in B ≡ reading_of s
unfolding reading_of
right_length s B e b h = rw (eq-eqb (length s) 16 e) (ap reading_in (h ∙ loaded s b e))

pub not_written : (s : Bc7Block) (n : ℕ) → n ≡ refusal_of s → (n ≡ 0 → ⊥) → refused_with n ≡ writing_of s
unfolding writing_of
not_written s n e h = rw (ne_eqb (refusal_of s) 0 (λ q. h (e ∙ q))) (ap refused_with e)

pub written : (s : Bc7Block) (n B : ℕ) → n ≡ refusal_of s → n ≡ 0 → B ≡ block_of s
    → ◌≡◌ {A = Bc7Writing} (record { answer = Done; bytes = bytes_of 16 B }) (writing_of s)
unfolding writing_of
written s n B e h eb = rw (eq-eqb (refusal_of s) 0 (sym e ∙ h)) (ap (λ (x : ℕ). record { answer = Done; bytes = bytes_of 16 x }) eb)

pub stored : (s : Bc7Block) (n B : ℕ) (l : List ℕ) → n ≡ refusal_of s → n ≡ 0 → B ≡ block_of s → l ≡ bytes_of 16 B → ◌≡◌ {A = Bc7Writing} (record { answer = Done; bytes = l }) (writing_of s)
stored s n B l e h eb el = ap (λ (x : List ℕ). record { answer = Done; bytes = x }) el ∙ written s n B e h eb

-- ---- the one-block call

module _ (bytes places : ℕ) where
  pub bytes_wrong : (bytes ≡ 16 → ⊥) → 4 ≡ decode_refusal bytes places
  unfolding decode_refusal
  bytes_wrong h = rw (ne_eqb bytes 16 h)

  pub places_wrong : bytes ≡ 16 → (places ≡ 64 → ⊥) → 5 ≡ decode_refusal bytes places
  unfolding decode_refusal
  places_wrong e h = rw (eq-eqb bytes 16 e, ne_eqb places 64 h)

  pub none_wrong : bytes ≡ 16 → places ≡ 64 → 0 ≡ decode_refusal bytes places
  unfolding decode_refusal
  none_wrong e f = rw (eq-eqb bytes 16 e, eq-eqb places 64 f)

  pub right : decode_refusal bytes places ≡ 0 → (bytes ≡ 16) × (places ≡ 64)
  right h = go (eqb bytes 16) refl (eqb places 64) refl where
    go : (a : Bool) → eqb bytes 16 ≡ a → (b : Bool) → eqb places 64 ≡ b → (bytes ≡ 16) × (places ≡ 64)
    go true ea true eb = (eqb-true bytes 16 ea, eqb-true places 64 eb)
    go true ea false eb = absurd (let z = places_wrong (eqb-true bytes 16 ea) (eqb-false places 64 eb) ∙ h in omega arith)
    go false ea b eb = absurd (let z = bytes_wrong (eqb-false bytes 16 ea) ∙ h in omega arith)

module _ (s old : List ℕ) (n : ℕ) (e : n ≡ decode_refusal (length s) (length old)) where
  pub refused_answer : (n ≡ 0 → ⊥) → Refused n ≡ decode_answer s (length old)
  unfolding decode_answer
  refused_answer h =
      ap Refused e
      ∙ ap (λ (b : Bool). pick b (answer_for (fault_of (number_of s))) (Refused (decode_refusal (length s) (length old)))) (sym (ne_eqb (decode_refusal (length s) (length old)) 0 (λ q. h (e ∙ q))))

  pub refused_out : (n ≡ 0 → ⊥) → old ≡ decode_out s old
  unfolding decode_out
  refused_out h = ap (λ (b : Bool). pick b (shown_bytes (number_of s)) old) (sym (ne_eqb (decode_refusal (length s) (length old)) 0 (λ q. h (e ∙ q))))

  module _ (z : n ≡ 0) where
    pub sizes : (length s ≡ 16) × (length old ≡ 64)
    sizes = right (length s) (length old) (sym e ∙ z)

    none : eqb (decode_refusal (length s) (length old)) 0 ≡ true
    none = eq-eqb (decode_refusal (length s) (length old)) 0 (sym e ∙ z)

    module _ (B : ℕ) (b : Bytes s) (l : B ≡ field (number_of s) 0 128) where
      number : B ≡ number_of s
      number = l ∙ loaded s b sizes.0

      pub shown_answer : (fault : ℕ) → fault ≡ fault_of B → answer_for fault ≡ decode_answer s (length old)
      unfolding decode_answer
      shown_answer fault ef =
          ap answer_for (ef ∙ ap fault_of number)
          ∙ ap (λ (t : Bool). pick t (answer_for (fault_of (number_of s))) (Refused (decode_refusal (length s) (length old)))) (sym none)

      pub shown_out : shown_bytes B ≡ decode_out s old
      unfolding decode_out
      shown_out = ap shown_bytes number ∙ ap (λ (t : Bool). pick t (shown_bytes (number_of s)) old) (sym none)

-- the number of the answer
number_of_lem : (n : ℕ) → number_told (answer_for n) ≡ n
unfolding answer_for
number_of_lem n = go (eqb n 0) refl where
  go : (b : Bool) → eqb n 0 ≡ b → number_told (pick b Done (Faulty n)) ≡ n
  go true e = sym (eqb-true n 0 e)
  go false e = refl

pub answer_told : (s : List ℕ) (places : ℕ) → number_told (decode_answer s places) ≡ decode_told s places
unfolding decode_answer decode_told
answer_told s places = go (eqb (decode_refusal (length s) places) 0) where
  go : (b : Bool)
      → number_told (pick b (answer_for (fault_of (number_of s))) (Refused (decode_refusal (length s) places))) ≡ pick b (fault_of (number_of s)) (decode_refusal (length s) places)
  go true = number_of_lem (fault_of (number_of s))
  go false = refl

in_told : (B : ℕ) → number_told (reading_in B).answer ≡ fault_of B
unfolding reading_in nothing
in_told B = go (eqb (fault_of B) 0) refl where
  go : (b : Bool) → eqb (fault_of B) 0 ≡ b
      → number_told (pick b (record { answer = Done; block = read_block B }) (nothing (answer_for (fault_of B)))).answer ≡ fault_of B
  go true e = sym (eqb-true (fault_of B) 0 e)
  go false e = number_of_lem (fault_of B)

pub reading_told : (s : List ℕ) (r : Bc7Reading) → r ≡ reading_of s → number_told r.answer ≡ read_told s
unfolding reading_of read_told nothing
reading_told s r e = ap (λ (x : Bc7Reading). number_told x.answer) e ∙ go (eqb (length s) 16) where
  go : (b : Bool) → number_told (pick b (reading_in (number_of s)) (nothing (Refused 4))).answer ≡ pick b (fault_of (number_of s)) 4
  go true = in_told (number_of s)
  go false = refl

pub writing_told : (s : Bc7Block) (w : Bc7Writing) → w ≡ writing_of s → number_told w.answer ≡ refusal_of s
unfolding writing_of refused_with
writing_told s w e = ap (λ (x : Bc7Writing). number_told x.answer) e ∙ go (eqb (refusal_of s) 0) refl where
  go : (b : Bool) → eqb (refusal_of s) 0 ≡ b
      → number_told (pick b (record { answer = Done; bytes = bytes_of 16 (block_of s) }) (refused_with (refusal_of s))).answer ≡ refusal_of s
  go true q = sym (eqb-true (refusal_of s) 0 q)
  go false q = refl

-- ---- the texels

pub texels_length : (B : ℕ) (l : List ℕ) → l ≡ shown_bytes B → length l ≡ 64
unfolding shown_bytes texel_bytes
texels_length B l e = ap length e ∙ length_tab (λ n. block_texel B (n / 4) (n % 4)) 64
