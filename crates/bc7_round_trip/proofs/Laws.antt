-- Demand 3 of what the three calls return.
-- Assumes nothing.
use mathlib.Core.Path.{◌≡◌, refl, sym, ap, subst, ◌∙◌}
use mathlib.Core.Bool.{Bool, true, false}
use mathlib.Core.List.{List}
use Prim.Native.Nat.{ℕ, ◌*◌, ◌/◌, ◌%◌, ◌^◌, ◌<◌}
use native.Mathlib.Nat.{mod-eq_of_lt}
use native.Mathlib.Omega.{arith}
use lib.Dec.{T, eqb}
use lib.ListN.{length, get_or}
use borrow.Author.Tests.{eqb-true, eq-eqb, ne_eqb}
use Rattle.laws.specs.Choice.{pick}
use Rattle.laws.specs.Reasons.{reason_at}
use Rattle.laws.specs.Table.{tab, Bytes}
use Rattle.laws.proofs.Filling.{tab_ext, tab_all}
use Rattle.bits.specs.Field.{field}
use Rattle.bits.specs.Block.{number_of, bytes_of}
use Rattle.bits.proofs.Fields.{field_lt}
use Rattle.bits.proofs.Blocks.{bytes_length, number_bytes, bytes_number, number_lt}
use Rattle.block_answer.specs.declared.Answer.{Answer}
use Rattle.block_answer.specs.declared.Answer.TheVariants.{Refused, Done}
use Rattle.block_answer.specs.Told.{answer_for, number_told}
use Rattle.bc7_block.specs.declared.Bc7Block.{Bc7Block}
use Rattle.bc7_block.specs.Fields.{Sized}
use Rattle.bc7_block.specs.Refusals.{refusals, refusal_of, Acceptable}
use Rattle.bc7_block.specs.Reading.{fault_of, read_block}
use Rattle.bc7_block.specs.Writing.{block_of}
use Rattle.bc7_block.specs.Picture.{picture_of, block_texel}
use Rattle.bc7_block.specs.Demand.{Demand3}
use Rattle.bc7_block.proofs.Demand.{demand_3}
use Rattle.bc7_core.specs.Bytes.{texel_bytes, shown_bytes}
use Rattle.bc7_calls.specs.declared.Bc7Reading.{Bc7Reading}
use Rattle.bc7_calls.specs.declared.Bc7Writing.{Bc7Writing}
use Rattle.bc7_calls.specs.Calls.{decode_refusal, decode_answer, decode_out, nothing, reading_in, reading_of, refused_with, writing_of}
use Rattle.bc7_calls.proofs.Laws.{in_sound, none_wrong}
use Rattle.bc7_round_trip.specs.declared.RoundTrip.{RoundTrip}
use Rattle.bc7_round_trip.specs.declared.Rewriting.{Rewriting}
use Rattle.bc7_round_trip.specs.Demand.{round_trip_of, picture_bytes, Demanded, rewriting_of, Sound, Rewritten}

-- ---- the writer

module _ (s : Bc7Block) where
  is_written : Acceptable s → writing_of s ≡ record { answer = Done; bytes = bytes_of 16 (block_of s) }
  unfolding writing_of
  is_written a = ap (λ (n : ℕ). pick (eqb n 0) (record { answer = Done; bytes = bytes_of 16 (block_of s) }) (refused_with n)) a

  is_refused : (n : ℕ) → refusal_of s ≡ n → (n ≡ 0 → ⊥) → writing_of s ≡ refused_with n
  unfolding writing_of
  is_refused n e h =
      ap (λ (k : ℕ). pick (eqb k 0) (record { answer = Done; bytes = bytes_of 16 (block_of s) }) (refused_with k)) e
      ∙ ap (λ (b : Bool). pick b (record { answer = Done; bytes = bytes_of 16 (block_of s) }) (refused_with n)) (ne_eqb n 0 h)

  told : number_told (writing_of s).answer ≡ refusal_of s
  unfolding writing_of refused_with
  told = go (eqb (refusal_of s) 0) refl where
    go : (b : Bool) → eqb (refusal_of s) 0 ≡ b
        → number_told (pick b (record { answer = Done; bytes = bytes_of 16 (block_of s) }) (refused_with (refusal_of s))).answer ≡ refusal_of s
    go true e = sym (eqb-true (refusal_of s) 0 e)
    go false e = refl

  accepted_answer : Acceptable s → (writing_of s).answer ≡ Done
  accepted_answer a = ap (λ (w : Bc7Writing). w.answer) (is_written a)

  answer_accepted : (writing_of s).answer ≡ Done → Acceptable s
  answer_accepted e = sym told ∙ ap number_told e

  -- a reason that holds
  not_acceptable : (i : ℕ) → (reason_at (refusals s) i).holds ≡ true → refusal_of s ≡ 0 → ⊥
  not_acceptable i e a = subst T (sym e ∙ (demand_3.refused_exactly s).0 a i) tt

  refused_answer : (n : ℕ) → refusal_of s ≡ n → (n ≡ 0 → ⊥) → (writing_of s).answer ≡ Refused n
  unfolding refused_with
  refused_answer n e h = ap (λ (w : Bc7Writing). w.answer) (is_refused n e h)

  refused_bytes : (n : ℕ) → refusal_of s ≡ n → (n ≡ 0 → ⊥) → (writing_of s).bytes ≡ tab (λ k. 0) 16
  unfolding refused_with
  refused_bytes n e h = ap (λ (w : Bc7Writing). w.bytes) (is_refused n e h)

-- ---- a block without fault

module _ (block : List ℕ) (h : Sound block) where
  sound_read : reading_of block ≡ record { answer = Done; block = read_block (number_of block) }
  unfolding reading_of
  sound_read =
      ap (λ (b : Bool). pick b (reading_in (number_of block)) (nothing (Refused 4))) (eq-eqb (length block) 16 h.sixteen) ∙ in_sound (number_of block) h.no_fault

  module _ (old : List ℕ) (size : length old ≡ 64) where
    none : decode_refusal (length block) (length old) ≡ 0
    none = sym (none_wrong (length block) (length old) h.sixteen size)

    sound_answer : decode_answer block (length old) ≡ Done
    unfolding decode_answer answer_for
    sound_answer =
        ap (λ (n : ℕ). pick (eqb n 0) (answer_for (fault_of (number_of block))) (Refused n)) none ∙ ap answer_for h.no_fault

    sound_out : decode_out block old ≡ shown_bytes (number_of block)
    unfolding decode_out
    sound_out = ap (λ (n : ℕ). pick (eqb n 0) (shown_bytes (number_of block)) old) none

-- ---- an acceptable sheet

bytes_small : (v k : ℕ) → get_or (bytes_of 16 v) k 0 < 256
unfolding bytes_of
bytes_small v = tab_all (λ (n : ℕ). n < 256) (λ i. field v (8 * i) 8) 0 (λ i. field_lt v (8 * i) 8) (omega arith) 16

module _ (s : Bc7Block) (z : Sized s) (a : Acceptable s) where
  bytes_are : (writing_of s).bytes ≡ bytes_of 16 (block_of s)
  bytes_are = ap (λ (w : Bc7Writing). w.bytes) (is_written s a)

  number : number_of (writing_of s).bytes ≡ block_of s
  number = ap number_of bytes_are ∙ number_bytes 16 (block_of s) ∙ mod-eq_of_lt (demand_3.written_fits s z a)

  sound : Sound (writing_of s).bytes
  sound = record {
    bytes = λ k. subst (λ (l : List ℕ). get_or l k 0 < 256) (sym bytes_are) (bytes_small (block_of s) k);
    sixteen = ap length bytes_are ∙ bytes_length 16 (block_of s);
    no_fault = ap fault_of number ∙ demand_3.written_no_fault s z a;
  }

  back : reading_of (writing_of s).bytes ≡ record { answer = Done; block = s }
  back =
      sound_read (writing_of s).bytes sound
      ∙ ap (λ (b : Bc7Block). record { answer = Done; block = b }) (ap read_block number ∙ demand_3.written_reads_back s z a)

  bytes_shown : shown_bytes (block_of s) ≡ picture_bytes s
  unfolding shown_bytes picture_bytes texel_bytes
  bytes_shown =
      tab_ext (λ n. block_texel (block_of s) (n / 4) (n % 4)) (λ n. picture_of s (n / 4) (n % 4)) 0 64 (λ n l. demand_3.written_shows s z a (n / 4) (n % 4))

  picture : (old : List ℕ) → length old ≡ 64 → decode_out (writing_of s).bytes old ≡ picture_bytes s
  picture old size = sound_out (writing_of s).bytes sound old size ∙ ap shown_bytes number ∙ bytes_shown

-- ---- the whole

module _ (s : Bc7Block) (z : Sized s) (old out : List ℕ) where
  definitions_kept : out ≡ decode_out (writing_of s).bytes old → Demanded s old (round_trip_of s (length old)) out
  unfolding round_trip_of
  definitions_kept e = record {
    refused_exactly = (λ d. (demand_3.refused_exactly s).0 (answer_accepted s d), λ h. accepted_answer s ((demand_3.refused_exactly s).1 h));
    first_is_told = λ i h f. refused_answer s _ (demand_3.first_is_told s i h f) (λ q. not_acceptable s i h (demand_3.first_is_told s i h f ∙ q));
    nothing_written = λ i h. refused_bytes s _ refl (not_acceptable s i h);
    kept = λ a. record {
      written = accepted_answer s a;
      sixteen = (sound s z a).sixteen;
      no_fault = (sound s z a).no_fault;
      read = ap (λ (r : Bc7Reading). r.answer) (back s z a);
      same = ap (λ (r : Bc7Reading). r.block) (back s z a);
      shown = λ size. sound_answer _ (sound s z a) old size;
      picture = λ size. e ∙ picture s z a old size;
    };
  }

  pub demanded : (r : RoundTrip) → r ≡ round_trip_of s (length old) → out ≡ decode_out r.writing.bytes old → Demanded s old r out
  unfolding round_trip_of
  demanded r e = subst (λ (q : RoundTrip). out ≡ decode_out q.writing.bytes old → Demanded s old q out) (sym e) definitions_kept

-- the answers one by one are those of the definition
abbrev answers : Bc7Writing → Bc7Reading → Answer → RoundTrip
answers w r a = record { writing = w; reading = r; shown = a }

pub together : (s : Bc7Block) (places : ℕ) (w : Bc7Writing) (r : Bc7Reading) (a : Answer) → w ≡ writing_of s → r ≡ reading_of w.bytes
    → a ≡ decode_answer w.bytes places → answers w r a ≡ round_trip_of s places
unfolding round_trip_of
together s places w r a e f g =
    ap (λ (x : Bc7Reading). answers w x a) f ∙ ap (answers w (reading_of w.bytes)) g
    ∙ ap (λ (x : Bc7Writing). answers x (reading_of x.bytes) (decode_answer x.bytes places)) e

-- ---- a block read and written anew

pub both_answers : (block : List ℕ) (r : Bc7Reading) (w : Bc7Writing) → r ≡ reading_of block → w ≡ writing_of r.block
    → ◌≡◌ {A = Rewriting} (record { reading = r; writing = w }) (rewriting_of block)
unfolding rewriting_of
both_answers block r w e f =
    ap (λ (x : Bc7Writing). record { reading = r; writing = x }) f ∙ ap (λ (x : Bc7Reading). record { reading = x; writing = writing_of x.block }) e

module _ (block : List ℕ) (h : Sound block) where
  b : Bytes block
  b = h.bytes

  small : number_of block < 2 ^ 128
  small = subst (λ (n : ℕ). number_of block < 2 ^ (8 * n)) h.sixteen (number_lt block b)

  again : (writing_of (read_block (number_of block))).bytes ≡ block
  again =
      bytes_are (read_block (number_of block)) (demand_3.read_sized (number_of block) h.no_fault) (demand_3.read_acceptable (number_of block) h.no_fault)
      ∙ ap (bytes_of 16) (demand_3.rewritten_same (number_of block) small h.no_fault)
      ∙ ap (λ (n : ℕ). bytes_of n (number_of block)) (sym h.sixteen) ∙ bytes_number block b

  with_sheet : Rewritten block (record { reading = record { answer = Done; block = read_block (number_of block) }; writing = writing_of (read_block (number_of block)) })
  with_sheet = record {
    read = refl;
    reads_as = demand_3.reads_as (number_of block) h.no_fault;
    reads_as_one = λ s y r. demand_3.reads_as_one (number_of block) s h.no_fault y r;
    acceptable = demand_3.read_acceptable (number_of block) h.no_fault;
    written = accepted_answer (read_block (number_of block)) (demand_3.read_acceptable (number_of block) h.no_fault);
    same_bytes = again;
  }

  pub rewritten : (r : Rewriting) → r ≡ rewriting_of block → Rewritten block r
  unfolding rewriting_of
  rewritten r e =
      subst (Rewritten block) (sym (e ∙ ap (λ (x : Bc7Reading). record { reading = x; writing = writing_of x.block }) (sound_read block h))) with_sheet
