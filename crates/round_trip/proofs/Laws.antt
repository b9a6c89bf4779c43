-- Demand 3 of the definitions, carried to the answers of the calls.
-- Assumes nothing.
use mathlib.Core.Path.{◌≡◌, refl, sym, ap, ◌∙◌, subst}
use mathlib.Core.Logic.{◌↔◌}
use mathlib.Core.Bool.{Bool, true, false}
use mathlib.Core.List.{List}
use Prim.Native.Nat.{ℕ, ◌*◌, ◌/◌, ◌%◌, ◌≤◌}
use native.Mathlib.Nat.{mod-eq_of_lt}
use lib.Dec.{T, eqb, ltb}
use lib.ListN.{length}
use borrow.Author.Tests.{eq-eqb, ltb-false}
use Rattle.laws.specs.Choice.{pick}
use Rattle.laws.specs.Table.{tab}
use Rattle.laws.proofs.Filling.{tab_ext}
use Rattle.bits.specs.Block.{number_of, bytes_of}
use Rattle.bits.proofs.Blocks.{number_bytes, bytes_length}
use Rattle.footprint.specs.Footprint.{width_of, height_of, texels_of}
use Rattle.interpolation.specs.declared.Kind.{Kind}
use Rattle.interpolation.specs.declared.Kind.TheVariants.{Float16}
use Rattle.interpolation.specs.Expansion.{takes_hdr}
use Rattle.block_fault.specs.Faults.{fault_of}
use Rattle.texel.specs.Meaning.{shown_channel}
use Rattle.texel.specs.BlockTexel.{block_number_at, block_channel, block_numbers}
use Rattle.block_answer.specs.declared.Answer.{Answer}
use Rattle.block_answer.specs.declared.Answer.TheVariants.{Refused, Done}
use Rattle.block_answer.specs.Told.{number_told, answer_for, block_refusal}
use Rattle.one_block.specs.Calls.{block_answer, block_out}
use Rattle.block_answer.proofs.Laws.{accepted}
use Rattle.one_block.proofs.Laws as one
use Rattle.block_reading.specs.declared.Reading.TheVariants.{Ordinary}
use Rattle.symbolic_block.specs.declared.SymbolicBlock.{SymbolicBlock}
use Rattle.symbolic_block.specs.Fields.{Sized}
use Rattle.symbolic_block.specs.Refusals.{unknown_footprint, mode_refusals, void_refusals, refusals, refusal_of, Acceptable}
use Rattle.symbolic_block.specs.Writing.{block_of}
use Rattle.symbolic_block.specs.Reading.{read_block}
use Rattle.laws.specs.Reasons.{reason_at}
use Rattle.symbolic_block.proofs.Demand.{demand_3}
use Rattle.symbolic_reader.specs.declared.SymbolicReading.{SymbolicReading}
use Rattle.symbolic_reader.specs.Answers.{reading_in, reading_of, done}
use Rattle.symbolic_reader.proofs.Laws as reader
use Rattle.symbolic_reader.proofs.SpareTold.{written_clear}
use Rattle.symbolic_calls.specs.declared.Writing.{Writing}
use Rattle.symbolic_calls.specs.Writing.{writing_of}
use Rattle.symbolic_calls.proofs.Laws as writer
use Rattle.round_trip.specs.declared.RoundTrip.{RoundTrip}
use Rattle.round_trip.specs.declared.Rewriting.{Rewriting}
use Rattle.round_trip.specs.Demand.{FineIn, round_trip_of, picture_numbers, Demanded, rewriting, rewriting_of, Sound, Rewritten}

-- ---- refusals

module _ (fp : ℕ) (s : SymbolicBlock) where
  footprint_first : (void : Bool) → (reason_at (pick void (void_refusals fp s) (mode_refusals fp s)) 0).holds ≡ false → ltb 23 fp ≡ false
  unfolding void_refusals mode_refusals unknown_footprint
  footprint_first true e = e
  footprint_first false e = e

  pub known : Acceptable fp s → fp ≤ 23
  unfolding refusals
  known a = ltb-false 23 fp (footprint_first (eqb s.mark 1) ((demand_3.refused_exactly fp s).0 a 0))

  -- a reason that holds
  not_acceptable : (i : ℕ) → (reason_at (refusals fp s) i).holds ≡ true → Acceptable fp s → ⊥
  not_acceptable i e a = subst T (sym e ∙ (demand_3.refused_exactly fp s).0 a i) tt

  accepted_answer : Acceptable fp s → (writing_of fp s).answer ≡ Done
  accepted_answer a = ap (λ (w : Writing). w.answer) (sym (writer.written fp s a))

  answer_accepted : (writing_of fp s).answer ≡ Done → Acceptable fp s
  answer_accepted e = sym (writer.told_number fp s) ∙ ap number_told e

  refused_answer : (n : ℕ) → (Acceptable fp s → ⊥) → refusal_of fp s ≡ n → (writing_of fp s).answer ≡ Refused n
  refused_answer n h e = ap (λ (w : Writing). w.answer) (sym (writer.refused fp s h)) ∙ ap Refused e

  refused_bytes : (Acceptable fp s → ⊥) → (writing_of fp s).bytes ≡ tab (λ k. 0) 16
  refused_bytes h = ap (λ (w : Writing). w.bytes) (sym (writer.refused fp s h))

-- ---- a block without fault

module _ (fp : ℕ) (block : List ℕ) (h : Sound fp block) where
  sound_in : reading_in fp (number_of block) ≡ done (number_of block) (read_block fp (number_of block))
  unfolding reading_in
  sound_in = rw (eq-eqb _ _ h.no_fault)

  pub sound_read : reading_of fp block ≡ done (number_of block) (read_block fp (number_of block))
  sound_read = sym (reader.whole_reading fp block (reader.accepted fp _ h.known h.sixteen)) ∙ sound_in

  module _ (old : List ℕ) (size : length old ≡ 4 * texels_of fp) where
    taken : block_refusal fp (length block) (length old) ≡ 0
    taken = sym (accepted fp _ _ h.known h.sixteen size)

    sound_answer : (kind : Kind) → FineIn kind fp block → block_answer kind fp block (length old) ≡ Done
    unfolding answer_for
    sound_answer kind k = sym (one.answered Ordinary kind fp block old taken) ∙ ap answer_for k

    sound_out : (kind : Kind) → block_out kind fp block old ≡ block_numbers fp kind (number_of block)
    sound_out kind = sym (one.ordinary_out kind fp block old taken)

-- ---- an acceptable symbolic block

module _ (fp : ℕ) (s : SymbolicBlock) (z : Sized s) (a : Acceptable fp s) where
  pub bytes_are : (writing_of fp s).bytes ≡ bytes_of 16 (block_of fp s)
  bytes_are = ap (λ (w : Writing). w.bytes) (sym (writer.written fp s a))

  pub number : number_of (writing_of fp s).bytes ≡ block_of fp s
  number = ap number_of bytes_are ∙ number_bytes 16 (block_of fp s) ∙ mod-eq_of_lt (demand_3.written_fits fp s z a)

  pub sound : Sound fp (writing_of fp s).bytes
  sound = record {
    known = known fp s a;
    sixteen = ap (λ (l : List ℕ). length l) bytes_are ∙ bytes_length 16 (block_of fp s);
    no_fault = ap (fault_of true fp) number ∙ demand_3.written_no_fault fp s z a;
  }

  -- the reader tells what was written
  pub back : reading_of fp (writing_of fp s).bytes ≡ done (block_of fp s) s
  back = sound_read fp _ sound ∙ ap (λ (B : ℕ). done B (read_block fp B)) number ∙ ap (done (block_of fp s)) (demand_3.written_reads_back fp s z a)

  -- its fault in a kind is that of the definition's block
  in_kind : (kind : Kind) → fault_of (takes_hdr kind) fp (number_of (writing_of fp s).bytes) ≡ fault_of (takes_hdr kind) fp (block_of fp s)
  in_kind kind = ap (fault_of (takes_hdr kind) fp) number

  numbers : (kind : Kind) → fault_of (takes_hdr kind) fp (block_of fp s) ≡ 0 → block_numbers fp kind (block_of fp s) ≡ picture_numbers fp kind s
  unfolding block_numbers block_channel block_number_at shown_channel picture_numbers
  numbers kind k = tab_ext _ _ 0 (4 * texels_of fp) (λ i p. demand_3.written_shows_numbers fp s z a kind k (i / 4 % width_of fp) (i / 4 / width_of fp % height_of fp) (i / 4 / width_of fp / height_of fp) (i % 4))

  picture : (kind : Kind) → FineIn kind fp (writing_of fp s).bytes → (old : List ℕ) → length old ≡ 4 * texels_of fp
      → block_out kind fp (writing_of fp s).bytes old ≡ picture_numbers fp kind s
  picture kind k old size = sound_out fp _ sound old size kind ∙ ap (block_numbers fp kind) number ∙ numbers kind (sym (in_kind kind) ∙ k)

  ldr : (kind : Kind) → s.hdr ≡ 0 → FineIn kind fp (writing_of fp s).bytes
  ldr kind h = in_kind kind ∙ demand_3.written_kinds_ldr fp s z a h kind

  hdr : (kind : Kind) → s.hdr ≡ 1 → FineIn kind fp (writing_of fp s).bytes ↔ (kind ≡ Float16)
  hdr kind h =
      let k = demand_3.written_kinds_hdr fp s z a h kind in
      (λ f. k.0 (sym (in_kind kind) ∙ f), λ q. in_kind kind ∙ k.1 q)

-- ---- the whole

module _ (kind : Kind) (fp : ℕ) (s : SymbolicBlock) (z : Sized s) (old out : List ℕ) where
  definitions_kept : out ≡ block_out kind fp (writing_of fp s).bytes old → Demanded kind fp s old (round_trip_of kind fp s (length old)) out
  unfolding round_trip_of
  definitions_kept e = record {
    refused_exactly = (λ d. (demand_3.refused_exactly fp s).0 (answer_accepted fp s d), λ h. accepted_answer fp s ((demand_3.refused_exactly fp s).1 h));
    first_is_told = λ i h f. refused_answer fp s _ (not_acceptable fp s i h) (demand_3.first_is_told fp s i h f);
    nothing_written = λ i h. refused_bytes fp s (not_acceptable fp s i h);
    kept = λ a. record {
      written = accepted_answer fp s a;
      sixteen = (sound fp s z a).sixteen;
      no_fault = (sound fp s z a).no_fault;
      read = ap (λ (r : SymbolicReading). r.answer) (back fp s z a);
      same = ap (λ (r : SymbolicReading). r.block) (back fp s z a);
      spare_clear = ap (λ (r : SymbolicReading). r.spare.set) (back fp s z a) ∙ written_clear fp s z a;
      shown = λ k size. sound_answer fp _ (sound fp s z a) old size kind k;
      picture = λ k size. e ∙ picture fp s z a kind k old size;
      kinds_ldr = ldr fp s z a kind;
      kinds_hdr = hdr fp s z a kind;
    };
  }

  pub demanded : (r : RoundTrip) → r ≡ round_trip_of kind fp s (length old) → out ≡ block_out kind fp r.writing.bytes old → Demanded kind fp s old r out
  unfolding round_trip_of
  demanded r e =
      subst (λ (q : RoundTrip). out ≡ block_out kind fp q.writing.bytes old → Demanded kind fp s old q out) (sym e) definitions_kept

-- the answers one by one are those of the definition
abbrev answers : Writing → SymbolicReading → Answer → RoundTrip
answers w r a = record { writing = w; reading = r; shown = a }

pub together : (kind : Kind) (fp : ℕ) (s : SymbolicBlock) (numbers : ℕ) (w : Writing) (r : SymbolicReading) (a : Answer) → w ≡ writing_of fp s
    → r ≡ reading_of fp w.bytes → a ≡ block_answer kind fp w.bytes numbers → answers w r a ≡ round_trip_of kind fp s numbers
unfolding round_trip_of
together kind fp s numbers w r a e f g =
    ap (λ (x : SymbolicReading). answers w x a) f ∙ ap (answers w (reading_of fp w.bytes)) g
    ∙ ap (λ (x : Writing). answers x (reading_of fp x.bytes) (block_answer kind fp x.bytes numbers)) e

-- ---- a block read and written anew

module _ (kind : Kind) (fp : ℕ) (block old old2 out again : List ℕ) (h : Sound fp block) where
  same_numbers : FineIn kind fp block → block_numbers fp kind (block_of fp (read_block fp (number_of block))) ≡ block_numbers fp kind (number_of block)
  unfolding block_numbers block_channel block_number_at shown_channel
  same_numbers k =
      tab_ext _ _ 0 (4 * texels_of fp)
      (λ i p. demand_3.rewritten_shows_numbers fp (number_of block) h.known kind k (i / 4 % width_of fp) (i / 4 / width_of fp % height_of fp) (i / 4 / width_of fp / height_of fp) (i % 4))

  rewritten_done : out ≡ block_out kind fp block old → again ≡ block_out kind fp (writing_of fp (read_block fp (number_of block))).bytes old2
      → Rewritten kind fp block old old2 (rewriting kind fp block (length old) (length old2) (done (number_of block) (read_block fp (number_of block)))) out again
  rewritten_done e f =
      let B = number_of block in
      let z = demand_3.read_sized fp B h.no_fault in
      let a = demand_3.read_acceptable fp B h.known h.no_fault in
      let again-in : FineIn kind fp block → FineIn kind fp (writing_of fp (read_block fp B)).bytes =
      (λ k. in_kind fp (read_block fp B) z a kind ∙ demand_3.rewritten_kinds fp B h.known h.no_fault kind ∙ k) in record {
        read = refl;
        reads_as = demand_3.reads_as fp B h.no_fault;
        reads_as_one = λ s y r. demand_3.reads_as_one fp B s h.no_fault y r;
        acceptable = a;
        written = accepted_answer fp (read_block fp B) a;
        shown = λ k size. sound_answer fp block h old size kind k;
        shown_again = λ k size. sound_answer fp _ (sound fp (read_block fp B) z a) old2 size kind (again-in k);
        same_shown = λ k size size2. f ∙ sound_out fp _ (sound fp (read_block fp B) z a) old2 size2 kind ∙ ap (block_numbers fp kind) (number fp (read_block fp B) z a)
            ∙ same_numbers k ∙ sym (e ∙ sound_out fp block h old size kind);
        kinds_ldr = λ q. demand_3.read_kinds_ldr fp B h.no_fault q kind;
        kinds_hdr = λ q. demand_3.read_kinds_hdr fp B h.no_fault q kind;
      }

  pub rewritten : (r : Rewriting) → r ≡ rewriting_of kind fp block (length old) (length old2) → out ≡ block_out kind fp block old
      → again ≡ block_out kind fp r.writing.bytes old2 → Rewritten kind fp block old old2 r out again
  unfolding rewriting_of
  rewritten r e g =
      subst (λ (q : Rewriting). again ≡ block_out kind fp q.writing.bytes old2 → Rewritten kind fp block old old2 q out again)
      (sym (e ∙ ap (rewriting kind fp block (length old) (length old2)) (sound_read fp block h))) (rewritten_done g)

-- the answers one by one
abbrev four_answers : SymbolicReading → Writing → Answer → Answer → Rewriting
four_answers r w a b = record { reading = r; writing = w; shown = a; again = b }

pub four_together : (kind : Kind) (fp : ℕ) (block : List ℕ) (numbers numbers2 : ℕ) (r : SymbolicReading) (w : Writing) (a b : Answer) → r ≡ reading_of fp block
    → w ≡ writing_of fp r.block → a ≡ block_answer kind fp block numbers → b ≡ block_answer kind fp w.bytes numbers2
    → four_answers r w a b ≡ rewriting_of kind fp block numbers numbers2
unfolding rewriting_of
four_together kind fp block numbers numbers2 r w a b e f g k =
    ap (four_answers r w a) k
    ∙ ap (λ (x : Answer). four_answers r w x (block_answer kind fp w.bytes numbers2)) g
    ∙ ap (λ (x : Writing). four_answers r x (block_answer kind fp block numbers) (block_answer kind fp x.bytes numbers2)) f
    ∙ ap (rewriting kind fp block numbers numbers2) e
