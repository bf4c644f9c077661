-- Marks of what may happen: how they are made, and that nothing else may.
use Rattle.std.proofs.Common.{◌≡◌, ◌≢◌, ℕ, zero, suc, ◌+◌, ◌%◌, ◌<◌, ◌≤◌, ◌==◌, ◌&&◌, Bool, true}
use Rattle.std.proofs.Common.{false, List, [], ◌∷◌}
use Rattle.std.proofs.Common.{◌⊎◌, inl, inr, Option, Some, None, length, get_or, slice_index_or, slice_set, refl, sym}
use Rattle.std.proofs.Common.{ap, ◌∙◌, subst, arith, bit_or, get_or-set_other}
use Rattle.std.proofs.lemmas.Bool.{cases_lt, cases_eq, eq-eqb, ne_eqb, and_left, and_right, false≢true}
use Rattle.std.proofs.lemmas.Grind.{get_or-set_at}
use Rattle.std.proofs.lemmas.Nat.Bits.{bit_at-zero}
use Rattle.trips_isa.specs.declared.block.Block.{Block}
use Rattle.operand_net.specs.Marks.{has_bit}
use Rattle.operand_net.specs.inside.Marks.{IsLowestBit}
use Rattle.commit_flush_spec.specs.Frames.{Frame, numbers}
use Rattle.commit_flush_spec.specs.Window.{Window, Fire, Read, can, happens}
use Rattle.grid_cycle_spec.specs.Stations.{tile_of}
use Rattle.grid_cycle_spec.specs.Grid.{Grid, numbers_of}
use Rattle.grid_cycle_spec.specs.Acting.{is_done}
use Rattle.grid_cycle_spec.specs.Choosing.{least, slots, reads, eldest}
use Rattle.grid_cycle_spec.specs.DataTiles.{answers_request}
use Rattle.grid_parts.specs.Bits.{frame_bit}
use Rattle.grid_parts.specs.inside.EldestChoices.{found_for, first_found, is_on, lowest_slot}
use Rattle.grid_parts.proofs.SlotFacts.{least_none}
use Rattle.grid_parts.specs.inside.Asked.{frame_of, holds_of, register_of}
use Rattle.grid_parts.specs.inside.Choices.{fires, may_fire, lowest_ready, in_bank, may_read}
use Rattle.grid_parts.specs.inside.Marked.{SlotsMarked, ReadsMarked}
use Rattle.grid_parts.proofs.LeastFacts.{slots_are, reads_are, numbers_are, none_least}
use Rattle.grid_parts.proofs.FrameFacts.{frame_number}
use Rattle.grid_parts.proofs.AnswerFacts.{ready_is}
use Rattle.grid_parts.proofs.BitFacts.{or_bits}
use Rattle.grid_parts.proofs.EventFacts.{read_enables_none, fire_enables_none, fire_numbers}

-- requests -----------------------------------------------------------------------------------------

-- a request that does not stand at its data tile is not answered
pub not_asked : {W : Type 0} (g : Grid W) (tile n k : ℕ) (o : Option Frame) → frame_of n g.window.frames ≡ o
    → g.asked n k ≡ false → holds_of (λ f. answers_request g tile f k) o ≡ false
not_asked g tile n k None e off = refl
not_asked g tile n k (Some f) e off =
    and_left (g.asked f.number k) _ (ap (λ m. g.asked m k) (frame_number n g.window.frames f e) ∙ off)

-- the flags of the first frames are in all of them together
abbrev pub FlagsBelow : List ℕ → List ℕ → ℕ → ℕ → Type 0
FlagsBelow words order all i = (j n : ℕ) → j < i → has_bit all n ≡ false
    → frame_bit words (slice_index_or order j 0) n ≡ false

-- with the word of one frame more, all flags of the frames so far are held
pub flags_more : (words order : List ℕ) (before word i : ℕ) → word ≡ slice_index_or words (slice_index_or order i 0) 0
    → FlagsBelow words order before i → FlagsBelow words order (bit_or before word) (i + 1)
flags_more words order before word i is below j n l e = go (cases_lt j i)
  where
    go : (j < i) ⊎ (i ≤ j) → frame_bit words (slice_index_or order j 0) n ≡ false
    go (inl a) = below j n a (or_bits before word n e).0
    go (inr a) = let d : j ≡ i = omega arith in
        ap (λ k. frame_bit words (slice_index_or order k 0) n) d ∙ ap (λ z. has_bit z n) (sym is)
        ∙ (or_bits before word n e).1

-- where all flags together are 0, no flag of a frame is set
pub no_flags : (words order : List ℕ) (all i : ℕ) → all ≡ 0 → length order ≤ i → FlagsBelow words order all i
    → (j n : ℕ) → j < length order → frame_bit words (slice_index_or order j 0) n ≡ false
no_flags words order all i zero_word past below j n l = below j n (omega arith)
    (ap (λ z. has_bit z n) zero_word ∙ ap (λ z. z == 1) (bit_at-zero n))

-- none of those whose bit lacks in the frame's word
pub unasked_within : {W : Type 0} (g : Grid W) (tile n word low : ℕ)
    → ((i : ℕ) → i < 32 → has_bit low i ≡ has_bit word i) → ((i : ℕ) → g.asked n i ≡ has_bit word i)
    → (k : ℕ) → k < numbers → has_bit low k ≡ false
    → holds_of (λ f. answers_request g tile f k) (frame_of n g.window.frames) ≡ false
unasked_within g tile n word low same is k l e =
    let few = numbers_are in
    not_asked g tile n k (frame_of n g.window.frames) refl (is k ∙ sym (same k (omega (arith, few))) ∙ e)

-- reads --------------------------------------------------------------------------------------------

-- none of the first reads that can be answered is without a mark
abbrev pub MarkedBelow : (ℕ → Bool) → ℕ → ℕ → Type 0
MarkedBelow test marks read = (r : ℕ) → r < read → r < 32 → has_bit marks r ≡ false → test r ≡ false

-- below the lowest read that waits none may be answered
pub marked_first : (test : ℕ → Bool) (unread bit : ℕ)
    → ((r : ℕ) → r < 32 → has_bit unread r ≡ false → test r ≡ false) → IsLowestBit unread 0 bit
    → (marks : ℕ) → MarkedBelow test marks bit
marked_first test unread bit none low marks r l m e = none r m (low.clear r (omega arith) l)

-- where one read that waits is marked rightly, the marks are right up to the next one that waits
pub marked_more : (test : ℕ → Bool) (unread before marks read bit : ℕ) (on : Bool)
    → ((r : ℕ) → r < 32 → has_bit unread r ≡ false → test r ≡ false) → on ≡ test read
    → ((i : ℕ) → has_bit marks i ≡ false → has_bit before i ≡ false) → (has_bit marks read ≡ false → on ≡ false)
    → IsLowestBit unread (read + 1) bit → MarkedBelow test before read → MarkedBelow test marks bit
marked_more test unread before marks read bit on none is other put low below r l m e =
    go (cases_lt r read) (cases_eq r read)
  where
    go : (r < read) ⊎ (read ≤ r) → (r ≡ read) ⊎ (r ≢ read) → test r ≡ false
    go (inl a) d = below r a m (other r e)
    go (inr a) (inl d) = ap test d ∙ sym is ∙ put (subst (λ k. has_bit marks k ≡ false) d e)
    go (inr a) (inr ne) = none r m (low.clear r (omega (arith, ne)) l)

-- none of the reads of the first frames
abbrev pub FramesMarked : (ℕ → ℕ → Bool) → List ℕ → ℕ → Type 0
FramesMarked test words k = (n r : ℕ) → n < k → r < 32 → has_bit (slice_index_or words n 0) r ≡ false
    → test n r ≡ false

-- with the marks of one frame more, those of all frames so far are right
pub frame_marked : (test : ℕ → ℕ → Bool) (words : List ℕ) (f v : ℕ) → f < length words
    → ((r : ℕ) → r < 32 → has_bit v r ≡ false → test f r ≡ false) → FramesMarked test words f
    → FramesMarked test (slice_set words f v) (f + 1)
frame_marked test words f v inside is before n r l m e = go (cases_eq n f)
  where
    go : (n ≡ f) ⊎ (n ≢ f) → test n r ≡ false
    go (inl d) = ap (λ k. test k r) d
        ∙ is r m (sym (ap (λ z. has_bit z r) (get_or-set_at words f n v 0 d inside)) ∙ e)
    go (inr ne) = before n r (omega (arith, ne)) m
        (sym (ap (λ z. has_bit z r) (get_or-set_other words f n v 0 ne)) ∙ e)

module _ (blocks : List Block) (budget : ℕ) (w : Window) where
  -- a bank answers no read without a mark
  pub not_marked : (bank n marks : ℕ) → ((r : ℕ) → r < 32 → has_bit marks r ≡ false
      → is_done (can blocks budget (Read n r) w) ≡ false) → (r : ℕ) → r < reads → has_bit marks r ≡ false
      → may_read blocks budget w bank n r ≡ false
  not_marked bank n marks none r l e = let few = reads_are in
      and_right (in_bank bank (register_of n r w.frames)) _ (none r (omega (arith, few)) e)

  -- an answer to a read leaves the others marked
  pub reads_left : (words : List ℕ) (n r : ℕ) → ReadsMarked blocks budget w words
      → ReadsMarked blocks budget (happens blocks budget (Read n r) w) words
  reads_left words n r marked = record {
    none = λ m k l below e. read_enables_none blocks budget w n r m k (marked.none m k l below e);
  }

  -- slots ------------------------------------------------------------------------------------------

  -- each slot that may fire in one of the first frames is marked
  abbrev pub SlotsBelow : List ℕ → ℕ → ℕ → Type 0
  SlotsBelow order marks i = (s j : ℕ) → s < 128 → j < i → has_bit marks s ≡ false
      → is_done (can blocks budget (Fire (get_or order j 0) s) w) ≡ false

  -- with the word of one frame more, all slots that may fire in the frames so far are marked
  pub slots_more : (order : List ℕ) (marks word i : ℕ) → ((s : ℕ) → s < 128
      → has_bit word s ≡ is_done (can blocks budget (Fire (get_or order i 0) s) w)) → SlotsBelow order marks i
      → SlotsBelow order (bit_or marks word) (i + 1)
  slots_more order marks word i is below s j l m e = go (cases_lt j i)
    where
      go : (j < i) ⊎ (i ≤ j) → is_done (can blocks budget (Fire (get_or order j 0) s) w) ≡ false
      go (inl a) = below s j l a (or_bits marks word s e).0
      go (inr a) = let d : j ≡ i = omega arith in
          ap (λ k. is_done (can blocks budget (Fire (get_or order k 0) s) w)) d
          ∙ sym (is s l) ∙ (or_bits marks word s e).1

  -- behind the last frame all slots that may fire are marked
  pub slots_marked : (order : List ℕ) (marks i : ℕ) → order ≡ numbers_of w.frames → length order ≤ i
      → SlotsBelow order marks i → SlotsMarked blocks budget w marks
  slots_marked order marks i is past below = record {
    none = λ s j l m e. subst (λ ns. j < length ns
        → is_done (can blocks budget (Fire (get_or ns j 0) s) w) ≡ false) is
        (λ k. below s j l (omega arith) e) m;
  }

  -- a slot that fires leaves the others marked
  pub slots_left : (marks n s : ℕ) → SlotsMarked blocks budget w marks
      → SlotsMarked blocks budget (happens blocks budget (Fire n s) w) marks
  slots_left marks n s marked = record {
    none = λ t j l m e. subst (λ ns. j < length ns
        → is_done (can blocks budget (Fire (get_or ns j 0) t) (happens blocks budget (Fire n s) w)) ≡ false)
        (sym (fire_numbers blocks budget w n s))
        (λ k. fire_enables_none blocks budget w n s (get_or (numbers_of w.frames) j 0) t (marked.none t j l k e)) m;
  }

  -- a tile of which no slot is marked has nothing to issue
  pub none_issued : (marks tile : ℕ) → SlotsMarked blocks budget w marks → lowest_slot marks tile ≡ None
      → eldest (fires blocks budget w tile) slots w.frames ≡ None
  none_issued marks tile marked none =
      sym (ready_is blocks budget w tile w.frames)
      ∙ nowhere (numbers_of w.frames)
      (λ j l. least_none (may_fire blocks budget w tile (get_or (numbers_of w.frames) j 0))
      slots 0 (λ s from below. let few = slots_are in quiet j s l (omega (arith, few)) below
      (cases_eq (s % 16) tile)))
    where
      nowhere : (ns : List ℕ) → ((j : ℕ) → j < length ns → lowest_ready blocks budget w tile (get_or ns j 0) ≡ None)
          → first_found (lowest_ready blocks budget w tile) ns ≡ None
      nowhere [] h = refl
      nowhere (n ∷ ns) h =
          ap (λ o. found_for n o (first_found (lowest_ready blocks budget w tile) ns)) (h 0 (omega arith))
          ∙ nowhere ns (λ j l. h (suc j) (omega arith))

      second : (a b : Bool) → a ≡ true → (a && b) ≡ false → b ≡ false
      second true true h e = absurd (false≢true (sym e))
      second true false h e = refl
      second false b h e = absurd (false≢true h)

      quiet : (j s : ℕ) → j < length (numbers_of w.frames) → s < 128 → s < 0 + slots → (s % 16 ≡ tile)
          ⊎ (s % 16 ≢ tile)
          → may_fire blocks budget w tile (get_or (numbers_of w.frames) j 0) s ≡ false
      quiet j s l m below (inl e) = and_right (s % 16 == tile) _ (marked.none s j m l
          (second (s % 16 == tile) (has_bit marks s) (eq-eqb (s % 16) tile e)
          (none_least (is_on marks tile) slots 0 none s (omega arith) below)))
      quiet j s l m below (inr ne) = and_left (s % 16 == tile) _ (ne_eqb (s % 16) tile ne)
