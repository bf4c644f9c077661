-- What stands at a number or at an age of a window in code, told of the window that is seen.
use Rattle.std.proofs.Common.{◌≡◌, ℕ, zero, suc, ◌-◌, ◌<◌, ◌≤◌, List, [], ◌∷◌, Option, Some, None, length, get_or}
use Rattle.std.proofs.Common.{slice_get, refl, sym, ap, ◌∙◌, subst, arith}
use Rattle.std.specs.Prelude.{Bool, IfSome, MatchOption, false, slice_index, true}
use Rattle.std.proofs.lemmas.Option.{slice_get_read}
use Rattle.trips_isa.specs.declared.block.Block.{Block}
use Rattle.trips_isa.specs.declared.block.Image.{Image}
use Rattle.trips_isa.specs.declared.run.Stepped.{Stepped}
use Rattle.trips_isa.specs.Machine.{Machine}
use Rattle.commit_flush_spec.specs.Frames.{Frame}
use Rattle.commit_flush_spec.specs.Older.{Older, after_all, committed, is_serial, successor_of}
use Rattle.commit_flush_spec.specs.InFlight.{is_sealed}
use Rattle.commit_flush_spec.specs.inside.Invariant.{IsRunnable}
use Rattle.reg_bank.specs.inside.Ages as ages
use Rattle.reg_bank.specs.inside.Ages.{Ages}
use Rattle.commit_flush_spec.specs.inside.Numbered.{seen_at}
use Rattle.commit_flush.specs.inside.Banked.{word_read}
use Rattle.commit_flush.proofs.BankFacts.{read_sees}
use Rattle.commit_flush.specs.inside.Places.{age_of, frame_of}
use Rattle.commit_flush.proofs.OrderFacts.{slot_at, frame_at, number_below}
use Rattle.commit_flush.proofs.FrameFacts.{runnable, youngest}
use Rattle.frame_state.specs.declared.phase.Phase.{Phase}
use Rattle.frame_state.specs.declared.phase.Phase.TheVariants.{Free, Going, Done, Away}
use Rattle.frame_state.specs.inside.Held.{Held}
use Rattle.frame_state.specs.inside.Phases.{HasBlock, frame_in, slots_of, with_block}
use Rattle.frame_state.specs.inside.Told.{block_in, exit_come, is_serial_in, is_sealed_in}
use Rattle.commit_flush.specs.Seen.{Seen}
use Rattle.commit_flush.specs.inside.Seen.{IsSound, flying, window_of}
use Rattle.commit_flush.specs.inside.Youngest.{IsSerialBy, IsYoungest}
use Rattle.commit_flush.proofs.SeenFacts.{good, eight, few, count_seen, found, not_found, has_block, mapped_slot}

module _ {image : Image} {budget : ℕ} {machine : Machine} {over : Stepped} {phases : List Phase} {order : List ℕ}
    {registers : Ages} (s : IsSound image budget machine over phases order registers) where
  -- the window in code as it is seen
  abbrev pub seen : Seen
  seen = record {
    image = image;
    budget = budget;
    window = window_of image.blocks machine.state over phases order;
  }

  -- at most eight frames are in flight
  pub few_seen : (v : Seen) → seen ≡ v → length v.window.frames ≤ 8
  few_seen v e = subst (λ (z : Seen). length z.window.frames ≤ 8) e
      (let l = few s in let count = count_seen s in omega (arith, l, count))

  -- an item that is read
  pub read_phase : (n : ℕ) (p : Phase) → n < 8 → p ≡ get_or phases n p → slice_get phases n ≡ Some p
  read_phase n p l e = slice_get_read phases (length phases) n p refl (let k = eight s in omega arith) e

  -- at a number of the eight
  pub phase_found : (v : Seen) → seen ≡ v → (n : ℕ) (p : Phase) → n < 8 → p ≡ get_or phases n p
      → frame_in v.image.blocks p ≡ frame_of n v.window.frames
  phase_found v e n p l r =
      subst (λ (z : Seen). frame_in z.image.blocks p ≡ frame_of n z.window.frames) e
      (found s n p (read_phase n p l r))

  -- the phase at a number has a block of the image
  pub phase_block : (v : Seen) → seen ≡ v → (n : ℕ) (p : Phase) → n < 8 → p ≡ get_or phases n p
      → HasBlock v.image.blocks p
  phase_block v e n p l r =
      subst (λ (z : Seen). HasBlock z.image.blocks p) e (has_block s n p (read_phase n p l r))

  -- past them
  pub phase_past : (v : Seen) → seen ≡ v → (n : ℕ) → 8 ≤ n → frame_of n v.window.frames ≡ None
  phase_past v e n l = subst (λ (z : Seen). frame_of n z.window.frames ≡ None) e (not_found s n l)

  -- a frame in flight has a block that can run
  pub phase_runs : (v : Seen) → seen ≡ v → (n : ℕ) (f : Frame) → frame_of n v.window.frames ≡ Some f
      → IsRunnable f.code
  phase_runs v e n f w =
      runnable image.blocks (good s) (flying image.blocks phases order) (committed machine.state) s.window.frames n f
      (ap (λ (z : Seen). frame_of n z.window.frames) e ∙ w)

  -- at an age
  pub age_below : (a n : ℕ) → slice_get order a ≡ Some n → n < 8
  age_below a n e = number_below order s.kept.once a n e

  -- the frame of the number at an age is the frame of this age
  pub age_found : (v : Seen) → seen ≡ v → (a n : ℕ) (p : Phase) → slice_get order a ≡ Some n → p ≡ get_or phases n p
      → frame_in v.image.blocks p ≡ slice_get v.window.frames a
  age_found v e a n p o r =
      subst (λ (z : Seen). frame_in z.image.blocks p ≡ slice_get z.window.frames a) e
      (sym (mapped_slot image.blocks phases n p (read_phase n p (age_below a n o) r))
      ∙ ap (slot_at (slots_of image.blocks phases)) (sym o)
      ∙ sym (frame_at (slots_of image.blocks phases) order s.kept.there a))

  -- the phase of the number at an age has a block of the image
  pub age_block : (v : Seen) → seen ≡ v → (a n : ℕ) (p : Phase) → slice_get order a ≡ Some n → p ≡ get_or phases n p
      → HasBlock v.image.blocks p
  age_block v e a n p o r = phase_block v e n p (age_below a n o) r

  -- past the last age there is no frame
  pub age_past : (v : Seen) → seen ≡ v → (a : ℕ) → slice_get order a ≡ None → slice_get v.window.frames a ≡ None
  age_past v e a o =
      ap (λ (z : Seen). slice_get z.window.frames a) (sym e)
      ∙ frame_at (slots_of image.blocks phases) order s.kept.there a
      ∙ ap (slot_at (slots_of image.blocks phases)) o

-- the youngest -----------------------------------------------------------------------------------

-- as many as one more than its age
pub is_youngest : (fs : List Frame) (n : ℕ) (z : Option Frame) → n ≡ length fs → (n ≡ 0 → ⊥)
    → z ≡ slice_get fs (n - 1)
    → IsYoungest z fs
is_youngest fs zero z e ne w = absurd (ne refl)
is_youngest fs (suc n) z e ne w =
    let at : z ≡ slice_get fs n = (let less : suc n - 1 ≡ n = omega arith in w ∙ ap (slice_get fs) less) in
    subst (λ x. IsYoungest x fs) (sym at) (go fs n (sym e))
  where
    go : (gs : List Frame) (k : ℕ) → length gs ≡ suc k → IsYoungest (slice_get gs k) gs
    go [] k l = absurd (omega arith)
    go (g ∷ gs) zero l = (0, refl, l)
    go (g ∷ gs) (suc k) l = deeper g gs (slice_get gs k) (go gs k (omega arith))
      where
        deeper : (h : Frame) (hs : List Frame) (x : Option Frame) → IsYoungest x hs → IsYoungest x (h ∷ hs)
        deeper h hs None y = absurd y
        deeper h hs (Some f) y = (suc y.0, y.1, ap suc y.2)

-- of no length there are no frames
pub none_flies : (fs : List Frame) → length fs ≡ 0 → fs ≡ []
none_flies [] e = refl
none_flies (f ∷ fs) e = absurd (omega arith)

-- what is known behind it
pub known_behind : (z : Option Frame) (fs : List Frame) (o : Older) → IsYoungest z fs
    → successor_of (exit_come z) ≡ (after_all fs o).known
known_behind None fs o y = absurd y
known_behind (Some f) fs o y = sym (ap (λ (p : Older). p.known) (youngest fs o y.0 f y.1 y.2))

-- the frames are serial behind the youngest where this is so of it
pub serial_behind : (z : Option Frame) (fs : List Frame) (o : Older) → IsYoungest z fs
    → is_serial_in z ≡ (after_all fs o).serial
serial_behind None fs o y = absurd y
serial_behind (Some f) fs o y = sym (ap (λ (p : Older). p.serial) (youngest fs o y.0 f y.1 y.2))

-- one block is held
same_block : {b c : Block} → Some b ≡ Some c → b ≡ c
same_block e = cc e

-- a phase that is the youngest frame tells its block, and by that whether the frames are serial behind it
pub youngest_serial : (blocks : List Block) (p : Phase) (fs : List Frame) (o : Older)
    → IsYoungest (frame_in blocks p) fs
    → IsSerialBy blocks (block_in (frame_in blocks p)) (after_all fs o).serial
youngest_serial blocks p fs o y =
    subst (IsSerialBy blocks (block_in (frame_in blocks p))) (serial_behind (frame_in blocks p) fs o y)
    (by_block p)
  where
    held_block : (sealed : Bool) (h : Held) (k : Option Block) → slice_get blocks h.block ≡ k
        → IsSerialBy blocks (block_in (with_block sealed h k)) (is_serial_in (with_block sealed h k))
    held_block sealed h None e = refl
    held_block sealed h (Some b) e = λ c f. ap is_serial (same_block (sym e ∙ f))

    by_block : (q : Phase)
        → IsSerialBy blocks (block_in (frame_in blocks q)) (is_serial_in (frame_in blocks q))
    by_block (Free h) = refl
    by_block (Going h) = held_block false h (slice_get blocks h.block) refl
    by_block (Done h) = held_block true h (slice_get blocks h.block) refl
    by_block Away = refl

-- the block that a phase tells is one of the image
pub told_within : (blocks : List Block) (p : Phase) → HasBlock blocks p
    → IfSome (block_in (frame_in blocks p)) (λ k. k < length blocks)
told_within blocks p h = by_block p h
  where
    held_within : (sealed : Bool) (h : Held) (k : Option Block) → h.block < length blocks
        → IfSome (block_in (with_block sealed h k)) (λ k. k < length blocks)
    held_within sealed h None l = tt
    held_within sealed h (Some b) l = l

    by_block : (q : Phase) → HasBlock blocks q → IfSome (block_in (frame_in blocks q)) (λ k. k < length blocks)
    by_block (Free h) l = tt
    by_block (Going h) l = held_within false h (slice_get blocks h.block) l
    by_block (Done h) l = held_within true h (slice_get blocks h.block) l
    by_block Away l = tt

-- the oldest -------------------------------------------------------------------------------------

-- the frames are sealed where the first one is
pub sealed_first : (z : Option Frame) (fs : List Frame) → z ≡ slice_get fs 0 → is_sealed_in z ≡ is_sealed fs
sealed_first z [] e = ap is_sealed_in e
sealed_first z (f ∷ fs) e = ap is_sealed_in e

pub some_flies : (fs : List Frame) (n : ℕ) → n ≡ length fs → (n ≡ 0 → ⊥) → slice_get fs (n - 1) ≡ None → fs ≡ []
some_flies fs zero e ne w = absurd (ne refl)
some_flies fs (suc n) e ne w =
    let less : suc n - 1 ≡ n = omega arith in
    absurd (there fs n (omega arith) (ap (slice_get fs) (sym less) ∙ w))
  where
    there : (gs : List Frame) (k : ℕ) → k < length gs → slice_get gs k ≡ None → ⊥
    there [] k l v = omega arith
    there (g ∷ gs) zero l v = absurd (cc)
    there (g ∷ gs) (suc k) l v = there gs k (omega arith) v

-- what follows from what a clause says of both variants
pub match_map : {X : Type 0} (r : Option X) {A B : Type 0} {P Q : X → Type 0} → MatchOption r A P → (A → B)
    → ((x : X) → P x → Q x) → MatchOption r B Q
match_map None m f g = f m
match_map (Some x) m f g = g x m

-- a read of a register through the banks is answered what the frame sees
pub look_is : {image : Image} {budget : ℕ} {machine : Machine} {over : Stepped} {phases : List Phase} {order : List ℕ}
    {registers : Ages} (s : IsSound image budget machine over phases order registers) (v : Seen) → seen s ≡ v
    → (n a r word : ℕ) → age_of n v.window.frames ≡ Some a → word ≡ slice_index machine.state.registers r
    → word_read (ages.read registers a r word)
    ≡ (seen_at (committed v.window.state) v.window.frames n).look r
look_is {image} {budget} {machine} {over} {phases} {order} {registers} s v w n a r word age is =
    read_sees image.blocks (good s) (flying image.blocks phases order) (committed machine.state) s.window.frames
    registers s.kept.banks n a r word (ap (λ (z : Seen). age_of n z.window.frames) w ∙ age) (ap Some (sym is))
    ∙ ap (λ (z : Seen). (seen_at (committed z.window.state) z.window.frames n).look r) w
