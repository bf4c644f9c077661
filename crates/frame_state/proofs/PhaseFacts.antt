-- A frame of the eight, seen with its block: what it is answered, what happens to it, and what it tells.
use Rattle.std.proofs.Common.{◌≡◌, ℕ, zero, suc, ◌-◌, ◌^◌, ◌<◌, ◌==◌, Bool, true, false, cond, List, [], ◌∷◌, length}
use Rattle.std.proofs.Common.{Option, Some, None, slice_get, ap, sym, subst, ◌∙◌, refl, arith}
use Rattle.std.proofs.lemmas.Option.{slice_get_within}
use Rattle.trips_isa.specs.declared.block.ReadSlot.{ReadSlot}
use Rattle.trips_isa.specs.declared.block.Block.{Block}
use Rattle.commit_flush_spec.specs.Causes.{Cause, Happened, NotNow, judged}
use Rattle.commit_flush_spec.specs.Frames.{Frame}
use Rattle.commit_flush_spec.specs.Older.{Older}
use Rattle.commit_flush_spec.specs.Ends.{complete, seal}
use Rattle.frame_state.specs.inside.Held.{Held, Stays, running, sealed}
use Rattle.frame_state.specs.declared.phase.Phase.{Phase}
use Rattle.frame_state.specs.declared.phase.Phase.TheVariants.{Free, Going, Done, Away}
use Rattle.frame_state.specs.inside.Phases.{HasBlock, IsFree, IsIdle, IsOpen, Keeps, answered, changed, frame_in}
use Rattle.frame_state.specs.inside.Phases.{generation_of, number_of, with_block}
use Rattle.frame_state.specs.inside.Changes.{Declares, sealed_if}
use Rattle.frame_state.specs.inside.Told.{register_of, read_register}

-- answers --------------------------------------------------------------------------------------

-- the first cause that holds is answered
pub first : (b : Bool) (c : Cause) (rest : List (Bool × Cause)) → b ≡ true → NotNow c ≡ judged ((b, c) ∷ rest)
first true c rest e = refl
first false c rest e = absurd (cc)

-- a frame that runs is asked
pub asked : (none : Happened) (can : Older → Frame → Happened) (o : Older) (z : Option Frame) (f : Frame)
    (x : Happened)
    → z ≡ Some f → x ≡ can o f → x ≡ answered none can o z
asked none can o z f x is e = e ∙ sym (ap (answered none can o) is)

-- a frame that does not run answers as an empty one does, where its first cause is that it is sealed
pub idle : (none : Happened) (can : Older → Frame → Happened) (o : Older) (z : Option Frame) → IsIdle z
    → ((f : Frame) → f.sealed ≡ true → none ≡ can o f) → none ≡ answered none can o z
idle x can o None i e = refl
idle x can o (Some f) i e = e f i

-- what is so of a frame that is not sealed, and of none
pub unsealed : {A : Type 0} (tell : Option Frame → A) (x : A) (z : Option Frame) → IsOpen z → x ≡ tell None
    → ((f : Frame) → f.sealed ≡ false → x ≡ tell (Some f)) → x ≡ tell z
unsealed tell x None i e g = e
unsealed tell x (Some f) i e g = g f i

-- a sealed frame is not running, and a running one not sealed, whatever its block
pub is_idle : (h : Held) (z : Option Block) → IsIdle (with_block true h z)
is_idle h None = tt
is_idle h (Some b) = refl

pub is_open : (h : Held) (z : Option Block) → IsOpen (with_block false h z)
is_open h None = tt
is_open h (Some b) = refl

-- changes --------------------------------------------------------------------------------------

-- a frame that runs is changed as its block's frame is
pub going : (blocks : List Block) (b : Block) (does : Frame → Frame) (h k : Held)
    → slice_get blocks h.block ≡ Some b → Stays h k → running b k ≡ does (running b h)
    → frame_in blocks (Going k) ≡ changed does (frame_in blocks (Going h))
going blocks b does h k is stays e =
    ap (with_block false k) (ap (slice_get blocks) stays.block ∙ is) ∙ ap Some e
    ∙ sym (ap (λ z. changed does (with_block false h z)) is)

-- a sealed frame stays
pub resting : (blocks : List Block) (does : Frame → Frame) (h : Held)
    → frame_in blocks (Done h) ≡ changed does (frame_in blocks (Done h))
resting blocks does h = go (slice_get blocks h.block)
  where
    go : (z : Option Block) → with_block true h z ≡ changed does (with_block true h z)
    go None = refl
    go (Some b) = refl

-- where what waits is not there, nothing happens
pub same : (blocks : List Block) (b : Block) (does : Frame → Frame) (h : Held)
    → slice_get blocks h.block ≡ Some b → running b h ≡ does (running b h)
    → frame_in blocks (Going h) ≡ changed does (frame_in blocks (Going h))
same blocks b does h is e =
    going blocks b does h h is (record { number = refl; block = refl; generation = refl }) e

-- a frame that stays keeps its number and its generation, and has its block
pub keeping : (h k : Held) → Stays h k → Keeps (Going h) (Going k)
keeping h k s = record { number = s.number; generation = s.generation }

pub having : (blocks : List Block) (h k : Held) → Stays h k → HasBlock blocks (Going h) → HasBlock blocks (Going k)
having blocks h k s has = let e : k.block ≡ h.block = s.block in omega (arith, e, has)

-- the block declares the read that the frame does
pub declared : (blocks : List Block) (b : Block) (r : ℕ) (h : Held) → slice_get blocks h.block ≡ Some b
    → Declares r (frame_in blocks (Going h)) → r < length b.reads.items
declared blocks b r h is d = subst (λ z. Declares r (with_block false h z)) is d

-- a read whose register is told is declared
pub declares : (r : ℕ) (f : Option Frame) (x : ℕ) → read_register r f ≡ Some x → Declares r f
declares r None x e = tt
declares r (Some f) x e = go (slice_get f.code.reads.items r) refl e
  where
    go : (z : Option ReadSlot) → slice_get f.code.reads.items r ≡ z → register_of z ≡ Some x
        → r < length f.code.reads.items
    go None k w = absurd (cc)
    go (Some q) k w = slice_get_within f.code.reads.items r q k

-- seals ----------------------------------------------------------------------------------------

-- a frame with all its outputs is sealed
pub sealing : (blocks : List Block) (b : Block) (o : Older) (h k : Held)
    → slice_get blocks h.block ≡ Some b → k.block ≡ h.block → complete (running b h) ≡ true
    → sealed b k ≡ seal o (running b h)
    → frame_in blocks (Done k) ≡ changed (sealed_if o) (frame_in blocks (Going h))
sealing blocks b o h k is same whole e =
    ap (with_block true k) (ap (slice_get blocks) same ∙ is) ∙ ap Some e
    ∙ sym (ap (λ z. changed (sealed_if o) (with_block false h z)) is
    ∙ ap (λ t. Some (cond t (seal o (running b h)) (running b h))) whole)

-- one that lacks some stays
pub not_sealing : (blocks : List Block) (b : Block) (o : Older) (h : Held)
    → slice_get blocks h.block ≡ Some b → complete (running b h) ≡ false
    → frame_in blocks (Going h) ≡ changed (sealed_if o) (frame_in blocks (Going h))
not_sealing blocks b o h is lacks =
    ap (with_block false h) is
    ∙ sym (ap (λ z. changed (sealed_if o) (with_block false h z)) is
    ∙ ap (λ t. Some (cond t (seal o (running b h)) (running b h))) lacks)

-- fills ----------------------------------------------------------------------------------------

-- a block of the image is there
there : (blocks : List Block) (k : ℕ) → k < length blocks → slice_get blocks k ≡ None → ⊥
there [] k h e = absurd (omega arith)
there (b ∷ blocks) zero h e = absurd (cc)
there (b ∷ blocks) (suc k) h e = there blocks k (omega arith) e

-- the frame of a block of the image is there
in_flight : (blocks : List Block) (s : Bool) (h : Held) (z : Option Block) → slice_get blocks h.block ≡ z
    → h.block < length blocks → with_block s h z ≡ None → ⊥
in_flight blocks s h None e lt n = there blocks h.block lt e
in_flight blocks s h (Some b) e lt n = absurd (cc)

-- one of the eight that is not in flight, and not worn, may be filled
pub may_be_filled : (blocks : List Block) (p : Phase) → HasBlock blocks p → frame_in blocks p ≡ None → number_of p < 8
    → (generation_of p == 2 ^ 64 - 1) ≡ false → IsFree p
may_be_filled blocks (Free h) has n lt w = w
may_be_filled blocks (Going h) has n lt w = in_flight blocks false h (slice_get blocks h.block) refl has n
may_be_filled blocks (Done h) has n lt w = in_flight blocks true h (slice_get blocks h.block) refl has n
may_be_filled blocks Away has n lt w = absurd (omega (arith, lt))
