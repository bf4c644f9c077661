-- One frame stays right where it sees more, and where the bytes that it took did not change.
use Rattle.std.proofs.Common.{◌≡◌, ℕ, ◌<◌, Bool, true, false, cond, ◌==◌, List, [], ◌∷◌, Option, Some, None}
use Rattle.std.proofs.Common.{slice_get, length, refl, sym, ap, ◌∙◌, subst, arith}
use Rattle.std.proofs.lemmas.Bool.Decides.{nat_tests}
use Rattle.trips_isa.specs.declared.block.Inst.{Inst}
use Rattle.trips_isa.specs.declared.block.Block.{Block}
use Rattle.trips_isa.specs.Forms.{size_of}
use Rattle.trips_isa.specs.Rule.{Answer}
use Rattle.trips_isa.specs.Blocks.{Responses, is_read, inst_at}
use Rattle.trips_isa.specs.inside.Blocks.{Solves}
use Rattle.commit_flush_spec.specs.Frames.{Frame, Bytes, at, numbers, slot_node}
use Rattle.trips_isa.specs.Stores.{bytes_seen}
use Rattle.commit_flush_spec.specs.Older.{Older, after, follows, passes, violated, cut}
use Rattle.commit_flush_spec.specs.Causes.{Cause, Happened, Done, NotNow}
use Rattle.commit_flush_spec.specs.Dataflow.{read_seen}
use Rattle.commit_flush_spec.specs.Window.{on_frame, change, alone}
use Rattle.commit_flush_spec.specs.inside.Invariant.{Agrees, Holds, Known, FrameOk, FramesOk, AllGood}
use Rattle.commit_flush_spec.proofs.Look.{LookLe, OlderLe, OlderBut, after_more, after_but, over_same}
use Rattle.commit_flush_spec.proofs.Look.{passes_apart, bytes_same, bytes_apart, not_hit}
use Rattle.commit_flush_spec.proofs.Tokens.{slot_not_read, inst_at_is, read_is, table, table_solves}

-- seeing more ------------------------------------------------------------------------------------

agrees_more : (o p : Older) (f : Frame) (a : Responses) → OlderLe o p → Agrees p f a → Agrees o f a
agrees_more o p f a h ag = record {
  reads = λ r v slot d e k. ag.reads r v slot d e (h.look slot.register v k);
  loads = λ s ad z i e k t. ag.loads s ad z i e k t
      ∙ sym (bytes_same (at f.stores) (at f.stores) o.memory p.memory i.number
      (over_same (at f.stores) i.number o.memory p.memory h.memory) ad (size_of i.op));
}

known_more : (o p : Older) (f : Frame) (r : ℕ) → LookLe o.look p.look → Known o f r → Known p f r
known_more o p f r h k = record {
  slot = k.slot;
  word = k.word;
  is_slot = k.is_slot;
  is_word =
      h k.slot.register k.word k.is_word;
}

pub frame_more : (blocks : List Block) (o p : Older) (f : Frame) → OlderLe o p → FrameOk blocks o f
    → FrameOk blocks p f
frame_more blocks o p f h k = record {
  code = k.code;
  sized = k.sized;
  reads = λ r e. known_more o p f r h.look (k.reads r e);
  sizes = k.sizes;
  answered = k.answered;
  asked = k.asked;
  leaving = k.leaving;
  holds = λ a g s ag. k.holds a g s (agrees_more o p f a h ag);
  marks = λ a g s ag. k.marks a g s (agrees_more o p f a h ag);
  once = k.once;
  whole = k.whole;
}

-- frames that are right stay so where the older ones show them more
pub frames_more : (blocks : List Block) (fs : List Frame) (o p : Older) → OlderLe o p → FramesOk blocks o fs
    → FramesOk blocks p fs
frames_more blocks [] o p h k = tt
frames_more blocks (f ∷ fs) o p h k = (
  h.serial k.0,
  h.known f.block k.1,
  frame_more blocks o p f h k.2,
  frames_more blocks fs (after f o) (after f p) (after_more f o p h) k.3,
)

-- where memory changes at touched addresses, the frames before the first that is violated stay
agrees_but : (blocks : List Block) (touched : ℕ → Bool) (o p : Older) (f : Frame) (a : Responses)
    → OlderBut touched o p → violated (λ n. passes (at f.stores) n touched) f.loads ≡ false → FrameOk blocks o f
    → Agrees p f a → Agrees o f a
agrees_but blocks touched o p f a h z ok ag = record {
  reads = λ r v slot d e k. ag.reads r v slot d e (h.look slot.register v k);
  loads = λ s ad size i e k t. ag.loads s ad size i e k t
      ∙ sym (bytes_apart (at f.stores) (at f.stores) o.memory p.memory i.number
      (passes (at f.stores) i.number touched)
      (passes_apart (at f.stores) i.number touched o.memory p.memory h.memory) ad (size_of i.op)
      (let same : size ≡ size_of i.op = ok.sizes s ad size i e k t in
      not_hit (λ n. passes (at f.stores) n touched) f.loads i.number ad (size_of i.op) z (t
      ∙ ap (λ y. Some (Bytes ad y)) same)));
}

pub frame_but : (blocks : List Block) (touched : ℕ → Bool) (o p : Older) (f : Frame) → OlderBut touched o p
    → violated (λ n. passes (at f.stores) n touched) f.loads ≡ false → FrameOk blocks o f → FrameOk blocks p f
frame_but blocks touched o p f h z k = record {
  code = k.code;
  sized = k.sized;
  reads = λ r e. known_more o p f r h.look (k.reads r e);
  sizes = k.sizes;
  answered = k.answered;
  asked = k.asked;
  leaving = k.leaving;
  holds = λ a g s ag. k.holds a g s (agrees_but blocks touched o p f a h z k ag);
  marks = λ a g s ag. k.marks a g s (agrees_but blocks touched o p f a h z k ag);
  once = k.once;
  whole = k.whole;
}

-- of frames that are right those before the first that took a touched byte stay right
pub frames_cut : (blocks : List Block) (touched : ℕ → Bool) (fs : List Frame) (o p : Older) → OlderBut touched o p
    → FramesOk blocks o fs → FramesOk blocks p (cut touched fs)
frames_cut blocks touched [] o p h k = tt
frames_cut blocks touched (f ∷ fs) o p h k =
    go (frames_cut blocks (passes (at f.stores) numbers touched) fs (after f o) (after f p)
    (after_but touched f o p h) k.3) (violated (λ n. passes (at f.stores) n touched) f.loads) refl
  where
    go : FramesOk blocks (after f p) (cut (passes (at f.stores) numbers touched) fs) → (b : Bool)
        → violated (λ n. passes (at f.stores) n touched) f.loads ≡ b
        → FramesOk blocks p (cond b [] (f ∷ cut (passes (at f.stores) numbers touched) fs))
    go rest true z = tt
    go rest false z = (h.serial k.0, h.known f.block k.1, frame_but blocks touched o p f h z k.2, rest)

-- some answers that agree ------------------------------------------------------------------------

-- a word, and 0 where there is none
abbrev pub or_zero : Option ℕ → ℕ
or_zero None = 0
or_zero (Some w) = w

-- the bytes that a slot's instruction sees at an address; 0 where the slot is empty
abbrev pub slot_seen : Older → Frame → Option Inst → ℕ → ℕ
slot_seen o f None address = 0
slot_seen o f (Some i) address = bytes_seen (at f.stores) o.memory i.number address (size_of i.op)

-- what a read sees of its register, and else what a slot sees at an address
abbrev pub seen_if_read : Bool → Older → Frame → ℕ → ℕ → ℕ
seen_if_read true o f x address = or_zero (read_seen o (slice_get f.code.reads.items x))
seen_if_read false o f x address = slot_seen o f (inst_at f.code x) address

-- what the frame sees now, at every read and every address
unfoldable pub seen : Older → Frame → Responses
seen o f x address = seen_if_read (is_read f.code x) o f x address

-- what a frame was answered agrees with what it sees now
pub seen_agrees : (o : Older) (f : Frame) → Agrees o f (seen o f)
unfolding seen
seen_agrees o f = record {
  reads = λ r v slot d e k.
      let lt : r < length f.code.reads.items = read_is f.code.reads.items r slot e in
      let yes' : is_read f.code r ≡ true = grind (arith, nat_tests) in
      ap (λ b. seen_if_read b o f r 0) yes' ∙ ap (λ q. or_zero (read_seen o q)) e ∙ ap or_zero k;
  loads = λ s ad z i e k t.
      ap (λ b. seen_if_read b o f (slot_node f.code s) ad) (slot_not_read f.code s)
      ∙ ap (λ q. slot_seen o f q ad) (inst_at_is f.code s ∙ e);
}

-- a table with them
pub own : Older → Frame → ℕ → Answer
own o f = table f.code (seen o f)

-- the frame's own table solves its block by what the frame sees
pub own_solves : (blocks : List Block) → AllGood blocks → (o : Older) (f : Frame) → FrameOk blocks o f
    → Solves f.code (seen o f) (own o f)
unfolding own
own_solves blocks good o f ok = table_solves f.code (good f.block f.code ok.code) (seen o f)

-- the frame's own table holds what the frame holds
pub own_holds : (blocks : List Block) → AllGood blocks → (o : Older) (f : Frame) → FrameOk blocks o f
    → Holds blocks f (own o f)
own_holds blocks good o f ok = ok.holds (seen o f) (own o f) (own_solves blocks good o f ok) (seen_agrees o f)

-- a change of one frame --------------------------------------------------------------------------

-- an event that is done is not held back by a cause, and is done by what follows
pub not_now : (b : Bool) (c : Cause) (h : Happened) → cond b (NotNow c) h ≡ Done → (b ≡ false) × (h ≡ Done)
not_now true c h e = absurd (cc)
not_now false c h e = (refl, e)

-- a change that keeps the frames from its own on right, where it may be done, keeps all frames right
pub change_ok : (blocks : List Block) (can : Older → Frame → Happened)
    (does : Older → Frame → List Frame → List Frame)
    → ((o : Older) (f : Frame) (fs : List Frame) → can o f ≡ Done → FramesOk blocks o (f ∷ fs)
    → FramesOk blocks o (does o f fs))
    → (c : Cause) (o : Older) (fs : List Frame) (n : ℕ) → on_frame (NotNow c) can o fs n ≡ Done
    → FramesOk blocks o fs → FramesOk blocks o (change does o fs n)
change_ok blocks can does k c o [] n e ok = absurd (cc)
change_ok blocks can does k c o (f ∷ fs) n e ok =
    go (f.number == n) e (λ d. change_ok blocks can does k c (after f o) fs n d ok.3)
  where
    go : (b : Bool) → cond b (can o f) (on_frame (NotNow c) can (after f o) fs n) ≡ Done
        → (on_frame (NotNow c) can (after f o) fs n ≡ Done
        → FramesOk blocks (after f o) (change does (after f o) fs n))
        → FramesOk blocks o (cond b (does o f fs) (f ∷ change does (after f o) fs n))
    go true d rest = k o f fs d ok
    go false d rest = (ok.0, ok.1, ok.2, rest d)

-- g is the frame f after something came
pub record Goes (blocks : List Block) (o : Older) (f g : Frame) : Type 0 where
  pub ok : FrameOk blocks o g
  pub block : g.block ≡ f.block
  pub later : OlderLe (after f o) (after g o)

-- a change that leaves its own frame right keeps those behind it right
pub alone_ok : (blocks : List Block) (can : Older → Frame → Happened) (does : Older → Frame → Frame)
    → ((o : Older) (f : Frame) → can o f ≡ Done → FrameOk blocks o f → Goes blocks o f (does o f))
    → (o : Older) (f : Frame) (fs : List Frame) → can o f ≡ Done → FramesOk blocks o (f ∷ fs)
    → FramesOk blocks o (alone does o f fs)
alone_ok blocks can does k o f fs e ok =
    let g : Goes blocks o f (does o f) = k o f e ok.2 in
    (ok.0, subst (λ n. follows o.known n ≡ true) (sym g.block) ok.1, g.ok, frames_more blocks fs _ _ g.later ok.3)
