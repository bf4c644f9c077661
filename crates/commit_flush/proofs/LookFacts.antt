-- What a frame in flight sees of a register that it reads.
use Rattle.std.proofs.Common.{◌≡◌, ℕ, ◌<◌, List, Option, Some, None, slice_get, refl, sym, ap, ◌∙◌, subst}
use Rattle.std.proofs.lemmas.List.Elements.{All-get_or}
use Rattle.std.proofs.lemmas.Option.{slice_get_within, get_or_from_slice_get}
use Rattle.trips_isa.specs.declared.block.ReadSlot.{ReadSlot}
use Rattle.trips_isa.specs.declared.block.Block.{Block}
use Rattle.trips_isa.specs.Fits.{FitsBlock, FitsRead}
use Rattle.commit_flush_spec.specs.Frames.{Frame}
use Rattle.commit_flush_spec.specs.Older.{Older}
use Rattle.commit_flush_spec.specs.Dataflow.{read_seen}
use Rattle.commit_flush.specs.inside.Places.{frame_of}
use Rattle.frame_state.specs.inside.Changes.{IsSeen}
use Rattle.frame_state.specs.inside.Told.{register_of, read_register}

-- without a declared read nothing is known
pub word_none : (o : Older) (z : Option ReadSlot) → register_of z ≡ None → None ≡ read_seen o z
word_none o None e = refl
word_none o (Some r) e = absurd (cc)

-- else its register is
pub word_some : (o : Older) (z : Option ReadSlot) (q : ℕ) → register_of z ≡ Some q → o.look q ≡ read_seen o z
word_some o None q e = absurd (cc)
word_some o (Some r) q e = let same : r.register ≡ q = cc in ap o.look (sym same)

-- which is one of the 128
pub read_below : (b : Block) → FitsBlock b → (r q : ℕ) → register_of (slice_get b.reads.items r) ≡ Some q → q < 128
read_below b fits r q e = go (slice_get b.reads.items r) refl e
  where
    go : (z : Option ReadSlot) → slice_get b.reads.items r ≡ z → register_of z ≡ Some q → q < 128
    go None w k = absurd (cc)
    go (Some s) w k =
        let same : s.register ≡ q = cc in
        let its : FitsRead s = subst FitsRead (get_or_from_slice_get b.reads.items r s s w)
        (All-get_or FitsRead b.reads.items r s (slice_get_within b.reads.items r s w) fits.each_read) in
        subst (λ x. x < 128) same its.register

-- what is told of the register of a read of a frame in flight
pub told_register : (r : ℕ) (z : Option Frame) (f : Frame) (q : Option ℕ) → z ≡ Some f → q ≡ read_register r z
    → register_of (slice_get f.code.reads.items r) ≡ q
told_register r z f q e w = sym (w ∙ ap (read_register r) e)

-- a word that is known of a frame in flight is seen where none is in flight too
pub seen_word : (o : Older) (r : ℕ) (word : Option ℕ) (n : ℕ) (fs : List Frame) (z : Option Frame) → z ≡ frame_of n fs
    → ((f : Frame) → frame_of n fs ≡ Some f → word ≡ read_seen o (slice_get f.code.reads.items r)) → IsSeen o r word z
seen_word o r word n fs None e k = tt
seen_word o r word n fs (Some f) e k = k f (sym e)
