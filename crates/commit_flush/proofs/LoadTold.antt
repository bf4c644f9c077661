-- What is told of the frames whose bytes a load sees.
use Rattle.std.proofs.Common.{◌≡◌, ℕ, zero, suc, ◌+◌, ◌<◌, ◌≤◌, List, [], ◌∷◌, Some, None, length, take}
use Rattle.std.proofs.Common.{slice_get, refl, sym, ap, ◌∙◌, subst, arith}
use Rattle.trips_isa.specs.Stores.{data_size, bytes_seen}
use Rattle.commit_flush_spec.specs.Frames.{Frame, NoBytes, Bytes, at}
use Rattle.commit_flush_spec.specs.Older.{Older, after_all}
use Rattle.commit_flush_spec.specs.inside.Numbered.{seen_at}
use Rattle.commit_flush.specs.inside.Places.{age_of, frame_of}
use Rattle.commit_flush.proofs.FrameFacts.{of_age, no_age}
use Rattle.commit_flush.proofs.OrderFacts.{seen_is}
use Rattle.frame_state.specs.inside.Changes.{IsWord}
use Rattle.frame_state.specs.inside.Told.{waiting_load}
use Rattle.commit_flush.proofs.LoadFacts.{no_word, word_bytes, waiting_fits}

-- one of the frames in flight
pub frame_there : (fs : List Frame) (a : ℕ) → a < length fs → (f : Frame) × (slice_get fs a ≡ Some f)
frame_there [] a l = absurd (omega (arith, l))
frame_there (f ∷ fs) zero l = (f, refl)
frame_there (f ∷ fs) (suc a) l = frame_there fs a (omega (arith, l))

-- no frame takes no word
pub no_frame_word : (o : Older) (n m : ℕ) (fs : List Frame) → age_of n fs ≡ None → IsWord o m 0 (frame_of n fs)
no_frame_word o n m fs e = subst (λ z. IsWord o m 0 z) (sym (no_age n fs e)) tt

-- nor does a load that does not wait, or takes nothing
pub no_load_word : (o : Older) (n m : ℕ) (fs : List Frame) → None ≡ waiting_load m (frame_of n fs)
    → IsWord o m 0 (frame_of n fs)
no_load_word o n m fs e = no_word o m (frame_of n fs) None (sym e) (λ a k w. absurd (cc))

pub nothing_word : (o : Older) (n m : ℕ) (fs : List Frame) → Some NoBytes ≡ waiting_load m (frame_of n fs)
    → IsWord o m 0 (frame_of n fs)
nothing_word o n m fs e =
    no_word o m (frame_of n fs) (Some NoBytes) (sym e) (λ a k w. absurd (cc))

-- else it is that of the bytes that its frame sees
pub seen_word_is : (o : Older) (n m age bytes a k : ℕ) (fs : List Frame) → age_of n fs ≡ Some age
    → Some (Bytes a k) ≡ waiting_load m (frame_of n fs)
    → ((f : Frame) → slice_get fs age ≡ Some f
    → bytes ≡ bytes_seen (at f.stores) (after_all (take age fs) o).memory m a k)
    → IsWord (seen_at o fs n) m bytes (frame_of n fs)
seen_word_is o n m age bytes a k fs e w is =
    word_bytes (seen_at o fs n) m bytes a k (frame_of n fs) (sym w)
    (λ f t. is f (sym (of_age n fs age e) ∙ t)
    ∙ ap (λ (p : Older). bytes_seen (at f.stores) p.memory m a k) (sym (seen_is n fs o age e)))

pub load_fits : (n m a k : ℕ) (fs : List Frame) → Some (Bytes a k) ≡ waiting_load m (frame_of n fs)
    → (k ≤ 8) × (a + k ≤ data_size)
load_fits n m a k fs w = waiting_fits m a k (frame_of n fs) (sym w)
