-- The bytes of a frame in flight.
use Rattle.std.proofs.Common.{◌≡◌, ℕ, ◌<◌, Bool, List, [], ◌∷◌, ◌++◌, ap}
use Rattle.byteorder.specs.Endian.{big_bytes}
use Rattle.commit_flush_spec.specs.Frames.{Frame}
use Rattle.grid_record.specs.Moments.{exit_byte, flying_bytes, phase_byte, slot_byte, tokens_bytes, weight}
use Rattle.grid_record.proofs.PieceFacts.{same_pieces}

-- they hang on what is told of the 128 slots alone
pub flying_same : (careful : Bool) (bits may : ℕ → Bool) (f : Frame) → ((s : ℕ) → s < 128 → bits s ≡ may s)
    → flying_bytes careful bits f ≡ flying_bytes careful may f
flying_same careful bits may f same =
    ap (λ (xs : List ℕ). phase_byte f.sealed ∷ weight 1 careful ∷ exit_byte f.exit
    ∷ (big_bytes 4 f.block ++ (xs ++ tokens_bytes f.places)))
    (same_pieces (λ s. slot_byte f.spots f.fired (bits s) s ∷ []) (λ s. slot_byte f.spots f.fired (may s) s ∷ []) 128
    (λ s l. ap (λ x. slot_byte f.spots f.fired x s ∷ []) (same s l)))
