-- What Fetch is answered, where the lowest empty frame is at hand.
use Rattle.std.proofs.Common.{◌≡◌, ℕ, zero, suc, ◌-◌, ◌^◌, ◌<◌, ◌≤◌, Bool, true, false, not, ◌==◌, List, [], ◌∷◌}
use Rattle.std.proofs.Common.{Some, None, length, slice_get, refl, sym, ap, ◌∙◌, arith}
use Rattle.std.specs.Prelude.{is_none, slice_index}
use Rattle.std.proofs.lemmas.Option.{slice_get_past}
use Rattle.trips_isa.specs.declared.block.Block.{Block}
use Rattle.trips_isa.specs.declared.block.Image.{Image}
use Rattle.commit_flush_spec.specs.Causes.{NoFrame, NoBlock, Worn, Serial, Wrong, NotNow, judged}
use Rattle.commit_flush_spec.specs.Older.{after_all, committed, follows}
use Rattle.commit_flush_spec.specs.InFlight.{Window, is_worn, can_fetch}
use Rattle.commit_flush.specs.inside.Places.{free_number}
use Rattle.commit_flush.proofs.OrderFacts.{free_is}

-- with what each test of the row comes to
pub fetch_is : (blocks : List Block) (k : ℕ) (w : Window) (n : ℕ) (absent worn serial wrong : Bool)
    → free_number w.frames ≡ Some n → is_none (slice_get blocks k) ≡ absent
    → (slice_index w.generations n == 2 ^ 64 - 1) ≡ worn → (after_all w.frames (committed w.state)).serial ≡ serial
    → not (follows (after_all w.frames (committed w.state)).known k) ≡ wrong
    → judged ((absent, NoBlock) ∷ (worn, Worn) ∷ (serial, Serial) ∷ (wrong, Wrong) ∷ []) ≡ can_fetch blocks k w
fetch_is blocks k w n absent worn serial wrong free a b c d =
    sym (ap (λ o. judged ((is_none o, NoFrame) ∷ (is_none (slice_get blocks k), NoBlock)
    ∷ (is_worn w.generations o, Worn) ∷ ((after_all w.frames (committed w.state)).serial, Serial)
    ∷ (not (follows (after_all w.frames (committed w.state)).known k), Wrong) ∷ []))
    (sym (free_is w.frames) ∙ free)
    ∙ ap (λ x. judged ((x, NoBlock) ∷ (slice_index w.generations n == 2 ^ 64 - 1, Worn)
    ∷ ((after_all w.frames (committed w.state)).serial, Serial)
    ∷ (not (follows (after_all w.frames (committed w.state)).known k), Wrong) ∷ [])) a
    ∙ ap (λ x. judged ((absent, NoBlock) ∷ (x, Worn) ∷ ((after_all w.frames (committed w.state)).serial, Serial)
    ∷ (not (follows (after_all w.frames (committed w.state)).known k), Wrong) ∷ [])) b
    ∙ ap (λ x. judged ((absent, NoBlock) ∷ (worn, Worn) ∷ (x, Serial)
    ∷ (not (follows (after_all w.frames (committed w.state)).known k), Wrong) ∷ [])) c
    ∙ ap (λ x. judged ((absent, NoBlock) ∷ (worn, Worn) ∷ (serial, Serial) ∷ (x, Wrong) ∷ [])) d)

-- without an empty frame
pub full_is : (blocks : List Block) (k : ℕ) (w : Window) → free_number w.frames ≡ None
    → NotNow NoFrame ≡ can_fetch blocks k w
full_is blocks k w free =
    sym (ap (λ o. judged ((is_none o, NoFrame) ∷ (is_none (slice_get blocks k), NoBlock)
    ∷ (is_worn w.generations o, Worn) ∷ ((after_all w.frames (committed w.state)).serial, Serial)
    ∷ (not (follows (after_all w.frames (committed w.state)).known k), Wrong) ∷ []))
    (sym (free_is w.frames) ∙ free))

-- whether the image has a block
pub block_past : (a b : Image) (count k : ℕ) → a ≡ b → count ≡ length a.blocks → count ≤ k
    → is_none (slice_get b.blocks k) ≡ true
block_past a b count k e c l =
    ap (λ (i : Image). is_none (slice_get i.blocks k)) (sym e)
    ∙ ap is_none (slice_get_past a.blocks k (omega arith))

-- at a number below the count of blocks there is a block
pub block_there : (a b : Image) (count k : ℕ) → a ≡ b → count ≡ length a.blocks → k < count
    → is_none (slice_get b.blocks k) ≡ false
block_there a b count k e c l =
    ap (λ (i : Image). is_none (slice_get i.blocks k)) (sym e) ∙ got a.blocks k (omega arith)
  where
    got : (xs : List Block) (j : ℕ) → j < length xs → is_none (slice_get xs j) ≡ false
    got [] j h = absurd (omega arith)
    got (x ∷ xs) zero h = refl
    got (x ∷ xs) (suc j) h = got xs j (omega arith)
