-- An idle fetch unit that begins no fetch leaves the grid as it is.
use Rattle.std.proofs.Common.{◌≡◌, ℕ, zero, suc, ◌<◌, ◌&&◌, Bool, true, false, not, cond, List, [], ◌∷◌, nat_lt}
use Rattle.std.proofs.Common.{Option, Some, None, is_none, is_some, refl, sym, ap, true≢false, arith}
use Rattle.std.proofs.lemmas.Bool.{false_from_ne_true, ltb-true}
use Rattle.trips_isa.specs.declared.block.Block.{Block}
use Rattle.block_predict.specs.Predicts.{predicted}
use Rattle.commit_flush_spec.specs.Frames.{Frame, Exit}
use Rattle.grid_cycle_spec.specs.Grid.{Grid, Fetching}
use Rattle.grid_cycle_spec.specs.Fetches.{begins, begun_after, begun_behind, begun_guess, begun_predicted}
use Rattle.grid_cycle_spec.specs.Fetches.{fetch_begins, may_begin}

-- what is not none is some
pub not_none : {A : Type 0} (o : Option A) → not (is_none o) ≡ is_some o
not_none None = refl
not_none (Some x) = refl

module _ {W : Type 0} (blocks : List Block) (g : Grid W) where
  -- a grid that has begun a fetch, or is as it was
  abbrev Begun : Grid W → Type 0
  Begun h = is_some h.fetching ≡ false → h ≡ g

  predicted_begun : (k : ℕ) (o : Option ℕ) → Begun (begun_predicted blocks k o g)
  predicted_begun k None e = refl
  predicted_begun k (Some n) e = absurd (true≢false e)

  guess_begun : (o : Option ℕ) (f : Frame) → Begun (begun_guess blocks o f g)
  guess_begun (Some k) f e = absurd (true≢false e)
  guess_begun None f e = predicted_begun f.block (predicted blocks g.predictor f.block) e

  behind_begun : (f : Frame) (x : Option Exit) → Begun (begun_behind blocks f x g)
  behind_begun f (Some x) e = absurd (true≢false e)
  behind_begun f None e = guess_begun g.standing f e

  after_begun : (fs : List Frame) → Begun (begun_after blocks fs g)
  after_begun [] e = absurd (true≢false e)
  after_begun (f ∷ []) e = behind_begun f f.exit e
  after_begun (f ∷ (h ∷ fs)) e = after_begun (h ∷ fs) e

  room_begun : (b : Bool) → Begun (cond b (begun_after blocks g.window.frames g) g)
  room_begun true e = after_begun g.window.frames e
  room_begun false e = refl

  unit_begun : (o : Option Fetching) → Begun (fetch_begins blocks o g)
  unit_begun (Some f) e = refl
  unit_begun None e = room_begun (may_begin g) e

  -- a fetch that was not begun changes nothing
  pub none_begun : is_some (begins blocks g).fetching ≡ false → begins blocks g ≡ g
  none_begun e = unit_begun g.fetching e

  -- so a grid behind the begin is what it is by whether it fetches
  pub begun_told : (b : Bool) → b ≡ is_some (begins blocks g).fetching → begins blocks g ≡ cond b (begins blocks g) g
  begun_told true e = refl
  begun_told false e = none_begun (sym e)

-- a count below two
pub small_is : (n : ℕ) (b c : Bool) → n < 2 → b ≡ c → b ≡ (nat_lt n 2 && c)
small_is zero b c l e = e
small_is (suc zero) b c l e = e
small_is (suc (suc n)) b c l e = absurd (omega (arith, l))

not_two : (n : ℕ) → nat_lt (suc (suc n)) 2 ≡ false
not_two n = false_from_ne_true (nat_lt (suc (suc n)) 2) (λ e.
    let l = ltb-true (suc (suc n)) 2 e in omega (arith, l))

-- a count that is not
pub large_is : (n : ℕ) (c : Bool) → (n < 2 → ⊥) → false ≡ (nat_lt n 2 && c)
large_is zero c l = absurd (l (omega arith))
large_is (suc zero) c l = absurd (l (omega arith))
large_is (suc (suc n)) c l = sym (ap (λ b. b && c) (not_two n))
