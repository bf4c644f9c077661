-- The block whose fetch part (2) of a cycle begins, told case by case: where the unit is idle, where a fetch goes on,
-- where one is given up, and where one fills a frame.
use Rattle.std.proofs.Common.{◌≡◌, ℕ, zero, suc, ◌+◌, ◌<◌, ◌≤◌, ◌==◌, Bool, true, false, cond, not, ◌&&◌, ◌||◌, List}
use Rattle.std.proofs.Common.{[], ◌∷◌, ◌++◌, Option, Some, None, is_none, is_some, slice_get}
use Rattle.std.proofs.Common.{slice_set, ◌⊎◌, inl, inr, length, nat_lt}
use Rattle.std.proofs.Common.{refl, sym, ap, ap₂, ◌∙◌, arith}
use Rattle.std.specs.Prelude.{slice_index}
use Rattle.std.proofs.lemmas.Bool.{cases_lt, eq-eqb, false≢true, le-ltb, lt-ltb}
use Rattle.trips_isa.specs.declared.block.Block.{Block}
use Rattle.commit_flush_spec.specs.Causes.{Done, NoBlock, NoFrame}
use Rattle.commit_flush_spec.specs.Frames.{Frame, fresh}
use Rattle.commit_flush_spec.specs.InFlight.{in_flight}
use Rattle.commit_flush_spec.specs.Older.{Older, after, after_all, committed, is_serial}
use Rattle.commit_flush_spec.specs.Window.{Fetch, Window, can, can_fetch, done}
use Rattle.commit_flush_spec.specs.Window.{fetched, happens, if_done, lowest_empty}
use Rattle.commit_flush_spec.proofs.Flow.{some_of}
use Rattle.commit_flush_spec.proofs.Frames.{not_now}
use Rattle.block_predict.specs.Predicts.{predicted}
use Rattle.grid_cycle_spec.specs.Acting.{is_done, may}
use Rattle.grid_cycle_spec.specs.Fetches.{begun_after, fetch_ends, fetch_on, fill_where, fills, may_begin}
use Rattle.grid_cycle_spec.specs.Grid.{Fetching, Grid}
use Rattle.grid_bound.proofs.OldestFetches.{done_is, going}
use Rattle.grid_parts.specs.inside.Asked.{block_of, found_in, frame_of}
use Rattle.grid_parts.proofs.PartFacts.{with_fetching}
use Rattle.grid_parts.specs.inside.Fetches.{due}
use Rattle.grid_parts.proofs.FetchFacts.{begun_youngest}
use Rattle.grid_parts.specs.inside.Youngest.{IsYoungest}
use Rattle.grid_cycle.specs.inside.Follows.{any_empty, behind_fetched, idle_fetch, is_taken}
use Rattle.grid_cycle.specs.Nexts.{begun_on, block_in, next_fetch}
use Rattle.grid_cycle.proofs.FetchFacts.{predicted_is}

-- a unit that fetches nothing is idle
pub is_idle : (o : Option Fetching) → is_none o ≡ true → o ≡ None
is_idle None e = refl
is_idle (Some f) e = absurd (false≢true e)

-- empty frames -----------------------------------------------------------------------------------

-- a frame is in flight where it has a block
pub flies : (n : ℕ) (fs : List Frame) → is_some (block_of n fs) ≡ in_flight n fs
flies n [] = refl
flies n (f ∷ fs) = go (f.number == n) (flies n fs)
  where
    go : (b : Bool) → is_some (block_of n fs) ≡ in_flight n fs
        → is_some (found_in (λ (h : Frame). Some h.block) (cond b (Some f) (frame_of n fs))) ≡ (b || in_flight n fs)
    go true rest = refl
    go false rest = rest

none_more : (b : Bool) → (b || false) ≡ b
none_more true = refl
none_more false = refl

grouped : (a b c : Bool) → (a || (b || c)) ≡ ((a || b) || c)
grouped true b c = refl
grouped false b c = refl

-- one frame more is in flight
flies_last : (k : ℕ) (fs : List Frame) (f : Frame) → in_flight k (fs ++ f ∷ []) ≡ is_taken f.number fs k
flies_last k [] f = none_more (f.number == k)
flies_last k (h ∷ fs) f =
    ap (λ b. (h.number == k) || b) (flies_last k fs f) ∙ grouped (h.number == k) (in_flight k fs) (f.number == k)

some_of_cond : (b : Bool) (x : Option ℕ) (k : ℕ) → is_some (cond b x (Some k)) ≡ cond b (is_some x) true
some_of_cond true x k = refl
some_of_cond false x k = refl

-- whether one is empty then
pub some_empty : (n k : ℕ) (fs : List Frame) (f : Frame)
    → is_some (lowest_empty n k (fs ++ f ∷ [])) ≡ any_empty f.number fs n k
some_empty zero k fs f = refl
some_empty (suc n) k fs f =
    ap (λ b. is_some (cond b (lowest_empty n (suc k) (fs ++ f ∷ [])) (Some k))) (flies_last k fs f)
    ∙ some_of_cond (is_taken f.number fs k) (lowest_empty n (suc k) (fs ++ f ∷ [])) k
    ∙ ap (λ x. cond (is_taken f.number fs k) x true) (some_empty n (suc k) fs f)

-- one that was found
pub found_empty : (m : ℕ) (fs : List Frame) (n k j : ℕ) → k ≤ j → j < k + n → is_taken m fs j ≡ false
    → any_empty m fs n k ≡ true
found_empty m fs zero k j low high e = absurd (omega (arith, low, high))
found_empty m fs (suc n) k j low high e = by (cases_lt k j) (found_empty m fs n (suc k) j)
  where
    by : (k < j) ⊎ (j ≤ k) → (suc k ≤ j → j < suc k + n → is_taken m fs j ≡ false → any_empty m fs n (suc k) ≡ true)
        → any_empty m fs (suc n) k ≡ true
    by (inl l) rest = go (is_taken m fs k) (rest (omega (arith, l)) (omega (arith, high)) e)
      where
        go : (b : Bool) → any_empty m fs n (suc k) ≡ true → cond b (any_empty m fs n (suc k)) true ≡ true
        go true r = r
        go false r = refl
    by (inr l) rest =
        let same : k ≡ j = omega (arith, low, l) in
        ap (λ b. cond b (any_empty m fs n (suc k)) true) (ap (is_taken m fs) same ∙ e)

-- none that is
pub none_empty : (m : ℕ) (fs : List Frame) (n k : ℕ) → ((j : ℕ) → k ≤ j → j < k + n → is_taken m fs j ≡ true)
    → any_empty m fs n k ≡ false
none_empty m fs zero k all = refl
none_empty m fs (suc n) k all =
    ap (λ b. cond b (any_empty m fs n (suc k)) true) (all k (omega arith) (omega arith))
    ∙ none_empty m fs n (suc k) (λ j l h. all j (omega (arith, l)) (omega (arith, h)))

-- how many frames are in flight then
one_more : (fs : List Frame) (f : Frame) → length (fs ++ f ∷ []) ≡ suc (length fs)
one_more [] f = refl
one_more (h ∷ fs) f = ap suc (one_more fs f)

-- a number is below another that is not below the next one
not_behind : (n a : ℕ) → not (nat_lt a (suc n)) ≡ nat_lt n a
not_behind n a = by (cases_lt n a)
  where
    by : (n < a) ⊎ (a ≤ n) → not (nat_lt a (suc n)) ≡ nat_lt n a
    by (inl l) = ap not (le-ltb a (suc n) (omega (arith, l))) ∙ sym (lt-ltb n a l)
    by (inr l) = ap not (lt-ltb a (suc n) (omega (arith, l))) ∙ sym (le-ltb n a l)

-- the youngest frame -----------------------------------------------------------------------------

last_youngest : (f : Frame) (fs : List Frame) → IsYoungest f (fs ++ f ∷ [])
last_youngest f [] = refl
last_youngest f (h ∷ []) = refl
last_youngest f (h ∷ (i ∷ fs)) = last_youngest f (i ∷ fs)

last_serial : (f : Frame) (fs : List Frame) (o : Older) → (after_all (fs ++ f ∷ []) o).serial ≡ is_serial f.code
last_serial f [] o = refl
last_serial f (h ∷ fs) o = last_serial f fs (after h o)

-- a fetch that is done ---------------------------------------------------------------------------

-- it is of a block of the image
pub its_block : (blocks : List Block) (budget k : ℕ) (w : Window) → is_done (can blocks budget (Fetch k) w) ≡ true
    → (b : Block) × (slice_get blocks k ≡ Some b)
its_block blocks budget k w d =
    let c : can_fetch blocks k w ≡ Done =
    going w.over (can_fetch blocks k w) (done_is (can blocks budget (Fetch k) w) d) in
    let a = not_now (is_none (lowest_empty 8 0 w.frames)) NoFrame _ c in
    let b = not_now (is_none (slice_get blocks k)) NoBlock _ a.1 in
    some_of (slice_get blocks k) b.0

-- a number names one block
pub same_block : (blocks : List Block) (k : ℕ) (a b : Block) → slice_get blocks k ≡ Some a
    → slice_get blocks k ≡ Some b
    → a ≡ b
same_block blocks k a b x y = let same : Some a ≡ Some b = sym x ∙ y in cc

pushed : {W : Type 0} (b : Bool) (g h : Grid W) → h.fetching ≡ None
    → block_in (cond b g h).fetching ≡ cond b (block_in g.fetching) None
pushed true g h e = refl
pushed false g h e = ap block_in e

module _ {W : Type 0} (blocks : List Block) (budget : ℕ) (g : Grid W) where
  -- the unit is idle
  pub next_idle : g.fetching ≡ None → idle_fetch blocks g ≡ next_fetch blocks budget g
  next_idle e = sym (ap (λ o. begun_on blocks (fetch_ends blocks budget o g)) e
      ∙ ap (λ o. begun_on blocks (with_fetching o g)) e)

  -- a fetch goes on
  goes_late : (n : ℕ) (f : Fetching) → f.left ≡ n → g.fetching ≡ Some f → due (Some f) ≡ None
      → None ≡ next_fetch blocks budget g
  goes_late zero f l e d = absurd (let one : due (Some f) ≡ Some f.block =
      let o : Option ℕ = None in ap (λ b. cond b (Some f.block) o) (eq-eqb f.left 0 l) in cc)
  goes_late (suc n) f l e d = sym (ap (λ o. begun_on blocks (fetch_ends blocks budget o g)) e
      ∙ ap (λ k. begun_on blocks (fetch_on blocks budget k f g)) l)

  -- while a fetch goes on that is not due, part (2) of a cycle begins none
  pub next_busy : (o : Option Fetching) → g.fetching ≡ o → due o ≡ None → is_none o ≡ false
      → None ≡ next_fetch blocks budget g
  next_busy None e d i = absurd (false≢true (sym i))
  next_busy (Some f) e d i = goes_late f.left f refl e d

  module _ (f : Fetching) (e : g.fetching ≡ Some f) (l : f.left ≡ 0) where
    next_due : next_fetch blocks budget g
        ≡ begun_on blocks (fill_where (may blocks budget (Fetch f.block) g) blocks budget f g)
    next_due = ap (λ o. begun_on blocks (fetch_ends blocks budget o g)) e
        ∙ ap (λ k. begun_on blocks (fetch_on blocks budget k f g)) l

    -- one is given up
    pub next_given_up : may blocks budget (Fetch f.block) g ≡ false → idle_fetch blocks g ≡ next_fetch blocks budget g
    next_given_up d =
        sym (next_due ∙ ap (λ b. begun_on blocks (fill_where b blocks budget f g)) d)

    -- one fills a frame with its block
    module _ (m : ℕ) (b : Block) (lowest : lowest_empty 8 0 g.window.frames ≡ Some m)
        (its : slice_get blocks f.block ≡ Some b) (d : may blocks budget (Fetch f.block) g ≡ true) where
      abbrev new : Frame
      new = fresh m f.block b

      abbrev v : Window
      v = record g.window {
        generations = slice_set g.window.generations m (slice_index g.window.generations m + 1);
        frames = g.window.frames ++ new ∷ [];
      }

      window_is : happens blocks budget (Fetch f.block) g.window ≡ v
      window_is = ap (λ h. if_done h (done blocks (Fetch f.block) g.window) g.window)
          (done_is (can blocks budget (Fetch f.block) g.window) d)
          ∙ ap₂ (λ n c. fetched f.block n c g.window) lowest its

      -- the grid that is filled, over a window
      abbrev over : Window → Grid W
      over w = record (fills blocks budget f g) { window = w }

      behind_new : block_in (begun_after blocks v.frames (over v)).fetching ≡ predicted blocks g.predictor f.block
      behind_new = ap (λ (h : Grid W). block_in h.fetching)
          (begun_youngest blocks new v.frames (over v) (last_youngest new g.window.frames))
          ∙ predicted_is blocks f.block (predicted blocks g.predictor f.block) (over v) refl

      room : may_begin (over v) ≡ ((any_empty m g.window.frames 8 0 && not (is_serial b))
          && nat_lt (length g.window.frames) g.predictor.ahead)
      room = ap₂ (λ x y. (x && not y) && not (nat_lt g.predictor.ahead (length v.frames)))
          (some_empty 8 0 g.window.frames new) (last_serial new g.window.frames (committed g.window.state))
          ∙ ap (λ x. (any_empty m g.window.frames 8 0 && not (is_serial b)) && x)
          (ap (λ n. not (nat_lt g.predictor.ahead n)) (one_more g.window.frames new)
          ∙ not_behind (length g.window.frames) g.predictor.ahead)

      -- where the fetch that is due fills a frame, part (2) of a cycle begins the fetch behind it
      pub next_filled : behind_fetched blocks g.predictor f.block m b g.window.frames ≡ next_fetch blocks budget g
      next_filled = sym (next_due
          ∙ ap (λ x. begun_on blocks (fill_where x blocks budget f g)) d
          ∙ ap (λ w. begun_on blocks (over w)) window_is
          ∙ pushed (may_begin (over v)) (begun_after blocks v.frames (over v)) (over v) refl
          ∙ ap₂ (λ x y. cond x y None) room behind_new)
