-- An event that flushes frames: the beginning of those in flight is left, and the others are forgotten.
use Rattle.std.specs.List.{list_any}
use Rattle.std.proofs.Common.{◌≡◌, ℕ, zero, suc, ◌==◌, ◌||◌, Bool, true, false, cond, List, []}
use Rattle.std.proofs.Common.{◌∷◌, ◌++◌, drop, length}
use Rattle.std.proofs.Common.{Option, refl, sym, ap, ap₂, ◌∙◌, subst}
use Rattle.trips_isa.specs.declared.block.Block.{Block}
use Rattle.trips_isa.specs.declared.run.Stepped.TheVariants.{Went}
use Rattle.operand_net.specs.declared.parcel.Stand.TheVariants.{Nowhere}
use Rattle.operand_net.specs.Places.{Places}
use Rattle.commit_flush_spec.specs.Frames.{Frame, at, numbers}
use Rattle.commit_flush_spec.specs.Older.{follows, passes, violated, cut}
use Rattle.commit_flush_spec.specs.Ends.{kept}
use Rattle.commit_flush_spec.specs.Window.{Window, Event, happens, in_flight}
use Rattle.commit_flush_spec.specs.inside.Invariant.{AllGood}
use Rattle.commit_flush_spec.specs.inside.Laws.{AreNumbers, WindowOk}
use Rattle.commit_flush_spec.proofs.Look.{or_false}
use Rattle.commit_flush_spec.proofs.Numbers.{nums}
use Rattle.commit_flush_spec.proofs.Whole.{happens_moves}
use Rattle.grid_cycle_spec.specs.Grid.{Grid, is_of}
use Rattle.grid_cycle_spec.specs.Acting.{act, flushed, gone, known_next, settled}
use Rattle.grid_bound.specs.inside.Rule.{EachFrame, FetchRule, runs_in}
use Rattle.grid_bound.proofs.EachFrame.{any_flight, each_front, flight_join, of_flight, runs_flight, runs_join}
use Rattle.grid_bound.proofs.Ties.{Ties, ties_left}
use Rattle.grid_bound.proofs.EndParts.{still_rule}
use Rattle.grid_bound.proofs.GoingGrids.{Going}

-- beginnings -------------------------------------------------------------------------------------

-- what a violation leaves is a beginning
pub cut_rest : (touched : ℕ → Bool) (fs : List Frame) → (rest : List Frame) × (fs ≡ cut touched fs ++ rest)
cut_rest touched [] = ([], refl)
cut_rest touched (f ∷ fs) = go (violated (λ n. passes (at f.stores) n touched) f.loads)
    (cut_rest (passes (at f.stores) numbers touched) fs)
  where
    go : (b : Bool) → (rest : List Frame) × (fs ≡ cut (passes (at f.stores) numbers touched) fs ++ rest)
        → (rest : List Frame) × (f ∷ fs ≡ cond b [] (f ∷ cut (passes (at f.stores) numbers touched) fs) ++ rest)
    go true r = (f ∷ fs, refl)
    go false r = (r.0, ap (λ l. f ∷ l) r.1)

no_more : (fs : List Frame) → fs ≡ fs ++ []
no_more [] = refl
no_more (f ∷ fs) = ap (λ l. f ∷ l) (no_more fs)

-- and so is what an exit leaves
pub kept_rest : (known : Option ℕ) (fs : List Frame) → (rest : List Frame) × (fs ≡ kept known fs ++ rest)
kept_rest known [] = ([], refl)
kept_rest known (f ∷ fs) = go (follows known f.block)
  where
    go : (b : Bool) → (rest : List Frame) × (f ∷ fs ≡ cond b (f ∷ fs) [] ++ rest)
    go true = ([], no_more (f ∷ fs))
    go false = (f ∷ fs, refl)

-- three lists together are the same whichever two are taken first
pub append_more : (ds bs cs : List Frame) → (ds ++ bs) ++ cs ≡ ds ++ (bs ++ cs)
append_more [] bs cs = refl
append_more (a ∷ ds) bs cs = ap (λ l. a ∷ l) (append_more ds bs cs)

-- numbers ----------------------------------------------------------------------------------------

-- another frame of the same number
pub nums_step : (ds : List Frame) (f g : Frame) (bs : List Frame) → g.number ≡ f.number
    → nums (ds ++ g ∷ bs) ≡ nums (ds ++ f ∷ bs)
nums_step [] f g bs e = ap (λ n. n ∷ nums bs) e
nums_step (a ∷ ds) f g bs e = ap (λ l. a.number ∷ l) (nums_step ds f g bs e)

nums_drop : (k : ℕ) (fs : List Frame) → nums (drop k fs) ≡ drop k (nums fs)
nums_drop zero fs = refl
nums_drop (suc k) [] = refl
nums_drop (suc k) (f ∷ fs) = nums_drop k fs

drop_front : (hs rest : List Frame) → drop (length hs) (hs ++ rest) ≡ rest
drop_front [] rest = refl
drop_front (h ∷ hs) rest = drop_front hs rest

flight_nums : (m : ℕ) (fs gs : List Frame) → nums fs ≡ nums gs → in_flight m fs ≡ in_flight m gs
flight_nums m fs gs e = sym (any_flight m fs) ∙ ap (λ l. list_any (λ k. k == m) l) e ∙ any_flight m gs

-- frames of the numbers behind a beginning
dropped_of : (m : ℕ) (before hs rest : List Frame) → nums (hs ++ rest) ≡ nums before
    → is_of (drop (length hs) before) m ≡ in_flight m rest
dropped_of m before hs rest e =
    of_flight m (drop (length hs) before)
    ∙ flight_nums m (drop (length hs) before) rest (nums_drop (length hs) before ∙ ap (drop (length hs)) (sym e)
    ∙ sym (nums_drop (length hs) (hs ++ rest)) ∙ ap nums (drop_front hs rest))

-- the numbers of a beginning are not those behind it
front_apart : (hs rest : List Frame) → AreNumbers (nums (hs ++ rest))
    → EachFrame (λ f. in_flight f.number rest ≡ false) hs
front_apart [] rest h = tt
front_apart (f ∷ hs) rest h = (
  (or_false (in_flight f.number hs) (in_flight f.number rest) (sym (flight_join f.number hs rest)
      ∙ sym (any_flight f.number (hs ++ rest)) ∙ h.1)).1,
  front_apart hs rest h.2,
)

each_same : (p q : Frame → Bool) → ((f : Frame) → p f ≡ q f) → (fs : List Frame) → EachFrame (λ f. q f ≡ false) fs
    → EachFrame (λ f. p f ≡ false) fs
each_same p q e [] h = tt
each_same p q e (f ∷ fs) h = (e f ∙ h.0, each_same p q e fs h.1)

-- the frames that are left -----------------------------------------------------------------------

flushed_ties : (least : ℕ) (before all hs rest : List Frame) (parcels : Places) (asked works : ℕ → ℕ → Bool)
    (careful : ℕ → Bool) (units : ℕ → ℕ) → all ≡ hs ++ rest → nums all ≡ nums before → AreNumbers (nums before)
    → Ties least all parcels asked works careful units
    → Ties least hs (λ n p. cond (is_of (drop (length hs) before) n) Nowhere (parcels n p))
    (λ n k. cond (is_of (drop (length hs) before) n) false (asked n k))
    (λ n s. cond (is_of (drop (length hs) before) n) false (works n s)) careful units
flushed_ties least before all hs rest parcels asked works careful units e same ok t =
    let these : nums (hs ++ rest) ≡ nums before = sym (ap nums e) ∙ same in
    ties_left least all hs parcels asked works careful units (is_of (drop (length hs) before))
    (λ P h. each_front P hs rest (subst (EachFrame P) e h))
    (each_same (λ f. is_of (drop (length hs) before) f.number) (λ f. in_flight f.number rest)
    (λ f. dropped_of f.number before hs rest these) hs (front_apart hs rest (subst AreNumbers (sym these) ok)))
    (λ m g h. ap (runs_in m) e ∙ runs_join m hs rest
    ∙ ap₂ (λ x y. x || y) h (runs_flight m rest (sym (dropped_of m before hs rest these) ∙ g))) t

-- the grid after an event that changes a frame and flushes those behind a beginning
module _ {W : Type 0} (blocks : List Block) (good : AllGood blocks) (budget least : ℕ) (g : Grid W) (e : Event)
    (all hs rest : List Frame) (ok : WindowOk blocks budget g.window) (went : g.window.over ≡ Went)
    (fetch : FetchRule (known_next g.window) g.fetching) (split : all ≡ hs ++ rest)
    (same : nums all ≡ nums g.window.frames)
    (ties : Ties least all g.parcels g.asked g.works g.careful g.units)
    (is : happens blocks budget e g.window ≡ record g.window { frames = hs }) where
  abbrev V : Window
  V = record g.window { frames = hs }

  abbrev G : Grid W
  G = record g { window = V }

  flushed_going : (xs : List Frame)
      → Ties least hs (λ n p. cond (is_of xs n) Nowhere (g.parcels n p))
      (λ n k. cond (is_of xs n) false (g.asked n k))
      (λ n s. cond (is_of xs n) false (g.works n s)) g.careful g.units → WindowOk blocks budget V
      → Going blocks budget least (settled (flushed xs G))
  flushed_going [] t k = record {
    ok = k;
    went = went;
    ties = t;
    fetch = still_rule (known_next V) (known_next g.window) g.fetching fetch;
  }
  flushed_going (x ∷ xs) t k = record { ok = k; went = went; ties = t; fetch = tt }

  -- an event that leaves a beginning of the frames keeps the rule, the others being forgotten
  pub act_going : Going blocks budget least (act blocks budget e g)
  act_going = subst (λ (w : Window). Going blocks budget least
      (settled (flushed (gone g.window w) (record g { window = w })))) (sym is)
      (flushed_going (drop (length hs) g.window.frames)
      (flushed_ties least g.window.frames all hs rest g.parcels g.asked g.works g.careful g.units split same
      ok.numbers
      ties)
      (subst (WindowOk blocks budget) is (happens_moves blocks good budget e g.window ok).ok))
