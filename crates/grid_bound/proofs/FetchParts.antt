-- Part (2) of a cycle, the fetch unit, keeps the rule.
use Rattle.std.proofs.Common.{◌≡◌, ℕ, zero, suc, ◌+◌, ◌/◌, ◌%◌, ◌<◌, ◌==◌, ◌||◌, ◌&&◌, Bool, true, false, cond, not}
use Rattle.std.proofs.Common.{nat_lt, List, []}
use Rattle.std.proofs.Common.{◌∷◌, ◌++◌, is_some}
use Rattle.std.proofs.Common.{Option, Some, None, slice_get, slice_index, slice_set, refl, sym, ap, ap₂, ◌∙◌, subst}
use Rattle.std.proofs.Common.{true≢false, arith, is_none}
use Rattle.trips_isa.specs.declared.block.Block.{Block}
use Rattle.trips_isa.specs.declared.block.Inst.{Inst}
use Rattle.trips_isa.specs.declared.form.Form.{Form}
use Rattle.trips_isa.specs.declared.form.Form.TheVariants.{General, Immediate, Load, Store, Branch, Constant}
use Rattle.trips_isa.specs.Forms.{form_of}
use Rattle.block_cases.specs.Orders.{slot_of}
use Rattle.operand_net.specs.declared.parcel.Stand.{Stand}
use Rattle.operand_net.specs.inside.IsStands.{is_here}
use Rattle.block_predict.specs.Predicts.{Holding, with_history, entered, predicted, after}
use Rattle.commit_flush_spec.specs.Frames.{Frame, Exit, at, fresh}
use Rattle.commit_flush_spec.specs.Older.{Older, after_all, committed, follows}
use Rattle.commit_flush_spec.specs.Older as older
use Rattle.commit_flush_spec.specs.Causes.{NoFrame, NoBlock, Done}
use Rattle.commit_flush_spec.specs.Window.{Window, Fetch, can, can_fetch, fetched, happens, in_flight}
use Rattle.commit_flush_spec.specs.Window.{lowest_empty}
use Rattle.commit_flush_spec.specs.inside.Invariant.{AllGood}
use Rattle.commit_flush_spec.specs.inside.Laws.{WindowOk}
use Rattle.commit_flush_spec.proofs.Lists.{blank_at}
use Rattle.commit_flush_spec.proofs.Look.{or_false}
use Rattle.commit_flush_spec.proofs.Flow.{some_of}
use Rattle.commit_flush_spec.proofs.Frames.{not_now}
use Rattle.commit_flush_spec.proofs.Numbers.{lowest_is}
use Rattle.commit_flush_spec.proofs.Whole.{happens_moves}
use Rattle.commit_flush_spec.specs.inside.Work.{none_guessed}
use Rattle.commit_flush_spec.proofs.FramesSeen.{fresh_unguessed}
use Rattle.grid_cycle_spec.specs.Grid.{Grid, Fetching}
use Rattle.grid_cycle_spec.specs.Acting.{known_next, may}
use Rattle.grid_cycle_spec.specs.Fetches.{filled, fills, fill_where, fetch_on, fetch_ends, one_fetched}
use Rattle.grid_cycle_spec.specs.Fetches.{begun_predicted}
use Rattle.grid_cycle_spec.specs.Fetches.{begun, begun_guess, begun_behind, begun_after, may_begin, fetch_begins}
use Rattle.grid_cycle_spec.specs.Fetches.{fetches, stands}
use Rattle.grid_cycle_spec.specs.inside.Arrivals.{is_waiting}
use Rattle.grid_bound.specs.inside.UnderWay.{form_travels, Nothing, Tied, to_come, travels}
use Rattle.grid_bound.specs.inside.Rule.{EachFrame, FetchRule, FrameRule, runs_in}
use Rattle.grid_bound.proofs.EachFrame.{apart, each_join, each_other, runs_flight, runs_join, same}
use Rattle.grid_bound.proofs.EventRules.{events_rule, went}
use Rattle.grid_bound.proofs.Travels.{and_none, none_is, none_travels, read_travels, slot_travels}
use Rattle.grid_bound.proofs.Ties.{Ties}
use Rattle.grid_bound.proofs.GoingGrids.{Going, done_is, happens_is}

-- a fetch ends -----------------------------------------------------------------------------------

-- nothing is to be under way of a frame that has just been filled
fresh_tied : (n k : ℕ) (b : Block) (c : ℕ → Stand) (asked works : ℕ → Bool) → Nothing c asked works
    → Tied c asked works (fresh n k b)
fresh_tied n k b c asked works h = record {
  travelling = λ p l. ap is_here (h.none_travels p l) ∙ sym (none p);
  standing = λ m e. absurd (true≢false (sym e ∙ h.none_stands m));
  working = λ s e. absurd (true≢false (sym e ∙ h.none_works s));
}
  where
    none : (p : ℕ) → travels asked works (fresh n k b) p ≡ false
    none p = go (nat_lt p 256) refl (slot_of b (p / 2)) refl
      where
        token : is_some (at (fresh n k b).places p) ≡ false
        token = none_is (at (fresh n k b).places p) (blank_at 320 p)

        quiet : (t : Form) (i : Inst) (x : Bool)
            → form_travels t x (to_come asked (fresh n k b) t i (p / 2)) (is_some (at (fresh n k b).places p)) ≡ false
        quiet General i x = token
        quiet Immediate i x = token
        quiet Constant i x = token
        quiet Load i x = ap₂ (λ q z. (x && (is_waiting q (p / 2) && not (asked i.number))) || z)
            (blank_at 32 i.number)
            token ∙ ap (λ z. z || false) (and_none x)
        quiet Store i x = ap (λ q. x && (is_waiting q (p / 2) && not (asked i.number))) (blank_at 32 i.number)
            ∙ and_none x
        quiet Branch i x = and_none x

        go : (v : Bool) → nat_lt p 256 ≡ v → (o : Option Inst) → slot_of b (p / 2) ≡ o
            → travels asked works (fresh n k b) p ≡ false
        go false e o d = read_travels asked works (fresh n k b) p e ∙ token
        go true e None d = none_travels asked works (fresh n k b) p e d
        go true e (Some i) d = slot_travels asked works (fresh n k b) p i e d
            ∙ ap (λ z. not (works (p / 2)) && z) (quiet (form_of i.op) i (p % 2 == 0))
            ∙ and_none (not (works (p / 2)))

module _ {W : Type 0} (blocks : List Block) (good : AllGood blocks) (budget least : ℕ) (f : Fetching) (g : Grid W)
    (r : Going blocks budget least g) (done : can blocks budget (Fetch f.block) g.window ≡ Done) where
  -- the frame and the block
  pub record Fills : Type 0 where
    pub number : ℕ
    pub code : Block
    pub lowest : lowest_empty 8 0 g.window.frames ≡ Some number
    pub is_block : slice_get blocks f.block ≡ Some code

  filled_so : Fills
  filled_so =
      let c : can_fetch blocks f.block g.window ≡ Done = (went g.window.over (can_fetch blocks f.block
      g.window) done).1 in
      let a = not_now (is_none (lowest_empty 8 0 g.window.frames)) NoFrame _ c in
      let b = not_now (is_none (slice_get blocks f.block)) NoBlock _ a.1 in
      let n = some_of (lowest_empty 8 0 g.window.frames) a.0 in
      let x = some_of (slice_get blocks f.block) b.0 in
      record { number = n.0; code = x.0; lowest = n.1; is_block = x.1 }

  module _ (k : Fills) where
    abbrev V : Window
    V = record g.window {
      generations =
          slice_set g.window.generations k.number (slice_index g.window.generations k.number + 1);
      frames = g.window.frames ++ fresh k.number f.block k.code ∷ [];
    }

    window_is : happens blocks budget (Fetch f.block) g.window ≡ V
    window_is = happens_is blocks budget (Fetch f.block) g.window done
        ∙ ap₂ (λ n b. fetched f.block n b g.window) k.lowest k.is_block

    free : in_flight k.number g.window.frames ≡ false
    free = (lowest_is 8 0 g.window.frames k.number k.lowest).1

    abbrev careful : ℕ → Bool
    careful m = cond (m == k.number) f.careful (g.careful m)

    ties : EachFrame FrameRule V.frames → Ties least V.frames g.parcels g.asked g.works careful g.units
    ties rules = record {
      frames = rules;
      tied = each_join (λ x. x.sealed ≡ false → Tied (g.parcels x.number) (g.asked x.number) (g.works x.number) x)
          g.window.frames (fresh k.number f.block k.code ∷ []) r.ties.tied (
            (λ z. fresh_tied k.number f.block k.code (g.parcels k.number) (g.asked k.number) (g.works k.number)
                (r.ties.nothing k.number (runs_flight k.number g.window.frames free))),
            tt,
          );
      unguessed = each_join (λ x. careful x.number ≡ true → none_guessed x ≡ true) g.window.frames
          (fresh k.number f.block k.code ∷ [])
          (each_other (λ x. g.careful x.number ≡ true → none_guessed x ≡ true)
          (λ x. careful x.number ≡ true → none_guessed x ≡ true) k.number
          (λ x d h z. h (sym (ap (λ b. cond b f.careful (g.careful x.number)) (apart x.number k.number d)) ∙ z))
          g.window.frames free r.ties.unguessed)
          ((λ z. fresh_unguessed k.number f.block k.code), tt);
      nothing = λ m e. r.ties.nothing m (or_false (runs_in m g.window.frames)
          (runs_in m (fresh k.number f.block k.code ∷ []))
          (sym (runs_join m g.window.frames (fresh k.number f.block k.code ∷ [])) ∙ e)).0;
      busy = r.ties.busy;
      mesh = r.ties.mesh;
    }

    fills_going : Going blocks budget least (fills blocks budget f g)
    fills_going = subst (Going blocks budget least) (sym is) (record {
      ok = subst (WindowOk blocks budget) window_is
          (happens_moves blocks good budget (Fetch f.block) g.window r.ok).ok;
      went = r.went;
      ties = ties (subst (λ (w : Window). EachFrame FrameRule w.frames) window_is
          (events_rule blocks good budget (Fetch f.block) g.window r.ok r.ties.frames));
      fetch = tt;
    })
      where
        is : fills blocks budget f g ≡ record g {
          window = V;
          fetching = None;
          standing = None;
          careful = careful;
          histories = λ m. cond (m == k.number) f.history (g.histories m);
          counts = one_fetched g.counts;
        }
        is = ap₂ (λ w n. record g {
          window = w;
          fetching = None;
          standing = None;
          careful = λ m. cond (m == n) f.careful (g.careful m);
          histories = λ m. cond (m == n) f.history (g.histories m);
          counts = one_fetched g.counts;
        }) window_is (ap filled k.lowest)

begun_low : 7 < 8
begun_low = omega arith

module _ {W : Type 0} (blocks : List Block) (good : AllGood blocks) (budget least : ℕ) where
  -- the fetch unit alone changes, and the predictor
  refetched : (g : Grid W) → Going blocks budget least g → (o : Option Fetching) (p : Holding)
      → FetchRule (known_next g.window) o → Going blocks budget least (record g { fetching = o; predictor = p })
  refetched g r o p h = record { ok = r.ok; went = r.went; ties = r.ties; fetch = h }

  on_going : (left : ℕ) (f : Fetching) (g : Grid W) → f.left ≡ left → FetchRule (known_next g.window) (Some f)
      → Going blocks budget least g → Going blocks budget least (fetch_on blocks budget left f g)
  on_going (suc left) f g e h r = refetched g r (Some (record f { left = left })) g.predictor
      ((let l = h.0 in omega (arith, l, e)), h.1)
  on_going zero f g e h r = go (may blocks budget (Fetch f.block) g) refl
    where
      go : (b : Bool) → may blocks budget (Fetch f.block) g ≡ b
          → Going blocks budget least (fill_where b blocks budget f g)
      go false i = refetched g r None g.predictor tt
      go true i =
          let done = done_is (can blocks budget (Fetch f.block) g.window) i in
          fills_going blocks good budget least f g r done (filled_so blocks good budget least f g r done)

  -- that a fetch goes on or ends keeps the rule
  pub ended_going : (o : Option Fetching) (g : Grid W) → g.fetching ≡ o → Going blocks budget least g
      → Going blocks budget least (fetch_ends blocks budget o g)
  ended_going None g e r = r
  ended_going (Some f) g e r = on_going f.left f g refl (subst (FetchRule (known_next g.window)) e r.fetch) r

  -- a fetch begins ---------------------------------------------------------------------------------

  begun_here : (k : ℕ) (c : Bool) (g : Grid W) → follows (known_next g.window) k ≡ true → Going blocks budget least g
      → Going blocks budget least (begun k c g)
  begun_here k c g e r = record { ok = r.ok; went = r.went; ties = r.ties; fetch = (begun_low, e) }

  begun_with : (k : ℕ) (c : Bool) (p : Holding) (g : Grid W) → follows (known_next g.window) k ≡ true
      → Going blocks budget least g → Going blocks budget least (begun k c (record g { predictor = p }))
  begun_with k c p g e r = record { ok = r.ok; went = r.went; ties = r.ties; fetch = (begun_low, e) }

  predicted_going : (k : ℕ) (o : Option ℕ) (g : Grid W) → known_next g.window ≡ None → Going blocks budget least g
      → Going blocks budget least (begun_predicted blocks k o g)
  predicted_going k None g e r = r
  predicted_going k (Some n) g e r = begun_with n false (after blocks g.predictor k) g (ap (λ x. follows x n) e) r

  guess_going : (o : Option ℕ) (f : Frame) (g : Grid W) → known_next g.window ≡ None → Going blocks budget least g
      → Going blocks budget least (begun_guess blocks o f g)
  guess_going None f g e r = predicted_going f.block (predicted blocks g.predictor f.block) g e r
  guess_going (Some k) f g e r = begun_here k true g (ap (λ x. follows x k) e) r

  behind_going : (f : Frame) (x : Option Exit) (g : Grid W) → known_next g.window ≡ older.successor_of x
      → Going blocks budget least g → Going blocks budget least (begun_behind blocks f x g)
  behind_going f None g e r = guess_going g.standing f g e r
  behind_going f (Some x) g e r = begun_with x.successor (stands g.standing x.successor)
      (with_history (entered (g.histories f.number) x.exit) g.predictor) g
      (ap (λ y. follows y x.successor) e ∙ same x.successor) r

  youngest_going : (f : Frame) (fs : List Frame) (o : Older) (g : Grid W)
      → known_next g.window ≡ (after_all (f ∷ fs) o).known → Going blocks budget least g
      → Going blocks budget least (begun_after blocks (f ∷ fs) g)
  youngest_going f [] o g e r = behind_going f f.exit g e r
  youngest_going f (h ∷ fs) o g e r = youngest_going h fs (older.after f o) g e r

  after_going : (fs : List Frame) (g : Grid W) → known_next g.window ≡ (after_all fs (committed g.window.state)).known
      → Going blocks budget least g → Going blocks budget least (begun_after blocks fs g)
  after_going [] g e r = begun_here g.window.state.next (stands g.standing g.window.state.next) g
      (ap (λ y. follows y g.window.state.next) e ∙ same g.window.state.next) r
  after_going (f ∷ fs) g e r = youngest_going f fs (committed g.window.state) g e r

  -- that a fetch begins keeps the rule
  pub begins_going : (o : Option Fetching) (g : Grid W) → Going blocks budget least g
      → Going blocks budget least (fetch_begins blocks o g)
  begins_going (Some f) g r = r
  begins_going None g r = go (may_begin g)
    where
      go : (b : Bool) → Going blocks budget least (cond b (begun_after blocks g.window.frames g) g)
      go true = after_going g.window.frames g refl r
      go false = r

  -- part (2) keeps the rule
  pub fetches_going : (g : Grid W) → Going blocks budget least g → Going blocks budget least (fetches blocks budget g)
  fetches_going g r =
      let m : Grid W = fetch_ends blocks budget g.fetching g in
      begins_going m.fetching m (ended_going g.fetching g refl r)
