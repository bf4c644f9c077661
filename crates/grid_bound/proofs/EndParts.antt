-- Part (1) of a cycle, its ends, keeps the rule.
use Rattle.std.proofs.Common.{◌≡◌, ℕ, ◌==◌, Bool, true, false, cond, List, [], ◌∷◌, ◌++◌}
use Rattle.std.proofs.Common.{Option, Some, None, refl, sym, ap, ◌∙◌, subst, true≢false}
use Rattle.trips_isa.specs.declared.block.Block.{Block}
use Rattle.trips_isa.specs.declared.run.Stepped.{Stepped}
use Rattle.trips_isa.specs.declared.run.Stepped.TheVariants as stepped
use Rattle.trips_isa.specs.Outcomes.{Outcome, Comes, Faults, unless}
use Rattle.block_cases.specs.inside.Plain.{IsTrap}
use Rattle.block_cases.proofs.Traps.{applied_goes}
use Rattle.operand_net.specs.declared.parcel.Stand.TheVariants.{Nowhere}
use Rattle.commit_flush_spec.specs.Frames.{Frame, Exit}
use Rattle.commit_flush_spec.specs.Older.{after_all, committed, follows}
use Rattle.commit_flush_spec.specs.Causes.{NoFrame, Done}
use Rattle.commit_flush_spec.specs.Ends.{can_seal, seal, outputs, cause_held}
use Rattle.commit_flush_spec.specs.InFlight.{commit_to}
use Rattle.commit_flush_spec.specs.Window.{Window, Seal, Commit, alone, can, can_now, happens, commit, in_flight}
use Rattle.commit_flush_spec.specs.inside.Invariant.{AllGood}
use Rattle.commit_flush_spec.specs.inside.Laws.{AreNumbers, WindowOk}
use Rattle.commit_flush_spec.proofs.Look.{or_false}
use Rattle.commit_flush_spec.proofs.Numbers.{nums}
use Rattle.commit_flush_spec.proofs.Whole.{happens_moves}
use Rattle.commit_flush_spec.specs.inside.Work.{none_guessed}
use Rattle.grid_cycle_spec.specs.Grid.{Grid, Fetching, forget, is_of, numbers_of}
use Rattle.grid_cycle_spec.specs.Acting.{known_next, may, settled, still}
use Rattle.grid_cycle_spec.specs.Ends.{seal_one, seal_each, one_committed, learning, committed_as, commit_in}
use Rattle.grid_cycle_spec.specs.Ends.{commit_oldest, ends}
use Rattle.grid_bound.specs.inside.UnderWay.{Tied}
use Rattle.grid_bound.specs.inside.Rule.{EachFrame, FetchRule, FrameRule, RuleFrom}
use Rattle.grid_bound.proofs.EachFrame.{FrameAt, any_flight, apart, changed_at}
use Rattle.grid_bound.proofs.EachFrame.{differ, each_rest, each_step, of_flight}
use Rattle.grid_bound.proofs.EachFrame.{runs_flight, runs_one, runs_step}
use Rattle.grid_bound.proofs.EventRules.{events_rule, went}
use Rattle.grid_bound.proofs.Ties.{Ties, TiesOf, forgotten_held, forgotten_nothing, forgotten_units, left_alike}
use Rattle.grid_bound.proofs.Ties.{rule_of, tied_alike, ties_left, ties_of}
use Rattle.grid_bound.proofs.GoingGrids.{Acted, acted, done_is, happens_is, known_same}

-- window and grid have their rules, and the run may have ended
pub record Ruled {W : Type 0} (blocks : List Block) (budget least : ℕ) (g : Grid W) : Type 0 where
  pub ok : WindowOk blocks budget g.window
  pub ties : TiesOf least g
  pub fetch : FetchRule (known_next g.window) g.fetching

-- a fetch that goes on is of a block that may come next
pub still_rule : (known known' : Option ℕ) (o : Option Fetching) → FetchRule known' o
    → FetchRule known (still known o)
still_rule known known' None h = tt
still_rule known known' (Some f) h = go (follows known f.block) refl
  where
    go : (b : Bool) → follows known f.block ≡ b → FetchRule known (cond b (Some f) None)
    go true e = (h.0, e)
    go false e = tt

each_apart : (n : ℕ) (fs : List Frame) → in_flight n fs ≡ false → EachFrame (λ f. (f.number == n) ≡ false) fs
each_apart n [] e = tt
each_apart n (f ∷ fs) e =
    let o = or_false (f.number == n) (in_flight n fs) e in
    (o.0, each_apart n fs o.1)

-- sealing ----------------------------------------------------------------------------------------

module _ {W : Type 0} (blocks : List Block) (good : AllGood blocks) (budget least : ℕ) (g : Grid W)
    (r : Ruled blocks budget least g) (n : ℕ) (a : FrameAt n g.window.frames) where
  abbrev F : Frame
  F = seal (after_all a.older (committed g.window.state)) a.frame

  abbrev V : Window
  V = record g.window { frames = a.older ++ F ∷ a.younger }

  -- the grid in which the frame is sealed, and what was under way of it is forgotten
  abbrev S : Grid W
  S = forget (λ m. m == n) (record g { window = V })

  sealed_ties : EachFrame FrameRule (a.older ++ F ∷ a.younger) → TiesOf least S
  sealed_ties rules = record {
    frames = rules;
    tied = each_step
        (λ f. f.sealed ≡ false → Tied (g.parcels f.number) (g.asked f.number) (g.works f.number) f)
        (λ f. f.sealed ≡ false → Tied (S.parcels f.number) (S.asked f.number) (S.works f.number) f)
        n g.window.frames a F
        (λ f d h z. tied_alike (g.parcels f.number) (S.parcels f.number) (g.asked f.number) (S.asked f.number)
        (g.works f.number) (S.works f.number)
        (left_alike (g.parcels f.number) (g.asked f.number) (g.works f.number) (f.number == n) (apart f.number n d))
        f (h z))
        (λ z. absurd (true≢false z)) r.ties.tied;
    unguessed = each_step
        (λ f. g.careful f.number ≡ true → none_guessed f ≡ true)
        (λ f. g.careful f.number ≡ true → none_guessed f ≡ true) n g.window.frames a F
        (λ f d h. h)
        (λ z. (each_rest (λ f. g.careful f.number ≡ true → none_guessed f ≡ true) a.older (a.frame ∷ a.younger)
        (subst (EachFrame (λ f. g.careful f.number ≡ true → none_guessed f ≡ true)) a.split r.ties.unguessed)).0 z)
        r.ties.unguessed;
    nothing = λ m e. forgotten_nothing (g.parcels m) (g.asked m) (g.works m) (m == n)
        (λ z. r.ties.nothing m (runs_step n m g.window.frames a F a.number (differ m n z) e));
    busy = forgotten_units g.units g.works (λ m. m == n) r.ties.busy;
    mesh = forgotten_held least g.parcels (λ m. m == n) r.ties.mesh;
  }

  sealed_ruled : happens blocks budget (Seal n) g.window ≡ V
      → Ruled blocks budget least
      (forget (λ m. m == n) (record g { window = happens blocks budget (Seal n) g.window }))
  sealed_ruled is =
      let ok : WindowOk blocks budget V = subst (WindowOk blocks budget) is
      (happens_moves blocks good budget (Seal n) g.window r.ok).ok in
      let rules : EachFrame FrameRule V.frames = subst (λ (w : Window). EachFrame FrameRule w.frames) is
      (events_rule blocks good budget (Seal n) g.window r.ok r.ties.frames) in
      let known : known_next V ≡ known_next g.window =
      known_same a.older a.frame F a.younger (committed g.window.state) refl
      ∙ sym (ap (λ l. (after_all l (committed g.window.state)).known) a.split) in
      let all : Ruled blocks budget least S = record {
        ok = ok;
        ties = sealed_ties rules;
        fetch = subst (λ k. FetchRule k g.fetching) (sym known) r.fetch;
      } in
      subst (λ (w : Window). Ruled blocks budget least (forget (λ m. m == n) (record g { window = w }))) (sym is) all

module _ {W : Type 0} (blocks : List Block) (good : AllGood blocks) (budget least : ℕ) where
  seal_ruled : (n : ℕ) (g : Grid W) → Ruled blocks budget least g → Ruled blocks budget least
      (seal_one blocks budget n g)
  seal_ruled n g r = go (may blocks budget (Seal n) g) refl
    where
      go : (b : Bool) → may blocks budget (Seal n) g ≡ b → Ruled blocks budget least (cond b
          (forget (λ m. m == n) (record g { window = happens blocks budget (Seal n) g.window })) g)
      go false e = r
      go true e =
          let done = done_is (can blocks budget (Seal n) g.window) e in
          let x : Acted can_seal n g.window = acted blocks budget NoFrame can_seal n g.window r.ok
          (went g.window.over (can_now blocks budget (Seal n) g.window) done).1 in
          sealed_ruled blocks good budget least g r n x.there (happens_is blocks budget (Seal n) g.window done
          ∙ ap (λ l. record g.window { frames = l })
          (changed_at (alone seal) (committed g.window.state) n g.window.frames x.there))

  seals_ruled : (ns : List ℕ) (g : Grid W) → Ruled blocks budget least g
      → Ruled blocks budget least (seal_each blocks budget ns g)
  seals_ruled [] g r = r
  seals_ruled (n ∷ ns) g r = seals_ruled ns (seal_one blocks budget n g) (seal_ruled n g r)

-- a commit ---------------------------------------------------------------------------------------

module _ {W : Type 0} (blocks : List Block) (good : AllGood blocks) (budget least : ℕ) (g : Grid W)
    (r : Ruled blocks budget least g) (f : Frame) (fs : List Frame) (is : g.window.frames ≡ f ∷ fs) where
  was : Ties least (f ∷ fs) g.parcels g.asked g.works g.careful g.units
  was = subst (λ l. Ties least l g.parcels g.asked g.works g.careful g.units) is r.ties

  alone_number : in_flight f.number fs ≡ false
  alone_number = sym (any_flight f.number fs) ∙ (subst (λ l. AreNumbers (nums l)) is r.ok.numbers).1

  -- the oldest frame is there no longer
  left_ties : Ties least fs (λ m p. cond (m == f.number) Nowhere (g.parcels m p))
      (λ m k. cond (m == f.number) false (g.asked m k)) (λ m s. cond (m == f.number) false (g.works m s))
      g.careful g.units
  left_ties = ties_left least (f ∷ fs) fs g.parcels g.asked g.works g.careful g.units (λ m. m == f.number)
      (λ P h. h.1) (each_apart f.number fs alone_number)
      (λ m e h. runs_one m f fs (λ z. differ m f.number e (sym z)) ∙ h) was

  -- no frame is
  none_ties : Ties least [] (λ m p. cond (is_of (f ∷ fs) m) Nowhere (g.parcels m p))
      (λ m k. cond (is_of (f ∷ fs) m) false (g.asked m k)) (λ m s. cond (is_of (f ∷ fs) m) false (g.works m s))
      g.careful g.units
  none_ties = ties_left least (f ∷ fs) [] g.parcels g.asked g.works g.careful g.units (is_of (f ∷ fs))
      (λ P h. tt) tt (λ m e h. runs_flight m (f ∷ fs) (sym (of_flight m (f ∷ fs)) ∙ e)) was

  -- a frame that commits without a trap
  committed_ruled : (v : Window) → v.frames ≡ fs → WindowOk blocks budget v → (s : Stepped) → (IsTrap s → ⊥)
      → Ruled blocks budget least (committed_as s f fs (record g { window = v }))
  committed_ruled v e ok s never = go s never
    where
      ties : Ties least v.frames (λ m p. cond (m == f.number) Nowhere (g.parcels m p))
          (λ m k. cond (m == f.number) false (g.asked m k)) (λ m s. cond (m == f.number) false (g.works m s))
          g.careful g.units
      ties = subst (λ l. Ties least l (λ m p. cond (m == f.number) Nowhere (g.parcels m p))
          (λ m k. cond (m == f.number) false (g.asked m k)) (λ m s. cond (m == f.number) false (g.works m s))
          g.careful g.units) (sym e) left_ties

      learned : (o : Option Exit) → Ruled blocks budget least (settled (forget (λ m. m == f.number) (learning f o
          (record g { window = v; counts = one_committed g.counts }))))
      learned None = record {
        ok = ok;
        ties = ties;
        fetch = still_rule (known_next v) (known_next g.window) g.fetching r.fetch;
      }
      learned (Some x) = record {
        ok = ok;
        ties = ties;
        fetch = still_rule (known_next v) (known_next g.window) g.fetching r.fetch;
      }

      go : (s : Stepped) → (IsTrap s → ⊥) → Ruled blocks budget least (committed_as s f fs (record g { window = v }))
      go stepped.Went never = learned f.exit
      go stepped.Ended never = learned f.exit
      go stepped.StackFull never = learned f.exit
      go (stepped.Trap c) never = absurd (never tt)

  outcome_ruled : (x : Outcome) → WindowOk blocks budget (commit_to x f fs g.window)
      → Ruled blocks budget least (committed_as (commit_to x f fs g.window).over f fs
      (record g { window = commit_to x f fs g.window }))
  outcome_ruled (Comes o) ok = committed_ruled (commit_to (Comes o) f fs g.window) refl ok
      (commit_to (Comes o) f fs g.window).over (applied_goes f.code.writes.items o g.window.state)
  outcome_ruled (Faults c) ok = record { ok = ok; ties = none_ties; fetch = tt }

  taken_ruled : happens blocks budget Commit g.window ≡ commit (f ∷ fs) g.window
      → Ruled blocks budget least (commit_in blocks budget (f ∷ fs) g)
  taken_ruled e = subst
      (λ (v : Window). Ruled blocks budget least (committed_as v.over f fs (record g { window = v })))
      (sym e) (outcome_ruled (unless (cause_held f) (outputs f)) (subst (WindowOk blocks budget) e
      (happens_moves blocks good budget Commit g.window r.ok).ok))

module _ {W : Type 0} (blocks : List Block) (good : AllGood blocks) (budget least : ℕ) where
  commit_ruled : (g : Grid W) → Ruled blocks budget least g
      → Ruled blocks budget least (commit_oldest blocks budget g)
  commit_ruled g r = go (may blocks budget Commit g) refl
    where
      frames : (fs : List Frame) → g.window.frames ≡ fs → can blocks budget Commit g.window ≡ Done
          → Ruled blocks budget least (commit_in blocks budget fs g)
      frames [] e d = r
      frames (f ∷ fs) e d = taken_ruled blocks good budget least g r f fs e
          (happens_is blocks budget Commit g.window d ∙ ap (λ l. commit l g.window) e)

      go : (b : Bool) → may blocks budget Commit g ≡ b
          → Ruled blocks budget least (cond b (commit_in blocks budget g.window.frames g) g)
      go false e = r
      go true e = frames g.window.frames refl (done_is (can blocks budget Commit g.window) e)

  -- part (1) of a cycle keeps the rule of window and grid
  pub ends_ruled : (g : Grid W) → Ruled blocks budget least g → Ruled blocks budget least (ends blocks budget g)
  ends_ruled g r = commit_ruled (seal_each blocks budget (numbers_of g.window.frames) g)
      (seals_ruled blocks good budget least (numbers_of g.window.frames) g r)

  -- part (1) of a cycle keeps the rule of the grid
  pub ends_rule : (g : Grid W) → WindowOk blocks budget g.window → RuleFrom least g
      → RuleFrom least (ends blocks budget g)
  ends_rule g ok rule =
      let k = ends_ruled g (record { ok = ok; ties = ties_of least g rule; fetch = rule.fetch }) in
      rule_of least (ends blocks budget g) k.ties k.fetch
