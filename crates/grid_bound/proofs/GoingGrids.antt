-- A grid whose run goes on and that has its rule, and how one frame of it changes.
use Rattle.std.proofs.Common.{◌≡◌, ◌≢◌, ℕ, zero, suc, ◌<◌, Bool, true, false, List, [], ◌∷◌}
use Rattle.std.proofs.Common.{◌++◌, refl, sym, ap, ap₂, ◌∙◌, subst, true≢false, arith}
use Rattle.trips_isa.specs.declared.block.Block.{Block}
use Rattle.trips_isa.specs.declared.run.Stepped.TheVariants.{Went}
use Rattle.operand_net.specs.Places.{Places}
use Rattle.commit_flush_spec.specs.Frames.{Frame}
use Rattle.commit_flush_spec.specs.Older.{Older, after, after_all, committed}
use Rattle.commit_flush_spec.specs.Causes.{Cause, Happened, Done, NotNow}
use Rattle.commit_flush_spec.specs.Window.{Window, Event, on_frame, change, alone, can_now, unless_over, can, done}
use Rattle.commit_flush_spec.specs.Window.{if_done, happens}
use Rattle.commit_flush_spec.specs.inside.Invariant.{FrameOk, FramesOk, AllGood}
use Rattle.commit_flush_spec.specs.inside.Laws.{AllKept, NoneLost, WindowOk}
use Rattle.commit_flush_spec.proofs.Whole.{happens_moves}
use Rattle.commit_flush_spec.specs.inside.Work.{none_guessed}
use Rattle.grid_cycle_spec.specs.Grid.{Grid}
use Rattle.grid_cycle_spec.specs.Acting.{is_done, known_next}
use Rattle.grid_cycle_spec.specs.Choosing.{each}
use Rattle.grid_bound.specs.inside.UnderWay.{Nothing, Tied}
use Rattle.grid_bound.specs.inside.Rule.{EachFrame, FetchRule, FrameRule, HeldFrom, RuleFrom, UnitsRule}
use Rattle.grid_bound.proofs.EachFrame.{FrameAt, answered_at, changed_at, done_flight, each_rest, find_at}
use Rattle.grid_bound.proofs.EachFrame.{sealed_rests}
use Rattle.grid_bound.proofs.EventRules.{events_rule, went}
use Rattle.grid_bound.proofs.Ties.{Alike, TiesOf, rule_of, ties_again, ties_of, ties_step}

-- events -----------------------------------------------------------------------------------------

-- the test of an answer tells that it is done
pub done_is : (h : Happened) → is_done h ≡ true → h ≡ Done
done_is Done e = refl
done_is (NotNow c) e = absurd (true≢false (sym e))

-- an event that may happen does what it is defined to do
pub happens_is : (blocks : List Block) (budget : ℕ) (e : Event) (w : Window) → can blocks budget e w ≡ Done
    → happens blocks budget e w ≡ done blocks e w
happens_is blocks budget e w d = ap (λ h. if_done h (done blocks e w) w) d

-- what is not over and not refused is done
pub can_is : (blocks : List Block) (budget : ℕ) (e : Event) (w : Window) → w.over ≡ Went
    → can_now blocks budget e w ≡ Done → can blocks budget e w ≡ Done
can_is blocks budget e w o d = ap₂ (λ x h. unless_over x h) o d

-- the frame of a number sees what it sees, and is right
pub frames_at : (blocks : List Block) (o : Older) (fs : List Frame) (f : Frame) (gs : List Frame)
    → FramesOk blocks o (fs ++ f ∷ gs) → FrameOk blocks (after_all fs o) f
frames_at blocks o [] f gs ok = ok.2
frames_at blocks o (g ∷ fs) f gs ok = frames_at blocks (after g o) fs f gs ok.3

pub kept_at : (fs : List Frame) (f : Frame) (gs : List Frame) → AllKept (fs ++ f ∷ gs) → f.sealed ≡ false → NoneLost f
kept_at [] f gs k = k.0
kept_at (g ∷ fs) f gs k = kept_at fs f gs k.1

-- the oldest frames see the same, and the youngest exit alone makes a successor known
known_of : (gs : List Frame) (o p : Older) → o.known ≡ p.known → (after_all gs o).known ≡ (after_all gs p).known
known_of [] o p e = e
known_of (g ∷ gs) o p e = known_of gs (after g o) (after g p) refl

-- a frame that changes but keeps its exit leaves what is known of the next block
pub known_same : (fs : List Frame) (f g : Frame) (gs : List Frame) (o : Older) → g.exit ≡ f.exit
    → (after_all (fs ++ g ∷ gs) o).known ≡ (after_all (fs ++ f ∷ gs) o).known
known_same [] f g gs o e = known_of gs (after g o) (after f o) (ap (λ x. (after (record f { exit = x }) o).known) e)
known_same (h ∷ fs) f g gs o e = known_same fs f g gs (after h o) e

-- the grid ---------------------------------------------------------------------------------------

-- the run goes on, and window and grid have their rules
pub record Going {W : Type 0} (blocks : List Block) (budget least : ℕ) (g : Grid W) : Type 0 where
  pub ok : WindowOk blocks budget g.window
  pub went : g.window.over ≡ Went
  pub ties : TiesOf least g
  pub fetch : FetchRule (known_next g.window) g.fetching

-- turns, one after another
pub each_going : {W : Type 0} (blocks : List Block) (budget least : ℕ) (turn : ℕ → Grid W → Grid W) (m : ℕ)
    → ((n : ℕ) → n < m → (x : Grid W) → Going blocks budget least x → Going blocks budget least (turn n x))
    → (k : ℕ) → k < suc m → (g : Grid W) → Going blocks budget least g → Going blocks budget least (each turn k g)
each_going blocks budget least turn m h zero l g r = r
each_going blocks budget least turn m h (suc k) l g r =
    h k (omega (arith, l)) (each turn k g) (each_going blocks budget least turn m h k (omega (arith, l)) g r)

-- an event that is done acts at its frame
pub record Acted (can : Older → Frame → Happened) (n : ℕ) (w : Window) : Type 0 where
  pub there : FrameAt n w.frames
  pub asks : can (after_all there.older (committed w.state)) there.frame ≡ Done

-- an event that is done acts at its frame in flight, where it may be done
pub acted : (blocks : List Block) (budget : ℕ) (c : Cause) (can : Older → Frame → Happened) (n : ℕ) (w : Window)
    → WindowOk blocks budget w → on_frame (NotNow c) can (committed w.state) w.frames n ≡ Done → Acted can n w
acted blocks budget c can n w ok d =
    let a = find_at n w.frames ok.numbers (done_flight c can (committed w.state) w.frames n d) in
    record { there = a; asks = sym (answered_at (NotNow c) can (committed w.state) n w.frames a) ∙ d }

module _ {W : Type 0} (blocks : List Block) (good : AllGood blocks) (budget : ℕ) (g : Grid W) (n : ℕ)
    (a : FrameAt n g.window.frames) where
  -- what the frame sees
  abbrev pub sees : Older
  sees = after_all a.older (committed g.window.state)

  -- a frame of a right window is right
  pub frame_ok : WindowOk blocks budget g.window → FrameOk blocks sees a.frame
  frame_ok ok = frames_at blocks (committed g.window.state) a.older a.frame a.younger
      (subst (FramesOk blocks (committed g.window.state)) a.split ok.frames)

  pub frame_kept : WindowOk blocks budget g.window → a.frame.sealed ≡ false → NoneLost a.frame
  frame_kept ok = kept_at a.older a.frame a.younger (subst AllKept a.split ok.kept)

  -- the frame keeps the rule of frames
  pub frame_rule : EachFrame FrameRule g.window.frames → FrameRule a.frame
  frame_rule r = (each_rest FrameRule a.older (a.frame ∷ a.younger) (subst (EachFrame FrameRule) a.split r)).0

  -- what is under way of a frame that runs is what is to be
  pub frame_tied : (least : ℕ) → TiesOf least g → a.frame.sealed ≡ false
      → Tied (g.parcels n) (g.asked n) (g.works n) a.frame
  frame_tied least t runs =
      subst (λ m. Tied (g.parcels m) (g.asked m) (g.works m) a.frame) a.number
      ((each_rest (λ f. f.sealed ≡ false → Tied (g.parcels f.number) (g.asked f.number) (g.works f.number) f) a.older
      (a.frame ∷ a.younger) (subst (EachFrame (λ f. f.sealed ≡ false
      → Tied (g.parcels f.number) (g.asked f.number) (g.works f.number) f)) a.split t.tied)).0 runs)

  -- a frame of which something is under way runs
  pub awake : (least : ℕ) → TiesOf least g → (Nothing (g.parcels n) (g.asked n) (g.works n) → ⊥)
      → a.frame.sealed ≡ false
  awake least t some = go a.frame.sealed refl
    where
      go : (b : Bool) → a.frame.sealed ≡ b → a.frame.sealed ≡ false
      go false e = e
      go true e = absurd (some (t.nothing n (sealed_rests n g.window.frames a e)))

  -- a careful frame has guessed no load
  pub frame_sure : (least : ℕ) → TiesOf least g → g.careful n ≡ true → none_guessed a.frame ≡ true
  frame_sure least t e =
      (each_rest (λ f. g.careful f.number ≡ true → none_guessed f ≡ true) a.older (a.frame ∷ a.younger)
      (subst (EachFrame (λ f. g.careful f.number ≡ true → none_guessed f ≡ true)) a.split t.unguessed)).0
      (ap g.careful a.number ∙ e)

  -- the window with another frame in its place
  abbrev pub moved_to : Frame → Window
  moved_to f = record g.window { frames = a.older ++ f ∷ a.younger }

  -- an event has changed the frame, and no other
  pub record Moved (e : Event) (f : Frame) : Type 0 where
    pub is : happens blocks budget e g.window ≡ moved_to f
    pub ok : WindowOk blocks budget (moved_to f)
    pub rules : EachFrame FrameRule (a.older ++ f ∷ a.younger)

  -- an event that moves one frame keeps the window's invariant and the rule of the frames
  pub moved : (least : ℕ) → Going blocks budget least g → (e : Event) (f : Frame)
      → can blocks budget e g.window ≡ Done
      → done blocks e g.window ≡ moved_to f → Moved e f
  moved least r e f d same =
      let is : happens blocks budget e g.window ≡ moved_to f = happens_is blocks budget e g.window d ∙ same in
      record {
        is = is;
        ok = subst (WindowOk blocks budget) is (happens_moves blocks good budget e g.window r.ok).ok;
        rules = subst (λ (w : Window). EachFrame FrameRule w.frames) is
            (events_rule blocks good budget e g.window r.ok r.ties.frames);
      }

  -- a change of the frame alone
  pub alone_is : (does : Older → Frame → Frame)
      → record g.window { frames = change (alone does) (committed g.window.state) g.window.frames n }
      ≡ moved_to (does sees a.frame)
  alone_is does = ap (λ l. record g.window { frames = l })
      (changed_at (alone does) (committed g.window.state) n g.window.frames a)

  -- the grid after that, with what is under way of the frame
  pub stepped : (least : ℕ) → Going blocks budget least g → (e : Event) (f : Frame) → Moved e f → (parcels : Places)
      (asked works : ℕ → ℕ → Bool) (units : ℕ → ℕ) → f.number ≡ n → f.sealed ≡ false → f.exit ≡ a.frame.exit
      → ((m : ℕ) → m ≢ n → Alike (g.parcels m) (parcels m) (g.asked m) (asked m) (g.works m) (works m))
      → Tied (parcels n) (asked n) (works n) f → (g.careful n ≡ true → none_guessed f ≡ true)
      → UnitsRule units works → ((p : ℕ) → p < 320 → HeldFrom least (parcels n p))
      → Going blocks budget least (record g {
        window = moved_to f;
        parcels = parcels;
        asked = asked;
        works = works;
        units = units;
      })
  stepped least r e f m parcels asked works units number runs exit others tied sure busy held = record {
    ok = m.ok;
    went = r.went;
    ties = ties_step least n g.window.frames a f g.parcels parcels g.asked asked g.works works g.careful g.units units
        number others r.ties runs m.rules tied sure busy held;
    fetch = subst (λ k. FetchRule k g.fetching)
        (ap (λ l. (after_all l (committed g.window.state)).known) a.split
        ∙ sym (known_same a.older a.frame f a.younger (committed g.window.state) exit)) r.fetch;
  }

  -- no event, but what is under way of the frame has changed
  pub stayed : (least : ℕ) → Going blocks budget least g → (parcels : Places)
      (asked works : ℕ → ℕ → Bool) (units : ℕ → ℕ) → a.frame.sealed ≡ false
      → ((m : ℕ) → m ≢ n → Alike (g.parcels m) (parcels m) (g.asked m) (asked m) (g.works m) (works m))
      → Tied (parcels n) (asked n) (works n) a.frame → UnitsRule units works
      → ((p : ℕ) → p < 320 → HeldFrom least (parcels n p))
      → Going blocks budget least (record g { parcels = parcels; asked = asked; works = works; units = units })
  stayed least r parcels asked works units runs others tied busy held = record {
    ok = r.ok;
    went = r.went;
    ties = ties_again least n g.window.frames a a.frame g.parcels parcels g.asked asked g.works works g.careful
        g.units
        units a.number others r.ties refl runs tied busy held;
    fetch = r.fetch;
  }

-- what keeps a grid going keeps its rule
pub kept : {W : Type 0} (blocks : List Block) (budget least : ℕ) (g h : Grid W)
    → (Going blocks budget least g → Going blocks budget least h) → WindowOk blocks budget g.window
    → g.window.over ≡ Went → RuleFrom least g → RuleFrom least h
kept blocks budget least g h does ok went rule =
    let k = does (record { ok = ok; went = went; ties = ties_of least g rule; fetch = rule.fetch }) in
    rule_of least h k.ties k.fetch
