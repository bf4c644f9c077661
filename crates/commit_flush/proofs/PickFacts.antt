-- Which event is next of a window whose oldest frame is known, and without one.
use Rattle.std.proofs.Common.{◌≡◌, ℕ, ◌<◌, ◌≤◌, Bool, true, false, cond, nat_le, List, [], ◌∷◌}
use Rattle.std.proofs.Common.{Option, Some, length, slice_get, refl, sym, ap, ap₂, ◌∙◌, subst, arith, map}
use Rattle.std.proofs.lemmas.Bool.Decides.{nat_tests}
use Rattle.trips_isa.specs.declared.block.Block.{Block}
use Rattle.trips_isa.specs.declared.run.Stepped.TheVariants.{Went}
use Rattle.trips_isa.specs.Machine.{State}
use Rattle.commit_flush_spec.specs.Frames.{Frame}
use Rattle.commit_flush_spec.specs.Older.{committed}
use Rattle.commit_flush_spec.specs.Ends.{complete}
use Rattle.commit_flush_spec.specs.Window.{Window, Event}
use Rattle.commit_flush_spec.specs.Window as event
use Rattle.commit_flush_spec.specs.inside.Laws.{WindowOk, AreNumbers}
use Rattle.commit_flush.specs.Places.{numbers_of}
use Rattle.commit_flush.specs.inside.Places.{frame_of}
use Rattle.commit_flush.proofs.FrameFacts.{oldest}
use Rattle.frame_state.specs.inside.Phases.{IsIdle}
use Rattle.commit_flush_spec.specs.inside.NextEvent.{next_step, next_of_frame, next_in, while_going, next_event}

-- one of two ------------------------------------------------------------------------------------

pub first_of : (b : Bool) (x y z : Option Event) → true ≡ b → x ≡ y → x ≡ cond b y z
first_of true x y z e i = i
first_of false x y z e i = absurd (cc)

pub second_of : (b : Bool) (x y z : Option Event) → false ≡ b → x ≡ z → x ≡ cond b y z
second_of true x y z e i = absurd (cc)
second_of false x y z e i = i

-- the oldest frame --------------------------------------------------------------------------------

-- one that does not run is committed
pub idle_next : (fs : List Frame) (s : State) (n : ℕ) → slice_get (numbers_of fs) 0 ≡ Some n
    → IsIdle (frame_of n fs) → Some event.Commit ≡ next_in fs s
idle_next [] s n a i = absurd (cc)
idle_next (f ∷ fs) s n a i =
    let sealed : f.sealed ≡ true = subst IsIdle (oldest (f ∷ fs) n a) i in
    sym (ap (λ b. cond b (Some event.Commit) (cond (complete f) (Some (event.Seal f.number))
    (next_step (committed s) f))) sealed)

-- and one that is found by its number is given its own next event
pub found_next : (fs : List Frame) (s : State) (n : ℕ) (g : Frame) → slice_get (numbers_of fs) 0 ≡ Some n
    → frame_of n fs ≡ Some g → next_of_frame (committed s) g ≡ next_in fs s
found_next [] s n g a i = absurd (cc)
found_next (f ∷ fs) s n g a i =
    let both : Some g ≡ Some f = sym i ∙ oldest (f ∷ fs) n a in
    let same : g ≡ f = cc in
    ap (next_of_frame (committed s)) same

-- the window --------------------------------------------------------------------------------------

le_false : (a b : ℕ) → b < a → nat_le a b ≡ false
le_false a b l = go (nat_le a b) refl
  where
    go : (c : Bool) → nat_le a b ≡ c → c ≡ false
    go false i = refl
    go true i = absurd (let e : a ≤ b = grind (arith, nat_tests) in omega (arith, e, l))

-- while the budget is not spent and the run goes on, the next event is the one that frames and state call for
pub unspent : (budget : ℕ) (w : Window) → length w.state.trace < budget → w.over ≡ Went
    → next_in w.frames w.state ≡ next_event budget w
unspent budget w l went =
    sym (ap₂ (λ o b. while_going o b (next_in w.frames w.state)) went (le_false budget (length w.state.trace) l))

-- its number is one of the eight
pub below_eight : (blocks : List Block) (budget : ℕ) (w : Window) (n : ℕ) → WindowOk blocks budget w
    → slice_get (numbers_of w.frames) 0 ≡ Some n → n < 8
below_eight blocks budget w n ok a = go w.frames refl a
  where
    go : (fs : List Frame) → w.frames ≡ fs → slice_get (numbers_of fs) 0 ≡ Some n → n < 8
    go [] i a = absurd (cc)
    go (f ∷ fs) i a =
        let number : f.number ≡ n = cc in
        let ns = subst (λ gs. AreNumbers (map (λ (g : Frame). g.number) gs)) i ok.numbers in
        subst (λ k. k < 8) number ns.0
