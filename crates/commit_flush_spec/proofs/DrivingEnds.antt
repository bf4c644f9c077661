-- Driving ends: when all work is done there is no next event.
use Rattle.std.proofs.Common.{◌≡◌, ℕ, zero, suc, ◌<◌, ◌≤◌, List, [], ◌∷◌, Option, Some, None}
use Rattle.std.proofs.Common.{refl, sym, ap, ◌∙◌, arith}
use Rattle.trips_isa.specs.declared.block.Block.{Block}
use Rattle.commit_flush_spec.specs.Window.{Window, Event, happens, plays}
use Rattle.commit_flush_spec.specs.inside.Invariant.{AllGood}
use Rattle.commit_flush_spec.specs.inside.Laws.{WindowOk}
use Rattle.commit_flush_spec.proofs.Whole.{happens_moves}
use Rattle.commit_flush_spec.specs.inside.NextEvent.{next_event}
use Rattle.commit_flush_spec.specs.inside.Work.{work}
use Rattle.commit_flush_spec.specs.inside.Driving.{given, drives, driven}
use Rattle.commit_flush_spec.specs.inside.DrivingLaws.{HasGenerations}
use Rattle.commit_flush_spec.proofs.Lowered.{work_falls, may_fill, has_work, generations_last}

-- without a next event nothing changes
pub rests : (blocks : List Block) (budget n : ℕ) (w : Window) → next_event budget w ≡ None
    → drives blocks budget n w ≡ w
rests blocks budget zero w h = refl
rests blocks budget (suc n) w h =
    ap (λ t. drives blocks budget n (given blocks budget t w)) h ∙ rests blocks budget n w h

-- the window after a next event
pub record Onward (blocks : List Block) (budget : ℕ) (w v : Window) : Type 0 where
  pub ok : WindowOk blocks budget v
  pub room : HasGenerations budget v
  pub less : work budget v < work budget w

-- a next event keeps what driving stands on, and lowers the work
pub onward : (blocks : List Block) → AllGood blocks → (budget : ℕ) (w : Window) → WindowOk blocks budget w
    → HasGenerations budget w → (e : Event) → next_event budget w ≡ Some e
    → Onward blocks budget w (happens blocks budget e w)
onward blocks good budget w ok room e h =
    let less = work_falls blocks budget e w good ok (may_fill budget w room (has_work budget w e h)) h in
    record {
      ok = (happens_moves blocks good budget e w ok).ok;
      room = generations_last blocks budget e w room less;
      less = less;
    }

pub drives_end : (blocks : List Block) → AllGood blocks → (budget n : ℕ) (w : Window) → WindowOk blocks budget w
    → HasGenerations budget w → work budget w ≤ n → next_event budget (drives blocks budget n w) ≡ None
drives_end blocks good budget zero w ok room l = go (next_event budget w) refl
  where
    go : (t : Option Event) → next_event budget w ≡ t → next_event budget w ≡ None
    go None h = h
    go (Some e) h = absurd (let p = has_work budget w e h in omega (arith, p, l))
drives_end blocks good budget (suc n) w ok room l =
    go (next_event budget w) refl (λ v p q r. drives_end blocks good budget n v p q r)
  where
    go : (t : Option Event) → next_event budget w ≡ t → ((v : Window) → WindowOk blocks budget v
        → HasGenerations budget v → work budget v ≤ n → next_event budget (drives blocks budget n v) ≡ None)
        → next_event budget (drives blocks budget n (given blocks budget (next_event budget w) w)) ≡ None
    go None h rest = ap (λ t. next_event budget (drives blocks budget n (given blocks budget t w))) h
        ∙ ap (next_event budget) (rests blocks budget n w h) ∙ h
    go (Some e) h rest =
        let v = onward blocks good budget w ok room e h in
        ap (λ t. next_event budget (drives blocks budget n (given blocks budget t w))) h
        ∙ rest (happens blocks budget e w) v.ok v.room (let f = v.less in omega (arith, f, l))

-- behind a window that is driven to its end there is no next event
pub driven_ends : (blocks : List Block) (budget : ℕ) (w : Window) → AllGood blocks → WindowOk blocks budget w
    → HasGenerations budget w → next_event budget (driven blocks budget w) ≡ None
driven_ends blocks budget w good ok room = drives_end blocks good budget (work budget w) w ok room (omega arith)

-- what drives is some events
pub drives_play : (blocks : List Block) (budget n : ℕ) (w : Window)
    → (es : List Event) × (drives blocks budget n w ≡ plays blocks budget es w)
drives_play blocks budget zero w = ([], refl)
drives_play blocks budget (suc n) w = go (next_event budget w) (drives_play blocks budget n)
  where
    go : (t : Option Event)
        → ((v : Window) → (es : List Event) × (drives blocks budget n v ≡ plays blocks budget es v))
        → (es : List Event) × (drives blocks budget n (given blocks budget t w) ≡ plays blocks budget es w)
    go None rest = rest w
    go (Some e) rest = let r = rest (happens blocks budget e w) in (e ∷ r.0, r.1)

-- one event at a time ----------------------------------------------------------------------------

-- more events than work is left change nothing
enough : (blocks : List Block) → AllGood blocks → (budget n m : ℕ) (w : Window) → WindowOk blocks budget w
    → HasGenerations budget w → work budget w ≤ n → work budget w ≤ m
    → drives blocks budget n w ≡ drives blocks budget m w
enough blocks good budget zero m w ok room l k = go (next_event budget w) refl
  where
    go : (t : Option Event) → next_event budget w ≡ t → w ≡ drives blocks budget m w
    go None h = sym (rests blocks budget m w h)
    go (Some e) h = absurd (let p = has_work budget w e h in omega (arith, p, l))
enough blocks good budget (suc n) zero w ok room l k = go (next_event budget w) refl
  where
    go : (t : Option Event) → next_event budget w ≡ t → drives blocks budget (suc n) w ≡ w
    go None h = rests blocks budget (suc n) w h
    go (Some e) h = absurd (let p = has_work budget w e h in omega (arith, p, k))
enough blocks good budget (suc n) (suc m) w ok room l k =
    go (next_event budget w) refl (λ v p q r s. enough blocks good budget n m v p q r s)
  where
    go : (t : Option Event) → next_event budget w ≡ t → ((v : Window) → WindowOk blocks budget v
        → HasGenerations budget v → work budget v ≤ n → work budget v ≤ m
        → drives blocks budget n v ≡ drives blocks budget m v)
        → drives blocks budget (suc n) w ≡ drives blocks budget (suc m) w
    go None h rest = rests blocks budget (suc n) w h ∙ sym (rests blocks budget (suc m) w h)
    go (Some e) h rest =
        let v = onward blocks good budget w ok room e h in
        ap (λ t. drives blocks budget n (given blocks budget t w)) h
        ∙ rest (happens blocks budget e w) v.ok v.room
        (let f = v.less in omega (arith, f, l)) (let f = v.less in omega (arith, f, k))
        ∙ sym (ap (λ t. drives blocks budget m (given blocks budget t w)) h)

from_next : (blocks : List Block) → AllGood blocks → (budget n : ℕ) (e : Event) (w : Window)
    → WindowOk blocks budget w
    → HasGenerations budget w → work budget w ≤ n → next_event budget w ≡ Some e
    → drives blocks budget n w ≡ driven blocks budget (happens blocks budget e w)
from_next blocks good budget zero e w ok room l h = absurd (let p = has_work budget w e h in omega (arith, p, l))
from_next blocks good budget (suc n) e w ok room l h =
    let v = onward blocks good budget w ok room e h in
    ap (λ t. drives blocks budget n (given blocks budget t w)) h
    ∙ enough blocks good budget n (work budget (happens blocks budget e w)) (happens blocks budget e w) v.ok v.room
    (let f = v.less in omega (arith, f, l)) (omega arith)

-- a driven window may take its next event first
pub driven_steps : (blocks : List Block) (budget : ℕ) (e : Event) (w : Window) → AllGood blocks
    → WindowOk blocks budget w → HasGenerations budget w → next_event budget w ≡ Some e
    → (driven blocks budget w ≡ driven blocks budget (happens blocks budget e w))
    × HasGenerations budget (happens blocks budget e w)
driven_steps blocks budget e w good ok room h = (
  from_next blocks good budget (work budget w) e w ok room (omega arith) h,
  (onward blocks good budget w ok room e h).room,
)

-- a window with no next event is where driving ends
pub driven_rests : (blocks : List Block) (budget : ℕ) (w : Window) → next_event budget w ≡ None
    → driven blocks budget w ≡ w
driven_rests blocks budget w h = rests blocks budget (work budget w) w h
