-- Events one after another, and the last of them.
use Rattle.std.proofs.Common.{◌≡◌, ℕ, zero, suc, ◌+◌, List, [], ◌∷◌, length, take, slice_get, Some}
use Rattle.std.proofs.Common.{refl, sym, ap, ◌∙◌, arith, ◌<◌, get_or}
use Rattle.trips_isa.specs.declared.block.Block.{Block}
use Rattle.commit_flush_spec.specs.InFlight.{Window}
use Rattle.commit_flush_spec.specs.Window.{happens, plays}
use Rattle.frame_state.specs.declared.event.Event as code
use Rattle.commit_flush.specs.Seen.{Seen}
use Rattle.frame_state.specs.Events.{as_event, as_events}

-- one event more
pub played_more : (blocks : List Block) (budget : ℕ) (es : List code.Event) (i : ℕ) (e : code.Event) (w : Window)
    → slice_get es i ≡ Some e
    → happens blocks budget (as_event e) (plays blocks budget (as_events (take i es)) w)
    ≡ plays blocks budget (as_events (take (i + 1) es)) w
played_more blocks budget es i e w is = go es i w is ∙ ap (λ k. plays blocks budget (as_events (take k es)) w) next
  where
    next : suc i ≡ i + 1
    next = omega arith

    go : (xs : List code.Event) (k : ℕ) (v : Window) → slice_get xs k ≡ Some e
        → happens blocks budget (as_event e) (plays blocks budget (as_events (take k xs)) v)
        ≡ plays blocks budget (as_events (take (suc k) xs)) v
    go [] k v h = absurd (cc)
    go (x ∷ xs) zero v h = let same : x ≡ e = cc in ap (λ y. happens blocks budget (as_event y) v) (sym same)
    go (x ∷ xs) (suc k) v h = go xs k (happens blocks budget (as_event x) v) h

-- all of them
pub played_all : (blocks : List Block) (budget : ℕ) (es : List code.Event) (i : ℕ) (w : Window) → i ≡ length es
    → plays blocks budget (as_events (take i es)) w ≡ plays blocks budget (as_events es) w
played_all blocks budget es i w e =
    ap (λ xs. plays blocks budget (as_events xs) w) (ap (λ k. take k es) e ∙ whole es)
  where
    whole : (xs : List code.Event) → take (length xs) xs ≡ xs
    whole [] = refl
    whole (x ∷ xs) = ap (λ ys. x ∷ ys) (whole xs)

slice_get_of : (xs : List code.Event) (k : ℕ) (x y : code.Event) → k < length xs → x ≡ get_or xs k y
    → slice_get xs k ≡ Some x
slice_get_of [] k x y m u = absurd (omega (arith, m))
slice_get_of (z ∷ zs) zero x y m u = let same : x ≡ z = u in ap Some (sym same)
slice_get_of (z ∷ zs) (suc k) x y m u = slice_get_of zs k x y (omega (arith, m)) u

-- one event more, as the window is seen
pub played_seen : (v : Seen) (es : List code.Event) (i : ℕ) (e d : code.Event) (now new : Seen) → i < length es
    → e ≡ get_or es i d
    → now ≡ record v { window = plays v.image.blocks v.budget (as_events (take i es)) v.window }
    → new ≡ record now { window = happens now.image.blocks now.budget (as_event e) now.window }
    → new ≡ record v { window = plays v.image.blocks v.budget (as_events (take (i + 1) es)) v.window }
played_seen v es i e d now new l is w h =
    let at_i = slice_get_of es i e d l is in
    h ∙ ap (λ (z : Seen). record z { window = happens z.image.blocks z.budget (as_event e) z.window }) w
    ∙ ap (λ (x : Window). record v { window = x }) (played_more v.image.blocks v.budget es i e v.window at_i)
