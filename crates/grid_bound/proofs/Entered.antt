-- What changes on the mesh where parcels enter it or are taken from it.
use Rattle.std.proofs.Common.{◌≡◌, ◌≢◌, ℕ, suc, ◌<◌, ◌==◌, ◌&&◌, ◌||◌, Bool, true, false, cond, ◌⊎◌, inl, inr}
use Rattle.std.proofs.Common.{is_some, slice_index, refl, sym, ap, ap₂, ◌∙◌, subst, arith}
use Rattle.operand_net.specs.declared.parcel.Stand.{Stand}
use Rattle.operand_net.specs.declared.parcel.Stand.TheVariants.{Away}
use Rattle.operand_net.specs.Places.{Places, put}
use Rattle.operand_net.specs.inside.IsStands.{is_here}
use Rattle.commit_flush_spec.specs.Frames.{Frame, at, target}
use Rattle.grid_cycle_spec.specs.Stations.{home}
use Rattle.grid_cycle_spec.specs.Grid.{Grid}
use Rattle.grid_cycle_spec.specs.Sending.{enters, enters_if, enter_both}
use Rattle.grid_cycle_spec.proofs.Routes.{home_inside}
use Rattle.grid_bound.specs.inside.Rule.{HeldFrom}
use Rattle.grid_bound.proofs.EachFrame.{same, apart}
use Rattle.grid_bound.proofs.Travels.{IsPlace}

-- one place has another parcel -------------------------------------------------------------------

-- a parcel that is put in a place stands there
pub put_here : (m : Places) (n p : ℕ) (s : Stand) → put m n p s n p ≡ s
put_here m n p s = ap₂ (λ a b. cond (a && b) s (m n p)) (same n) (same p)

-- to put something in a place changes no other
pub put_other : (m : Places) (n p : ℕ) (s : Stand) (k q : ℕ) → (k ≢ n) ⊎ (q ≢ p) → put m n p s k q ≡ m k q
put_other m n p s k q (inl d) = ap (λ a. cond (a && (q == p)) s (m k q)) (apart k n d)
put_other m n p s k q (inr d) = ap (λ b. cond ((k == n) && b) s (m k q)) (apart q p d) ∙ none (k == n)
  where
    none : (a : Bool) → cond (a && false) s (m k q) ≡ m k q
    none true = refl
    none false = refl

-- a condition of all parcels stays where the new one has it
pub put_each : (H : Stand → Type 0) (m : Places) (n p : ℕ) (s : Stand) (k q : ℕ) → H s → H (m k q)
    → H (put m n p s k q)
put_each H m n p s k q h was = go ((k == n) && (q == p))
  where
    go : (b : Bool) → H (cond b s (m k q))
    go true = h
    go false = was

-- parcels enter ----------------------------------------------------------------------------------

-- a parcel that enters at a node
abbrev pub away : {W : Type 0} → Grid W → ℕ → ℕ → ℕ → Stand
away g n from to =
    Away (record { generation = slice_index g.window.generations n; from = from; to = to }) from

-- the parcels after both tokens of a node have entered, the place of the first one being given
pub record Entered (f : Frame) (p : ℕ) (before after : Places) : Type 0 where
  pub others : (k q : ℕ) → (k ≢ f.number) ⊎ ((q ≢ p) × (q ≢ suc p)) → after k q ≡ before k q
  pub first : is_here (after f.number p) ≡ (is_some (at f.places p) || is_here (before f.number p))
  pub second : is_here (after f.number (suc p)) ≡ (is_some (at f.places (suc p)) || is_here (before f.number (suc p)))
  pub held : (least k q : ℕ) → HeldFrom least (before k q) → HeldFrom least (after k q)

-- either of them
pub enters_at : (f : Frame) (p : ℕ) (before after : Places) → Entered f p before after → (q : ℕ) → IsPlace p q
    → is_here (after f.number q) ≡ (is_some (at f.places q) || is_here (before f.number q))
enters_at f p before after e q (inl z) =
    subst (λ k. is_here (after f.number k) ≡ (is_some (at f.places k) || is_here (before f.number k))) (sym z) e.first
enters_at f p before after e q (inr z) =
    subst (λ k. is_here (after f.number k) ≡ (is_some (at f.places k) || is_here (before f.number k)))
    (sym z) e.second

-- one of them
abbrev one : Bool → Places → ℕ → ℕ → Stand → Places
one true m n p s = put m n p s
one false m n p s = m

one_other : (b : Bool) (m : Places) (n p : ℕ) (s : Stand) (k q : ℕ) → (k ≢ n) ⊎ (q ≢ p) → one b m n p s k q ≡ m k q
one_other true m n p s k q d = put_other m n p s k q d
one_other false m n p s k q d = refl

one_here : (b : Bool) (m : Places) (n p : ℕ) (s : Stand) → is_here s ≡ true
    → is_here (one b m n p s n p) ≡ (b || is_here (m n p))
one_here true m n p s h = ap is_here (put_here m n p s) ∙ h
one_here false m n p s h = refl

one_held : (b : Bool) (m : Places) (n p : ℕ) (s : Stand) (least k q : ℕ) → HeldFrom least s
    → HeldFrom least (m k q) → HeldFrom least (one b m n p s k q)
one_held true m n p s least k q h was = put_each (HeldFrom least) m n p s k q h was
one_held false m n p s least k q h was = was

module _ {W : Type 0} where
  enters_one : (from n p to : ℕ) (b : Bool) (g : Grid W)
      → cond b (enters n p from to g) g ≡ record g { parcels = one b g.parcels n p (away g n from to) }
  enters_one from n p to true g = refl
  enters_one from n p to false g = refl

  -- both tokens of a node enter
  module _ (from : ℕ) (low : from < 25) (f : Frame) (p : ℕ) (g : Grid W) where
    abbrev s1 : Stand
    s1 = away g f.number from (home f.code (target f.code p))

    abbrev s2 : Stand
    s2 = away g f.number from (home f.code (target f.code (suc p)))

    abbrev middle : Places
    middle = one (is_some (at f.places p)) g.parcels f.number p s1

    abbrev last : Places
    last = one (is_some (at f.places (suc p))) middle f.number (suc p) s2

    next : p ≢ suc p
    next z = absurd (omega (arith, z))

    enters_all : enter_both from f p g ≡ record g { parcels = last }
    enters_all =
        ap (enters_if from f (suc p)) (enters_one from f.number p (home f.code (target f.code p))
        (is_some (at f.places p)) g)
        ∙ enters_one from f.number (suc p) (home f.code (target f.code (suc p))) (is_some (at f.places (suc p)))
        (record g { parcels = middle })

    other : (k q : ℕ) → (k ≢ f.number) ⊎ ((q ≢ p) × (q ≢ suc p)) → last k q ≡ g.parcels k q
    other k q (inl d) = one_other (is_some (at f.places (suc p))) middle f.number (suc p) s2 k q (inl d)
        ∙ one_other (is_some (at f.places p)) g.parcels f.number p s1 k q (inl d)
    other k q (inr d) = one_other (is_some (at f.places (suc p))) middle f.number (suc p) s2 k q (inr d.1)
        ∙ one_other (is_some (at f.places p)) g.parcels f.number p s1 k q (inr d.0)

    -- where both tokens of a node enter the mesh, only the parcels change, in its two places
    pub both_enter : (after : Places) × (enter_both from f p g ≡ record g { parcels = after })
        × Entered f p g.parcels after
    both_enter = (
      last,
      enters_all,
      record {
        others = other;
        first = ap is_here (one_other (is_some (at f.places (suc p))) middle f.number (suc p) s2 f.number p
            (inr next))
            ∙ one_here (is_some (at f.places p)) g.parcels f.number p s1 refl;
        second = one_here (is_some (at f.places (suc p))) middle f.number (suc p) s2 refl
            ∙ ap (λ x. is_some (at f.places (suc p)) || is_here x)
            (one_other (is_some (at f.places p)) g.parcels f.number p s1 f.number (suc p) (inr (λ z. next (sym z))));
        held = λ least k q was. one_held (is_some (at f.places (suc p))) middle f.number (suc p) s2 least k q
            (low, home_inside f.code (target f.code (suc p)))
            (one_held (is_some (at f.places p)) g.parcels f.number p s1 least k q
            (low, home_inside f.code (target f.code p)) was);
      },
    )
