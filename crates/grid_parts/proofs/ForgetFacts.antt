-- Frames that are forgotten and flushed.
use Rattle.std.proofs.Common.{◌≡◌, ◌≢◌, ℕ, suc, ◌<◌, ◌≤◌, ◌==◌, ◌||◌, ◌⊎◌, inl, inr, Bool, true, false, cond}
use Rattle.std.proofs.Common.{List, [], ◌∷◌, length, get_or, Option, None, refl, sym, ap, ap₂, ◌∙◌, arith}
use Rattle.std.proofs.Math.Path.{fun_ext}
use Rattle.std.proofs.lemmas.Bool.{cases_eq, eq-eqb, ne_eqb}
use Rattle.std.proofs.lemmas.List.{length-map}
use Rattle.operand_net.specs.Places.{Places}
use Rattle.operand_net.specs.declared.parcel.Stand.TheVariants.{Nowhere}
use Rattle.block_predict.specs.Predicts.{Holding, with_history}
use Rattle.commit_flush_spec.specs.Frames.{Frame}
use Rattle.grid_cycle_spec.specs.Grid.{Grid, Fetching, numbers_of, is_of, forget}
use Rattle.grid_cycle_spec.specs.Acting.{repaired, flushed_more, flushed}
use Rattle.grid_parts.specs.inside.Changes.{forget_each, flushed_under}

-- a grid with other parcels, requests and results
abbrev pub with_three : {W : Type 0} → Places → (ℕ → ℕ → Bool) → (ℕ → ℕ → Bool) → Grid W → Grid W
with_three parcels asked works g = record g { parcels = parcels; asked = asked; works = works }

-- a grid with other parcels, requests and results is the same where these are the same
pub three_same : {W : Type 0} (g : Grid W) (m m2 : Places) (a a2 k k2 : ℕ → ℕ → Bool) → m ≡ m2 → a ≡ a2 → k ≡ k2
    → with_three m a k g ≡ with_three m2 a2 k2 g
three_same g m m2 a a2 k k2 p q r = ap (λ x. with_three x a k g) p ∙ ap (λ x. with_three m2 x k g) q
    ∙ ap (λ x. with_three m2 a2 x g) r

cond_twice : {A : Type 0} (a b : Bool) (x y : A) → cond a x (cond b x y) ≡ cond (b || a) x y
cond_twice true true x y = refl
cond_twice true false x y = refl
cond_twice false true x y = refl
cond_twice false false x y = refl

-- frames are forgotten, then others
forget_twice : {W : Type 0} (p q r : ℕ → Bool) (g : Grid W) → ((m : ℕ) → (q m || p m) ≡ r m)
    → forget p (forget q g) ≡ forget r g
forget_twice p q r g is = three_same g _ _ _ _ _ _
    (fun_ext (λ f. fun_ext (λ n. cond_twice (p f) (q f) Nowhere (g.parcels f n)
    ∙ ap (λ b. cond b Nowhere (g.parcels f n)) (is f))))
    (fun_ext (λ f. fun_ext (λ n. cond_twice (p f) (q f) false (g.asked f n)
    ∙ ap (λ b. cond b false (g.asked f n)) (is f))))
    (fun_ext (λ f. fun_ext (λ n. cond_twice (p f) (q f) false (g.works f n)
    ∙ ap (λ b. cond b false (g.works f n)) (is f))))

eqb_swap : (a b : ℕ) → (a == b) ≡ (b == a)
eqb_swap a b = go (cases_eq a b)
  where
    go : (a ≡ b) ⊎ (a ≢ b) → (a == b) ≡ (b == a)
    go (inl e) = eq-eqb a b e ∙ sym (eq-eqb b a (sym e))
    go (inr n) = ne_eqb a b n ∙ sym (ne_eqb b a (λ e. n (sym e)))

pub forget_each_is : {W : Type 0} (fs : List Frame) (g : Grid W)
    → forget_each (numbers_of fs) g ≡ forget (is_of fs) g
forget_each_is [] g = refl
forget_each_is (f ∷ fs) g = forget_each_is fs (forget (λ m. m == f.number) g)
    ∙ forget_twice (is_of fs) (λ m. m == f.number) (is_of (f ∷ fs)) g
    (λ m. ap (λ b. b || is_of fs m) (eqb_swap m f.number))

-- what goes with a flush
abbrev under : {W : Type 0} → ℕ → ℕ → Grid W → Grid W
under history n g =
    repaired history (record g { fetching = None; standing = None; counts = flushed_more n g.counts })

-- to flush the frames of some numbers, and to take up the history of the first, is to flush these frames
pub flushed_is : {W : Type 0} (g : Grid W) (gone : List ℕ) (fs : List Frame) (h : ℕ) → numbers_of fs ≡ gone
    → 0 < length gone → h ≡ g.histories (get_or gone 0 0) → flushed_under h gone g ≡ flushed fs g
flushed_is g gone [] h e some eh = absurd (let l : 0 ≡ length gone = ap length e in omega (arith, l))
flushed_is g gone (f ∷ fs) h e some eh =
    ap (λ ns. flushed_under h ns g) (sym e)
    ∙ ap (λ x. under h (length (numbers_of (f ∷ fs))) x) (forget_each_is (f ∷ fs) g)
    ∙ ap₂ (λ a n. under a n (forget (is_of (f ∷ fs)) g)) (eh ∙ ap (λ ns. g.histories (get_or ns 0 0)) (sym e))
    (length-map (f ∷ fs) (λ (x : Frame). x.number))

-- to flush no frame changes nothing
pub flushed_none : {W : Type 0} (g : Grid W) (gone : List ℕ) (fs : List Frame) → numbers_of fs ≡ gone
    → length gone ≤ 0 → g ≡ flushed fs g
flushed_none g gone [] e none = refl
flushed_none g gone (f ∷ fs) e none =
    absurd (let l : suc (length (numbers_of fs)) ≡ length gone = ap length e in omega (arith, l))

abbrev pub flushing : {W : Type 0} → Holding → Option Fetching → ℕ → Grid W → Grid W
flushing p f n g = record g { predictor = p; fetching = f; standing = None; counts = flushed_more n g.counts }

-- the parts of a flush, where g is what has forgotten the frames
pub flush_parts : {W : Type 0} (x g : Grid W) (history : ℕ) (gone : List ℕ) (p : Holding) (f : Option Fetching)
    → g ≡ forget_each gone x → p ≡ with_history history g.predictor → f ≡ None
    → flushing p f (length gone) g ≡ flushed_under history gone x
flush_parts x g history gone p f eg ep ef =
    ap₂ (λ a b. flushing a b (length gone) g) ep ef ∙ ap (under history (length gone)) eg
