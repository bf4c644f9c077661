-- What the turn of one program in code is to the machine.
use Rattle.std.proofs.Common.{◌≡◌, ℕ, zero, suc, ◌+◌, ◌==◌, ◌<◌, ◌≤◌, ◌^◌, Bool, true, false, cond, List, [], ◌∷◌}
use Rattle.std.proofs.Common.{Some, length, set, slice_get, slice_index_or, refl, sym, ap, ◌∙◌, subst, arith}
use Rattle.std.proofs.Math.Path.{fun_ext}
use Rattle.std.proofs.lemmas.Bool.{eqb-false, eqb-true}
use Rattle.std.proofs.lemmas.List.{length-set}
use Rattle.std.proofs.lemmas.Option.{same_Some}
use Rattle.grid_cycle_spec.specs.Grid.{Grid}
use Rattle.smt_spec.specs.Programs.{Own, Four, grid_of, own_of, alone, put}
use Rattle.smt_mode.specs.Machines.{Program, blocks_in, blocks_of, four_by, images_by, own_in, seen_of}
use Rattle.smt_mode.specs.inside.Rooms.{AreReady, AreKept, HasRoom, IsWithin, Stays}

-- what is made of a choice
pub ap_cond : {A B : Type 0} (f : A → B) (b : Bool) (x y : A) → f (cond b x y) ≡ cond b (f x) (f y)
ap_cond f true x y = refl
ap_cond f false x y = refl

-- whether two numbers are the same, and whether the next ones are
same_next : (q p : ℕ) → (q == p) ≡ (suc q == suc p)
same_next q p = by (q == p) (suc q == suc p) refl refl
  where
    by : (a b : Bool) → (q == p) ≡ a → (suc q == suc p) ≡ b → a ≡ b
    by true true i j = refl
    by false false i j = refl
    by true false i j = let e : q ≡ p = eqb-true q p i in absurd (eqb-false (suc q) (suc p) j (ap suc e))
    by false true i j =
        let e : suc q ≡ suc p = eqb-true (suc q) (suc p) j in absurd (eqb-false q p i (omega (arith, e)))

-- what stands in a list of which one place has been set
pub get_set : {X : Type 0} (xs : List X) (p : ℕ) (y : X) → p < length xs → (q : ℕ)
    → slice_get (set xs p y) q ≡ cond (q == p) (Some y) (slice_get xs q)
get_set [] p y l q = absurd (omega (arith, l))
get_set (x ∷ xs) zero y l zero = refl
get_set (x ∷ xs) zero y l (suc q) = by (suc q == 0) refl
  where
    by : (b : Bool) → (suc q == 0) ≡ b → slice_get xs q ≡ cond b (Some y) (slice_get xs q)
    by true i = let n : suc q ≡ 0 = eqb-true (suc q) 0 i in absurd (omega (arith, n))
    by false i = refl
get_set (x ∷ xs) (suc p) y l zero = by (0 == suc p) refl
  where
    by : (b : Bool) → (0 == suc p) ≡ b → Some x ≡ cond b (Some y) (Some x)
    by true i = let n : 0 ≡ suc p = eqb-true 0 (suc p) i in absurd (omega (arith, n))
    by false i = refl
get_set (x ∷ xs) (suc p) y l (suc q) =
    get_set xs p y (omega (arith, l)) q ∙ ap (λ b. cond b (Some y) (slice_get xs q)) (same_next q p)

module _ (programs : List Program) (p : ℕ) (x y : Program) (l : p < length programs)
    (is : slice_get programs p ≡ Some x) where
  -- its number's place holds it
  here : (q : ℕ) → (q == p) ≡ true → slice_get programs q ≡ Some x
  here q i = ap (slice_get programs) (eqb-true q p i) ∙ is

  -- what each program has of its own where this one has changed
  pub own_set : ◌≡◌ {A = ℕ → Own} (λ q. own_in (slice_get (set programs p y) q))
      (λ q. cond (q == p) (own_of (seen_of y)) (own_in (slice_get programs q)))
  own_set = fun_ext (λ q. ap own_in (get_set programs p y l q)
      ∙ ap_cond own_in (q == p) (Some y) (slice_get programs q))

  -- its own parts are written back, among units that may have changed
  pub written_among : {W : Type 0} (units later : List ℕ) (weather : W) (cycles : ℕ) (h : Grid W)
      → h ≡ grid_of (own_of (seen_of y)) (λ t. slice_index_or later t 0) weather cycles
      → four_by (set programs p y) later weather cycles ≡ put p h (four_by programs units weather cycles)
  written_among units later weather cycles h e =
      ap (λ (o : ℕ → Own). record {
        own = o;
        units = λ t. slice_index_or later t 0;
        weather = weather;
        cycles = cycles;
      }) own_set
      ∙ sym (ap (λ k. put p k (four_by programs units weather cycles)) e)

  -- or among the same
  pub written : {W : Type 0} (units : List ℕ) (weather : W) (cycles : ℕ) (h : Grid W)
      → h ≡ grid_of (own_of (seen_of y)) (four_by programs units weather cycles).units weather cycles
      → four_by (set programs p y) units weather cycles ≡ put p h (four_by programs units weather cycles)
  written units weather cycles h e = written_among units units weather cycles h e

  -- nothing has changed where its own parts have not
  pub left_alone : {W : Type 0} (units : List ℕ) (weather : W) (cycles : ℕ)
      → own_of (seen_of y) ≡ own_of (seen_of x)
      → four_by (set programs p y) units weather cycles ≡ four_by programs units weather cycles
  left_alone units weather cycles e =
      ap (λ (o : ℕ → Own). record {
        own = o;
        units = (four_by programs units weather cycles).units;
        weather = weather;
        cycles = cycles;
      }) (own_set ∙ fun_ext (λ q. by q (q == p) refl))
    where
      by : (q : ℕ) (b : Bool) → (q == p) ≡ b
          → cond b (own_of (seen_of y)) (own_in (slice_get programs q)) ≡ own_in (slice_get programs q)
      by q true i = e ∙ sym (ap own_in (here q i))
      by q false i = refl

  module _ {W : Type 0} (units : List ℕ) (weather : W) (cycles : ℕ) where
    -- the machine before
    abbrev before : Four W
    before = four_by programs units weather cycles

    -- the program sees its own parts among what all share
    pub sees : alone p before ≡ grid_of (own_of (seen_of x)) before.units weather cycles
    sees = ap (λ o. grid_of (own_in o) before.units weather cycles) is

    module _ (turn : Grid (Unit {0}) → Grid (Unit {0})) (turn' : Grid W → Grid W)
        (alike : turn' (grid_of (own_of (seen_of x)) before.units weather cycles)
        ≡ grid_of (own_of (turn (seen_of x))) before.units weather cycles) where
      -- a turn that it makes as a grid of its own is its turn among the others
      pub turned : seen_of y ≡ turn (seen_of x)
          → four_by (set programs p y) units weather cycles ≡ put p (turn' (alone p before)) before
      turned e = written units weather cycles (turn' (alone p before)) (ap turn' sees ∙ alike
          ∙ ap (λ g. grid_of (own_of g) before.units weather cycles) (sym e))

      -- the same where it may have made none
      pub turned_if : (b : Bool) → seen_of y ≡ cond b (turn (seen_of x)) (seen_of x)
          → four_by (set programs p y) units weather cycles ≡ cond b (put p (turn' (alone p before)) before) before
      turned_if true e = turned e
      turned_if false e = left_alone units weather cycles (ap own_of e)

  -- images, budgets and counts ----------------------------------------------------------------------

  -- it has its image
  pub image_here : images_by programs p ≡ blocks_of x
  image_here = ap blocks_in is

  images_set : blocks_of y ≡ blocks_of x → images_by (set programs p y) ≡ images_by programs
  images_set image = fun_ext (λ q. ap blocks_in (get_set programs p y l q)
      ∙ ap_cond blocks_in (q == p) (Some y) (slice_get programs q) ∙ by q (q == p) refl)
    where
      by : (q : ℕ) (b : Bool) → (q == p) ≡ b
          → cond b (blocks_of y) (blocks_in (slice_get programs q)) ≡ blocks_in (slice_get programs q)
      by q true i = image ∙ sym (ap blocks_in (here q i))
      by q false i = refl

  module _ (budget cycles : ℕ) where
    within_set : (more : ℕ) → Stays more x y → IsWithin budget x → (q : ℕ) (z : Program)
        → ((q == p) ≡ false → slice_get programs q ≡ Some z → IsWithin budget z)
        → slice_get (set programs p y) q ≡ Some z → IsWithin budget z
    within_set more stays w q z other e = by (q == p) refl (sym (get_set programs p y l q) ∙ e)
      where
        by : (b : Bool) → (q == p) ≡ b → cond b (Some y) (slice_get programs q) ≡ Some z → IsWithin budget z
        by true i f = subst (IsWithin budget) (same_Some y z f) (record {
          budget = stays.budget ∙ w.budget;
          adds = stays.adds w.adds;
        })
        by false i f = other i f

    counts_set : (most : ℕ → ℕ → Type 0) → most p (y.state.counts.fetched)
        → ((q : ℕ) (z : Program) → (q == p) ≡ false → slice_get programs q ≡ Some z
        → most q (z.state.counts.fetched))
        → (q : ℕ) (z : Program) → slice_get (set programs p y) q ≡ Some z → most q (z.state.counts.fetched)
    counts_set most now other q z e = by (q == p) refl (sym (get_set programs p y l q) ∙ e)
      where
        by : (b : Bool) → (q == p) ≡ b → cond b (Some y) (slice_get programs q) ≡ Some z
            → most q (z.state.counts.fetched)
        by true i f = subst (λ (w : Program). most q (w.state.counts.fetched)) (same_Some y z f)
            (subst (λ r. most r (y.state.counts.fetched)) (sym (eqb-true q p i)) now)
        by false i f = other q z i f

    -- a program that stays leaves the machine ready
    pub kept : (gone : ℕ) → Stays 0 x y → AreReady gone programs budget cycles
        → AreKept gone programs budget cycles (set programs p y) budget cycles
    kept gone stays r = record {
      images = images_set stays.image;
      budget = refl;
      cycles = refl;
      ready = record {
        four = length-set programs p y ∙ r.four;
        within = λ q z e. within_set 0 stays (r.within p x is) q z (λ i. r.within q z) e;
        few = counts_set (λ q n. n ≤ cycles + 1)
            (let a = stays.few in let b = r.few p x is in omega (arith, a, b)) (λ q z i. r.few q z);
        fewer = λ q z e. counts_set (λ q n. gone ≤ q → n ≤ cycles)
            (λ m. let a = stays.few in let b = r.fewer p x is m in omega (arith, a, b)) (λ q z i. r.fewer q z) q z e;
        cycles = r.cycles;
      };
    }

    -- where its fetch has gone on, it is the next to have fetched one frame more
    pub kept_on : Stays 1 x y → AreReady p programs budget cycles
        → AreKept (p + 1) programs budget cycles (set programs p y) budget cycles
    kept_on stays r = record {
      images = images_set stays.image;
      budget = refl;
      cycles = refl;
      ready = record {
        four = length-set programs p y ∙ r.four;
        within = λ q z e. within_set 1 stays (r.within p x is) q z (λ i. r.within q z) e;
        few = counts_set (λ q n. n ≤ cycles + 1)
            (let a = stays.few in let b = r.fewer p x is (omega arith) in omega (arith, a, b))
            (λ q z i. r.few q z);
        fewer = λ q z e. counts_set (λ q n. p + 1 ≤ q → n ≤ cycles)
            (λ m. absurd (omega (arith, m)))
            (λ q z i f m. r.fewer q z f (omega (arith, m))) q z e;
        cycles = r.cycles;
      };
    }

    -- there is room for what it counts in a cycle
    pub room_of : (gone : ℕ) → AreReady gone programs budget cycles → HasRoom (2 ^ 63) x
    room_of gone r = record {
      adds = (r.within p x is).adds;
      few = let a = r.few p x is in let b = r.cycles in omega (arith, a, b);
    }

-- one change after another
pub kept_then : (gone more : ℕ) (xs ys zs : List Program) (budget budget' budget'' cycles cycles' cycles'' : ℕ)
    → AreKept gone xs budget cycles ys budget' cycles' → AreKept more ys budget' cycles' zs budget'' cycles''
    → AreKept more xs budget cycles zs budget'' cycles''
kept_then gone more xs ys zs budget budget' budget'' cycles cycles' cycles'' a b = record {
  images = b.images ∙ a.images;
  budget = b.budget ∙ a.budget;
  cycles = b.cycles ∙ a.cycles;
  ready = b.ready;
}

-- no change
pub kept_still : (gone : ℕ) (xs : List Program) (budget cycles : ℕ) → AreReady gone xs budget cycles
    → AreKept gone xs budget cycles xs budget cycles
kept_still gone xs budget cycles r = record { images = refl; budget = refl; cycles = refl; ready = r }
