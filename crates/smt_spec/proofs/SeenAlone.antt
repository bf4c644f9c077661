-- What one program does among the others: it sees what it has made, and the others see only what is shared.
use Rattle.std.proofs.Common.{◌≡◌, ℕ, zero, suc, ◌==◌, Bool, true, false, cond, List, [], ◌∷◌, refl, sym, ap, ◌∙◌}
use Rattle.std.proofs.Common.{◌⊎◌, inl, inr, true≢false}
use Rattle.std.proofs.lemmas.Bool.{cond_both, eq-eqb, eqb-true, false_from_ne_true}
use Rattle.grid_cycle_spec.specs.Grid.{Grid}
use Rattle.grid_cycle_spec.specs.Choosing.{each}
use Rattle.smt_spec.specs.Programs.{Own, Four, grid_of, own_of, alone, put}
use Rattle.smt_spec.specs.Turns.{first_does, all_do}
use Rattle.smt_spec.specs.inside.Among.{Apart, Distinct, Has}

-- a number equals itself
pub same : (p : ℕ) → (p == p) ≡ true
same p = eq-eqb p p refl

-- what all programs share of a grid
abbrev pub Shared : Type 0 → Type 0
Shared W = (ℕ → ℕ) × W × ℕ

-- who is of some programs is not apart from them
apart_from : (p q : ℕ) (ps : List ℕ) → Apart p ps → Has q ps → (q == p) ≡ false
apart_from p q [] a h = absurd h
apart_from p q (x ∷ xs) a (inl e) = false_from_ne_true (q == p)
    (λ z. let i : q ≡ p = eqb-true q p z in true≢false (sym (same p) ∙ ap (λ j. p == j) (sym i ∙ sym e) ∙ a.0))
apart_from p q (x ∷ xs) a (inr h) = apart_from p q xs a.1 h

module _ {W : Type 0} where
  -- what of a grid all share
  abbrev pub shared : Grid W → Shared W
  shared h = (h.units, h.weather, h.counts.cycles)

  -- a program's own parts among these
  abbrev pub among : Own → Shared W → Grid W
  among o s = grid_of o s.0 s.1 s.2

  -- a program sees what it has made
  pub put_same : (p : ℕ) (h : Grid W) (g : Four W) → alone p (put p h g) ≡ h
  put_same p h g = ap (λ b. grid_of (cond b (own_of h) (g.own p)) h.units h.weather h.counts.cycles) (same p)

  -- of what another has made it sees what is shared
  pub put_other : (p q : ℕ) (h : Grid W) (g : Four W) → (p == q) ≡ false
      → alone p (put q h g) ≡ among (g.own p) (shared h)
  put_other p q h g e = ap (λ b. grid_of (cond b (own_of h) (g.own p)) h.units h.weather h.counts.cycles) e

  -- and nothing where it has left that
  pub put_left : (p q : ℕ) (h : Grid W) (g : Four W) → (p == q) ≡ false → shared h ≡ shared (alone q g)
      → alone p (put q h g) ≡ alone p g
  put_left p q h g e s = put_other p q h g e ∙ ap (among (g.own p)) s

  -- turns ------------------------------------------------------------------------------------------

  module _ (can : ℕ → Grid W → Bool) (does : ℕ → Grid W → Grid W)
      (leaves : (p : ℕ) (h : Grid W) → shared (does p h) ≡ shared h) where
    -- a turn of others is not seen
    pub first_others : (p : ℕ) (ps : List ℕ) (g : Four W) → Apart p ps → alone p (first_does can does ps g) ≡ alone
        p g
    first_others p [] g a = refl
    first_others p (q ∷ qs) g a = cond_both (can q (alone q g)) (put q (does q (alone q g)) g) (first_does can does
        qs g)
        (λ (k : Four W). alone p k ≡ alone p g)
        (λ e. put_left p q (does q (alone q g)) g a.0 (leaves q (alone q g)))
        (λ e. first_others p qs g a.1)

    -- the program that comes first does what it does alone
    pub first_alone : ((p : ℕ) (h : Grid W) → can p h ≡ false → does p h ≡ h) → (p : ℕ) (ps : List ℕ) (g : Four W)
        → Apart p ps → alone p (first_does can does (p ∷ ps) g) ≡ does p (alone p g)
    first_alone idle p ps g a = cond_both (can p (alone p g)) (put p (does p (alone p g)) g) (first_does can does ps
        g)
        (λ (k : Four W). alone p k ≡ does p (alone p g))
        (λ e. put_same p (does p (alone p g)) g)
        (λ e. first_others p ps g a ∙ sym (idle p (alone p g) e))

    -- any program does so, or does nothing
    pub first_either : (p : ℕ) (ps : List ℕ) (g : Four W) → Distinct ps
        → (alone p (first_does can does ps g) ≡ alone p g) ⊎ (alone p (first_does can does ps g) ≡ does p (alone p g))
    first_either p [] g d = inl refl
    first_either p (q ∷ qs) g d = cond_both (can q (alone q g)) (put q (does q (alone q g)) g) (first_does can does
        qs g)
        (λ (k : Four W). (alone p k ≡ alone p g) ⊎ (alone p k ≡ does p (alone p g)))
        (λ e. by (p == q) refl)
        (λ e. first_either p qs g d.1)
      where
        by : (b : Bool) → (p == q) ≡ b → (alone p (put q (does q (alone q g)) g) ≡ alone p g)
            ⊎ (alone p (put q (does q (alone q g)) g) ≡ does p (alone p g))
        by false e = inl (put_left p q (does q (alone q g)) g e (leaves q (alone q g)))
        by true e = inr (here (eqb-true p q e))
          where
            here : p ≡ q → alone p (put q (does q (alone q g)) g) ≡ does p (alone p g)
            here i = ap (λ x. alone x (put q (does q (alone q g)) g)) i ∙ put_same q (does q (alone q g)) g
                ∙ ap (λ x. does x (alone x g)) (sym i)

  module _ (does : ℕ → Grid W → Grid W) (leaves : (p : ℕ) (h : Grid W) → shared (does p h) ≡ shared h) where
    -- what others do one after another is not seen
    pub all_others : (p : ℕ) (ps : List ℕ) (g : Four W) → Apart p ps → alone p (all_do does ps g) ≡ alone p g
    all_others p [] g a = refl
    all_others p (q ∷ qs) g a = all_others p qs (put q (does q (alone q g)) g) a.1
        ∙ put_left p q (does q (alone q g)) g a.0 (leaves q (alone q g))

    -- the program that comes first does what it does alone
    pub all_alone : (p : ℕ) (ps : List ℕ) (g : Four W) → Apart p ps
        → alone p (all_do does (p ∷ ps) g) ≡ does p (alone p g)
    all_alone p ps g a = all_others p ps (put p (does p (alone p g)) g) a ∙ put_same p (does p (alone p g)) g

    -- and so does each of them
    pub all_at : (p : ℕ) (ps : List ℕ) (g : Four W) → Distinct ps → Has p ps
        → alone p (all_do does ps g) ≡ does p (alone p g)
    all_at p [] g d h = absurd h
    all_at p (q ∷ qs) g d (inl e) =
        ap (λ x. alone x (all_do does (q ∷ qs) g)) (sym e) ∙ all_alone q qs g d.0 ∙ ap (λ x. does x (alone x g)) e
    all_at p (q ∷ qs) g d (inr h) =
        let e : (p == q) ≡ false = apart_from q p qs d.0 h in
        all_at p qs (put q (does q (alone q g)) g) d.1 h
        ∙ ap (does p) (put_left p q (does q (alone q g)) g e (leaves q (alone q g)))

  -- stations one after another
  pub each_alone : (p : ℕ) (turn : ℕ → Four W → Four W) (own : ℕ → Grid W → Grid W)
      → ((n : ℕ) (g : Four W) → alone p (turn n g) ≡ own n (alone p g)) → (k : ℕ) (g : Four W)
      → alone p (each turn k g) ≡ each own k (alone p g)
  each_alone p turn own h zero g = refl
  each_alone p turn own h (suc k) g = h k (each turn k g) ∙ ap (own k) (each_alone p turn own h k g)
