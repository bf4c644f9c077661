-- The tick of one frame of the mesh, which is a frame of one program's own.
use Rattle.std.proofs.Common.{◌≡◌, ◌≢◌, ℕ, ◌+◌, ◌*◌, ◌/◌, ◌%◌, ◌==◌, ◌<◌, ◌≤◌, Bool, true, false, cond, nat_lt, List}
use Rattle.std.proofs.Common.{zero, suc, length, set, slice_get, Some, refl, sym, ap, ap₂, ◌∙◌, arith, true≢false}
use Rattle.std.proofs.Math.Path.{fun_ext}
use Rattle.std.proofs.lemmas.Bool.{eq-eqb, eqb-true, ltb-true}
use Rattle.operand_net.specs.Places.{Places}
use Rattle.smt_spec.specs.Programs.{Own, Four, mesh, own_of, travelled}
use Rattle.smt_spec.proofs.FirstParts.{mesh_is}
use Rattle.smt_mode.specs.Machines.{Program, four_by, own_in, seen_of}
use Rattle.smt_mode.proofs.OneProgram.{own_set}

-- where a frame's parcels stand, as the code has them
abbrev parcels_of : Program → Places
parcels_of x = (own_of (seen_of x)).parcels

-- a program of which parcels alone have changed
pub record OnlyParcels (x y : Program) : Type 0 where
  pub own : own_of (seen_of y) ≡ record (own_of (seen_of x)) { parcels = parcels_of y }

module _ {W : Type 0} (g h : Four W) (units : h.units ≡ g.units) (cycles : h.cycles ≡ g.cycles)
    (own : (q : ℕ) → h.own q ≡ record (g.own q) { parcels = (h.own q).parcels })
    (high : (q f : ℕ) → 2 ≤ f → (h.own q).parcels f ≡ (g.own q).parcels f) where
  parcels_are : (q : ℕ) → (h.own q).parcels
      ≡ (λ f r. cond (nat_lt f 2) (mesh h (2 * q + f) r) ((g.own q).parcels f r))
  parcels_are q = fun_ext (λ f. fun_ext (λ r. by f r (nat_lt f 2) refl))
    where
      large : (f : ℕ) → nat_lt f 2 ≡ false → 2 ≤ f
      large zero e = absurd (true≢false e)
      large (suc zero) e = absurd (true≢false e)
      large (suc (suc f)) e = omega arith

      by : (f r : ℕ) (b : Bool) → nat_lt f 2 ≡ b
          → (h.own q).parcels f r ≡ cond b (mesh h (2 * q + f) r) ((g.own q).parcels f r)
      by f r true e = ap (λ row. row r) (sym (mesh_is h q f (ltb-true f 2 e)))
      by f r false e = ap (λ row. row r) (high q f (large f e))

  -- where parcels of frames 0 and 1 alone have changed, and the weather, parcels have travelled
  pub only_travelled : h ≡ travelled (mesh h) h.weather g
  only_travelled =
      ap₂ (λ (o : ℕ → Own) (u : ℕ → ℕ). record { own = o; units = u; weather = h.weather; cycles = h.cycles })
      (fun_ext (λ q. own q ∙ ap (λ p. record (g.own q) { parcels = p }) (parcels_are q))) units
      ∙ ap (λ n. record (travelled (mesh h) h.weather g) { cycles = n }) cycles

-- parcels that stay have travelled
pub travelled_same : {W : Type 0} (g : Four W) → g ≡ travelled (mesh g) g.weather g
travelled_same g = only_travelled g g refl refl (λ q. refl) (λ q f l. refl)

-- parcels that travel twice travel
pub travelled_twice : {W : Type 0} (p r : Places) (v w : W) (g : Four W)
    → travelled r w (travelled p v g) ≡ travelled r w g
travelled_twice p r v w g = ap (λ (o : ℕ → Own). record g { own = o; weather = w })
    (fun_ext (λ q. ap (λ k. record (g.own q) { parcels = k }) (fun_ext (λ f. fun_ext (λ s. by q f s (nat_lt f 2))))))
  where
    by : (q f s : ℕ) (b : Bool) → cond b (r (2 * q + f) s) (cond b (p (2 * q + f) s) ((g.own q).parcels f s))
        ≡ cond b (r (2 * q + f) s) ((g.own q).parcels f s)
    by q f s true = refl
    by q f s false = refl

module _ (programs : List Program) (p : ℕ) (x y : Program) (l : p < length programs)
    (is : slice_get programs p ≡ Some x) (only : OnlyParcels x y) (f : ℕ) (two : f < 2)
    (others : (k : ℕ) → k ≢ f → parcels_of y k ≡ parcels_of x k) where
  module _ {W : Type 0} (units : List ℕ) (cycles : ℕ) (v w : W) where
    abbrev before : Four W
    before = four_by programs units v cycles

    abbrev after : Four W
    after = four_by (set programs p y) units w cycles

    here : (q : ℕ) → (q == p) ≡ true → own_in (slice_get programs q) ≡ own_of (seen_of x)
    here q e = ap (λ i. own_in (slice_get programs i)) (eqb-true q p e) ∙ ap own_in is

    now : (q : ℕ) → after.own q ≡ cond (q == p) (own_of (seen_of y)) (before.own q)
    now q = ap (λ (o : ℕ → Own). o q) (own_set programs p x y l is)

    own_now : (q : ℕ) → after.own q ≡ record (before.own q) { parcels = (after.own q).parcels }
    own_now q = by (q == p) refl
      where
        by : (b : Bool) → (q == p) ≡ b → after.own q ≡ record (before.own q) { parcels = (after.own q).parcels }
        by true e =
            let n : after.own q ≡ own_of (seen_of y) =
            now q ∙ ap (λ b. cond b (own_of (seen_of y)) (before.own q)) e in
            n ∙ only.own ∙ ap₂ (λ (o : Own) k. record o { parcels = k }) (sym (here q e))
            (ap (λ (o : Own). o.parcels) (sym n))
        by false e =
            let n : after.own q ≡ before.own q =
            now q ∙ ap (λ b. cond b (own_of (seen_of y)) (before.own q)) e in
            n ∙ ap (λ (o : Own). record (before.own q) { parcels = o.parcels }) (sym n)

    parcels_now : (q k : ℕ) → ((q ≡ p) → k ≢ f) → (after.own q).parcels k ≡ (before.own q).parcels k
    parcels_now q k n = by (q == p) refl
      where
        by : (b : Bool) → (q == p) ≡ b → (after.own q).parcels k ≡ (before.own q).parcels k
        by true e = ap (λ (o : Own). o.parcels k) (now q ∙ ap (λ b. cond b (own_of (seen_of y)) (before.own q)) e)
            ∙ others k (n (eqb-true q p e)) ∙ ap (λ (o : Own). o.parcels k) (sym (here q e))
        by false e = ap (λ (o : Own). o.parcels k) (now q ∙ ap (λ b. cond b (own_of (seen_of y)) (before.own q)) e)

    -- of the machine too parcels alone have changed, and the weather
    pub tick_rest : after ≡ travelled (mesh after) w before
    tick_rest = only_travelled before after refl refl own_now
        (λ q k large. parcels_now q k (λ i e. let m = large in omega (arith, m, e, two)))

    -- another frame of the mesh is as it was
    pub tick_others : (n : ℕ) → n ≢ 2 * p + f → mesh after n ≡ mesh before n
    tick_others n ne = parcels_now (n / 2) (n % 2) (λ i e. ne (omega (arith, i, e)))

    -- the frame of the mesh is the program's own
    pub tick_before : mesh before (2 * p + f) ≡ parcels_of x f
    tick_before = mesh_is before p f two ∙ ap (λ (o : Own). o.parcels f) (here p (eq-eqb p p refl))

    pub tick_after : mesh after (2 * p + f) ≡ parcels_of y f
    tick_after = mesh_is after p f two ∙ ap (λ (o : Own). o.parcels f)
        (now p ∙ ap (λ b. cond b (own_of (seen_of y)) (before.own p)) (eq-eqb p p refl))
