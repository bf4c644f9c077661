-- Part (6): to take the eldest parcel that has come, again and again, is the fold over frames and places, since what
-- is done with a parcel makes no other one come.
use Rattle.std.proofs.Common.{◌≡◌, ◌≢◌, ℕ, zero, suc, ◌+◌, ◌/◌, ◌<◌, ◌≤◌, ◌==◌, ◌&&◌, Bool, true, false, cond}
use Rattle.std.proofs.Common.{nat_lt, ◌⊎◌, inl, inr, List, [], ◌∷◌, Option, Some, None, refl, sym}
use Rattle.std.proofs.Common.{ap, ◌∙◌, subst, arith}
use Rattle.std.specs.Option.{option_or}
use Rattle.std.proofs.lemmas.Bool.{cases_eq, cases_lt, eq-eqb, and_from}
use Rattle.trips_isa.specs.declared.block.Block.{Block}
use Rattle.trips_isa.specs.declared.block.Inst.{Inst}
use Rattle.trips_isa.specs.declared.form.Form.{Form}
use Rattle.trips_isa.specs.declared.form.Form.TheVariants as form
use Rattle.trips_isa.specs.Forms.{form_of}
use Rattle.block_cases.specs.Orders.{slot_of}
use Rattle.operand_net.specs.declared.parcel.Parcel.{Parcel}
use Rattle.operand_net.specs.declared.parcel.Stand.{Stand}
use Rattle.operand_net.specs.declared.parcel.Stand.TheVariants.{Nowhere, Away, Held}
use Rattle.operand_net.specs.Places.{Places}
use Rattle.operand_net.specs.inside.Places.{come, eldest, lowest, in_frame, without}
use Rattle.commit_flush_spec.specs.Frames.{Frame, at, first_read_place}
use Rattle.commit_flush_spec.specs.Window as window
use Rattle.commit_flush_spec.specs.Window.{Window, happens}
use Rattle.grid_cycle_spec.specs.Grid.{Grid, is_of}
use Rattle.grid_cycle_spec.specs.Acting.{act, flushed, gone}
use Rattle.grid_cycle_spec.specs.Choosing.{each, with_frame}
use Rattle.grid_cycle_spec.specs.inside.Choosing.{places}
use Rattle.grid_cycle_spec.specs.inside.Arrivals.{asks, delivers, is_waiting, slot_arrives, inst_arrives}
use Rattle.grid_cycle_spec.specs.inside.Arrivals.{place_arrives, arrives_if, arrival}
use Rattle.grid_parts.specs.inside.EmptyPlaces.{AreQuiet}

places_are : places ≡ 320
unfolding places
places_are = refl

-- no parcel more: each place has what it had, or nothing
abbrev pub NoMore : Places → Places → Type 0
NoMore a b = (f p : ℕ) → (b f p ≡ a f p) ⊎ (b f p ≡ Nowhere)

chained : (a b c : Places) → NoMore a b → NoMore b c → NoMore a c
chained a b c x y f p = go (y f p)
  where
    go : (c f p ≡ b f p) ⊎ (c f p ≡ Nowhere) → (c f p ≡ a f p) ⊎ (c f p ≡ Nowhere)
    go (inr n) = inr n
    go (inl e) = also (x f p)
      where
        also : (b f p ≡ a f p) ⊎ (b f p ≡ Nowhere) → (c f p ≡ a f p) ⊎ (c f p ≡ Nowhere)
        also (inl d) = inl (e ∙ d)
        also (inr n) = inr (e ∙ n)

hidden : (b : Bool) (s : Stand) → (cond b Nowhere s ≡ s) ⊎ (cond b Nowhere s ≡ Nowhere)
hidden true s = inr refl
hidden false s = inl refl

-- what has not come has not come behind it
still_none : (a b : Places) → NoMore a b → (f p : ℕ) → come f p (a f p) ≡ None → come f p (b f p) ≡ None
still_none a b h f p e = go (h f p)
  where
    go : (b f p ≡ a f p) ⊎ (b f p ≡ Nowhere) → come f p (b f p) ≡ None
    go (inl d) = ap (come f p) d ∙ e
    go (inr n) = ap (come f p) n

abbrev frame_in : Option Parcel → ℕ
frame_in None = 0
frame_in (Some c) = c.frame

abbrev place_in : Option Parcel → ℕ
place_in None = 0
place_in (Some c) = c.place

-- what has come is the parcel of its place
pub come_at : (f p : ℕ) (s : Stand) (c : Parcel) → come f p s ≡ Some c → (f ≡ c.frame) × (p ≡ c.place)
come_at f p Nowhere c e = absurd (cc)
come_at f p (Away t a) c e = absurd (cc)
come_at f p (Held t zero) c e = (ap frame_in e, ap place_in e)
come_at f p (Held t (suc h)) c e = absurd (cc)

module _ {W : Type 0} (blocks : List Block) (budget : ℕ) where
  flushed_no_more : (fs : List Frame) (g : Grid W) → NoMore g.parcels (flushed fs g).parcels
  flushed_no_more [] g f p = inl refl
  flushed_no_more (h ∷ fs) g f p = hidden (is_of (h ∷ fs) f) (g.parcels f p)

  act_no_more : (e : window.Event) (g : Grid W) → NoMore g.parcels (act blocks budget e g).parcels
  act_no_more e g =
      let v : Window = happens blocks budget e g.window in flushed_no_more (gone g.window v) (record g { window = v })

  either : (g : Grid W) (x y : Grid W) (b : Bool) → NoMore g.parcels x.parcels → NoMore g.parcels y.parcels
      → NoMore g.parcels (cond b x y).parcels
  either g x y true s t = s
  either g x y false s t = t

  same : (g : Grid W) → NoMore g.parcels g.parcels
  same g f p = inl refl

  slot_no_more : (k : Form) (i : Inst) (p : ℕ) (f : Frame) (g : Grid W)
      → NoMore g.parcels (slot_arrives blocks budget k i p f g).parcels
  slot_no_more form.Load i p f g = either g (asks f.number i.number g) (delivers blocks budget f.number p g)
      (is_waiting (at f.requests i.number) (p / 2)) (same g) (same g)
  slot_no_more form.Store i p f g = same g
  slot_no_more form.Branch i p f g = act_no_more (window.Exit f.number) g
  slot_no_more form.General i p f g = same g
  slot_no_more form.Immediate i p f g = same g
  slot_no_more form.Constant i p f g = same g

  inst_no_more : (o : Option Inst) (p : ℕ) (f : Frame) (g : Grid W)
      → NoMore g.parcels (inst_arrives blocks budget o p f g).parcels
  inst_no_more None p f g = same g
  inst_no_more (Some i) p f g = slot_no_more (form_of i.op) i p f g

  place_no_more : (p : ℕ) (f : Frame) (g : Grid W) → NoMore g.parcels (place_arrives blocks budget p f g).parcels
  place_no_more p f g = either g (inst_arrives blocks budget (slot_of f.code (p / 2)) p f g)
      (delivers blocks budget f.number p g) (nat_lt p first_read_place)
      (inst_no_more (slot_of f.code (p / 2)) p f g) (same g)

  frame_no_more : (n p : ℕ) (fs : List Frame) (g : Grid W)
      → NoMore g.parcels (with_frame n (place_arrives blocks budget p) fs g).parcels
  frame_no_more n p [] g = same g
  frame_no_more n p (f ∷ fs) g = either g (place_arrives blocks budget p f g)
      (with_frame n (place_arrives blocks budget p) fs g) (f.number == n) (place_no_more p f g)
      (frame_no_more n p fs g)

  -- a parcel is taken from the mesh, and arrives in a place of the frame of a number
  abbrev pub handled : ℕ → ℕ → Parcel → Grid W → Grid W
  handled n p c g = with_frame n (place_arrives blocks budget p) g.window.frames
      (record g { parcels = without g.parcels (Some c) })

  handled_no_more : (n p : ℕ) (c : Parcel) (g : Grid W) → NoMore g.parcels (handled n p c g).parcels
  handled_no_more n p c g = chained g.parcels (without g.parcels (Some c)) (handled n p c g).parcels
      (λ f q. hidden (f == c.frame && q == c.place) (g.parcels f q))
      (frame_no_more n p g.window.frames (record g { parcels = without g.parcels (Some c) }))

  -- places of one frame ----------------------------------------------------------------------------

  quiet : (n p : ℕ) (g : Grid W) → come n p (g.parcels n p) ≡ None → arrival blocks budget n p g ≡ g
  quiet n p g e = ap (λ o. arrives_if blocks budget n p o g) e

  pub each_quiet : (n k : ℕ) (g : Grid W) → AreQuiet g.parcels n k → each (arrival blocks budget n) k g ≡ g
  each_quiet n zero g q = refl
  each_quiet n (suc k) g q =
      ap (arrival blocks budget n k) (each_quiet n k g (λ p l. q p (omega arith)))
      ∙ quiet n k g (q k (omega arith))

  -- nothing is left to do where nothing has come in any place
  pub all_quiet : (n k : ℕ) (g : Grid W) → 320 ≤ k → AreQuiet g.parcels n k
      → each (arrival blocks budget n) places g ≡ g
  all_quiet n k g far q = each_quiet n places g (λ p l. q p (within p l))
    where
      within : (p : ℕ) → p < places → p < k
      within p l = let e = places_are in omega (arith, e)

  -- the parcel that was handled has come no longer
  gone_itself : (n p : ℕ) (c : Parcel) (g : Grid W) → come n p (g.parcels n p) ≡ Some c
      → come n p ((handled n p c g).parcels n p) ≡ None
  gone_itself n p c g e =
      go (frame_no_more n p g.window.frames (record g { parcels = without g.parcels (Some c) }) n p)
    where
      taken : without g.parcels (Some c) n p ≡ Nowhere
      taken =
          let is = come_at n p (g.parcels n p) c e in
          ap (λ b. cond b Nowhere (g.parcels n p)) (and_from (n == c.frame) (p == c.place)
          (eq-eqb n c.frame is.0) (eq-eqb p c.place is.1))

      go : ((handled n p c g).parcels n p ≡ without g.parcels (Some c) n p)
          ⊎ ((handled n p c g).parcels n p ≡ Nowhere)
          → come n p ((handled n p c g).parcels n p) ≡ None
      go (inl d) = ap (come n p) (d ∙ taken)
      go (inr d) = ap (come n p) d

  -- to handle the first parcel of a frame that has come leaves the fold as it is
  module _ (n q : ℕ) (c : Parcel) (g : Grid W) (here : come n q (g.parcels n q) ≡ Some c)
      (first : AreQuiet g.parcels n q) where
    pub after_quiet : AreQuiet (handled n q c g).parcels n (suc q)
    after_quiet p l = go (cases_eq p q)
      where
        go : (p ≡ q) ⊎ (p ≢ q) → come n p ((handled n q c g).parcels n p) ≡ None
        go (inl e) = subst (λ k. come n k ((handled n q c g).parcels n k) ≡ None) (sym e) (gone_itself n q c g here)
        go (inr ne) = still_none g.parcels (handled n q c g).parcels (handled_no_more n q c g) n p
            (first p (omega (arith, ne)))

    pub each_handled : (k : ℕ) → q < k
        → each (arrival blocks budget n) k g ≡ each (arrival blocks budget n) k (handled n q c g)
    each_handled zero l = absurd (omega arith)
    each_handled (suc k) l = go (cases_eq q k) (λ ne. each_handled k (omega (arith, ne)))
      where
        go : (q ≡ k) ⊎ (q ≢ k)
            → (q ≢ k → each (arrival blocks budget n) k g ≡ each (arrival blocks budget n) k (handled n q c g))
            → arrival blocks budget n k (each (arrival blocks budget n) k g)
            ≡ arrival blocks budget n k (each (arrival blocks budget n) k (handled n q c g))
        go (inl e) rest = subst (λ j. arrival blocks budget n j (each (arrival blocks budget n) j g)
            ≡ arrival blocks budget n j (each (arrival blocks budget n) j (handled n q c g))) e
            (ap (arrival blocks budget n q) (each_quiet n q g first)
            ∙ ap (λ o. arrives_if blocks budget n q o g) here
            ∙ sym (each_quiet n (suc q) (handled n q c g) after_quiet))
        go (inr ne) rest = ap (arrival blocks budget n k) (rest ne)

-- the lowest parcel of a frame that has come -------------------------------------------------------

-- it stands at place q, and nothing has come in the places before from p on
pub record IsLowest (m : Places) (f p n : ℕ) (c : Parcel) : Type 0 where
  pub place : ℕ
  pub from : p ≤ place
  pub below : place < p + n
  pub here : come f place (m f place) ≡ Some c
  pub first : (i : ℕ) → p ≤ i → i < place → come f i (m f i) ≡ None

pub lowest_found : (m : Places) (f p n : ℕ) (c : Parcel) → lowest m f p n ≡ Some c → IsLowest m f p n c
lowest_found m f p zero c e = absurd (cc)
lowest_found m f p (suc n) c e = go (come f p (m f p)) refl e (lowest_found m f (p + 1) n c)
  where
    go : (o : Option Parcel) → come f p (m f p) ≡ o → option_or o (lowest m f (p + 1) n) ≡ Some c
        → (lowest m f (p + 1) n ≡ Some c → IsLowest m f (p + 1) n c) → IsLowest m f p (suc n) c
    go (Some d) is e behind = record {
      place = p;
      from = omega arith;
      below = omega arith;
      here = is ∙ e;
      first = λ i a b. absurd (omega arith);
    }
    go None is e behind =
        let l = behind e in
        let a = l.from in
        let b = l.below in
        record {
          place = l.place;
          from = omega (arith, a);
          below = omega (arith, b);
          here = l.here;
          first = λ i x y. first_of l i x y (cases_eq i p);
        }
      where
        first_of : (l : IsLowest m f (p + 1) n c) (i : ℕ) → p ≤ i → i < l.place → (i ≡ p) ⊎ (i ≢ p)
            → come f i (m f i) ≡ None
        first_of l i x y (inl e) = subst (λ k. come f k (m f k) ≡ None) (sym e) is
        first_of l i x y (inr ne) = l.first i (omega (arith, ne)) y

pub lowest_none : (m : Places) (f p n : ℕ) → lowest m f p n ≡ None → (i : ℕ) → p ≤ i → i < p + n
    → come f i (m f i) ≡ None
lowest_none m f p zero e i a b = absurd (omega arith)
lowest_none m f p (suc n) e i a b = go (come f p (m f p)) refl e (cases_eq i p)
    (λ d ne. lowest_none m f (p + 1) n d i (omega (arith, ne)) (omega arith))
  where
    go : (o : Option Parcel) → come f p (m f p) ≡ o → option_or o (lowest m f (p + 1) n) ≡ None → (i ≡ p) ⊎ (i ≢ p)
        → (lowest m f (p + 1) n ≡ None → i ≢ p → come f i (m f i) ≡ None) → come f i (m f i) ≡ None
    go (Some d) is e c behind = absurd (cc)
    go None is e (inl c) behind = subst (λ k. come f k (m f k) ≡ None) (sym c) is
    go None is e (inr c) behind = behind e c

-- the eldest parcel of one frame ---------------------------------------------------------------------

in_frame_found : (m : Places) (n : ℕ) (c : Parcel) → in_frame m n ≡ Some c → IsLowest m n 0 320 c
unfolding in_frame
in_frame_found m n c e = lowest_found m n 0 320 c e

in_frame_none : (m : Places) (n : ℕ) → in_frame m n ≡ None → AreQuiet m n 320
unfolding in_frame
in_frame_none m n e p l = lowest_none m n 0 320 e p (omega arith) (omega arith)

eldest_in : (o : Option Parcel) → option_or o None ≡ o
eldest_in None = refl
eldest_in (Some c) = refl

-- the first parcel of a frame that has come, where nothing has come before a place
pub record IsNext (m : Places) (n from : ℕ) (c : Parcel) : Type 0 where
  pub behind : from ≤ c.place
  pub here : come n c.place (m n c.place) ≡ Some c
  pub first : AreQuiet m n c.place

-- the eldest parcel that has come, where none has before a place, is the next one from there on
pub next_found : (m : Places) (n from : ℕ) (c : Parcel) → Some c ≡ eldest m (n ∷ []) → AreQuiet m n from
    → IsNext m n from c
next_found m n from c e quiet = go (in_frame_found m n c (sym (eldest_in (in_frame m n)) ∙ sym e))
  where
    behind : (q : ℕ) → come n q (m n q) ≡ Some c → (q < from) ⊎ (from ≤ q) → from ≤ q
    behind q here (inr le) = le
    behind q here (inl lt) = absurd (none_is_some (sym (quiet q lt) ∙ here))
      where
        none_is_some : None ≡ Some c → ⊥
        none_is_some e = absurd (cc)

    go : IsLowest m n 0 320 c → IsNext m n from c
    go l =
        let is = (come_at n l.place (m n l.place) c l.here).1 in
        record {
          behind = subst (λ k. from ≤ k) is (behind l.place l.here (cases_lt l.place from));
          here = subst (λ k. come n k (m n k) ≡ Some c) is l.here;
          first = λ i x. l.first i (omega arith) (subst (λ k. i < k) (sym is) x);
        }

-- where no parcel of a frame has come, none has in its 320 places
pub next_none : (m : Places) (n : ℕ) → None ≡ eldest m (n ∷ []) → AreQuiet m n 320
next_none m n e = in_frame_none m n (sym (eldest_in (in_frame m n)) ∙ sym e)

module _ {W : Type 0} (blocks : List Block) (budget n from : ℕ) (c : Parcel) (g : Grid W)
    (next : IsNext g.parcels n from c) where
  -- once the next parcel is handled, what is left to do over the places is the same
  pub next_folds : c.place < 320 → each (arrival blocks budget n) places (handled blocks budget n c.place c g)
      ≡ each (arrival blocks budget n) places g
  next_folds near = sym (each_handled blocks budget n c.place c g next.here next.first places in_places)
    where
      in_places : c.place < places
      in_places = let e = places_are in omega (arith, near, e)

  -- once the next parcel is handled, none has come up to its place
  pub next_quiet : AreQuiet (handled blocks budget n c.place c g).parcels n (c.place + 1)
  next_quiet p l = after_quiet blocks budget n c.place c g next.here next.first p (omega arith)
