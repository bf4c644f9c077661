-- The rule of a grid's frames, one frame changed at a time, and frames forgotten.
use Rattle.std.proofs.Common.{◌≡◌, ◌≢◌, ℕ, ◌<◌, ◌/◌, ◌==◌, ◌&&◌, ◌||◌, not, Bool, true, false, cond, ◌⊎◌, inl, inr}
use Rattle.std.proofs.Common.{List, ◌∷◌, ◌++◌, refl, sym, ap, ap₂, ◌∙◌, subst, true≢false}
use Rattle.trips_isa.specs.declared.block.Inst.{Inst}
use Rattle.trips_isa.specs.declared.form.Form.{Form}
use Rattle.trips_isa.specs.declared.form.Form.TheVariants.{General, Immediate, Load, Store, Branch, Constant}
use Rattle.trips_isa.specs.Forms.{form_of}
use Rattle.operand_net.specs.declared.parcel.Stand.{Stand}
use Rattle.operand_net.specs.declared.parcel.Stand.TheVariants.{Nowhere}
use Rattle.operand_net.specs.Places.{Places}
use Rattle.operand_net.specs.inside.IsStands.{is_here}
use Rattle.commit_flush_spec.specs.Frames.{Frame, at}
use Rattle.commit_flush_spec.proofs.Look.{or_false}
use Rattle.commit_flush_spec.proofs.Lists.{equal_or}
use Rattle.commit_flush_spec.specs.inside.Work.{none_guessed}
use Rattle.grid_cycle_spec.specs.inside.Arrivals.{is_waiting}
use Rattle.grid_cycle_spec.specs.Grid.{Grid}
use Rattle.grid_bound.specs.inside.UnderWay.{to_come, Tied, Nothing}
use Rattle.grid_bound.specs.inside.Rule.{EachFrame, FrameRule, HeldFrom, RuleFrom, FetchRule, UnitsRule, runs_in}
use Rattle.grid_cycle_spec.specs.Acting.{known_next}
use Rattle.grid_bound.proofs.EachFrame.{FrameAt, each_left, each_rest, each_step, runs_join, runs_step, same}
use Rattle.grid_bound.proofs.Travels.{travels_by, in_unit_by}

-- the rule but for the fetch unit, by what it speaks of
pub record Ties (least : ℕ) (fs : List Frame) (parcels : Places) (asked works : ℕ → ℕ → Bool) (careful : ℕ → Bool)
    (units : ℕ → ℕ) : Type 0 where
  pub frames : EachFrame FrameRule fs
  pub tied : EachFrame (λ f. f.sealed ≡ false → Tied (parcels f.number) (asked f.number) (works f.number) f) fs
  pub unguessed : EachFrame (λ f. careful f.number ≡ true → none_guessed f ≡ true) fs
  pub nothing : (n : ℕ) → runs_in n fs ≡ false → Nothing (parcels n) (asked n) (works n)
  pub busy : UnitsRule units works
  pub mesh : (n p : ℕ) → p < 320 → HeldFrom least (parcels n p)

-- the rule of the frames of a grid
abbrev pub TiesOf : {W : Type 0} → ℕ → Grid W → Type 0
TiesOf least g = Ties least g.window.frames g.parcels g.asked g.works g.careful g.units

-- the ties of a grid that has its rule
pub ties_of : {W : Type 0} (least : ℕ) (g : Grid W) → RuleFrom least g → TiesOf least g
ties_of least g r = record {
  frames = r.frames;
  tied = r.tied;
  unguessed = r.careful;
  nothing = r.nothing;
  busy = r.units;
  mesh = r.mesh;
}

-- the rule of a grid whose ties and fetch are right
pub rule_of : {W : Type 0} (least : ℕ) (g : Grid W) → TiesOf least g → FetchRule (known_next g.window) g.fetching
    → RuleFrom least g
rule_of least g t f = record {
  frames = t.frames;
  tied = t.tied;
  careful = t.unguessed;
  nothing = t.nothing;
  units = t.busy;
  mesh = t.mesh;
  fetch = f;
}

-- nothing changes --------------------------------------------------------------------------------

-- what is under way of a number is the same
pub record Alike (parcels parcels' : ℕ → Stand) (asked asked' works works' : ℕ → Bool) : Type 0 where
  pub parcels_are : (p : ℕ) → parcels' p ≡ parcels p
  pub asked_are : (n : ℕ) → asked' n ≡ asked n
  pub works_are : (s : ℕ) → works' s ≡ works s

pub come_asked : (asked asked' : ℕ → Bool) (f : Frame) (i : Inst) (s : ℕ) → asked' i.number ≡ asked i.number
    → (t : Form) → to_come asked' f t i s ≡ to_come asked f t i s
come_asked asked asked' f i s e General = refl
come_asked asked asked' f i s e Immediate = refl
come_asked asked asked' f i s e Constant = refl
come_asked asked asked' f i s e Load = ap (λ b. is_waiting (at f.requests i.number) s && not b) e
come_asked asked asked' f i s e Store = ap (λ b. is_waiting (at f.requests i.number) s && not b) e
come_asked asked asked' f i s e Branch = refl

module _ (parcels parcels' : ℕ → Stand) (asked asked' works works' : ℕ → Bool)
    (a : Alike parcels parcels' asked asked' works works') where
  -- what is under way of a frame stays what is to be where the same is under way
  pub tied_alike : (f : Frame) → Tied parcels asked works f → Tied parcels' asked' works' f
  tied_alike f t = record {
    travelling = λ p l. ap is_here (a.parcels_are p) ∙ t.travelling p l
        ∙ sym (travels_by asked works asked' works' f f p refl (a.works_are (p / 2))
        (λ i e. come_asked asked asked' f i (p / 2) (a.asked_are i.number) (form_of i.op)) refl);
    standing = λ n h. t.standing n (sym (a.asked_are n) ∙ h);
    working = λ s h. in_unit_by asked asked' f f s refl (λ z. z)
        (λ i e. come_asked asked asked' f i s (a.asked_are i.number) (form_of i.op)) (λ p z h. h)
        (t.working s (sym (a.works_are s) ∙ h));
  }

  pub nothing_alike : Nothing parcels asked works → Nothing parcels' asked' works'
  nothing_alike n = record {
    none_travels = λ p l. a.parcels_are p ∙ n.none_travels p l;
    none_stands = λ k. a.asked_are k ∙ n.none_stands k;
    none_works = λ s. a.works_are s ∙ n.none_works s;
  }

-- one frame --------------------------------------------------------------------------------------

module _ (least : ℕ) (n : ℕ) (fs : List Frame) (a : FrameAt n fs) (g : Frame) (parcels parcels' : Places)
    (asked asked' works works' : ℕ → ℕ → Bool) (careful : ℕ → Bool) (units units' : ℕ → ℕ)
    (number : g.number ≡ n)
    (others : (m : ℕ) → m ≢ n → Alike (parcels m) (parcels' m) (asked m) (asked' m) (works m) (works' m)) where
  -- a running frame has changed, and what is under way of it
  pub ties_step : Ties least fs parcels asked works careful units → g.sealed ≡ false
      → EachFrame FrameRule (a.older ++ g ∷ a.younger) → Tied (parcels' n) (asked' n) (works' n) g
      → (careful n ≡ true → none_guessed g ≡ true) → UnitsRule units' works'
      → ((p : ℕ) → p < 320 → HeldFrom least (parcels' n p))
      → Ties least (a.older ++ g ∷ a.younger) parcels' asked' works' careful units'
  ties_step t runs rules tied sure busy held = record {
    frames = rules;
    tied = each_step
        (λ f. f.sealed ≡ false → Tied (parcels f.number) (asked f.number) (works f.number) f)
        (λ f. f.sealed ≡ false → Tied (parcels' f.number) (asked' f.number) (works' f.number) f) n fs a g
        (λ f d h z. tied_alike (parcels f.number) (parcels' f.number) (asked f.number) (asked' f.number)
        (works f.number) (works' f.number) (others f.number d) f (h z))
        (λ z. subst (λ m. Tied (parcels' m) (asked' m) (works' m) g) (sym number) tied) t.tied;
    unguessed = each_step
        (λ f. careful f.number ≡ true → none_guessed f ≡ true)
        (λ f. careful f.number ≡ true → none_guessed f ≡ true) n fs a g
        (λ f d h. h) (λ z. sure (sym (ap careful number) ∙ z)) t.unguessed;
    nothing = λ m e.
        let parts = or_false (runs_in m a.older) (runs_in m (g ∷ a.younger))
        (sym (runs_join m a.older (g ∷ a.younger)) ∙ e) in
        let d : m ≢ n = (λ z. true≢false (sym (ap₂ (λ x y. (x && not y) || runs_in m a.younger)
        (ap (λ k. k == m) (number ∙ sym z) ∙ same m) runs) ∙ parts.1)) in
        let was : runs_in m fs ≡ false = runs_step n m fs a g number d e in
        nothing_alike (parcels m) (parcels' m) (asked m) (asked' m) (works m) (works' m) (others m d)
        (t.nothing m was);
    busy = busy;
    mesh = λ m p l. go m p l (equal_or m n);
  }
    where
      go : (m p : ℕ) → p < 320 → (m ≡ n) ⊎ (m ≢ n) → HeldFrom least (parcels' m p)
      go m p l (inl e) = subst (λ k. HeldFrom least (parcels' k p)) (sym e) (held p l)
      go m p l (inr d) = subst (HeldFrom least) (sym ((others m d).parcels_are p)) (t.mesh m p l)

  -- the frame is the same, and what is under way of it has changed
  pub ties_again : Ties least fs parcels asked works careful units → g ≡ a.frame → g.sealed ≡ false
      → Tied (parcels' n) (asked' n) (works' n) g → UnitsRule units' works'
      → ((p : ℕ) → p < 320 → HeldFrom least (parcels' n p)) → Ties least fs parcels' asked' works' careful units'
  ties_again t e runs tied busy held =
      let back : a.older ++ g ∷ a.younger ≡ fs = ap (λ x. a.older ++ x ∷ a.younger) e ∙ sym a.split in
      let was = subst (EachFrame (λ f. careful f.number ≡ true → none_guessed f ≡ true)) (sym back) t.unguessed in
      subst (λ l. Ties least l parcels' asked' works' careful units') back
      (ties_step t runs (subst (EachFrame FrameRule) (sym back) t.frames) tied
      (λ z. (each_rest (λ f. careful f.number ≡ true → none_guessed f ≡ true) a.older (g ∷ a.younger) was).0
      (ap careful number ∙ z)) busy held)

-- frames forgotten -------------------------------------------------------------------------------

-- frames that are forgotten keep the rule of the units
pub forgotten_units : (units : ℕ → ℕ) (works : ℕ → ℕ → Bool) (gone : ℕ → Bool) → UnitsRule units works
    → UnitsRule units (λ n s. cond (gone n) false (works n s))
forgotten_units units works gone u = record {
  most = u.most;
  busy = λ n s h. u.busy n s (kept n s h);
  alone = λ m n r s h k e. u.alone m n r s (kept m r h) (kept n s k) e;
}
  where
    kept : (n s : ℕ) → cond (gone n) false (works n s) ≡ true → works n s ≡ true
    kept n s h = go (gone n) h
      where
        go : (b : Bool) → cond b false (works n s) ≡ true → works n s ≡ true
        go true z = absurd (true≢false (sym z))
        go false z = z

-- frames that are forgotten keep how long parcels are held
pub forgotten_held : (least : ℕ) (parcels : Places) (gone : ℕ → Bool)
    → ((n p : ℕ) → p < 320 → HeldFrom least (parcels n p))
    → (n p : ℕ) → p < 320 → HeldFrom least (cond (gone n) Nowhere (parcels n p))
forgotten_held least parcels gone h n p l = go (gone n)
  where
    go : (b : Bool) → HeldFrom least (cond b Nowhere (parcels n p))
    go true = tt
    go false = h n p l

module _ (parcels : ℕ → Stand) (asked works : ℕ → Bool) where
  -- of a number that is not forgotten
  pub left_alike : (b : Bool) → b ≡ false → Alike parcels (λ p. cond b Nowhere (parcels p)) asked
      (λ n. cond b false (asked n)) works (λ s. cond b false (works s))
  left_alike b e = record {
    parcels_are = λ p. ap (λ x. cond x Nowhere (parcels p)) e;
    asked_are = λ n. ap (λ x. cond x false (asked n)) e;
    works_are = λ s. ap (λ x. cond x false (works s)) e;
  }

  -- of a number that is forgotten, or of which nothing was under way
  pub forgotten_nothing : (b : Bool) → (b ≡ false → Nothing parcels asked works)
      → Nothing (λ p. cond b Nowhere (parcels p)) (λ n. cond b false (asked n)) (λ s. cond b false (works s))
  forgotten_nothing true h = record { none_travels = λ p l. refl; none_stands = λ n. refl; none_works = λ s. refl }
  forgotten_nothing false h =
      let k = h refl in
      record { none_travels = k.none_travels; none_stands = k.none_stands; none_works = k.none_works }

-- some frames are left, and what is under way of others is forgotten
pub ties_left : (least : ℕ) (fs hs : List Frame) (parcels : Places) (asked works : ℕ → ℕ → Bool) (careful : ℕ → Bool)
    (units : ℕ → ℕ) (gone : ℕ → Bool)
    → ((P : Frame → Type 0) → EachFrame P fs → EachFrame P hs) → EachFrame (λ f. gone f.number ≡ false) hs
    → ((m : ℕ) → gone m ≡ false → runs_in m hs ≡ false → runs_in m fs ≡ false)
    → Ties least fs parcels asked works careful units
    → Ties least hs (λ n p. cond (gone n) Nowhere (parcels n p)) (λ n k. cond (gone n) false (asked n k))
    (λ n s. cond (gone n) false (works n s)) careful units
ties_left least fs hs parcels asked works careful units gone part stay none t = record {
  frames = part FrameRule t.frames;
  tied = each_left
      (λ f. f.sealed ≡ false → Tied (parcels f.number) (asked f.number) (works f.number) f)
      (λ f. f.sealed ≡ false → Tied (λ p. cond (gone f.number) Nowhere (parcels f.number p))
      (λ k. cond (gone f.number) false (asked f.number k)) (λ s. cond (gone f.number) false (works f.number s)) f)
      gone
      (λ f e h z. tied_alike (parcels f.number) (λ p. cond (gone f.number) Nowhere (parcels f.number p))
      (asked f.number) (λ k. cond (gone f.number) false (asked f.number k)) (works f.number)
      (λ s. cond (gone f.number) false (works f.number s))
      (left_alike (parcels f.number) (asked f.number) (works f.number) (gone f.number) e) f (h z))
      hs stay
      (part (λ f. f.sealed ≡ false → Tied (parcels f.number) (asked f.number) (works f.number) f) t.tied);
  unguessed = part (λ f. careful f.number ≡ true → none_guessed f ≡ true) t.unguessed;
  nothing = λ m e. forgotten_nothing (parcels m) (asked m) (works m) (gone m) (λ z. t.nothing m (none m z e));
  busy = forgotten_units units works gone t.busy;
  mesh = forgotten_held least parcels gone t.mesh;
}
