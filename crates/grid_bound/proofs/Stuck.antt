-- Never stuck: a frame that lacks an output has a node that acts or travels.
use Rattle.std.proofs.Common.{◌≡◌, ℕ, zero, suc, ◌<◌, Bool, true, false, ◌⊎◌, inl, inr, List, [], ◌∷◌, Option, Some}
use Rattle.std.proofs.Common.{None, refl, sym, ap, ◌∙◌, subst, arith}
use Rattle.std.proofs.lemmas.Bool.{and_from, and_cases, cases_Bool, both_ways, not_from_false}
use Rattle.operand_net.specs.declared.parcel.Stand.{Stand}
use Rattle.operand_net.specs.declared.parcel.Stand.TheVariants.{Nowhere, Away, Held}
use Rattle.grid_bound.specs.inside.Course.{is_reading, Target, Member, Hits, Fed, GoodBy}
use Rattle.grid_bound.specs.inside.Lane.{Phase, Absent, Idle, Working, Asking, Standing, Sent, is_idle, is_standing}
use Rattle.grid_bound.specs.inside.Lane.{is_there, first_parcel, second_parcel, Front, all_come, unread, unissued}
use Rattle.grid_bound.specs.inside.Lane.{ready, answerable, complete}
use Rattle.grid_bound.specs.inside.Moving.{is_nowhere}
use Rattle.grid_bound.specs.inside.Laws.{Has, OnItsWay, FineAt, Fine, Placed}

-- some task acts or travels: a read to answer, a request to serve, a slot to issue, a result, or a parcel
pub data Active (f : Front) : Type 0 where
  reads : (x : ℕ) → x < f.course.room → unread f x ≡ true → Active f
  answers : (x : ℕ) → x < f.course.room → answerable f x ≡ true → Active f
  fires : (x : ℕ) → x < f.course.room → ready f x ≡ true → Active f
  works : (x : ℕ) → x < f.course.room → f.at x ≡ Working → Active f
  travels : (x : ℕ) → x < f.course.room
      → (is_nowhere (first_parcel (f.at x)) ≡ false) ⊎ (is_nowhere (second_parcel (f.at x)) ≡ false) → Active f

missing : (come : ℕ → Bool) (qs : List ℕ) → all_come come qs ≡ false → (q : ℕ) × Member q qs × (come q ≡ false)
missing come [] e = absurd (cc)
missing come (p ∷ ps) e = go (missing come ps) (and_cases (come p) (all_come come ps) e)
  where
    go : (all_come come ps ≡ false → (q : ℕ) × Member q ps × (come q ≡ false))
        → (come p ≡ false) ⊎ (all_come come ps ≡ false) → (q : ℕ) × Member q (p ∷ ps) × (come q ≡ false)
    go ih (inl h) = (p, inl refl, h)
    go ih (inr h) = let r : (q : ℕ) × Member q ps × (come q ≡ false) = ih h in (r.0, inr r.1, r.2)

has_hit : (come : ℕ → Bool) (t : Option Target) (q : ℕ) → Has come t → Hits t q → come q ≡ true
has_hit come None q h e = absurd e
has_hit come (Some t) q h e = subst (λ s. come s ≡ true) e h

present_away : (p : Stand) → OnItsWay p → is_nowhere p ≡ false
present_away Nowhere h = absurd h
present_away (Away trip a) h = refl
present_away (Held trip k) h = refl

module _ (u : ℕ → ℕ) (f : Front) (rank : ℕ → ℕ) (top : ℕ) (good : GoodBy f.course rank top) (placed : Placed f)
    (fine : Fine u f) where
  -- what a node that fires can be where nothing acts
  abbrev Settled : ℕ → Type 0
  Settled x = Active f ⊎ (f.at x ≡ Sent Nowhere Nowhere)

  abbrev Below : ℕ → Type 0
  Below r = (y : ℕ) → y < f.course.room → (f.course.task y).met ≡ true → rank y < r → Settled y

  -- a spot without a token leads to something that acts
  fed_active : (r q : ℕ) → Below r → f.come q ≡ false → Fed f.course rank r q → Active f
  fed_active r q ih n d = go (ih d.giver d.inside d.met d.below)
    where
      hit : f.at d.giver ≡ Sent Nowhere Nowhere
          → Hits (f.course.task d.giver).first q ⊎ Hits (f.course.task d.giver).second q → f.come q ≡ true
      hit e (inl k) = has_hit f.come (f.course.task d.giver).first q
          (subst (FineAt u f.come (f.course.task d.giver)) e (fine d.giver d.inside)).0 k
      hit e (inr k) = has_hit f.come (f.course.task d.giver).second q
          (subst (FineAt u f.come (f.course.task d.giver)) e (fine d.giver d.inside)).1 k

      go : Settled d.giver → Active f
      go (inl a) = a
      go (inr e) = absurd (both_ways (f.come q) n (hit e d.gives))

  missing_active : (r : ℕ) (qs : List ℕ) → Below r → ((q : ℕ) → Member q qs → Fed f.course rank r q)
      → all_come f.come qs ≡ false → Active f
  missing_active r qs ih fed e = let s : (q : ℕ) × Member q qs × (f.come q ≡ false) = missing f.come qs e in
      fed_active r s.0 ih s.2 (fed s.0 s.1)

  node_active : (x : ℕ) → x < f.course.room → (f.course.task x).met ≡ true → Below (rank x) → (w : Phase)
      → f.at x ≡ w → FineAt u f.come (f.course.task x) w → Settled x
  node_active x l m ih Absent e h =
      absurd (both_ways (f.course.task x).declared (sym (placed x l) ∙ ap is_there e) ((good.good x).declared m))
  node_active x l m ih Idle e h = inl (kind (cases_Bool (is_reading (f.course.task x).kind)))
    where
      split : is_reading (f.course.task x).kind ≡ false
          → (all_come f.come (f.course.task x).needs ≡ true) ⊎ (all_come f.come (f.course.task x).needs ≡ false)
          → Active f
      split j (inl c) = fires x l
          (and_from (unissued f x) _ (and_from (is_idle (f.at x)) _ (ap is_idle e) (not_from_false _ j))
          (and_from (f.course.task x).met _ m c))
      split j (inr c) = missing_active (rank x) (f.course.task x).needs ih (λ q k. good.fed x q l m k) c

      kind : (is_reading (f.course.task x).kind ≡ true) ⊎ (is_reading (f.course.task x).kind ≡ false) → Active f
      kind (inl j) = reads x l (and_from (is_idle (f.at x)) _ (ap is_idle e) j)
      kind (inr j) = split j (cases_Bool (all_come f.come (f.course.task x).needs))
  node_active x l m ih Working e h = inl (works x l e)
  node_active x l m ih (Asking p) e h =
      inl (travels x l (inl (ap (λ w. is_nowhere (first_parcel w)) e ∙ present_away p h)))
  node_active x l m ih Standing e h = inl (split (cases_Bool (all_come f.come (f.course.task x).waits)))
    where
      split : (all_come f.come (f.course.task x).waits ≡ true) ⊎ (all_come f.come (f.course.task x).waits ≡ false)
          → Active f
      split (inl c) = answers x l (and_from (is_standing (f.at x)) _ (ap is_standing e) c)
      split (inr c) = missing_active (rank x) (f.course.task x).waits ih (λ q k. good.held x q l m k) c
  node_active x l m ih (Sent (Away trip a) q) e h = inl (travels x l (inl (ap (λ w. is_nowhere (first_parcel w)) e)))
  node_active x l m ih (Sent (Held trip k) q) e h = inl (travels x l (inl (ap (λ w. is_nowhere (first_parcel w)) e)))
  node_active x l m ih (Sent Nowhere (Away trip a)) e h =
      inl (travels x l (inr (ap (λ w. is_nowhere (second_parcel w)) e)))
  node_active x l m ih (Sent Nowhere (Held trip k)) e h =
      inl (travels x l (inr (ap (λ w. is_nowhere (second_parcel w)) e)))
  node_active x l m ih (Sent Nowhere Nowhere) e h = inr e

  -- by the rank
  ranked : (r : ℕ) → Below r
  ranked zero y l m k = absurd (omega arith)
  ranked (suc r) y l m k = node_active y l m (λ z i j n. ranked r z i j (omega (arith, n, k))) (f.at y) refl
      (fine y l)

  -- a frame that lacks an output has a task that acts or travels
  pub never_stuck : complete f ≡ false → Active f
  never_stuck e = missing_active top f.course.outputs (ranked top) good.ends e
