-- The lowest load that a store makes wrong, found from its own frame on.
use Rattle.std.proofs.Common.{◌≡◌, ℕ, suc, ◌+◌, ◌<◌, ◌≤◌, ◌⊎◌, inl, inr, ◌==◌, Bool, true, false, cond, List, []}
use Rattle.std.proofs.Common.{◌∷◌, Option, Some, None, length, drop, set, slice_get, refl, sym, ap, ◌∙◌, subst, arith}
use Rattle.std.specs.Prelude.{IfSome}
use Rattle.std.proofs.Math.Path.{fun_ext}
use Rattle.std.proofs.lemmas.Bool.{cases_lt}
use Rattle.std.proofs.lemmas.Option.{none-some, same_Some}
use Rattle.trips_isa.specs.declared.block.Block.{Block}
use Rattle.trips_isa.specs.declared.block.Inst.{Inst}
use Rattle.trips_isa.specs.declared.block.Stored.{Stored}
use Rattle.commit_flush_spec.specs.Frames.{Frame, Taken, at, numbers}
use Rattle.commit_flush_spec.specs.Memory.{request, with_store}
use Rattle.commit_flush_spec.specs.Older.{covers, nearest, passes, took_touched}
use Rattle.commit_flush_spec.specs.inside.Laws.{AreNumbers}
use Rattle.commit_flush_spec.proofs.Lists.{other_at, set_here}
use Rattle.frame_state.specs.inside.Held.{Held, as_frame, running}
use Rattle.lsq_order.specs.inside.Reached.{FitsReach, narrowed}
use Rattle.lsq_order.specs.inside.Wrong.{Finds, is_wrong}
use Rattle.lsq_order.proofs.WrongFacts.{numbers_are, own_left}
use Rattle.grid_machine.proofs.NearFacts.{near_low, own_at, passes_is, took_none}
use Rattle.commit_flush.specs.inside.Places.{age_of, later}
use Rattle.commit_flush.proofs.LoadFacts.{fits_reach}
use Rattle.commit_flush.proofs.StoreFacts.{finds_same, narrowed_same}
use Rattle.grid_cycle_spec.specs.Choosing.{found_in, least}
use Rattle.grid_cycle_spec.specs.Grid.{numbers_of}
use Rattle.grid_cycle_spec.specs.DataTiles.{stored_by, wrong_behind, wrong_from, wrong_in}
use Rattle.grid_parts.proofs.SlotFacts.{least_is, least_none}
use Rattle.commit_flush.specs.inside.Lent.{IsLent}
use Rattle.grid_machine.proofs.OlderFacts.{drop_here, drop_past, lent_at}

-- the least number for which a test holds
found_at : (test : ℕ → Bool) (n r : ℕ) → r < n → ((i : ℕ) → i < r → test i ≡ false) → test r ≡ true
    → Some r ≡ least test n 0
found_at test n r l below here = sym (least_is test n 0 r (omega arith) (omega arith) here (λ i a b. below i b))

found_none : (test : ℕ → Bool) (n r : ℕ) → n ≤ r → ((i : ℕ) → i < r → test i ≡ false) → None ≡ least test n 0
found_none test n r l below = sym (least_none test n 0 (λ i a b. below i (omega arith)))

-- younger frames ---------------------------------------------------------------------------------

-- whether a load of a younger frame is wrong
abbrev pub is_passed : (ℕ → Option Stored) → List (Option Taken) → (ℕ → Bool) → ℕ → Bool
is_passed stores loads touched n = took_touched (passes stores n touched) (at loads n)

passed_at : (stores : ℕ → Option Stored) (loads : List (Option Taken)) (touched : ℕ → Bool) (n : ℕ)
    → is_passed stores loads touched n ≡ is_wrong stores loads touched 0 n
passed_at stores loads touched n = ap (λ g. took_touched g (at loads n)) (sym (passes_is stores n touched))

-- the lowest is found
pub least_passed : (stores : ℕ → Option Stored) (loads : List (Option Taken)) (touched : ℕ → Bool) (o : Option ℕ)
    → Finds stores loads touched 0 o → o ≡ least (is_passed stores loads touched) numbers 0
least_passed stores loads touched None h =
    let z = numbers_are in
    found_none (is_passed stores loads touched) numbers 32 (omega (arith, z))
    (λ i l. passed_at stores loads touched i ∙ h i (omega arith) l)
least_passed stores loads touched (Some n) h =
    let z = numbers_are in
    let l = h.below in
    found_at (is_passed stores loads touched) numbers n (omega (arith, z, l))
    (λ i k. passed_at stores loads touched i ∙ h.lowest i (omega arith) k)
    (passed_at stores loads touched n ∙ h.wrong)

-- its own frame ----------------------------------------------------------------------------------

-- whether a load of the frame of store m is wrong
abbrev pub is_own : (ℕ → Option Stored) → List (Option Taken) → ℕ → ℕ → Bool
is_own stores loads m k = took_touched (nearest stores m k) (at loads k)

module _ (stores : ℕ → Option Stored) (loads : List (Option Taken)) (touched : ℕ → Bool) (m : ℕ)
    (same : (a : ℕ) → touched a ≡ covers (stores m) a) where
  own_low : (k : ℕ) → k ≤ m → is_own stores loads m k ≡ false
  own_low k l = ap (λ f. took_touched f (at loads k)) (fun_ext (λ a. near_low stores m k a l))
      ∙ took_none (at loads k)

  own_high : (k : ℕ) → m < k → is_own stores loads m k ≡ is_wrong stores loads touched (m + 1) k
  own_high k l = sym (own_at stores loads touched (m + 1) m k refl same l)

  pub least_own : (o : Option ℕ) → Finds stores loads touched (m + 1) o → o ≡ least (is_own stores loads m) numbers 0
  least_own None h =
      let z = numbers_are in
      found_none (is_own stores loads m) numbers 32 (omega (arith, z)) (λ i l. go i l (cases_lt m i))
    where
      go : (i : ℕ) → i < 32 → (m < i) ⊎ (i ≤ m) → is_own stores loads m i ≡ false
      go i l (inl k) = own_high i k ∙ h i (omega arith) l
      go i l (inr k) = own_low i k
  least_own (Some n) h =
      let z = numbers_are in
      let l = h.below in
      let f = h.from_on in
      found_at (is_own stores loads m) numbers n (omega (arith, z, l)) (λ i k. go i k (cases_lt m i))
      (own_high n (omega (arith, f)) ∙ h.wrong)
    where
      go : (i : ℕ) → i < n → (m < i) ⊎ (i ≤ m) → is_own stores loads m i ≡ false
      go i k (inl j) = own_high i j ∙ h.lowest i (omega arith) k
      go i k (inr j) = own_low i j

-- where a store is put in its place, the greater numbers stay
module _ (stores : List (Option Stored)) (m : ℕ) (s : Option Stored) (l : m < length stores) (touched : ℕ → Bool)
    (same : (a : ℕ) → touched a ≡ covers s a) where
  stays : (k : ℕ) → m + 1 ≤ k → at stores k ≡ at (set stores m s) k
  stays k h = sym (other_at stores m k s (λ z. absurd (omega arith)))

  covered : (a : ℕ) → touched a ≡ covers (at (set stores m s) m) a
  covered a = same a ∙ ap (λ z. covers z a) (sym (set_here stores m s l))

  -- the load of a frame that its own store makes wrong is the lowest above it that took a byte of it too early
  pub own_least : (loads : List (Option Taken)) (o : Option ℕ) → Finds (at stores) loads touched (m + 1) o
      → o ≡ least (is_own (at (set stores m s)) loads m) numbers 0
  own_least loads o h =
      least_own (at (set stores m s)) loads touched m covered o
      (finds_same (at stores) (at (set stores m s)) loads touched (m + 1) o (λ k z. stays k z) h)

  -- the bytes that are left of a store behind its own frame are those at which it is the nearest
  pub own_behind : m < 32 → (left : ℕ → Bool) → ((a : ℕ) → left a ≡ narrowed (at stores) (m + 1) numbers touched a)
      → left ≡ nearest (at (set stores m s)) m numbers
  own_behind small left is = fun_ext (λ a. is a
      ∙ narrowed_same (at stores) (at (set stores m s)) (m + 1) numbers touched a (λ k z. stays k z)
      ∙ own_left (at (set stores m s)) touched (m + 1) m a (omega arith) refl covered)

-- the store that waits has at most eight bytes
pub fits_stored : (f : Frame) (q : Option (ℕ × Inst)) → FitsReach (stored_by f q)
fits_stored f None = tt
fits_stored f (Some q) = fits_reach q.1 (at f.spots q.0) (at f.spots (128 + q.0))

-- one frame after another ------------------------------------------------------------------------

-- what was found in a frame, whatever is behind it
pub found_first : (f : Frame) (o : Option ℕ) (x : ℕ × ℕ) (behind : Option (ℕ × ℕ)) → Some x ≡ found_in f o None
    → Some x ≡ found_in f o behind
found_first f None x behind e = absurd (none-some x (sym e))
found_first f (Some n) x behind e = e

pub found_later : (f : Frame) (o : Option ℕ) (behind : Option (ℕ × ℕ)) → None ≡ found_in f o None
    → found_in f o behind ≡ behind
found_later f None behind e = refl
found_later f (Some n) behind e = absurd (none-some (f.number, n) e)

-- where a frame tells no wrong load, it found none
pub none_found : (f : Frame) (o : Option ℕ) → None ≡ found_in f o None → o ≡ None
none_found f None e = refl
none_found f (Some n) e = absurd (none-some (f.number, n) e)

module _ (fs : List Frame) (a : ℕ) (f : Frame) (e : slice_get fs a ≡ Some f) (touched : ℕ → Bool)
    (all : Option (ℕ × ℕ))
    (so_far : wrong_behind touched (drop a fs) ≡ all) where
  abbrev found : Option ℕ
  found = least (is_passed (at f.stores) f.loads touched) numbers 0

  abbrev behind : Option (ℕ × ℕ)
  behind = wrong_behind (passes (at f.stores) numbers touched) (drop (suc a) fs)

  one : wrong_behind touched (drop a fs) ≡ found_in f found behind
  one = ap (wrong_behind touched) (drop_here fs a f e)

  -- where a frame has a wrong load, it is the one that is looked for
  pub behind_here : (x : ℕ × ℕ) → Some x ≡ found_in f found None → Some x ≡ all
  behind_here x is = found_first f found x behind is ∙ sym one ∙ so_far

  -- where a frame has no wrong load, the bytes that pass its stores are looked for behind it
  pub behind_later : None ≡ found_in f found None → (left : ℕ → Bool)
      → ((z : ℕ) → left z ≡ passes (at f.stores) numbers touched z) → wrong_behind left (drop (a + 1) fs) ≡ all
  behind_later is left same =
      let next : a + 1 ≡ suc a = omega arith in
      ap (λ k. wrong_behind left (drop k fs)) next
      ∙ ap (λ g. wrong_behind g (drop (suc a) fs)) (fun_ext same)
      ∙ sym (found_later f found behind is) ∙ sym one ∙ so_far

-- behind the last frame there is no wrong load
pub behind_nowhere : (fs : List Frame) (a : ℕ) (touched : ℕ → Bool) (all : Option (ℕ × ℕ))
    → wrong_behind touched (drop a fs) ≡ all → length fs ≤ a → None ≡ all
behind_nowhere fs a touched all so_far l = sym (ap (wrong_behind touched) (drop_past fs a l)) ∙ so_far

-- the frame of a number --------------------------------------------------------------------------

-- what a store of a frame makes wrong, with the frames behind it
abbrev pub wrong_of : ℕ → Frame → List Frame → Option (ℕ × ℕ)
wrong_of k f fs = wrong_from k (with_store k (stored_by f (request f k)) 0 f) fs

-- a store of a frame that is not in flight makes no load wrong
pub no_load : (fs : List Frame) (n k : ℕ) → None ≡ age_of n fs → None ≡ wrong_in n k fs
no_load [] n k e = refl
no_load (f ∷ fs) n k e = go (f.number == n) e (age_of n fs) refl (no_load fs n k)
  where
    go : (b : Bool) → None ≡ cond b (Some 0) (later (age_of n fs)) → (p : Option ℕ) → age_of n fs ≡ p
        → (None ≡ age_of n fs → None ≡ wrong_in n k fs) → None ≡ cond b (wrong_of k f fs) (wrong_in n k fs)
    go true w p q rest = absurd (none-some 0 w)
    go false w None q rest = rest (sym q)
    go false w (Some a) q rest = absurd (none-some (suc a) (w ∙ ap later q))

-- the load that a store makes wrong is found from the frame of its age on
pub load_of_age : (fs : List Frame) (n k a : ℕ) → Some a ≡ age_of n fs → (x : Option (ℕ × ℕ))
    → ((f : Frame) → slice_get fs a ≡ Some f → x ≡ wrong_of k f (drop (suc a) fs)) → x ≡ wrong_in n k fs
load_of_age [] n k a e x is = absurd (none-some a (sym e))
load_of_age (f ∷ fs) n k a e x is =
    go (f.number == n) e (age_of n fs) refl (λ j q w. load_of_age fs n k j q x w)
  where
    go : (b : Bool) → Some a ≡ cond b (Some 0) (later (age_of n fs)) → (p : Option ℕ) → age_of n fs ≡ p
        → ((j : ℕ) → Some j ≡ age_of n fs
        → ((g : Frame) → slice_get fs j ≡ Some g → x ≡ wrong_of k g (drop (suc j) fs))
        → x ≡ wrong_in n k fs) → x ≡ cond b (wrong_of k f fs) (wrong_in n k fs)
    go true w p q rest =
        let here : a ≡ 0 = same_Some a 0 w in
        is f (ap (slice_get (f ∷ fs)) here) ∙ ap (λ j. wrong_of k f (drop (suc j) (f ∷ fs))) here
    go false w None q rest = absurd (none-some a (sym (w ∙ ap later q)))
    go false w (Some j) q rest =
        let here : a ≡ suc j = same_Some a (suc j) (w ∙ ap later q) in
        rest j (sym q) (λ g h. is g (ap (slice_get (f ∷ fs)) here ∙ h)
        ∙ ap (λ i. wrong_of k g (drop (suc i) (f ∷ fs))) here)

-- a frame that is found is one of the eight
found_small : (f : Frame) (o : Option ℕ) (behind : Option (ℕ × ℕ)) → f.number < 8 → IfSome behind (λ c. c.0 < 8)
    → IfSome (found_in f o behind) (λ c. c.0 < 8)
found_small f None behind l h = h
found_small f (Some n) behind l h = l

behind_small : (touched : ℕ → Bool) (fs : List Frame) → AreNumbers (numbers_of fs)
    → IfSome (wrong_behind touched fs) (λ c. c.0 < 8)
behind_small touched [] h = tt
behind_small touched (f ∷ fs) h =
    found_small f (least (is_passed (at f.stores) f.loads touched) numbers 0)
    (wrong_behind (passes (at f.stores) numbers touched) fs) h.0
    (behind_small (passes (at f.stores) numbers touched) fs h.2)

-- the frame of a wrong load has a number below 8
pub wrong_small : (fs : List Frame) (n k : ℕ) → AreNumbers (numbers_of fs)
    → IfSome (wrong_in n k fs) (λ c. c.0 < 8)
wrong_small [] n k h = tt
wrong_small (f ∷ fs) n k h =
    let g : Frame = with_store k (stored_by f (request f k)) 0 f in
    go (f.number == n)
    (found_small g (least (is_own (at g.stores) g.loads k) numbers 0)
    (wrong_behind (nearest (at g.stores) k numbers) fs) h.0 (behind_small (nearest (at g.stores) k numbers) fs h.2))
    (wrong_small fs n k h.2)
  where
    go : (b : Bool) → IfSome (wrong_of k f fs) (λ c. c.0 < 8) → IfSome (wrong_in n k fs) (λ c. c.0 < 8)
        → IfSome (cond b (wrong_of k f fs) (wrong_in n k fs)) (λ c. c.0 < 8)
    go true x y = x
    go false x y = y

-- what is found of a store, by what is lent of its frame
pub wrong_told : (h : Held) (b : Block) (sealed : Bool) (k : ℕ) (s : Option Stored) (o : Option ℕ) (fs : List Frame)
    (x : Option (ℕ × ℕ)) → s ≡ stored_by (as_frame sealed b h) (request (running b h) k)
    → o ≡ least (is_own (at (set h.stores k s)) h.loads k) numbers 0
    → x ≡ found_in (as_frame sealed b h) o (wrong_behind (nearest (at (set h.stores k s)) k numbers) fs)
    → x ≡ wrong_of k (as_frame sealed b h) fs
wrong_told h b sealed k s o fs x store found is =
    is
    ∙ ap (λ z. found_in (as_frame sealed b h) z (wrong_behind (nearest (at (set h.stores k s)) k numbers) fs)) found
    ∙ ap (λ z. wrong_from k (with_store k z 0 (as_frame sealed b h)) fs) store

-- what a search says of rows that are those of a frame
pub finds_in : (stores rows : List (Option Stored)) (loads taken : List (Option Taken)) (touched : ℕ → Bool)
    (from : ℕ)
    (o : Option ℕ) → rows ≡ stores → taken ≡ loads → Finds (at rows) taken touched from o
    → Finds (at stores) loads touched from o
finds_in stores rows loads taken touched from o e w h =
    subst (λ xs. Finds (at stores) xs touched from o) w (subst (λ xs. Finds (at xs) taken touched from o) e h)

-- what is found in the frame of an age, by what is lent of it
module _ (fs : List Frame) (a : ℕ) (h : Held) (b : Block) (l : IsLent h b (slice_get fs a)) (touched : ℕ → Bool)
    (o : Option ℕ) (f : Frame) (e : slice_get fs a ≡ Some f) where
  -- what is found of the loads that a frame lends is the wrong load of the frame
  pub told_here : Finds (at h.stores) h.loads touched 0 o → (x : Option (ℕ × ℕ))
      → x ≡ found_in (as_frame l.0 b h) o None
      → x ≡ found_in f (least (is_passed (at f.stores) f.loads touched) numbers 0) None
  told_here finds x is =
      is ∙ ap (λ z. found_in (as_frame l.0 b h) z None) (least_passed (at h.stores) h.loads touched o finds)
      ∙ ap (λ (g : Frame). found_in g (least (is_passed (at g.stores) g.loads touched) numbers 0) None)
      (lent_at fs a h b l f e)

  -- the bytes that pass the stores that a frame lends pass the frame's
  pub told_left : (z : ℕ) (left : Bool) → left ≡ passes (at h.stores) numbers touched z
      → left ≡ passes (at f.stores) numbers touched z
  told_left z left is = is ∙ ap (λ (g : Frame). passes (at g.stores) numbers touched z) (lent_at fs a h b l f e)

-- what a search leaves, of rows that are those of a frame
pub narrowed_in : (stores rows : List (Option Stored)) (from : ℕ) (touched : ℕ → Bool) (a : ℕ) → rows ≡ stores
    → narrowed (at rows) from numbers touched a ≡ narrowed (at stores) from numbers touched a
narrowed_in stores rows from touched a e = ap (λ xs. narrowed (at xs) from numbers touched a) e

-- what is found behind a frame, of what a search leaves
pub behind_own : (left touched : ℕ → Bool) (fs : List Frame) (a b : ℕ) (x : Option (ℕ × ℕ))
    → x ≡ wrong_behind left (drop a fs) → a ≡ b → left ≡ touched → x ≡ wrong_behind touched (drop b fs)
behind_own left touched fs a b x is next same =
    is ∙ ap (λ k. wrong_behind left (drop k fs)) next ∙ ap (λ g. wrong_behind g (drop b fs)) same
