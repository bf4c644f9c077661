-- The loads of a frame, one after another, as its stores leave less and less of a reach.
use Rattle.std.proofs.Common.{◌≡◌, ℕ, zero, suc, ◌+◌, ◌<◌, ◌≤◌, Bool, true, false, cond, ◌&&◌, not, nat_lt}
use Rattle.std.proofs.Common.{List, Option}
use Rattle.std.proofs.Common.{Some, None, inl, inr, ◌==◌, [], ◌∷◌, ◌||◌, ◌⊎◌, ◌*◌, ◌%◌, ◌^◌, bit_or, length, get_or}
use Rattle.std.proofs.Common.{refl, sym, ap, ap₂, ◌∙◌, arith}
use Rattle.std.specs.Prelude.{is_some}
use Rattle.std.proofs.Math.Path.{fun_ext}
use Rattle.std.proofs.lemmas.Bool.{lt-ltb, le-ltb, cases_eq, cases_lt}
use Rattle.std.proofs.lemmas.Bool.Decides.{nat_tests}
use Rattle.trips_isa.specs.declared.block.Stored.{Stored}
use Rattle.commit_flush_spec.specs.Frames.{Taken, NoBytes, Bytes, at, numbers}
use Rattle.commit_flush_spec.specs.Older.{covers, passes, nearest, any_touched, took_touched, violated}
use Rattle.frame_state.specs.declared.parts.Took.{Took}
use Rattle.frame_state.specs.inside.Held.{taken_if, all_taken}
use Rattle.frame_state.proofs.MarkFacts.{taken_got}
use Rattle.base.specs.Rows.{has_bit}
use Rattle.lsq_order.specs.inside.Masks.{IsNext}
use Rattle.lsq_order.specs.inside.Reached.{narrowed}
use Rattle.lsq_order.specs.inside.Wrong.{is_wrong, Finds}
use Rattle.lsq_order.proofs.BitFacts.{or_clear}
use Rattle.lsq_order.proofs.PassFacts.{not_there}

-- the load/store numbers are 32
pub numbers_are : numbers ≡ 32
unfolding numbers
numbers_are = refl

-- where the search begins, no store has narrowed what was touched
pub narrowed_start : (stores : ℕ → Option Stored) (from : ℕ) (touched : ℕ → Bool) (a : ℕ)
    → touched a ≡ narrowed stores from from touched a
narrowed_start stores zero touched a = refl
narrowed_start stores (suc k) touched a =
    let low : nat_lt k (suc k) ≡ true = lt-ltb k (suc k) (omega arith) in
    sym (ap (λ b. cond b (touched a) (not (covers (stores k) a) && narrowed stores (suc k) k touched a)) low)

-- one store more takes away the bytes that it covers
pub narrowed_next : (stores : ℕ → Option Stored) (from n m : ℕ) (touched : ℕ → Bool) (a : ℕ) → from ≤ n → m ≡ n + 1
    → narrowed stores from m touched a ≡ (not (covers (stores n) a) && narrowed stores from n touched a)
narrowed_next stores from n m touched a l e =
    let next : m ≡ suc n = omega (arith, e) in
    ap (λ k. narrowed stores from k touched a) next
    ∙ ap (λ b. cond b (touched a) (not (covers (stores n) a) && narrowed stores from n touched a)) (le-ltb n from l)

-- what a test of one load says
pub wrong_is : (stores : ℕ → Option Stored) (loads : List (Option Took)) (touched r : ℕ → Bool) (from n : ℕ)
    (t : Option Took) (b : Bool) → ((a : ℕ) → r a ≡ narrowed stores from n touched a) → t ≡ get_or loads n None
    → b ≡ took_touched r (taken_if t) → is_wrong stores (all_taken loads) touched from n ≡ b
wrong_is stores loads touched r from n t b h e eb =
    ap₂ took_touched (sym (fun_ext h)) (sym (ap taken_if e ∙ taken_got loads n)) ∙ sym eb

-- numbers without a store and without a load -------------------------------------------------------

-- where no store of some numbers is there, they leave all
pub narrowed_gap : (stores : ℕ → Option Stored) (from low high : ℕ) (touched : ℕ → Bool) (a : ℕ) → from ≤ low
    → low ≤ high → ((n : ℕ) → low ≤ n → n < high → stores n ≡ None)
    → narrowed stores from low touched a ≡ narrowed stores from high touched a
narrowed_gap stores from low zero touched a l le h =
    let none : low ≡ 0 = omega (arith, le) in ap (λ n. narrowed stores from n touched a) none
narrowed_gap stores from low (suc high) touched a l le h =
    go (λ m. narrowed_gap stores from low high touched a l m (λ n f k. h n f (omega (arith, k)))) (cases_lt high low)
  where
    go : (low ≤ high → narrowed stores from low touched a ≡ narrowed stores from high touched a)
        → (high < low) ⊎ (low ≤ high) → narrowed stores from low touched a ≡ narrowed stores from (suc high) touched a
    go rest (inl k) = let same : low ≡ suc high = omega (arith, k, le) in
        ap (λ n. narrowed stores from n touched a) same
    go rest (inr k) = rest k
        ∙ sym (narrowed_next stores from high (suc high) touched a (omega (arith, l, k)) (omega arith)
        ∙ ap (λ o. not (covers o a) && narrowed stores from high touched a) (h high k (omega arith)))

-- a load that is not answered is not wrong
pub unanswered : (stores : ℕ → Option Stored) (loads : List (Option Took)) (touched : ℕ → Bool) (from n : ℕ)
    → get_or loads n None ≡ None → is_wrong stores (all_taken loads) touched from n ≡ false
unanswered stores loads touched from n e =
    ap (took_touched (narrowed stores from n touched)) (sym (ap taken_if (sym e) ∙ taken_got loads n))

-- a number that the mask of both rows does not have is in neither
module _ (stores : List (Option Stored)) (loads : List (Option Took)) (kept asked low high : ℕ)
    (has_stores : (n : ℕ) → n < 64 → 64 * 0 + n < 32 → has_bit kept n ≡ is_some (get_or stores (64 * 0 + n) None))
    (has_loads : (n : ℕ) → n < 64 → 64 * 0 + n < 32 → has_bit asked n ≡ is_some (get_or loads (64 * 0 + n) None))
    (next : IsNext (bit_or kept asked % 2 ^ 32) low high) where
  -- where the mask of stores has no bit from `low` up to `high`, no store stands there
  pub no_store_between : (n : ℕ) → low ≤ n → n < high → get_or stores n None ≡ None
  no_store_between n f l =
      let w = next.within in
      not_there stores kept has_stores n (omega (arith, l, w))
      (or_clear kept asked n (omega (arith, l, w)) (next.none n f l)).0

  -- where the mask of asked loads has no bit from `low` up to `high`, no load stands there
  pub no_load_between : (n : ℕ) → low ≤ n → n < high → get_or loads n None ≡ None
  no_load_between n f l =
      let w = next.within in
      not_there loads asked has_loads n (omega (arith, l, w))
      (or_clear kept asked n (omega (arith, l, w)) (next.none n f l)).1

-- the window's words ------------------------------------------------------------------------------

violated_none : (touched : ℕ → ℕ → Bool) (loads : List (Option Taken))
    → ((m : ℕ) → m < length loads → took_touched (touched m) (at loads m) ≡ false) → violated touched loads ≡ false
violated_none touched [] h = refl
violated_none touched (t ∷ ts) h = ap₂ (λ x y. x || y) (h 0 (omega arith))
    (violated_none (λ n. touched (suc n)) ts (λ m l. h (suc m) (omega arith)))

or_true : (b : Bool) → (b || true) ≡ true
or_true true = refl
or_true false = refl

violated_some : (touched : ℕ → ℕ → Bool) (loads : List (Option Taken)) (m : ℕ)
    → took_touched (touched m) (at loads m) ≡ true → violated touched loads ≡ true
violated_some touched [] m e = absurd (cc)
violated_some touched (t ∷ ts) zero e = ap (λ b. b || violated (λ n. touched (suc n)) ts) e
violated_some touched (t ∷ ts) (suc m) e =
    ap (λ b. took_touched (touched 0) t || b) (violated_some (λ n. touched (suc n)) ts m e)
    ∙ or_true (took_touched (touched 0) t)

-- from number 0 on, what is left is what passes the stores
passes_at : (stores : ℕ → Option Stored) (n : ℕ) (touched : ℕ → Bool) (a : ℕ)
    → narrowed stores 0 n touched a ≡ passes stores n touched a
passes_at stores zero touched a = refl
passes_at stores (suc n) touched a =
    narrowed_next stores 0 n (suc n) touched a (omega arith) (omega arith)
    ∙ ap (λ b. not (covers (stores n) a) && b) (passes_at stores n touched a)

passes_is : (stores : ℕ → Option Stored) (n : ℕ) (touched : ℕ → Bool)
    → narrowed stores 0 n touched ≡ passes stores n touched
passes_is stores n touched = fun_ext (passes_at stores n touched)

-- a load of a younger frame is wrong exactly where one is found
pub found_is : (stores : ℕ → Option Stored) (loads : List (Option Taken)) (touched : ℕ → Bool) (from : ℕ)
    (o : Option ℕ)
    → Finds stores loads touched from o → from ≡ 0 → length loads ≡ 32
    → is_some o ≡ violated (λ n. passes stores n touched) loads
found_is stores loads touched from None h e size =
    sym (violated_none (λ n. passes stores n touched) loads (λ m l.
    ap (λ f. took_touched f (at loads m)) (sym (passes_is stores m touched))
    ∙ ap (λ k. is_wrong stores loads touched k m) (sym e) ∙ h m (omega (arith, e)) (omega (arith, l, size))))
found_is stores loads touched from (Some m) h e size =
    sym (violated_some (λ n. passes stores n touched) loads m
    (ap (λ f. took_touched f (at loads m)) (sym (passes_is stores m touched))
    ∙ ap (λ k. is_wrong stores loads touched k m) (sym e) ∙ h.wrong))

-- behind all numbers, what is still seen of the touched addresses is what passes the stores
pub left_is : (stores : ℕ → Option Stored) (touched : ℕ → Bool) (from a : ℕ) → from ≡ 0
    → narrowed stores from numbers touched a ≡ passes stores numbers touched a
left_is stores touched from a e = ap (λ k. narrowed stores k numbers touched a) e ∙ passes_at stores numbers touched a

-- its own frame -----------------------------------------------------------------------------------

and_false : (b : Bool) → (b && false) ≡ false
and_false true = refl
and_false false = refl

any_none : (a n : ℕ) → any_touched (λ z. false) a n ≡ false
any_none a zero = refl
any_none a (suc n) = any_none a n

took_none : (t : Option Taken) → took_touched (λ z. false) t ≡ false
took_none None = refl
took_none (Some NoBytes) = refl
took_none (Some (Bytes a n)) = any_none a n

-- store m is the nearest to nothing up to its own number
near_low : (stores : ℕ → Option Stored) (m n a : ℕ) → n ≤ m → nearest stores m n a ≡ false
near_low stores m zero a l = refl
near_low stores m (suc n) a l =
    let other : (n == m) ≡ false = grind (arith, nat_tests, l) in
    ap (λ b. cond b (covers (stores m) a) (not (covers (stores n) a) && nearest stores m n a)) other
    ∙ ap (λ b. not (covers (stores n) a) && b) (near_low stores m n a (omega arith))
    ∙ and_false (not (covers (stores n) a))

-- and behind it to what the stores between leave of its bytes
near_high : (stores : ℕ → Option Stored) (m n a : ℕ) → m < n
    → narrowed stores (suc m) n (covers (stores m)) a ≡ nearest stores m n a
near_high stores m zero a l = absurd (omega arith)
near_high stores m (suc n) a l = elim (cases_eq n m) [
  | inl e ↦
      let here : (n == m) ≡ true = grind (arith, nat_tests, e) in
      ap (λ k. narrowed stores (suc m) (suc k) (covers (stores m)) a) e
      ∙ sym (narrowed_start stores (suc m) (covers (stores m)) a)
      ∙ sym (ap (λ b. cond b (covers (stores m) a) (not (covers (stores n) a) && nearest stores m n a)) here)
  | inr ne ↦
      let other : (n == m) ≡ false = grind (arith, nat_tests, ne) in
      narrowed_next stores (suc m) n (suc n) (covers (stores m)) a (omega (arith, l, ne)) (omega arith)
      ∙ ap (λ b. not (covers (stores n) a) && b) (near_high stores m n a (omega (arith, l, ne)))
      ∙ sym (ap (λ b. cond b (covers (stores m) a) (not (covers (stores n) a) && nearest stores m n a)) other)
]

-- whether load l of the frame of store m is wrong, at what is left of the store's bytes
own_at : (stores : ℕ → Option Stored) (loads : List (Option Taken)) (touched : ℕ → Bool) (from m l : ℕ) → from ≡ m + 1
    → ((a : ℕ) → touched a ≡ covers (stores m) a) → m < l
    → is_wrong stores loads touched from l ≡ took_touched (nearest stores m l) (at loads l)
own_at stores loads touched from m l e h k =
    let next : from ≡ suc m = omega (arith, e) in
    ap (λ f. is_wrong stores loads f from l) (fun_ext h)
    ∙ ap (λ n. is_wrong stores loads (covers (stores m)) n l) next
    ∙ ap (λ f. took_touched f (at loads l)) (fun_ext (λ a. near_high stores m l a k))

-- a load of the frame of store m is wrong exactly where one is found behind it
pub own_found : (stores : ℕ → Option Stored) (loads : List (Option Taken)) (touched : ℕ → Bool) (from : ℕ)
    (o : Option ℕ)
    → Finds stores loads touched from o → (m : ℕ) → from ≡ m + 1 → ((a : ℕ) → touched a ≡ covers (stores m) a)
    → length loads ≡ 32 → is_some o ≡ violated (nearest stores m) loads
own_found stores loads touched from None h m e same size = sym (violated_none (nearest stores m) loads (λ l k.
    elim (cases_lt m l) [
      | inl below ↦ sym (own_at stores loads touched from m l e same below)
          ∙ h l (omega (arith, e, below)) (omega (arith, k, size))
      | inr above ↦ ap (λ f. took_touched f (at loads l)) (fun_ext (λ a. near_low stores m l a above))
          ∙ took_none (at loads l)
    ]))
own_found stores loads touched from (Some n) h m e same size =
    let below : m < n = (let k = h.from_on in omega (arith, e, k)) in
    sym (violated_some (nearest stores m) loads n (sym (own_at stores loads touched from m n e same below) ∙ h.wrong))

-- what is left of the store's bytes behind its frame
pub own_left : (stores : ℕ → Option Stored) (touched : ℕ → Bool) (from m a : ℕ) → from ≤ 32 → from ≡ m + 1
    → ((z : ℕ) → touched z ≡ covers (stores m) z)
    → narrowed stores from numbers touched a ≡ nearest stores m numbers a
own_left stores touched from m a l e same =
    let next : from ≡ suc m = omega (arith, e) in
    let z = numbers_are in
    let below : m < numbers = omega (arith, l, e, z) in
    ap (λ f. narrowed stores from numbers f a) (fun_ext same)
    ∙ ap (λ n. narrowed stores n numbers (covers (stores m)) a) next ∙ near_high stores m numbers a below
