-- The bytes of a store at a load, as a search for wrong loads and as the window's definitions have them.
use Rattle.std.proofs.Common.{◌≡◌, ℕ, zero, suc, ◌+◌, ◌<◌, ◌≤◌, Bool, true, false, cond, ◌&&◌}
use Rattle.std.proofs.Common.{not, ◌==◌, List, Option}
use Rattle.std.proofs.Common.{Some, None, inr, inl, refl, sym, ap, ◌∙◌, arith}
use Rattle.std.proofs.Math.Path.{fun_ext}
use Rattle.std.proofs.lemmas.Bool.{cases_eq}
use Rattle.std.proofs.lemmas.Bool.Decides.{nat_tests}
use Rattle.trips_isa.specs.declared.block.Stored.{Stored}
use Rattle.commit_flush_spec.specs.Frames.{Taken, NoBytes, Bytes, at}
use Rattle.commit_flush_spec.specs.Older.{covers, passes, nearest, any_touched, took_touched}
use Rattle.lsq_order.specs.inside.Reached.{narrowed}
use Rattle.lsq_order.specs.inside.Wrong.{is_wrong}
use Rattle.lsq_order.proofs.WrongFacts.{narrowed_start, narrowed_next}

-- from number 0 on, what is left is what passes the stores
passes_at : (stores : ℕ → Option Stored) (n : ℕ) (touched : ℕ → Bool) (a : ℕ)
    → narrowed stores 0 n touched a ≡ passes stores n touched a
passes_at stores zero touched a = refl
passes_at stores (suc n) touched a =
    narrowed_next stores 0 n (suc n) touched a (omega arith) (omega arith)
    ∙ ap (λ b. not (covers (stores n) a) && b) (passes_at stores n touched a)

-- the touched bytes that a search has left behind stores are those that pass them
pub passes_is : (stores : ℕ → Option Stored) (n : ℕ) (touched : ℕ → Bool)
    → narrowed stores 0 n touched ≡ passes stores n touched
passes_is stores n touched = fun_ext (passes_at stores n touched)

-- its own frame -----------------------------------------------------------------------------------

and_false : (b : Bool) → (b && false) ≡ false
and_false true = refl
and_false false = refl

any_none : (a n : ℕ) → any_touched (λ z. false) a n ≡ false
any_none a zero = refl
any_none a (suc n) = any_none a n

-- where no byte is touched, no load took a touched one
pub took_none : (t : Option Taken) → took_touched (λ z. false) t ≡ false
took_none None = refl
took_none (Some NoBytes) = refl
took_none (Some (Bytes a n)) = any_none a n

-- store m is the nearest to nothing up to its own number
pub near_low : (stores : ℕ → Option Stored) (m n a : ℕ) → n ≤ m → nearest stores m n a ≡ false
near_low stores m zero a l = refl
near_low stores m (suc n) a l =
    let other : (n == m) ≡ false = grind (arith, nat_tests, l) in
    ap (λ b. cond b (covers (stores m) a) (not (covers (stores n) a) && nearest stores m n a)) other
    ∙ ap (λ b. not (covers (stores n) a) && b) (near_low stores m n a (omega arith))
    ∙ and_false (not (covers (stores n) a))

-- and behind it to what the stores between leave of its bytes
near_high : (stores : ℕ → Option Stored) (m n a : ℕ) → m < n
    → narrowed stores (suc m) n (covers (stores m)) a ≡ nearest stores m n a
near_high stores m zero a l = absurd (omega arith)
near_high stores m (suc n) a l = elim (cases_eq n m) [
  | inl e ↦
      let here : (n == m) ≡ true = grind (arith, nat_tests, e) in
      ap (λ k. narrowed stores (suc m) (suc k) (covers (stores m)) a) e
      ∙ sym (narrowed_start stores (suc m) (covers (stores m)) a)
      ∙ sym (ap (λ b. cond b (covers (stores m) a) (not (covers (stores n) a) && nearest stores m n a)) here)
  | inr ne ↦
      let other : (n == m) ≡ false = grind (arith, nat_tests, ne) in
      narrowed_next stores (suc m) n (suc n) (covers (stores m)) a (omega (arith, l, ne)) (omega arith)
      ∙ ap (λ b. not (covers (stores n) a) && b) (near_high stores m n a (omega (arith, l, ne)))
      ∙ sym (ap (λ b. cond b (covers (stores m) a) (not (covers (stores n) a) && nearest stores m n a)) other)
]

-- whether load l of the frame of store m is wrong, at what is left of the store's bytes
pub own_at : (stores : ℕ → Option Stored) (loads : List (Option Taken)) (touched : ℕ → Bool) (from m l : ℕ)
    → from ≡ m + 1
    → ((a : ℕ) → touched a ≡ covers (stores m) a) → m < l
    → is_wrong stores loads touched from l ≡ took_touched (nearest stores m l) (at loads l)
own_at stores loads touched from m l e h k =
    let next : from ≡ suc m = omega (arith, e) in
    ap (λ f. is_wrong stores loads f from l) (fun_ext h)
    ∙ ap (λ n. is_wrong stores loads (covers (stores m)) n l) next
    ∙ ap (λ f. took_touched f (at loads l)) (fun_ext (λ a. near_high stores m l a k))
