-- The stores of a frame, one after another: which numbers are met, and what is taken behind them.
use Rattle.std.proofs.Common.{◌≡◌, ℕ, zero, suc, ◌+◌, ◌*◌, ◌%◌, ◌^◌, ◌<◌, ◌≤◌, ◌⊎◌, inl, inr, false, ◌==◌}
use Rattle.std.proofs.Common.{List, length, min, get_or, Option, Some, None, refl, sym, ap, ◌∙◌, arith}
use Rattle.std.specs.Prelude.{is_some}
use Rattle.std.proofs.Math.Path.{fun_ext}
use Rattle.std.proofs.lemmas.List.{get_or_past}
use Rattle.std.proofs.lemmas.Bool.{cases_lt, false≢true}
use Rattle.base.specs.Rows.{has_bit}
use Rattle.trips_isa.specs.declared.block.Stored.{Stored}
use Rattle.trips_isa.specs.Stores.{byte_of, byte_seen, or_byte}
use Rattle.lsq_order.specs.declared.sought.Sought.{Sought}
use Rattle.lsq_order.specs.inside.Masks.{IsEnd}
use Rattle.lsq_order.specs.inside.Taking.{bit_taken, taken}
use Rattle.lsq_order.proofs.BitFacts.{low_part, none_set}
use Rattle.lsq_order.proofs.TakingFacts.{taken_same}

-- a gap between stores ---------------------------------------------------------------------------

-- where no store of some numbers is there, what is seen behind them is what is seen before them
pub seen_gap : (stores : ℕ → Option Stored) (mem : ℕ → ℕ) (low high a : ℕ) → low ≤ high
    → ((n : ℕ) → low ≤ n → n < high → stores n ≡ None) → byte_seen stores mem high a ≡ byte_seen stores mem low a
seen_gap stores mem low zero a le h = let none : 0 ≡ low = omega (arith, le) in
    ap (λ n. byte_seen stores mem n a) none
seen_gap stores mem low (suc high) a le h =
    go (λ m. seen_gap stores mem low high a m (λ n f l. h n f (omega (arith, l)))) (cases_lt high low)
  where
    go : (low ≤ high → byte_seen stores mem high a ≡ byte_seen stores mem low a) → (high < low) ⊎ (low ≤ high)
        → byte_seen stores mem (suc high) a ≡ byte_seen stores mem low a
    go rest (inl l) = let same : suc high ≡ low = omega (arith, l, le) in ap (λ n. byte_seen stores mem n a) same
    go rest (inr l) = ap (λ o. or_byte (byte_of o a) (byte_seen stores mem high a)) (h high l (omega arith)) ∙ rest l

-- numbers without a store add nothing to what is taken of a bit
pub taken_gap : (s : Sought) (stores : ℕ → Option Stored) (mem : ℕ → ℕ) (low high i : ℕ) → low ≤ high
    → ((n : ℕ) → low ≤ n → n < high → stores n ≡ None)
    → bit_taken s (byte_seen stores mem low) i ≡ bit_taken s (byte_seen stores mem high) i
taken_gap s stores mem low high i le h =
    ap (λ m. bit_taken s m i) (fun_ext (λ a. sym (seen_gap stores mem low high a le h)))

-- a number that the mask of a row does not have
pub not_there : {A : Type 0} (row : List (Option A)) (word : ℕ)
    → ((n : ℕ) → n < 64 → 64 * 0 + n < 32 → has_bit word n ≡ is_some (get_or row (64 * 0 + n) None))
    → (n : ℕ) → n < 32 → has_bit (word % 2 ^ 32) n ≡ false → get_or row n None ≡ None
not_there {A} row word bits n l e =
    let first : 64 * 0 + n ≡ n = omega arith in
    none (get_or row n None)
    (ap (λ k. is_some (get_or row k None)) (sym first) ∙ sym (bits n (omega (arith, l)) (omega (arith, l)))
    ∙ sym (ap (λ b. b == 1) (low_part 32 word n l)) ∙ e)
  where
    none : (o : Option A) → is_some o ≡ false → o ≡ None
    none None h = refl
    none (Some s) h = absurd (false≢true (sym h))

-- no store stands between a number and the end of those below it
pub no_store : (row : List (Option Stored)) (word below m end : ℕ) → length row ≡ 32
    → ((n : ℕ) → n < 64 → 64 * 0 + n < 32 → has_bit word n ≡ is_some (get_or row (64 * 0 + n) None))
    → m ≡ min below 32 → IsEnd (word % 2 ^ 32) m end → (n : ℕ) → end ≤ n → n < below → get_or row n None ≡ None
no_store row word below m end size bits e is n from l = go (cases_lt n 32)
  where
    go : (n < 32) ⊎ (32 ≤ n) → get_or row n None ≡ None
    go (inl k) = not_there row word bits n k (is.none n from (omega (arith, l, k, e)))
    go (inr k) = get_or_past row n None (omega (arith, size, k))

-- one store more
pub turned : (s new : Sought) (stores : ℕ → Option Stored) (mem : ℕ → ℕ) (end k : ℕ) (o : Option Stored) (i : ℕ)
    → end ≡ k + 1 → o ≡ stores k
    → ((m : ℕ → ℕ) (j : ℕ) → j < 64 → bit_taken new m j ≡ bit_taken s (λ a. or_byte (byte_of o a) (m a)) j) → i < 64
    → bit_taken new (byte_seen stores mem k) i ≡ bit_taken s (byte_seen stores mem end) i
turned s new stores mem end k o i e eo meets l =
    let next : suc k ≡ end = omega (arith, e) in
    meets (byte_seen stores mem k) i l
    ∙ ap (λ p. bit_taken s (λ a. or_byte (byte_of p a) (byte_seen stores mem k a)) i) eo
    ∙ ap (λ n. bit_taken s (byte_seen stores mem n) i) next

-- where no store is there, all is as it was
pub none_passed : (s : Sought) (row : List (Option Stored)) (mem : ℕ → ℕ) (word below : ℕ) → length row ≡ 32
    → ((n : ℕ) → n < 64 → 64 * 0 + n < 32 → has_bit word n ≡ is_some (get_or row (64 * 0 + n) None)) → word ≡ 0
    → taken s mem ≡ taken s (byte_seen (λ n. get_or row n None) mem below)
none_passed s row mem word below size bits e = taken_same s s mem (byte_seen (λ n. get_or row n None) mem below)
    (λ i l.
    taken_gap s (λ n. get_or row n None) mem 0 below i (omega arith)
    (no_store row word below (min below 32) 0 size bits refl (record {
      within = omega arith;
      none = λ n f m. ap (λ w. has_bit (w % 2 ^ 32) n) e ∙ none_set n;
    })))
