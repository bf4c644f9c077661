-- What the marks say of all cases.
use Rattle.std.proofs.Common.{◌≡◌, ℕ, zero, suc, ◌+◌, ◌<◌, ◌≤◌, Bool, true, false, ◌||◌, ◌&&◌, List}
use Rattle.std.proofs.Common.{[], ◌∷◌, length, refl, sym, ap, ap₂, ◌∙◌, arith, nat_lt, ◌==◌}
use Rattle.trips_isa.specs.declared.node.Node.{Node}
use Rattle.block_cases.specs.Nodes.{one_if, Walk, Step, Then, Ranked}
use Rattle.block_cases.specs.Cases.{bit, is_case, count, cases}
use Rattle.block_check.specs.inside.Walk.{tally, zeros}
use Rattle.block_check.specs.inside.PartOrder.{IsOrdered}
use Rattle.block_check.specs.inside.Found.{others, gets_two, gets_none, any, Added, Explored}
use Rattle.block_cases.specs.inside.Good.{IsAcyclic}
use Rattle.block_cases.proofs.Alike.{and_true, both_true}
use Rattle.block_check.proofs.Walk.{walk_exact}
use Rattle.block_check.proofs.Lists.{count_same}
use Rattle.block_check.proofs.Adding.{added_both, walk_others}

rises : (ns : List Node) (rank : ℕ → ℕ) → Ranked ns rank → (x y : ℕ) → Walk ns x y → rank x < rank y
rises ns rank o x y (Step e) = o.rises x y e
rises ns rank o x y (Then {y = z} e w) = let a : rank x < rank z = o.rises x z e in
    let b = rises ns rank o z y w in omega (arith, a, b)

-- nodes with an order along their edges have no cycle
pub ranked_acyclic : (ns : List Node) → (rank : ℕ → ℕ) × Ranked ns rank → IsAcyclic ns
ranked_acyclic ns r h = let lt = rises ns r.0 r.1 h.0 h.0 h.1 in omega (arith, lt)

-- a count above 0 has a list, and a list counts
-- -------------------------------------------------------

abbrev pub Passing : ℕ → (List Bool → Bool) → Type 0
Passing n p = (l : List Bool) × (length l ≡ n) × (p l ≡ true)

pub found_case : (n : ℕ) (p : List Bool → Bool) → 0 < count n p → Passing n p
found_case zero p h = ([], refl, go (p []) h)
  where
    go : (b : Bool) → 0 < one_if b → b ≡ true
    go true h = refl
    go false h = absurd (omega arith)
found_case (suc n) p h = go (nat_lt 0 (count n (λ l. p (false ∷ l)))) refl (found_case n (λ l. p
    (false ∷ l))) (found_case n (λ l. p (true ∷ l)))
  where
    go : (b : Bool) → nat_lt 0 (count n (λ l. p (false ∷ l))) ≡ b →
        (0 < count n (λ l. p (false ∷ l)) → Passing n (λ l. p (false ∷ l))) →
        (0 < count n (λ l. p (true ∷ l)) → Passing n (λ l. p (true ∷ l))) → Passing (suc n) p
    go true e f g = let t = f (positive _ e) in (false ∷ t.0, ap suc t.1, t.2)
      where
        positive : (k : ℕ) → nat_lt 0 k ≡ true → 0 < k
        positive k e = grind arith
    go false e f g = let t = g (rest _ _ e h) in (true ∷ t.0, ap suc t.1, t.2)
      where
        rest : (a b : ℕ) → nat_lt 0 a ≡ false → 0 < a + b → 0 < b
        rest a b e h = grind arith

pub is_counted : (n : ℕ) (p : List Bool → Bool) (l : List Bool) → length l ≡ n → p l ≡ true →
    0 < count n p
is_counted zero p [] s e = let k : one_if (p []) ≡ 1 = ap one_if e in omega arith
is_counted zero p (v ∷ vs) s e = absurd (cc)
is_counted (suc n) p [] s e = absurd (cc)
is_counted (suc n) p (false ∷ vs) s e = let k = is_counted n (λ l. p (false ∷ l)) vs (omega arith) e in
    omega (arith, k)
is_counted (suc n) p (true ∷ vs) s e = let k = is_counted n (λ l. p (true ∷ l)) vs (omega arith) e in
    omega (arith, k)

all_zeros : (l : List Bool) (n : ℕ) → length l ≡ n → ((k : ℕ) → k < n → bit l k ≡ false) →
    l ≡ zeros n
all_zeros [] zero s h = refl
all_zeros [] (suc n) s h = absurd (cc)
all_zeros (v ∷ vs) zero s h = absurd (cc)
all_zeros (v ∷ vs) (suc n) s h = ap₂ (λ b bs. b ∷ bs) (h 0 (omega arith)) (all_zeros vs n (omega
    arith) (λ k lt. h (suc k) (omega arith)))

-- the whole search
-- ----------------------------------------------------------------------------------

and_any : (a : Bool) → (a && true) ≡ a
and_any true = refl
and_any false = refl

positive : (k : ℕ) → nat_lt 0 k ≡ true → 0 < k
positive k e = grind arith

nothing : (k : ℕ) → nat_lt 0 k ≡ false → 0 < k → ⊥
nothing k e h = grind arith

above : (k : ℕ) → nat_lt 1 k ≡ true → 1 < k
above k e = grind arith

is_above : (k : ℕ) → 1 < k → nat_lt 1 k ≡ true
is_above k h = grind arith

is_zero : (k : ℕ) → (k == 0) ≡ true → k ≡ 0
is_zero k e = grind arith

zero_is : (k : ℕ) → k ≡ 0 → (k == 0) ≡ true
zero_is k h = grind arith

-- a search that starts without marks at the case of no bit, and goes on to all others, explores every case
pub explored : (ns : List Node) (order : List ℕ) (bits : List Bool) (c1 c2 : ℕ) (t0 t1 t2 n0 n1 n2
    : List Bool) → IsOrdered ns order → length bits ≡ length ns → ((k : ℕ) → k < length ns →
    bit bits k ≡ false) →
    ((k : ℕ) → k < 449 → bit t0 k ≡ false) → ((k : ℕ) → k < 449 → bit n0 k ≡ false) →
    Added ns (bits ∷ []) 0 c1 t0 t1 n0 n1 → Added ns (others ns order bits) c1 c2 t1 t2 n1 n2 →
    Explored ns c2 t2 n2
explored ns order bits c1 c2 t0 t1 t2 n0 n1 n2 o size clear tf nf a b = record {
  many = λ h. let m = added.many h in let s = all_cases in omega (arith, m, s);
  few = λ h. let m = added.few h in let s = all_cases in omega (arith, m, s);
  twos = λ h q lt e. let f = found_case (length ns) _ (positive _ (two_is h q lt e)) in
      let w = and_true _ _ f.2 in (f.0, record { size = f.1; bits = w.0 }, above _ w.1);
  no_twos = λ h q lt e g. let k = is_counted (length ns) (λ l. is_case ns l
      && gets_two ns q l) g.0 g.1.size (both_true _ _ g.1.bits (is_above _ g.2)) in
      nothing _ (two_is h q lt e) k;
  nones = λ h q lt e. let f = found_case (length ns) _ (positive _ (none_is h q lt e)) in
      let w = and_true _ _ f.2 in (f.0, record { size = f.1; bits = w.0 }, is_zero _ w.1);
  no_nones = λ h q lt e g. let k = is_counted (length ns) (λ l. is_case ns l
      && gets_none ns q l) g.0 g.1.size (both_true _ _ g.1.bits (zero_is _ g.2)) in
      nothing _ (none_is h q lt e) k;
}
  where
    added : Added ns (bits ∷ others ns order bits) 0 c2 t0 t2 n0 n2
    added = added_both ns (bits ∷ []) (others ns order bits) 0 c1 c2 t0 t1 t2 n0 n1 n2 a b

    same : (t : List Bool → Bool) → tally t (bits ∷ others ns order bits) ≡ count (length ns) (λ l.
        is_case ns l && t l)
    same t =
        ap (λ l. tally t (l ∷ others ns order l)) (all_zeros bits (length ns) size clear)
        ∙ sym (walk_others ns order (zeros (length ns)) t)
        ∙ sym (walk_exact ns o.0 o.1 order o.2 t)

    all_cases : tally any (bits ∷ others ns order bits) ≡ cases ns
    all_cases = same any ∙ count_same (length ns) _ _ (λ l e. and_any (is_case ns l))

    two_is : c2 ≤ 256 → (q : ℕ) → q < 449 → {v : Bool} → bit t2 q ≡ v →
        nat_lt 0 (count (length ns) (λ l. is_case ns l && gets_two ns q l)) ≡ v
    two_is h q lt e = ap (nat_lt 0) (sym (same (gets_two ns q))) ∙ ap (λ p. p
        || nat_lt 0 (tally (gets_two ns q) (bits ∷ others ns order bits))) (sym (tf q lt))
        ∙ sym (added.twos h q lt) ∙ e

    none_is : c2 ≤ 256 → (q : ℕ) → q < 449 → {v : Bool} → bit n2 q ≡ v →
        nat_lt 0 (count (length ns) (λ l. is_case ns l && gets_none ns q l)) ≡ v
    none_is h q lt e = ap (nat_lt 0) (sym (same (gets_none ns q))) ∙ ap (λ p. p
        || nat_lt 0 (tally (gets_none ns q) (bits ∷ others ns order bits))) (sym (nf q lt))
        ∙ sym (added.nones h q lt) ∙ e
