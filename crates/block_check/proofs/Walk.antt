-- The search visits exactly the cases.
use Rattle.std.proofs.Common.{◌≡◌, ℕ, zero, suc, ◌+◌, ◌<◌, ◌≤◌, Bool, true, false, ◌==◌, ◌&&◌, ◌||◌}
use Rattle.std.proofs.Common.{nat_lt, List, [], ◌∷◌, ◌++◌, length, slice_get, slice_set, refl, sym}
use Rattle.std.proofs.Common.{ap, ap₂, ◌∙◌, subst, true≢false, arith}
use Rattle.trips_isa.specs.declared.node.Node.{Node}
use Rattle.block_cases.specs.Nodes.{names, one_if, Ranked}
use Rattle.block_cases.specs.CaseRule.{no}
use Rattle.block_cases.specs.Choosers.{is_chooser}
use Rattle.block_cases.specs.Cases.{deepest, present, bit, token, has_bit}
use Rattle.block_cases.specs.Cases.{ones_pass, is_case, IsCase, count}
use Rattle.block_check.specs.inside.Walk.{branch, walk, tally, Sorted, zeros, Order}
use Rattle.block_cases.proofs.Steady.{or_left, or_right, present_below}
use Rattle.block_cases.proofs.Alike.{both_true, and_true, get_none}
use Rattle.block_check.proofs.Lists.{same_test, not_true, count_same, count_split, agree, agree_at}
use Rattle.block_check.proofs.Lists.{agree_from, one_list}

-- cases -----------------------------------------------------------------------------------------

-- where all ones of a list pass a test, each bit that is set passes it
pub ones_at : (l : List Bool) (f : ℕ → Bool) → ones_pass l f ≡ true → (x : ℕ) → bit l x ≡ true →
    f x ≡ true
ones_at [] f e x h = absurd (cc)
ones_at (true ∷ vs) f e zero h = (and_true _ _ e).0
ones_at (true ∷ vs) f e (suc x) h = ones_at vs (λ y. f (suc y)) (and_true _ _ e).1 x h
ones_at (false ∷ vs) f e zero h = absurd (cc)
ones_at (false ∷ vs) f e (suc x) h = ones_at vs (λ y. f (suc y)) e x h

-- where each bit that is set passes a test, all ones of the list do
pub ones_from : (l : List Bool) (f : ℕ → Bool) → ((x : ℕ) → bit l x ≡ true → f x ≡ true) →
    ones_pass l f ≡ true
ones_from [] f h = refl
ones_from (true ∷ vs) f h = both_true _ _ (h 0 refl) (ones_from vs (λ y. f (suc y)) (λ x e. h (suc
    x) e))
ones_from (false ∷ vs) f h = ones_from vs (λ y. f (suc y)) (λ x e. h (suc x) e)

pub bit_set_same : (l : List Bool) (x : ℕ) → x < length l → bit (slice_set l x true) x ≡ true
bit_set_same [] x h = absurd (omega arith)
bit_set_same (v ∷ vs) zero h = refl
bit_set_same (v ∷ vs) (suc x) h = bit_set_same vs x (omega arith)

pub bit_set_other : (l : List Bool) (x y : ℕ) → (x ≡ y → ⊥) → bit (slice_set l x true) y ≡ bit l y
bit_set_other [] x y h = refl
bit_set_other (v ∷ vs) zero zero h = absurd (h refl)
bit_set_other (v ∷ vs) zero (suc y) h = refl
bit_set_other (v ∷ vs) (suc x) zero h = refl
bit_set_other (v ∷ vs) (suc x) (suc y) h = bit_set_other vs x y (λ e. h (ap suc e))

set_size : (l : List Bool) (x : ℕ) → length (slice_set l x true) ≡ length l
set_size [] x = refl
set_size (v ∷ vs) zero = refl
set_size (v ∷ vs) (suc x) = ap suc (set_size vs x)

-- a node that has a bit is one
pub chooser_below : (ns : List Node) (c : List Bool) (x : ℕ) → has_bit ns c x ≡ true → x < length ns
chooser_below ns c x e = go (nat_lt x (length ns)) refl
  where
    go : (b : Bool) → nat_lt x (length ns) ≡ b → x < length ns
    go true i = grind arith
    go false i =
        let far : length ns ≤ x = grind arith in
        absurd (true≢false (sym e ∙ ap (λ s. is_chooser ns x s
        && present (token ns c x)) (get_none ns x far)))

-- whether x has a bit hangs on the bits of lower rank
has_bit_below : (ns : List Node) (rank : ℕ → ℕ) → Ranked ns rank → (c d : List Bool) (x : ℕ) →
    ((y : ℕ) → rank y < rank x → bit c y ≡ bit d y) → has_bit ns c x ≡ has_bit ns d x
has_bit_below ns rank o c d x h = ap (λ b. is_chooser ns x (slice_get ns x)
    && b) (present_below ns rank o (bit c) (bit d) x h deepest)

pub record Front (ns : List Node) (rank : ℕ → ℕ) (rest : List ℕ) (c : List Bool) : Type 0 where
  pub sorted : Sorted rank rest
  pub before : (y z : ℕ) → y < length ns → names rest y ≡ false → names rest z ≡ true →
      rank y ≤ rank z
  pub unset : (y : ℕ) → names rest y ≡ true → bit c y ≡ false
  pub case : IsCase ns c

eq_is : (a b : ℕ) → (a == b) ≡ true → a ≡ b
eq_is a b e = grind arith

eq_not : (a b : ℕ) → (a == b) ≡ false → a ≡ b → ⊥
eq_not a b e i = grind arith

eq_same : (a : ℕ) → (a == a) ≡ true
eq_same a = grind arith

names_cons : (x : ℕ) (xs : List ℕ) (y : ℕ) → names (x ∷ xs) y ≡ false → ((x ≡ y →
    ⊥) × (names xs y ≡ false))
names_cons x xs y e = go (x == y) refl e
  where
    go : (b : Bool) → (x == y) ≡ b → (b || names xs y) ≡ false → ((x ≡ y →
        ⊥) × (names xs y ≡ false))
    go true i e = absurd (cc)
    go false i e = (eq_not x y i, e)

names_other : (x : ℕ) (xs : List ℕ) (y : ℕ) → (x ≡ y → ⊥) → names xs y ≡ false →
    names (x ∷ xs) y ≡ false
names_other x xs y h e = go (x == y) refl
  where
    go : (b : Bool) → (x == y) ≡ b → (b || names xs y) ≡ false
    go true i = absurd (h (eq_is x y i))
    go false i = e

-- what has a rank below the first that is left is done
lower_done : (ns : List Node) (rank : ℕ → ℕ) (x : ℕ) (xs : List ℕ) → Sorted rank (x ∷ xs) →
    (y : ℕ) → rank y < rank x → names (x ∷ xs) y ≡ false
lower_done ns rank x xs s y lt = names_other x xs y (λ e. let k : rank x ≡ rank y = ap rank e in
    omega arith) (not_true _ (λ e. let k : rank x ≤ rank y = s.0 y e in omega arith))

next_before : (ns : List Node) (rank : ℕ → ℕ) (x : ℕ) (xs : List ℕ) (c : List Bool) →
    Front ns rank (x ∷ xs) c → (y z : ℕ) → y < length ns → names xs y ≡ false → names xs z ≡ true →
    rank y ≤ rank z
next_before ns rank x xs c f y z lt a b = go (x == y) refl
  where
    go : (d : Bool) → (x == y) ≡ d → rank y ≤ rank z
    go true i = subst (λ k. rank k ≤ rank z) (eq_is x y i) (f.sorted.0 z b)
    go false i = f.before y z lt (names_other x xs y (eq_not x y i) a) (or_right (x == z) _ b)

-- the front past a node without a bit
past : (ns : List Node) (rank : ℕ → ℕ) (x : ℕ) (xs : List ℕ) (c : List Bool) →
    Front ns rank (x ∷ xs) c → Front ns rank xs c
past ns rank x xs c f = record {
  sorted = f.sorted.2;
  before = next_before ns rank x xs c f;
  unset
      = λ y e. f.unset y (or_right (x == y) _ e);
  case = f.case;
}

past_set : (ns : List Node) (rank : ℕ → ℕ) → Ranked ns rank →
    (x : ℕ) (xs : List ℕ) (c : List Bool) → Front ns rank (x ∷ xs) c → has_bit ns c x ≡ true →
    Front ns rank xs (slice_set c x true)
past_set ns rank o x xs c f e = record {
  sorted = f.sorted.2;
  before = next_before ns rank x xs c f;
  unset = λ y i. bit_set_other c x y (λ k. true≢false (sym i ∙ ap (names xs) (sym k) ∙ f.sorted.1))
      ∙ f.unset y (or_right (x == y) _ i);
  case = record { size = set_size c x ∙ f.case.size; bits = ones_from _ _ passing };
}
  where
    -- below the rank of a node that is done, nothing changes
    steady : (y : ℕ) → rank y ≤ rank x → has_bit ns (slice_set c x true) y ≡ has_bit ns c y
    steady y le = has_bit_below ns rank o (slice_set c x true) c y (λ z lt. bit_set_other c x z (λ
        k. let r : rank x ≡ rank z = ap rank k in absurd (omega arith)))

    passing : (y : ℕ) → bit (slice_set c x true) y ≡ true → has_bit ns (slice_set c x true) y ≡ true
    passing y b = go (x == y) refl
      where
        go : (d : Bool) → (x == y) ≡ d → has_bit ns (slice_set c x true) y ≡ true
        go true i = steady y (let r : rank x ≡ rank y = ap rank (eq_is x y i) in omega arith)
            ∙ ap (has_bit ns c) (sym (eq_is x y i)) ∙ e
        go false i =
            let was : bit c y ≡ true = sym (bit_set_other c x y (eq_not x y i)) ∙ b in
            let h : has_bit ns c y ≡ true = ones_at c (has_bit ns c) f.case.bits y was in
            let done : names (x ∷ xs) y ≡ false = not_true _ (λ k. true≢false (sym was
            ∙ f.unset y k)) in
            steady y (f.before y x (chooser_below ns c y h) done (or_left _ _ (eq_same x))) ∙ h

-- the cases that agree with c but on what is left, and pass a test
abbrev left_over : List Node → List ℕ → List Bool → (List Bool → Bool) → List Bool → Bool
left_over ns rest c t l = agree (names rest) c l && (is_case ns l && t l)

-- of two lists of cases as many pass as of the one and of the other
pub tally_append : (t : List Bool → Bool) (a b : List (List Bool)) →
    tally t (a ++ b) ≡ tally t a + tally t b
tally_append t [] b = sym (omega arith)
tally_append t (c ∷ cs) b = let e = tally_append t cs b in omega (arith, e)

same_has : (ns : List Node) (rank : ℕ → ℕ) → Ranked ns rank →
    (x : ℕ) (xs : List ℕ) (c l : List Bool) → Front ns rank (x ∷ xs) c → length l ≡ length ns →
    agree (names (x ∷ xs)) c l ≡ true → has_bit ns l x ≡ has_bit ns c x
same_has ns rank o x xs c l f s a = has_bit_below ns rank o l c x (λ y lt. sym (agree_at (names (x
    ∷ xs)) c l (f.case.size ∙ sym s) a y (lower_done ns rank x xs f.sorted y lt)))

-- what agrees at the first that is left too
narrow : (x : ℕ) (xs : List ℕ) (c l : List Bool) → length c ≡ length l →
    agree (names (x ∷ xs)) c l ≡ true → bit c x ≡ bit l x → agree (names xs) c l ≡ true
narrow x xs c l s a e = agree_from (names xs) c l (λ y h. go y h (x == y) refl)
  where
    go : (y : ℕ) → names xs y ≡ false → (b : Bool) → (x == y) ≡ b → bit c y ≡ bit l y
    go y h true i = subst (λ k. bit c k ≡ bit l k) (eq_is x y i) e
    go y h false i = agree_at (names (x ∷ xs)) c l s a y (names_other x xs y (eq_not x y i) h)

widen : (x : ℕ) (xs : List ℕ) (c l : List Bool) → length c ≡ length l →
    agree (names xs) c l ≡ true → agree (names (x ∷ xs)) c l ≡ true
widen x xs c l s a = agree_from (names (x ∷ xs)) c l (λ y h. agree_at (names xs) c l s a y
    (names_cons x xs y h).1)

step_without : (ns : List Node) (rank : ℕ → ℕ) → Ranked ns rank →
    (x : ℕ) (xs : List ℕ) (c : List Bool) → Front ns rank (x ∷ xs) c → has_bit ns c x ≡ false →
    (t : List Bool → Bool) (l : List Bool) → length l ≡ length ns →
    left_over ns (x ∷ xs) c t l ≡ left_over ns xs c t l
step_without ns rank o x xs c f e t l s = same_test _ _ there back
  where
    size : length c ≡ length l
    size = f.case.size ∙ sym s

    there : left_over ns (x ∷ xs) c t l ≡ true → left_over ns xs c t l ≡ true
    there h =
        let a = and_true _ _ h in
        let b = and_true _ _ a.1 in
        let none : bit l x ≡ false = not_true _ (λ k. true≢false (sym (ones_at l (has_bit ns l) b.0
        x k) ∙ same_has ns rank o x xs c l f s a.0 ∙ e)) in
        both_true _ _ (narrow x xs c l size a.0 (f.unset x (or_left _ _ (eq_same x))
        ∙ sym none)) a.1

    back : left_over ns xs c t l ≡ true → left_over ns (x ∷ xs) c t l ≡ true
    back h = let a = and_true _ _ h in both_true _ _ (widen x xs c l size a.0) a.1

no_is : (b : Bool) → no b ≡ true → b ≡ false
no_is true e = sym e
no_is false e = refl

step_zero : (ns : List Node) (rank : ℕ → ℕ) (x : ℕ) (xs : List ℕ) (c : List Bool) →
    Front ns rank (x ∷ xs) c → (t : List Bool → Bool) (l : List Bool) → length l ≡ length ns →
    (left_over ns (x ∷ xs) c t l && no (bit l x)) ≡ left_over ns xs c t l
step_zero ns rank x xs c f t l s = same_test _ _ there back
  where
    size : length c ≡ length l
    size = f.case.size ∙ sym s

    unset : bit c x ≡ false
    unset = f.unset x (or_left _ _ (eq_same x))

    there : (left_over ns (x ∷ xs) c t l && no (bit l x)) ≡ true → left_over ns xs c t l ≡ true
    there h =
        let w = and_true _ _ h in
        let a = and_true _ _ w.0 in
        both_true _ _ (narrow x xs c l size a.0 (unset ∙ sym (no_is _ w.1))) a.1

    back : left_over ns xs c t l ≡ true → (left_over ns (x ∷ xs) c t l && no (bit l x)) ≡ true
    back h =
        let a = and_true _ _ h in
        let is : bit c x ≡ bit l x = agree_at (names xs) c l size a.0 x f.sorted.1 in
        both_true _ _ (both_true _ _ (widen x xs c l size a.0) a.1) (ap no (sym is ∙ unset))

step_one : (ns : List Node) (rank : ℕ → ℕ) (x : ℕ) (xs : List ℕ) (c : List Bool) →
    Front ns rank (x ∷ xs) c → x < length ns → (t : List Bool → Bool) (l : List Bool) →
    length l ≡ length ns → (left_over ns (x ∷ xs) c t l
    && bit l x) ≡ left_over ns xs (slice_set c x true) t l
step_one ns rank x xs c f below t l s = same_test _ _ there back
  where
    size : length c ≡ length l
    size = f.case.size ∙ sym s

    size_set : length (slice_set c x true) ≡ length l
    size_set = set_size c x ∙ size

    set_is : bit (slice_set c x true) x ≡ true
    set_is = bit_set_same c x (let e : length c ≡ length ns = f.case.size in omega arith)

    there : (left_over ns (x ∷ xs) c t l && bit l x) ≡ true →
        left_over ns xs (slice_set c x true) t l ≡ true
    there h =
        let w = and_true _ _ h in
        let a = and_true _ _ w.0 in
        both_true _ _ (narrow x xs (slice_set c x true) l size_set (agree_from _ _ _ (λ y k. let n
        = names_cons x xs y k in bit_set_other c x y n.0
        ∙ agree_at (names (x ∷ xs)) c l size a.0 y k)) (set_is ∙ sym w.1)) a.1

    back : left_over ns xs (slice_set c x true) t l ≡ true →
        (left_over ns (x ∷ xs) c t l && bit l x) ≡ true
    back h =
        let a = and_true _ _ h in
        let is : bit (slice_set c x true) x ≡ bit l x = agree_at (names xs) (slice_set c x true) l
        size_set a.0 x f.sorted.1 in
        both_true _ _
        (both_true _ _ (agree_from (names (x ∷ xs)) c l (λ y k. let n = names_cons x xs y k in
        sym (bit_set_other c x y n.0) ∙ agree_at (names xs) (slice_set c x true) l size_set
        a.0 y n.1)) a.1)
        (sym is ∙ set_is)

-- the search visits the cases that agree with c
pub visits : (ns : List Node) (rank : ℕ → ℕ) → Ranked ns rank → (rest : List ℕ) (c : List Bool) →
    Front ns rank rest c → (t : List Bool → Bool) → count (length ns) (left_over ns rest c t) ≡
    tally t (walk ns rest c)
visits ns rank o [] c f t = one_list c (length ns) f.case.size (λ l. is_case ns l && t l)
    ∙ ap (λ b. one_if (b && t c)) f.case.bits ∙ sym (omega arith)
visits ns rank o (x ∷ xs) c f t =
    go (has_bit ns c x) refl (visits ns rank o xs c (past ns rank x xs c f) t) (λ e. visits ns rank
    o xs (slice_set c x true) (past_set ns rank o x xs c f e) t)
  where
    go : (b : Bool) → has_bit ns c x ≡ b → count (length ns) (left_over ns xs c t) ≡ tally t (walk
        ns xs c) → (has_bit ns c x ≡ true → count (length ns) (left_over ns xs (slice_set c x true)
        t) ≡ tally t (walk ns xs (slice_set c x true))) →
        count (length ns) (left_over ns (x ∷ xs) c t) ≡ tally t (branch b (walk ns xs c) (walk ns
        xs (slice_set c x true)))
    go false e z u = count_same (length ns) _ _ (step_without ns rank o x xs c f e t) ∙ z
    go true e z u =
        count_split (length ns) (left_over ns (x ∷ xs) c t) (λ l. bit l x)
        ∙ ap₂ (λ a b. a + b)
        (count_same (length ns) _ _ (step_zero ns rank x xs c f t) ∙ z)
        (count_same (length ns) _ _ (step_one ns rank x xs c f (chooser_below ns c x e) t)
        ∙ u e)
        ∙ sym (tally_append t (walk ns xs c) (walk ns xs (slice_set c x true)))

-- the whole search --------------------------------------------------------------------------------

-- of a list of zeros no bit is set
pub bit_zeros : (n x : ℕ) → bit (zeros n) x ≡ false
bit_zeros zero x = refl
bit_zeros (suc n) zero = refl
bit_zeros (suc n) (suc x) = bit_zeros n x

-- a list of n zeros has length n
pub zeros_size : (n : ℕ) → length (zeros n) ≡ n
zeros_size zero = refl
zeros_size (suc n) = ap suc (zeros_size n)

bit_far : (l : List Bool) (x : ℕ) → length l ≤ x → bit l x ≡ false
bit_far [] x h = refl
bit_far (v ∷ vs) zero h = absurd (omega arith)
bit_far (v ∷ vs) (suc x) h = bit_far vs x (omega arith)

pub start : (ns : List Node) (rank : ℕ → ℕ) (order : List ℕ) → Order ns rank order →
    Front ns rank order (zeros (length ns))
start ns rank order w = record {
  sorted = w.sorted;
  before = λ y z lt a b. absurd (true≢false (sym (w.whole y lt) ∙ a));
  unset = λ y e. bit_zeros (length ns) y;
  case = record {
    size = zeros_size (length ns);
    bits = ones_from _ _ (λ x e. absurd (true≢false
        (sym e ∙ bit_zeros (length ns) x)));
  };
}

-- for every test: as many cases pass it as visited lists do
pub walk_exact : (ns : List Node) (rank : ℕ → ℕ) → Ranked ns rank → (order : List ℕ) →
    Order ns rank order → (t : List Bool → Bool) → count (length ns) (λ l. is_case ns l
    && t l) ≡ tally t (walk ns order (zeros (length ns)))
walk_exact ns rank o order w t =
    count_same (length ns) _ _ (λ l s. sym (ap (λ b. b && (is_case ns l
    && t l)) (agree_from (names order) (zeros (length ns)) l (λ y e. go y e l s (nat_lt y
    (length ns)) refl))))
    ∙ visits ns rank o order (zeros (length ns)) (start ns rank order w) t
  where
    go : (y : ℕ) → names order y ≡ false → (l : List Bool) → length l ≡ length ns → (b : Bool) →
        nat_lt y (length ns) ≡ b → bit (zeros (length ns)) y ≡ bit l y
    go y e l s true i = let lt : y < length ns = grind arith in
        absurd (true≢false (sym (w.whole y lt) ∙ e))
    go y e l s false i = let far : length ns ≤ y = grind arith in bit_zeros (length ns) y
        ∙ sym (bit_far l y (let k : length l ≡ length ns = s in omega arith))
