-- How often blocks of a trace are committed.
use Rattle.std.proofs.Common.{◌≡◌, ◌≤◌, ◌<◌, ℕ, zero, suc, ◌+◌, ◌==◌, Bool, true, false, cond, List, [], ◌∷◌, ◌++◌}
use Rattle.std.proofs.Common.{drop, get_or, length, nat_lt, slice_index_or, refl, sym, ap, ap₂, ◌∙◌, true≢false, arith}
use Rattle.std.proofs.lemmas.Bool.{eq-eqb, eqb-true, ltb-false, ltb-true, ne_eqb}
use Rattle.std.proofs.lemmas.Grind.{get_or_default_zero}
use Rattle.std.proofs.lemmas.List.{at_drop_more}
use Rattle.trips_isa.specs.declared.run.Traced.{Traced}
use Rattle.trips_report.specs.Commits.{above, commit_line, commit_lines, commits_of, greater, lines_below, sum_below}

-- both numbers are at most the greater one
pub first_less : (a b : ℕ) → a ≤ greater a b
first_less a b = go (nat_lt a b) refl
  where
    go : (c : Bool) → nat_lt a b ≡ c → a ≤ cond c b a
    go true e = let l = ltb-true a b e in omega (arith, l)
    go false e = omega arith

pub second_less : (a b : ℕ) → b ≤ greater a b
second_less a b = go (nat_lt a b) refl
  where
    go : (c : Bool) → nat_lt a b ≡ c → b ≤ cond c b a
    go true e = omega arith
    go false e = ltb-false a b e

-- and the greater one is at most what both are
pub greater_least : (a b n : ℕ) → a ≤ n → b ≤ n → greater a b ≤ n
greater_least a b n x y = go (nat_lt a b)
  where
    go : (c : Bool) → cond c b a ≤ n
    go true = y
    go false = x

-- of three numbers the greatest may be taken in either order
pub greater_grouped : (a b c : ℕ) → greater (greater a b) c ≡ greater a (greater b c)
greater_grouped a b c =
    let one = greater_least (greater a b) c (greater a (greater b c))
    (greater_least a b (greater a (greater b c)) (first_less a (greater b c))
    (let x = first_less b c in let y = second_less a (greater b c) in omega (arith, x, y)))
    (let x = second_less b c in let y = second_less a (greater b c) in omega (arith, x, y)) in
    let two = greater_least a (greater b c) (greater (greater a b) c)
    (let x = first_less a b in let y = first_less (greater a b) c in omega (arith, x, y))
    (greater_least b c (greater (greater a b) c)
    (let x = second_less a b in let y = first_less (greater a b) c in omega (arith, x, y))
    (second_less (greater a b) c)) in
    omega (arith, one, two)

-- no more blocks of a number are committed than blocks
pub commits_few : (k : ℕ) (ts : List Traced) → commits_of k ts ≤ length ts
commits_few k [] = omega arith
commits_few k (t ∷ ts) = go (t.block == k) (commits_few k ts)
  where
    go : (c : Bool) → commits_of k ts ≤ length ts → cond c 1 0 + commits_of k ts ≤ suc (length ts)
    go true h = omega (arith, h)
    go false h = omega (arith, h)

-- where one more block is left, its number in a table is below that of all blocks
pub has_room : (xs : List ℕ) (ts : List Traced) (i n v : ℕ) (d : Traced) → i < length ts → length xs ≡ n
    → above (drop i ts) ≤ n → ((k : ℕ) → k < n → slice_index_or xs k 0 + commits_of k (drop i ts) ≡ commits_of k ts)
    → v ≡ slice_index_or xs (get_or ts i d).block v → v + 1 ≤ length ts
has_room xs ts i n v d l size fits each is =
    let t : Traced = get_or ts i d in
    let high : above (drop i ts) ≡ greater (suc t.block) (above (drop (i + 1) ts)) = at_drop_more above ts i d l in
    let least = first_less (suc t.block) (above (drop (i + 1) ts)) in
    let inside : t.block < n = omega (arith, high, least, fits) in
    let same = get_or_default_zero xs t.block v (omega (arith, inside, size)) in
    let more : commits_of t.block (drop i ts) ≡ commits_of t.block (t ∷ drop (i + 1) ts) =
    at_drop_more (commits_of t.block) ts i d l in
    let one : ◌≡◌ {A = ℕ} (cond (t.block == t.block) 1 0) 1 =
    ap (λ c. cond c 1 0) (eq-eqb t.block t.block refl) in
    let all = commits_few t.block ts in
    let sum = each t.block inside in
    omega (arith, sum, more, one, all, same, is)

-- lines of blocks that are committed as often are the same
pub same_lines : (f g : ℕ → ℕ) (n : ℕ) → ((k : ℕ) → k < n → f k ≡ g k) → lines_below f n ≡ lines_below g n
same_lines f g zero e = refl
same_lines f g (suc n) e = ap₂ (λ (x y : List ℕ). x ++ y) (same_lines f g n (λ k l. e k (omega (arith, l))))
    (ap (commit_line n) (e n (omega arith)))

-- the lines of a table are those of the trace that it counts
pub table_lines : (xs ys : List ℕ) (ts : List Traced) (n : ℕ) → xs ≡ ys → n ≡ above ts → length ys ≡ n
    → ((k : ℕ) → k < n → slice_index_or ys k 0 ≡ commits_of k ts)
    → lines_below (λ k. slice_index_or xs k 0) (length xs) ≡ commit_lines ts
table_lines xs ys ts n e is size each =
    ap (λ zs. lines_below (λ k. slice_index_or zs k 0) (length zs)) e
    ∙ ap (lines_below (λ k. slice_index_or ys k 0)) (size ∙ is)
    ∙ same_lines (λ k. slice_index_or ys k 0) (λ k. commits_of k ts) (above ts)
    (λ k l. each k (omega (arith, l, is)))

-- sums ------------------------------------------------------------------------------------------

-- of two rows that are added up
sum_both : (f g : ℕ → ℕ) (n : ℕ) → sum_below (λ k. f k + g k) n ≡ sum_below f n + sum_below g n
sum_both f g zero = refl
sum_both f g (suc n) = let e = sum_both f g n in omega (arith, e)

-- of a row with a single one, which stands at or behind its end, or before
sum_none : (b n : ℕ) → n ≤ b → sum_below (λ k. cond (b == k) 1 0) n ≡ 0
sum_none b zero l = refl
sum_none b (suc n) l =
    let e = sum_none b n (omega (arith, l)) in
    let off : ◌≡◌ {A = ℕ} (cond (b == n) 1 0) 0 = ap (λ c. cond c 1 0) (ne_eqb b n (λ z. omega (arith, l, z))) in
    omega (arith, e, off)

sum_one : (b n : ℕ) → b < n → sum_below (λ k. cond (b == k) 1 0) n ≡ 1
sum_one b zero l = omega (arith, l)
sum_one b (suc n) l = go (b == n) refl (sum_one b n)
  where
    less : (b ≡ n → ⊥) → b < n
    less ne = omega (arith, l, ne)

    go : (c : Bool) → (b == n) ≡ c → (b < n → sum_below (λ k. cond (b == k) 1 0) n ≡ 1)
        → sum_below (λ k. cond (b == k) 1 0) n + cond (b == n) 1 0 ≡ 1
    go true e h =
        let same : b ≡ n = eqb-true b n e in
        let before = sum_none b n (omega (arith, same)) in
        let here : ◌≡◌ {A = ℕ} (cond (b == n) 1 0) 1 = ap (λ c. cond c 1 0) e in
        omega (arith, before, here)
    go false e h =
        let before = h (less (λ z. absurd (true≢false (sym (eq-eqb b n z) ∙ e)))) in
        let here : ◌≡◌ {A = ℕ} (cond (b == n) 1 0) 0 = ap (λ c. cond c 1 0) e in
        omega (arith, before, here)

sum_zero : (n : ℕ) → sum_below (λ k. 0) n ≡ 0
sum_zero zero = refl
sum_zero (suc n) = let e = sum_zero n in omega (arith, e)

-- of how often the blocks of a trace are committed, over all their numbers
sum_all : (ts : List Traced) (n : ℕ) → above ts ≤ n → sum_below (λ k. commits_of k ts) n ≡ length ts
sum_all [] n l = sum_zero n
sum_all (t ∷ ts) n l =
    let first = first_less (suc t.block) (above ts) in
    let second = second_less (suc t.block) (above ts) in
    let rest = sum_all ts n (omega (arith, second, l)) in
    let one = sum_one t.block n (omega (arith, first, l)) in
    let both = sum_both (λ k. cond (t.block == k) 1 0) (λ k. commits_of k ts) n in
    omega (arith, rest, one, both)

pub commits_sum : (ts : List Traced) → sum_below (λ k. commits_of k ts) (above ts) ≡ length ts
commits_sum ts = sum_all ts (above ts) (omega arith)
