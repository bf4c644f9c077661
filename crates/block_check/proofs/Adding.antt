-- What the search adds, case by case.
use Rattle.std.proofs.Common.{◌≡◌, ℕ, zero, suc, ◌+◌, ◌*◌, ◌<◌, ◌≤◌, Bool, true, false, ◌||◌, List}
use Rattle.std.proofs.Common.{[], ◌∷◌, ◌++◌, length, get_or, take, drop, Some, slice_get, slice_set}
use Rattle.std.proofs.Common.{refl, sym, ap, ap₂, ◌∙◌, subst, arith, nat_lt, ◌==◌}
use Rattle.block_cases.specs.declared.token.CaseToken.{CaseToken}
use Rattle.block_cases.specs.declared.token.CaseToken.TheVariants.{Absent, Null, Bit}
use Rattle.trips_isa.specs.declared.node.Node.{Node}
use Rattle.trips_isa.specs.declared.form.Role.TheVariants.{Empty}
use Rattle.trips_isa.specs.declared.block.Sense.TheVariants.{Always}
use Rattle.block_cases.specs.Nodes.{targets, hits, one_if}
use Rattle.block_cases.specs.Cases.{bit, tokens, present, weighed, has_bit}
use Rattle.block_check.specs.inside.Walk.{walk, branch, tally}
use Rattle.block_check.specs.inside.Found.{extra, others, gets_two, gets_none, any, Added}
use Rattle.block_check.proofs.Walk.{tally_append}

-- tokens ----------------------------------------------------------------------------------------

pub tokens_more : (ns : List Node) (x : ℕ) (n : Node) (f : ℕ → CaseToken) (q : ℕ) →
    slice_get ns x ≡ Some n → tokens (take (x + 1) ns) f q ≡ tokens (take x ns) f q + weighed (f x)
    (hits (targets n) q)
tokens_more ns x n f q e = let one : x + 1 ≡ suc x = omega arith in
    ap (λ k. tokens (take k ns) f q) one ∙ go ns x f e
  where
    go : (ns : List Node) (x : ℕ) (f : ℕ → CaseToken) → slice_get ns x ≡ Some n →
        tokens (take (suc x) ns) f q ≡ tokens (take x ns) f q + weighed (f x) (hits (targets n) q)
    go [] x f e = absurd (cc)
    go (m ∷ ms) zero f e =
        let same : m ≡ n = cc in
        let h : weighed (f 0) (hits (targets m) q) ≡ weighed (f 0) (hits (targets n) q) = ap (λ (k
        : Node). weighed (f 0) (hits (targets k) q)) same in
        omega (arith, h)
    go (m ∷ ms) (suc x) f e = let h = go ms x (λ y. f (suc y)) e in omega (arith, h)

pub weighed_there : (t : CaseToken) (k : ℕ) → present t ≡ true → weighed t k ≡ k
weighed_there Absent k e = absurd (cc)
weighed_there Null k e = refl
weighed_there (Bit v) k e = refl

pub weighed_absent : (t : CaseToken) (k : ℕ) → present t ≡ false → weighed t k ≡ 0
weighed_absent Absent k e = refl
weighed_absent Null k e = absurd (cc)
weighed_absent (Bit v) k e = absurd (cc)

one_if_le : (b : Bool) → one_if b ≤ 1
one_if_le true = omega arith
one_if_le false = omega arith

pub hits_le : (n : Node) (q : ℕ) → hits (targets n) q ≤ 2
hits_le n q = let a = one_if_le (n.first == q) in let b = one_if_le (n.second == q) in
    omega (arith, a, b)

-- additions -------------------------------------------------------------------------------------

or_sum : (b : Bool) (m n : ℕ) → ((b || nat_lt 0 m) || nat_lt 0 n) ≡ (b || nat_lt 0 (m + n))
or_sum true m n = refl
or_sum false zero n = ap (nat_lt 0) (omega arith)
or_sum false (suc m) n = let lt : 0 < suc m + n = omega arith in grind arith

-- what is added for some cases and then for others is added for both together
pub added_both : (ns : List Node) (ps qs : List (List Bool)) (c0 c1 c2 : ℕ) (t0 t1 t2 n0 n1 n2 :
    List Bool) → Added ns ps c0 c1 t0 t1 n0 n1 → Added ns qs c1 c2 t1 t2 n1 n2 →
    Added ns (ps ++ qs) c0 c2 t0 t2 n0 n2
added_both ns ps qs c0 c1 c2 t0 t1 t2 n0 n1 n2 a b = record {
  more = omega arith;
  many = λ h. by_many (nat_lt 256 c1) refl h;
  few = λ h. let m : c1 ≤ 256 = first_few h in let p = a.few m in let q = b.few h in
      let s = tally_append any ps qs in omega (arith, p, q, s);
  twos = λ h q l. b.twos h q l ∙ ap (λ v. v || nat_lt 0 (tally (gets_two ns q) qs)) (a.twos
      (first_few h) q l) ∙ or_sum (bit t0 q) _ _ ∙ ap (λ k. bit t0 q
      || nat_lt 0 k) (sym (tally_append (gets_two ns q) ps qs));
  nones = λ h q l. b.nones h q l ∙ ap (λ v. v || nat_lt 0 (tally (gets_none ns q) qs)) (a.nones
      (first_few h) q l) ∙ or_sum (bit n0 q) _ _ ∙ ap (λ k. bit n0 q
      || nat_lt 0 k) (sym (tally_append (gets_none ns q) ps qs));
}
  where
    first_few : c2 ≤ 256 → c1 ≤ 256
    first_few h = let m : c1 ≤ c2 = b.more in omega arith

    by_many : (v : Bool) → nat_lt 256 c1 ≡ v → 256 < c2 → 256 < c0 + tally any (ps ++ qs)
    by_many true e h = let lt : 256 < c1 = grind arith in let m = a.many lt in
        let s = tally_append any ps qs in omega (arith, m, s)
    by_many false e h = let le : c1 ≤ 256 = grind arith in let f = a.few le in let m = b.many h in
        let s = tally_append any ps qs in omega (arith, f, m, s)

pub added_full : (ns : List Node) (ps qs : List (List Bool)) (c0 c1 : ℕ) (t0 t1 n0 n1 : List Bool) →
    Added ns ps c0 c1 t0 t1 n0 n1 → 256 < c1 → Added ns (ps ++ qs) c0 c1 t0 t1 n0 n1
added_full ns ps qs c0 c1 t0 t1 n0 n1 a lt = record {
  more = a.more;
  many = λ h. let m = a.many h in let s = tally_append any ps qs in omega (arith, m, s);
  few = λ h. absurd (omega arith);
  twos = λ h. absurd (omega arith);
  nones = λ h. absurd (omega arith);
}

append_nil : (ps : List (List Bool)) → ps ++ [] ≡ ps
append_nil [] = refl
append_nil (a ∷ ps) = ap (λ qs. a ∷ qs) (append_nil ps)

-- what is said of x ∷ xs, in terms of the place
abbrev pub AddedAt : List Node → List ℕ → ℕ → List Bool → ℕ → ℕ → List Bool → List Bool →
    List Bool → List Bool → Type 0
AddedAt ns order at c c0 c1 t0 t1 n0 n1 = Added ns (others ns (drop at order) c) c0 c1 t0 t1 n0 n1

pub drop_at : (order : List ℕ) (at : ℕ) → at < length order →
    drop at order ≡ get_or order at 0 ∷ drop (at + 1) order
drop_at order at h = let one : suc at ≡ at + 1 = omega arith in go order at h
    ∙ ap (λ k. get_or order at 0 ∷ drop k order) one
  where
    go : (order : List ℕ) (at : ℕ) → at < length order →
        drop at order ≡ get_or order at 0 ∷ drop (suc at) order
    go [] at h = absurd (omega arith)
    go (x ∷ xs) zero h = refl
    go (x ∷ xs) (suc at) h = go xs at (omega arith)

-- where more than 256 cases were found, what is added from the next node on is added from this one
pub at_full : (ns : List Node) (order : List ℕ) (at : ℕ) (c : List Bool) (c0 c1 : ℕ) (t0 t1 n0 n1 :
    List Bool) → at < length order → AddedAt ns order (at + 1) c c0 c1 t0 t1 n0 n1 → 256 < c1 →
    AddedAt ns order at c c0 c1 t0 t1 n0 n1
at_full ns order at c c0 c1 t0 t1 n0 n1 h a lt =
    subst (λ l. Added ns (others ns l c) c0 c1 t0 t1 n0 n1) (sym (drop_at order at h)) (added_full
    ns _ _ c0 c1 t0 t1 n0 n1 a lt)

pub at_without : (ns : List Node) (order : List ℕ) (at : ℕ) (c : List Bool) (c0 c1 : ℕ) (t0 t1 n0
    n1 : List Bool) → at < length order → AddedAt ns order (at + 1) c c0 c1 t0 t1 n0 n1 →
    has_bit ns c (get_or order at 0) ≡ false → AddedAt ns order at c c0 c1 t0 t1 n0 n1
at_without ns order at c c0 c1 t0 t1 n0 n1 h a e =
    subst (λ l. Added ns (others ns l c) c0 c1 t0 t1 n0 n1) (sym (drop_at order at h))
    (subst (λ b. Added ns (others ns (drop (at + 1) order) c ++ extra b (slice_set c (get_or
    order at 0) true) (others ns (drop (at + 1) order) (slice_set c (get_or order at 0)
    true))) c0 c1 t0 t1 n0 n1) (sym e)
    (subst (λ l. Added ns l c0 c1 t0 t1 n0 n1) (sym (append_nil (others ns (drop (at + 1)
    order) c))) a))

-- where a node has a bit, what is added without it, for the case with it, and behind it is added from this node
-- on
pub at_with : (ns : List Node) (order : List ℕ) (at : ℕ) (c d : List Bool) (c0 c1 c2 c3 : ℕ) (t0 t1
    t2 t3 n0 n1 n2 n3 : List Bool) → at < length order →
    d ≡ slice_set c (get_or order at 0) true → has_bit ns c (get_or order at 0) ≡ true →
    AddedAt ns order (at + 1) c c0 c1 t0 t1 n0 n1 → Added ns (d ∷ []) c1 c2 t1 t2 n1 n2 →
    AddedAt ns order (at + 1) d c2 c3 t2 t3 n2 n3 →
    AddedAt ns order at c c0 c3 t0 t3 n0 n3
at_with ns order at c d c0 c1 c2 c3 t0 t1 t2 t3 n0 n1 n2 n3 h s e a b f =
    subst (λ l. Added ns (others ns l c) c0 c3 t0 t3 n0 n3) (sym (drop_at order at h))
    (subst (λ v. Added ns (others ns (drop (at + 1) order) c ++ extra v (slice_set c (get_or
    order at 0) true) (others ns (drop (at + 1) order) (slice_set c (get_or order at 0)
    true))) c0 c3 t0 t3 n0 n3) (sym e)
    (subst (λ g. Added ns (others ns (drop (at + 1) order) c ++ (g ∷ others ns (drop (at +
    1) order) g)) c0 c3 t0 t3 n0 n3) s
    (added_both ns _ _ c0 c1 c3 t0 t1 t3 n0 n1 n3 a (added_both ns (d ∷ []) (others ns
    (drop (at + 1) order) d) c1 c2 c3 t1 t2 t3 n1 n2 n3 b f))))

-- a bit that is set and then given back leaves the case as it was
pub restore : (c : List Bool) (x : ℕ) (v : Bool) → slice_set (slice_set c x v) x (get_or c x false)
    ≡ c
restore [] x v = refl
restore (b ∷ qs) zero v = refl
restore (b ∷ qs) (suc x) v = ap (λ l. b ∷ l) (restore qs x v)

-- the others and c itself are the walk
pub walk_others : (ns : List Node) (rest : List ℕ) (c : List Bool) (t : List Bool → Bool) →
    tally t (walk ns rest c) ≡ one_if (t c) + tally t (others ns rest c)
walk_others ns [] c t = refl
walk_others ns (x ∷ xs) c t = go (has_bit ns c x) (walk_others ns xs c t) (walk_others ns xs
    (slice_set c x true) t)
  where
    go : (b : Bool) → tally t (walk ns xs c) ≡ one_if (t c) + tally t (others ns xs c) →
        tally t (walk ns xs (slice_set c x true)) ≡ one_if (t (slice_set c x true)) + tally t
        (others ns xs (slice_set c x true)) →
        tally t (branch b (walk ns xs c) (walk ns xs (slice_set c x true))) ≡ one_if (t c) + tally
        t (others ns xs c ++ extra b (slice_set c x true) (others ns xs (slice_set c x true)))
    go true h i =
        let p = tally_append t (walk ns xs c) (walk ns xs (slice_set c x true)) in
        let q = tally_append t (others ns xs c) (slice_set c x true ∷ others ns xs (slice_set c x
        true)) in
        omega (arith, h, i, p, q)
    go false h i = h ∙ ap (λ l. one_if (t c) + tally t l) (sym (append_nil (others ns xs c)))

-- what a read past the end gives
abbrev pub blank : Node
blank = record { slot = 0; role = Empty; sense = Always; first = 0; second = 0; below = 0 }

-- a node that fires adds the tokens that it sends to a place
pub count_more : (ns : List Node) (x : ℕ) (n : Node) (f : ℕ → CaseToken) (q old new : ℕ) →
    slice_get ns x ≡ Some n → present (f x) ≡ true → old ≡ tokens (take x ns) f q →
    new ≡ old + hits (targets n) q → new ≡ tokens (take (x + 1) ns) f q
count_more ns x n f q old new e p a b = b ∙ ap₂ (λ k m. k + m) a (sym (weighed_there (f x) (hits
    (targets n) q) p)) ∙ sym (tokens_more ns x n f q e)

-- a node that does not fire adds no token to a place
pub count_same : (ns : List Node) (x : ℕ) (n : Node) (f : ℕ → CaseToken) (q old : ℕ) →
    slice_get ns x ≡ Some n → present (f x) ≡ false → old ≡ tokens (take x ns) f q →
    old ≡ tokens (take (x + 1) ns) f q
count_same ns x n f q old e p a = a ∙ sym (omega arith)
    ∙ ap (λ m. tokens (take x ns) f q + m) (sym (weighed_absent (f x) (hits (targets n) q) p))
    ∙ sym (tokens_more ns x n f q e)

-- each node sends at most two tokens to a place
pub room_more : (n : Node) (q x old new : ℕ) → old ≤ 2 * x → new ≡ old + hits (targets n) q →
    new ≤ 2 * (x + 1)
room_more n q x old new a b = let two = hits_le n q in omega (arith, a, b, two)

-- what is said from a chooser on is said from a place before it that no chooser parts from it
pub skip_to : (ns : List Node) (order : List ℕ) (from at : ℕ) (c : List Bool) (c0 c1 : ℕ) (t0 t1 n0
    n1 : List Bool) → ((d : List Bool) → others ns (drop from order) d ≡ others ns (drop at order)
    d) → AddedAt ns order at c c0 c1 t0 t1 n0 n1 → AddedAt ns order from c c0 c1 t0 t1 n0 n1
skip_to ns order from at c c0 c1 t0 t1 n0 n1 s a = subst (λ l. Added ns l c0 c1 t0 t1 n0 n1) (sym
    (s c)) a
