-- What the chains find.
use Rattle.std.proofs.Common.{◌≡◌, ℕ, zero, suc, ◌-◌, ◌<◌, ◌≤◌, Bool, true, false, cond, List, [], ◌∷◌}
use Rattle.std.proofs.Common.{◌++◌, length, take, drop, get_or, reverse, Option, Some, None, refl, sym}
use Rattle.std.proofs.Common.{ap, ◌∙◌, subst, arith}
use Rattle.std.specs.Prelude.{nat_eq, IsTrue, ◌↔◌}
use Rattle.std.proofs.lemmas.List.{reverse-append, length-reverse, length-take-le, take-append-drop}
use Rattle.std.proofs.lemmas.List.{length-drop, take_all, take_more, take-take, take_at}
use Rattle.std.proofs.lemmas.Bool.{eqb-true, eq-eqb}
use native.Mathlib.Numerals.{unary_clauses}
use Rattle.std.proofs.Math.Seq.{drop-append_seam}
use Rattle.std.specs.Cmp.Lexicographic.{bytes_decides}
use Rattle.c_type_expr.specs.declared.meaning.Entry.{Entry}
use Rattle.c_type_expr.specs.Scope.{same_name}
use Rattle.c_type_expr.specs.inside.Frames.{place_in}
use Rattle.c_type_expr.specs.inside.Chains.{chain_of, head_in, Chained, KeptIn}

-- one more than a place, 0 for none
abbrev pub above : Option ℕ → ℕ
above None = 0
above (Some i) = suc i

-- is the entry of a chain?
abbrev pub is_of : ℕ → Entry → ℕ → Bool
is_of n e k = nat_eq (chain_of n e.binding.name) k

above_in : (n : ℕ) (es : List Entry) (k : ℕ) → above (head_in n es k) ≤ length es
above_in n [] k = omega arith
above_in n (e ∷ es) k = by (above_in n es k) (is_of n e k) refl
  where
    by : above (head_in n es k) ≤ length es → (b : Bool) → is_of n e k ≡ b
        → above (head_in n (e ∷ es) k) ≤ length (e ∷ es)
    by rec true p =
        subst (λ o. above o ≤ length (e ∷ es))
        (sym (ap (λ b. cond b (Some (length es)) (head_in n es k)) p)) (omega arith)
    by rec false p =
        subst (λ o. above o ≤ length (e ∷ es))
        (sym (ap (λ b. cond b (Some (length es)) (head_in n es k)) p)) (omega (arith, rec))

true_false : (b : Bool) → b ≡ true → b ≡ false → ⊥
true_false b p q = cc

-- an entry of another chain has another name
other_name : (n : ℕ) (e : Entry) (q : List ℕ) → is_of n e (chain_of n q) ≡ false
    → same_name e.binding.name q ≡ false
other_name n e q p = by (same_name e.binding.name q) refl
  where
    by : (b : Bool) → same_name e.binding.name q ≡ b → same_name e.binding.name q ≡ false
    by false s = s
    by true s =
        absurd (true_false (is_of n e (chain_of n q))
        (subst (λ w. nat_eq (chain_of n e.binding.name) (chain_of n w) ≡ true)
        ((bytes_decides e.binding.name q).0 s)
        (eq-eqb (chain_of n e.binding.name) (chain_of n e.binding.name) refl)) p)

-- a name is found from the head of its chain on, as from the newest entry on
module _ (n : ℕ) (q : List ℕ) where
  abbrev rest_at : List Entry → Option ℕ → List Entry
  rest_at es o = drop (length es - above o) es

  abbrev head : List Entry → Option ℕ
  head es = head_in n es (chain_of n q)

  record Skips (es rest : List Entry) : Type 0 where
    head_there : head rest ≡ head es
    place_there : place_in rest q ≡ place_in es q

  skips : (es : List Entry) → Skips es (rest_at es (head es))
  skips [] = record { head_there = refl; place_there = refl }
  skips (e ∷ es) = by (skips es) (is_of n e (chain_of n q)) refl
    where
      by : Skips es (rest_at es (head es)) → (b : Bool) → is_of n e (chain_of n q) ≡ b
          → Skips (e ∷ es) (rest_at (e ∷ es) (head (e ∷ es)))
      by rec true p =
          let h : head (e ∷ es) ≡ Some (length es) =
          ap (λ b. cond b (Some (length es)) (head es)) p in
          let z : length (e ∷ es) - suc (length es) ≡ zero = omega arith in
          subst (λ o. Skips (e ∷ es) (rest_at (e ∷ es) o)) (sym h)
          (subst (λ m. Skips (e ∷ es) (drop m (e ∷ es))) (sym z)
          (record { head_there = refl; place_there = refl }))
      by rec false p =
          let h : head (e ∷ es) ≡ head es = ap (λ b. cond b (Some (length es)) (head es)) p in
          let s : length (e ∷ es) - above (head es) ≡ suc (length es - above (head es)) =
          omega (arith, above_in n es (chain_of n q)) in
          subst (λ o. Skips (e ∷ es) (rest_at (e ∷ es) o)) (sym h)
          (subst (λ m. Skips (e ∷ es) (drop m (e ∷ es))) (sym s)
          (record {
            head_there = rec.head_there ∙ sym h;
            place_there = rec.place_there
                ∙ sym (ap (λ b. cond b (Some (length es)) (place_in es q)) (other_name n e q p));
          }))

-- the older entries come first in memory
pub drop_reversed : (n : ℕ) (xs : List Entry) → n ≤ length xs
    → drop (length xs - n) (reverse xs) ≡ reverse (take n xs)
drop_reversed n xs le =
    let a : reverse xs ≡ reverse (drop n xs) ++ reverse (take n xs) =
    ap reverse (sym (take-append-drop n xs)) ∙ reverse-append (take n xs) (drop n xs) in
    let l : length (reverse (drop n xs)) ≡ length xs - n =
    length-reverse (drop n xs) ∙ length-drop n xs in
    ap (λ (l : List Entry). drop (length xs - n) l) a
    ∙ ap (λ (m : ℕ). drop m (reverse (drop n xs) ++ reverse (take n xs))) (sym l)
    ∙ drop-append_seam (reverse (drop n xs)) (reverse (take n xs))

-- a list turned over begins with its last entry
pub backward : (xs ys : List Entry) (e : Entry) → xs ≡ ys ++ e ∷ [] → reverse xs ≡ e ∷ reverse ys
backward xs ys e h = ap reverse h ∙ reverse-append ys (e ∷ [])

-- what a walk through the chain of a name has found out so far
pub record Walk (n : ℕ) (xs : List Entry) (q : List ℕ) (next : Option ℕ) : Type 0 where
  pub within : above next ≤ length xs
  pub is_head : next ≡ head_in n (reverse (take (above next) xs)) (chain_of n q)
  pub places : place_in (reverse xs) q ≡ place_in (reverse (take (above next) xs)) q

-- a walk goes on from the head of the chain among the oldest entries
walk_at : (n : ℕ) (xs : List Entry) (q : List ℕ) (m : ℕ) (next : Option ℕ) → m ≤ length xs
    → next ≡ head_in n (reverse (take m xs)) (chain_of n q)
    → place_in (reverse xs) q ≡ place_in (reverse (take m xs)) q → Walk n xs q next
walk_at n xs q m next le h places =
    let part : List Entry = take m xs in
    let es : List Entry = reverse part in
    let lp : length part ≡ m = length-take-le m xs le in
    let l : length es ≡ m = length-reverse part ∙ lp in
    let s : Skips n q es (drop (length es - above (head_in n es (chain_of n q))) es) =
    skips n q es in
    let a : above next ≤ m =
    omega (arith, subst (λ o. above o ≤ length es) (sym h) (above_in n es (chain_of n q)), l) in
    let rest : drop (length es - above (head_in n es (chain_of n q))) es
    ≡ reverse (take (above next) xs) =
    ap (λ (o : Option ℕ). drop (length es - above o) es) (sym h)
    ∙ ap (λ (k : ℕ). drop (k - above next) es) (l ∙ sym lp)
    ∙ drop_reversed (above next) part (omega (arith, a, lp))
    ∙ ap (λ (t : List Entry). reverse t) (take-take (above next) m xs a) in
    let t : Skips n q es (reverse (take (above next) xs)) =
    subst (λ (r : List Entry). Skips n q es r) rest s in
    record {
      within = omega (arith, a, le);
      is_head = h ∙ sym t.head_there;
      places = places ∙ sym t.place_there;
    }

-- a walk for a name begins at the head of its chain
pub walk_begins : (n : ℕ) (xs : List Entry) (heads : List (Option ℕ)) (q : List ℕ) (next : Option ℕ)
    → KeptIn n (reverse xs) heads → next ≡ get_or heads (chain_of n q) None → Walk n xs q next
walk_begins n xs heads q next k h =
    let all : take (length xs) xs ≡ xs = take_all (length xs) xs (omega arith) in
    walk_at n xs q (length xs) next (omega arith)
    (h ∙ k.finds (chain_of n q)
    ∙ ap (λ (t : List Entry). head_in n (reverse t) (chain_of n q)) (sym all))
    (ap (λ (t : List Entry). place_in (reverse t) q) (sym all))

-- an entry within the entries, with the older ones behind it
at_place : (xs : List Entry) (i : ℕ) (d : Entry) → i < length xs
    → reverse (take (suc i) xs) ≡ get_or xs i d ∷ reverse (take i xs)
at_place xs i d lt =
    backward (take (suc i) xs) (take i xs) (get_or xs i d)
    (simp unary_clauses at (take_more xs i d lt))

chained_drop : (n m : ℕ) (es : List Entry) → Chained n es → Chained n (drop m es)
chained_drop n zero es c = c
chained_drop n (suc m) [] c = tt
chained_drop n (suc m) (e ∷ es) c = chained_drop n m es c.1

chained_at : (n : ℕ) (xs : List Entry) (i : ℕ) (d : Entry) → i < length xs → Chained n (reverse xs)
    → (get_or xs i d).older
    ≡ head_in n (reverse (take i xs)) (chain_of n (get_or xs i d).binding.name)
chained_at n xs i d lt c =
    (subst (λ (es : List Entry). Chained n es)
    (drop_reversed (suc i) xs (omega (arith, lt)) ∙ at_place xs i d lt)
    (chained_drop n (length xs - suc i) (reverse xs) c)).0

-- the head of a chain is of the chain
head_is_of : (n : ℕ) (e : Entry) (es : List Entry) (k : ℕ) (i : ℕ) → length es ≡ i
    → Some i ≡ head_in n (e ∷ es) k → chain_of n e.binding.name ≡ k
head_is_of n e es k i l h = by (is_of n e k) refl
  where
    by : (b : Bool) → is_of n e k ≡ b → chain_of n e.binding.name ≡ k
    by true p = eqb-true (chain_of n e.binding.name) k p
    by false p =
        let o : Some i ≡ head_in n es k =
        h ∙ ap (λ b. cond b (Some (length es)) (head_in n es k)) p in
        let a : suc i ≤ length es = subst (λ o. above o ≤ length es) (sym o) (above_in n es k) in
        absurd (omega (arith, a, l))

-- from an entry of another name, a walk goes on with the next older one of its chain
pub walk_goes_on : (n : ℕ) (xs : List Entry) (q : List ℕ) (i : ℕ) (d : Entry)
    → Walk n xs q (Some i) → Chained n (reverse xs)
    → same_name (get_or xs i d).binding.name q ≡ false → Walk n xs q (get_or xs i d).older
walk_goes_on n xs q i d w c other =
    let e : Entry = get_or xs i d in
    let lt : i < length xs = omega (arith, w.within) in
    let es : List Entry = reverse (take i xs) in
    let l : length es ≡ i = length-reverse (take i xs) ∙ length-take-le i xs (omega (arith, lt)) in
    let at : reverse (take (suc i) xs) ≡ e ∷ es = at_place xs i d lt in
    let k : chain_of n e.binding.name ≡ chain_of n q =
    head_is_of n e es (chain_of n q) i l
    (w.is_head ∙ ap (λ (t : List Entry). head_in n t (chain_of n q)) at) in
    walk_at n xs q i e.older (omega (arith, lt))
    (chained_at n xs i d lt c ∙ ap (λ (k : ℕ). head_in n es k) k)
    (w.places ∙ ap (λ (t : List Entry). place_in t q) at
    ∙ ap (λ b. cond b (Some (length es)) (place_in es q)) other)

-- where the name of an entry is the one that is sought, the walk has found its place
pub walk_finds : (n : ℕ) (xs : List Entry) (q : List ℕ) (i : ℕ) (d : Entry)
    → Walk n xs q (Some i) → same_name (get_or xs i d).binding.name q ≡ true
    → Some i ≡ place_in (reverse xs) q
walk_finds n xs q i d w same =
    let e : Entry = get_or xs i d in
    let lt : i < length xs = omega (arith, w.within) in
    let es : List Entry = reverse (take i xs) in
    let l : length es ≡ i = length-reverse (take i xs) ∙ length-take-le i xs (omega (arith, lt)) in
    sym (w.places ∙ ap (λ (t : List Entry). place_in t q) (at_place xs i d lt)
    ∙ ap (λ b. cond b (Some (length es)) (place_in es q)) same ∙ ap (λ (m : ℕ). Some m) l)

-- a walk that has come to the end of a chain has found no place
pub walk_ends : (n : ℕ) (xs : List Entry) (q : List ℕ) → Walk n xs q None
    → None ≡ place_in (reverse xs) q
walk_ends n xs q w = sym w.places

-- the next entry of a chain is older
pub walk_falls : (n : ℕ) (xs : List Entry) (q : List ℕ) (i : ℕ) (d : Entry) → Walk n xs q (Some i)
    → Chained n (reverse xs) → above (get_or xs i d).older < above (Some i)
walk_falls n xs q i d w c =
    let lt : i < length xs = omega (arith, w.within) in
    let es : List Entry = reverse (take i xs) in
    let l : length es ≡ i = length-reverse (take i xs) ∙ length-take-le i xs (omega (arith, lt)) in
    let a : above (get_or xs i d).older ≤ length es =
    subst (λ o. above o ≤ length es) (sym (chained_at n xs i d lt c))
    (above_in n es (chain_of n (get_or xs i d).binding.name)) in
    omega (arith, a, l)

-- whether two names are the same, from a comparison of their bytes
pub is_same : (a q x : List ℕ) (b : Bool) → (IsTrue b ↔ (x ≡ q)) → x ≡ a → same_name a q ≡ b
is_same a q x true iff h = (bytes_decides a q).1 (sym h ∙ iff.0 refl)
is_same a q x false iff h = by (same_name a q) refl
  where
    by : (b : Bool) → same_name a q ≡ b → same_name a q ≡ false
    by true p = let t : false ≡ true = iff.1 (h ∙ (bytes_decides a q).0 p) in absurd (cc)
    by false p = p

-- a list after a write to all of it
pub whole : {A : Type 0} (n : ℕ) (xs ys : List A) → length xs ≡ n
    → take n (xs ++ drop (length xs) ys) ≡ xs
whole n xs ys l = take_at xs (drop (length xs) ys) n l
