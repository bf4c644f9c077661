-- A chain to which an entry is linked, and from which one is taken.
use Rattle.std.proofs.Common.{◌≡◌, ℕ, zero, suc, ◌+◌, ◌-◌, ◌<◌, ◌≤◌, Bool, true, false, cond, List, []}
use Rattle.std.proofs.Common.{◌∷◌, ◌++◌, length, take, get_or, set, reverse, Option, Some, None, refl}
use Rattle.std.proofs.Common.{sym, ap, ◌∙◌, subst, arith, replicate, ◌⊎◌, inl, inr}
use Rattle.std.proofs.lemmas.List.{reverse-append, length-reverse, length-take-le, take_more_set}
use Rattle.std.proofs.lemmas.List.{get_or-set_same, get_or-set_other, get_or_past, length-set, map-set}
use Rattle.std.proofs.lemmas.List.{set-get_or, get_or-map, map-append}
use Rattle.std.proofs.lemmas.Nat.{and_le_r}
use Rattle.std.proofs.lemmas.Bool.{cases_lt, eqb-true, eqb-false, eq-eqb}
use Rattle.c_type_expr.specs.declared.meaning.Entry.{Entry}
use Rattle.c_type_expr.specs.declared.meaning.Binding.{Binding}
use Rattle.c_type_expr.specs.Scope.{Frame, bindings}
use Rattle.c_type_expr.specs.inside.Chains.{chain_of, number_of, head_in, KeptIn, Kept}
use Rattle.c_type_expr.proofs.Chains.{is_of, backward}

-- no entry at all
abbrev pub no_place : Option ℕ
no_place = None

all_none : (n k : ℕ) → get_or (replicate n no_place) k no_place ≡ no_place
all_none zero k = refl
all_none (suc n) zero = refl
all_none (suc n) (suc k) = all_none n k

-- no entries, and no heads, are kept
pub no_entry : (n : ℕ) → KeptIn n [] (replicate n no_place)
no_entry n = record { chained = tt; finds = all_none n }

-- there is a chain for each name
pub within_chains : (n : ℕ) (q : List ℕ) → 0 < n → chain_of n q < n
unfolding chain_of
within_chains n q lt = omega (arith, and_le_r (number_of q) (n - 1))

-- an entry more
pub linked : (n : ℕ) (e : Entry) (es : List Entry) (heads : List (Option ℕ)) (at : ℕ)
    → KeptIn n es heads → chain_of n e.binding.name < length heads → at ≡ length es
    → e.older ≡ get_or heads (chain_of n e.binding.name) None
    → KeptIn n (e ∷ es) (set heads (chain_of n e.binding.name) (Some at))
linked n e es heads at kept lt a older = record {
  chained = (older ∙ kept.finds (chain_of n e.binding.name), kept.chained);
  finds = λ k. by k (is_of n e k) refl;
}
  where
    by : (k : ℕ) (b : Bool) → is_of n e k ≡ b
        → get_or (set heads (chain_of n e.binding.name) (Some at)) k None ≡ head_in n (e ∷ es) k
    by k true p =
        ap (λ (j : ℕ). get_or (set heads (chain_of n e.binding.name) (Some at)) j None)
        (sym (eqb-true (chain_of n e.binding.name) k p))
        ∙ get_or-set_same heads (chain_of n e.binding.name) (Some at) None lt
        ∙ ap (λ (m : ℕ). Some m) a
        ∙ sym (ap (λ b. cond b (Some (length es)) (head_in n es k)) p)
    by k false p =
        get_or-set_other heads (chain_of n e.binding.name) k (Some at) None
        (λ j. eqb-false (chain_of n e.binding.name) k p (sym j))
        ∙ kept.finds k ∙ sym (ap (λ b. cond b (Some (length es)) (head_in n es k)) p)

-- the newest entry's chain has a head
pub has_head : (n : ℕ) (e : Entry) (es : List Entry) (heads : List (Option ℕ))
    → KeptIn n (e ∷ es) heads → chain_of n e.binding.name < length heads
has_head n e es heads kept = by (cases_lt (chain_of n e.binding.name) (length heads))
  where
    by : (chain_of n e.binding.name < length heads) ⊎ (length heads ≤ chain_of n e.binding.name)
        → chain_of n e.binding.name < length heads
    by (inl lt) = lt
    by (inr ge) =
        let some : Some (length es) ≡ None =
        sym (ap (λ b. cond b (Some (length es)) (head_in n es (chain_of n e.binding.name)))
        (eq-eqb (chain_of n e.binding.name) (chain_of n e.binding.name) refl))
        ∙ sym (kept.finds (chain_of n e.binding.name))
        ∙ get_or_past heads (chain_of n e.binding.name) None ge in absurd (cc)

-- an entry less
pub unlinked : (n : ℕ) (e : Entry) (es : List Entry) (heads : List (Option ℕ))
    → KeptIn n (e ∷ es) heads → KeptIn n es (set heads (chain_of n e.binding.name) e.older)
unlinked n e es heads kept = record {
  chained = kept.chained.1;
  finds = λ k. by k (is_of n e k) refl;
}
  where
    by : (k : ℕ) (b : Bool) → is_of n e k ≡ b
        → get_or (set heads (chain_of n e.binding.name) e.older) k None ≡ head_in n es k
    by k true p =
        let j : chain_of n e.binding.name ≡ k = eqb-true (chain_of n e.binding.name) k p in
        ap (λ (j : ℕ). get_or (set heads (chain_of n e.binding.name) e.older) j None) (sym j)
        ∙ get_or-set_same heads (chain_of n e.binding.name) e.older None
        (has_head n e es heads kept)
        ∙ kept.chained.0 ∙ ap (λ (j : ℕ). head_in n es j) j
    by k false p =
        get_or-set_other heads (chain_of n e.binding.name) k e.older None
        (λ j. eqb-false (chain_of n e.binding.name) k p (sym j))
        ∙ kept.finds k ∙ ap (λ b. cond b (Some (length es)) (head_in n es k)) p

-- the number of the heads stays
pub same_count : (es : List Entry) (heads : List (Option ℕ)) (k : ℕ) (o : Option ℕ)
    → KeptIn (length heads) es (set heads k o) → Kept es (set heads k o)
same_count es heads k o kept =
    subst (λ (n : ℕ). KeptIn n es (set heads k o)) (sym (length-set heads k o)) kept

-- the bindings of the entries turned over are the bindings turned over
pub bindings_reversed : (xs : List Entry) → bindings (reverse xs) ≡ reverse (bindings xs)
bindings_reversed [] = refl
bindings_reversed (e ∷ es) =
    ap (λ (l : List Entry). bindings l) (reverse-append (e ∷ []) es)
    ∙ map-append (λ (e : Entry). e.binding) (reverse es) (e ∷ [])
    ∙ ap (λ (l : Frame). l ++ e.binding ∷ []) (bindings_reversed es)
    ∙ sym (reverse-append (e.binding ∷ []) (bindings es))

-- another link changes no binding
pub relinked : (xs : List Entry) (i : ℕ) (e d : Entry) → i < length xs
    → e.binding ≡ (get_or xs i d).binding → bindings (set xs i e) ≡ bindings xs
relinked xs i e d lt same =
    map-set (λ (e : Entry). e.binding) xs i e
    ∙ ap (λ (b : Binding). set (bindings xs) i b)
    (same ∙ sym (get_or-map (λ (e : Entry). e.binding) xs i d e.binding lt))
    ∙ set-get_or (bindings xs) i e.binding

-- the next entry is linked in its place
pub linked_at : (n : ℕ) (xs : List Entry) (i : ℕ) (e : Entry) (q : List ℕ)
    (heads new : List (Option ℕ)) → i < length xs → 0 < n → length heads ≡ n → q ≡ e.binding.name
    → KeptIn n (reverse (take i xs)) heads
    → e.older ≡ get_or heads (chain_of (length heads) q) None
    → new ≡ set heads (chain_of (length heads) q) (Some i)
    → KeptIn n (reverse (take (i + 1) (set xs i e))) new
linked_at n xs i e q heads new lt some l name kept older is =
    let es : List Entry = reverse (take i xs) in
    let at : reverse (take (i + 1) (set xs i e)) ≡ e ∷ es =
    backward (take (i + 1) (set xs i e)) (take i xs) e (take_more_set xs i e lt) in
    let k : chain_of (length heads) q ≡ chain_of n e.binding.name =
    ap (λ (m : ℕ). chain_of m q) l ∙ ap (λ (w : List ℕ). chain_of n w) name in
    let li : i ≡ length es =
    sym (length-reverse (take i xs) ∙ length-take-le i xs (omega (arith, lt))) in
    subst (λ (t : List Entry). KeptIn n t new) (sym at)
    (subst (λ (h : List (Option ℕ)). KeptIn n (e ∷ es) h)
    (sym (is ∙ ap (λ (k : ℕ). set heads k (Some i)) k))
    (linked n e es heads i kept (omega (arith, within_chains n e.binding.name some, l)) li
    (older ∙ ap (λ (k : ℕ). get_or heads k None) k)))

-- a new entry is linked
pub linked_last : (xs ys : List Entry) (e : Entry) (q : List ℕ) (at : ℕ)
    (heads new : List (Option ℕ)) → 0 < length heads → q ≡ e.binding.name
    → Kept (reverse ys) heads → at ≡ length ys
    → xs ≡ ys ++ e ∷ [] → e.older ≡ get_or heads (chain_of (length heads) q) None
    → new ≡ set heads (chain_of (length heads) q) (Some at) → Kept (reverse xs) new
linked_last xs ys e q at heads new some name kept la h older is =
    let k : chain_of (length heads) q ≡ chain_of (length heads) e.binding.name =
    ap (λ (w : List ℕ). chain_of (length heads) w) name in
    subst (λ (t : List Entry). Kept t new) (sym (backward xs ys e h))
    (subst (λ (h : List (Option ℕ)). Kept (e ∷ reverse ys) h)
    (sym (is ∙ ap (λ (k : ℕ). set heads k (Some at)) k))
    (same_count (e ∷ reverse ys) heads (chain_of (length heads) e.binding.name) (Some at)
    (linked (length heads) e (reverse ys) heads at kept
    (within_chains (length heads) e.binding.name some) (la ∙ sym (length-reverse ys))
    (older ∙ ap (λ (k : ℕ). get_or heads k None) k))))

-- the newest entry goes
module _ (xs ys : List Entry) (e : Entry) (q : List ℕ) (chain : ℕ) (heads : List (Option ℕ))
    (kept : Kept (reverse xs) heads) (h : xs ≡ ys ++ e ∷ []) (name : q ≡ e.binding.name)
    (c : chain ≡ chain_of (length heads) q) where
  kept_with : Kept (e ∷ reverse ys) heads
  kept_with = subst (λ (t : List Entry). Kept t heads) (backward xs ys e h) kept

  chain_is : chain_of (length heads) e.binding.name ≡ chain
  chain_is = ap (λ (w : List ℕ). chain_of (length heads) w) (sym name) ∙ sym c

  -- the chain of the last entry has a head
  pub last_has_head : chain < length heads
  last_has_head =
      subst (λ (k : ℕ). k < length heads) chain_is
      (has_head (length heads) e (reverse ys) heads kept_with)

  -- without the last entry its chain has the older one as its head
  pub unlinked_last : Kept (reverse ys) (set heads chain e.older)
  unlinked_last =
      same_count (reverse ys) heads chain e.older
      (subst (λ (k : ℕ). KeptIn (length heads) (reverse ys) (set heads k e.older)) chain_is
      (unlinked (length heads) e (reverse ys) heads kept_with))
