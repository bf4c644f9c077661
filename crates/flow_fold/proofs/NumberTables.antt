-- The table of the new numbers has the new number of each node.
use Rattle.std.proofs.Common.{◌≡◌, ℕ, zero, suc, ◌+◌, ◌-◌, ◌<◌, ◌≤◌, List, [], ◌∷◌, ◌++◌, ◌⊎◌, inl, inr, refl}
use Rattle.std.proofs.Common.{ap, ap₂, ◌∙◌, arith, length, cond, Bool, true, false}
use Rattle.std.specs.Prelude.{Some, Option, slice_get}
use Rattle.std.proofs.Math.Path.{fun_ext}
use Rattle.std.proofs.lemmas.Bool.{cases_lt}
use Rattle.std.proofs.lemmas.Option.{slice_get_past}
use Rattle.ir_forms.specs.declared.flow.FlowBlock.{FlowBlock}
use Rattle.flow_fold.specs.inside.SweepsAll.{stays_by, stays, number, numbers_to, number_by, tabled}
use Rattle.flow_fold.specs.inside.SweepsAll.{numbered_block, kept}
use Rattle.flow_fold.proofs.StayingNumbers.{number_on}

get_front : (xs : List ℕ) (y j x : ℕ) → slice_get xs j ≡ Some x → slice_get (xs ++ y ∷ []) j ≡ Some x
get_front [] y j x e = absurd (cc)
get_front (a ∷ xs) y zero x e = e
get_front (a ∷ xs) y (suc j) x e = get_front xs y j x e

get_last : (xs : List ℕ) (y : ℕ) → slice_get (xs ++ y ∷ []) (length xs) ≡ Some y
get_last [] y = refl
get_last (a ∷ xs) y = get_last xs y

one_longer : (xs : List ℕ) (y : ℕ) → length (xs ++ y ∷ []) ≡ suc (length xs)
one_longer [] y = refl
one_longer (a ∷ xs) y = ap (λ (i : ℕ). suc i) (one_longer xs y)

module _ (s : ℕ → Bool) where
  table_long : (n : ℕ) → length (numbers_to s n) ≡ n
  table_long zero = refl
  table_long (suc n) = one_longer (numbers_to s n) (number s n) ∙ ap (λ (i : ℕ). suc i) (table_long n)

  table_has : (n j : ℕ) → j < n → slice_get (numbers_to s n) j ≡ Some (number s j)
  table_has zero j l = absurd (omega (arith, l))
  table_has (suc n) j l = go (λ z. table_has n j z) (cases_lt j n)
    where
      go : (j < n → slice_get (numbers_to s n) j ≡ Some (number s j)) → (j < n) ⊎ (n ≤ j)
          → slice_get (numbers_to s n ++ number s n ∷ []) j ≡ Some (number s j)
      go again (inl z) = get_front (numbers_to s n) (number s n) j (number s j) (again z)
      go again (inr z) =
          let d : j ≡ length (numbers_to s n) = let t = table_long n in omega (arith, t, l, z) in
          let n_is_j : n ≡ j = omega (arith, l, z) in
          ap (slice_get (numbers_to s n ++ number s n ∷ [])) d
          ∙ (get_last (numbers_to s n) (number s n) ∙ ap (λ (i : ℕ). Some (number s i)) n_is_j)

  at_most : (b : Bool) (i j : ℕ) → i ≤ j → cond b (suc i) i ≤ suc j
  at_most true i j l = omega (arith, l)
  at_most false i j l = omega (arith, l)

  -- no number grows
  number_at_most : (j : ℕ) → number s j ≤ j
  number_at_most zero = omega arith
  number_at_most (suc j) = at_most (s j) (number s j) j (number_at_most j)

  -- behind all that a list speaks of all stay
  number_past : (n : ℕ) → ((j : ℕ) → n ≤ j → s j ≡ true) → (i j : ℕ) → j ≡ n + i → number s j ≡ number s n + i
  number_past n all zero j e =
      let d : j ≡ n = omega (arith, e) in
      let z : number s n ≡ number s n + 0 = omega arith in
      ap (number s) d ∙ z
  number_past n all (suc i) zero e = absurd (omega (arith, e))
  number_past n all (suc i) (suc j) e =
      let r = number_past n all i j (omega (arith, e)) in
      let z : suc (number s n + i) ≡ number s n + suc i = omega arith in
      number_on s j (all j (omega (arith, e))) ∙ (ap (λ (k : ℕ). suc k) r ∙ z)

module _ (keeps : List Bool) where
  abbrev s : ℕ → Bool
  s = stays keeps

  past : (j : ℕ) → length keeps ≤ j → s j ≡ true
  past j l = ap stays_by (slice_get_past keeps j l)

  abbrev table : List ℕ
  table = numbers_to s (length keeps)

  abbrev less : ℕ
  less = length keeps - number s (length keeps)

  table_at : (j : ℕ) → tabled table less j ≡ number s j
  table_at j = go (cases_lt j (length keeps))
    where
      go : (j < length keeps) ⊎ (length keeps ≤ j) → tabled table less j ≡ number s j
      go (inl l) = ap (λ (o : Option ℕ). number_by o less j) (table_has s (length keeps) j l)
      go (inr l) =
          let t = table_long s (length keeps) in
          let a = number_past s (length keeps) past (j - length keeps) j (omega (arith, l)) in
          let b = number_at_most s (length keeps) in
          let d : j - less ≡ number s j = omega (arith, a, b, l) in
          ap (λ (o : Option ℕ). number_by o less j) (slice_get_past table j (omega (arith, t, l))) ∙ d

  -- so by the table each node has its new number
  pub table_is : tabled table less ≡ number s
  table_is = fun_ext (λ (j : ℕ). table_at j)

-- a block by the table is the block of the nodes that stay
pub kept_by_table : (keeps : List Bool) (f g : FlowBlock) (t : List ℕ) (d : ℕ)
    → t ≡ numbers_to (stays keeps) (length keeps)
    → d ≡ length keeps - number (stays keeps) (length keeps)
    → g ≡ numbered_block (tabled t d) (stays keeps) f → g ≡ kept (stays keeps) f
kept_by_table keeps f g t d a b e =
    e
    ∙ (ap₂ (λ (x : List ℕ) (y : ℕ). numbered_block (tabled x y) (stays keeps) f) a b
    ∙ ap (λ (v : ℕ → ℕ). numbered_block v (stays keeps) f) (table_is keeps))
