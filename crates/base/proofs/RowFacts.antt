-- What a write is to a row of items.
use Rattle.std.proofs.Common.{◌≡◌, ◌≢◌, ◌<◌, ◌≤◌, ℕ, zero, suc, Bool, true, false, cond}
use Rattle.std.proofs.Common.{List, [], ◌∷◌, length, get_or, set, map, replicate, refl, sym, ap, ◌∙◌, arith, inl, inr}
use Rattle.std.proofs.Common.{Option, Some, None, slice_get, length-set, get_or-set_other, get_or-set_same}
use Rattle.std.specs.Prelude.{is_some}
use Rattle.std.specs.List.{range_with_len}
use Rattle.std.proofs.lemmas.List.FromFn.{length-map-range_with_len, get_or-map-range_with_len, fill_by_all}
use Rattle.std.proofs.lemmas.List.{get_or-replicate, length-replicate, get_or_past, set_past}
use Rattle.std.proofs.lemmas.Bool.{cases_eq, cases_lt}
use Rattle.std.proofs.lemmas.Grind.{get_or-set_at}
use Rattle.base.specs.inside.Rows.{item_at, row, no_flags, no_items}
use Rattle.base.proofs.FlagFacts.{get_unset}

-- lists -----------------------------------------------------------------------------------------

-- a function over a list that was changed at one place is that list of values changed there
pub map_set : {A B : Type 0} → (f : A → B) (xs : List A) (i : ℕ) (x : A) → map f (set xs i x) ≡ set (map f xs) i (f x)
map_set f [] i x = refl
map_set f (y ∷ xs) zero x = refl
map_set f (y ∷ xs) (suc i) x = ap (λ zs. f y ∷ zs) (map_set f xs i x)

-- what is read of a mapped list is the function of what is read of the list
pub get_map : {A B : Type 0} → (f : A → B) (xs : List A) (i : ℕ) (d : A)
    → get_or (map f xs) i (f d) ≡ f (get_or xs i d)
get_map f [] i d = refl
get_map f (y ∷ xs) zero d = refl
get_map f (y ∷ xs) (suc i) d = get_map f xs i d

-- a function over equal items gives as many equal values
pub map_blank : {A B : Type 0} → (f : A → B) (n : ℕ) (x : A) → map f (replicate n x) ≡ replicate n (f x)
map_blank f zero x = refl
map_blank f (suc n) x = ap (λ zs. f x ∷ zs) (map_blank f n x)

-- the item that is read, whatever stands for none
pub item_is : {A : Type 0} → (xs : List A) (q : ℕ) (d : A) → q < length xs → slice_get xs q ≡ Some (get_or xs q d)
item_is [] q d h = absurd (omega arith)
item_is (y ∷ xs) zero d h = refl
item_is (y ∷ xs) (suc q) d h = item_is xs q d (omega arith)

pub item_some : {A : Type 0} → (xs : List A) (q : ℕ) → q < length xs → is_some (slice_get xs q) ≡ true
item_some [] q h = absurd (omega arith)
item_some (y ∷ xs) zero h = refl
item_some (y ∷ xs) (suc q) h = item_some xs q (omega arith)

got_same : {A : Type 0} → (xs : List A) (q : ℕ) (x : A) → q < length xs → slice_get (set xs q x) q ≡ Some x
got_same [] q x h = absurd (omega arith)
got_same (y ∷ xs) zero x h = refl
got_same (y ∷ xs) (suc q) x h = got_same xs q x (omega arith)

got_other : {A : Type 0} → (xs : List A) (i j : ℕ) (x : A) → j ≢ i → slice_get (set xs i x) j ≡ slice_get xs j
got_other [] i j x n = refl
got_other (y ∷ xs) zero zero x n = absurd (n refl)
got_other (y ∷ xs) zero (suc j) x n = refl
got_other (y ∷ xs) (suc i) zero x n = refl
got_other (y ∷ xs) (suc i) (suc j) x n = got_other xs i j x (λ e. n (ap suc e))

-- rows ------------------------------------------------------------------------------------------

module _ {A : Type 0} (n : ℕ) where
  -- A row has as many items as it was made for.
  pub length_row : (there : List Bool) (items : List A) → length (row n there items) ≡ n
  unfolding row
  length_row there items = length-map-range_with_len (item_at there items) 0 n

  pub get_row : (there : List Bool) (items : List A) (q : ℕ) → q < n
      → get_or (row n there items) q None ≡ item_at there items q
  unfolding row
  get_row there items q h = get_or-map-range_with_len (item_at there items) 0 n q q None h (omega arith)

  -- the item of a number, where its flag is set
  pub item_there : (there : List Bool) (items : List A) (q : ℕ) (d : A) → q < n → length items ≡ n
      → true ≡ get_or there q false → Some (get_or items q d) ≡ get_or (row n there items) q None
  item_there there items q d h l t =
      sym (get_row there items q h ∙ ap (λ b. cond b (slice_get items q) None) (sym t)
      ∙ item_is items q d (omega arith))

  -- a flag says whether the item is there
  pub flag_some : (there : List Bool) (items : List A) (q : ℕ) → q < n → length items ≡ n
      → get_or there q false ≡ is_some (get_or (row n there items) q None)
  flag_some there items q h l = go (get_or there q false) ∙ sym (ap is_some (get_row there items q h))
    where
      go : (b : Bool) → b ≡ is_some (cond b (slice_get items q) None)
      go true = sym (item_some items q (omega arith))
      go false = refl

  -- a row has nothing at or past its length
  pub item_past : (there : List Bool) (items : List A) (q : ℕ) → n ≤ q
      → None ≡ get_or (row n there items) q None
  item_past there items q h = sym (get_or_past (row n there items) q None (omega (arith, length_row there items)))

  -- a row has nothing where no item is flagged
  pub item_gone : (there : List Bool) (items : List A) (q : ℕ) → false ≡ get_or there q false
      → None ≡ get_or (row n there items) q None
  item_gone there items q t = elim (cases_lt q n) [
    | inl h ↦ sym (get_row there items q h ∙ ap (λ b. cond b (slice_get items q) None) (sym t))
    | inr h ↦ sym (get_or_past (row n there items) q None (omega (arith, length_row there items)))
  ]

  set_made : (xs : List (Option A)) (f : ℕ → Option A) (i : ℕ) (b : Option A) → length xs ≡ n → i < n
      → f i ≡ b → ((j : ℕ) → j < n → j ≢ i → f j ≡ get_or xs j None) → map f (range_with_len 0 n) ≡ set xs i b
  set_made xs f i b l h at off = sym (fill_by_all f (set xs i b) n None (length-set xs i b ∙ l) by_index)
    where
      by_index : (k : ℕ) → k < n → get_or (set xs i b) k None ≡ f k
      by_index k below = elim (cases_eq k i) [
        | inl e ↦ get_or-set_at xs i k b None e (omega arith) ∙ sym at ∙ ap f (sym e)
        | inr ne ↦ get_or-set_other xs i k b None ne ∙ sym (off k below ne)
      ]

  -- an item that is written and flagged is put into the row
  pub put_item : (there : List Bool) (items : List A) (q : ℕ) (x : A) → q < n → length there ≡ n → length items ≡ n
      → row n (set there q true) (set items q x) ≡ set (row n there items) q (Some x)
  unfolding row
  put_item there items q x h lt li =
      set_made (row n there items) (item_at (set there q true) (set items q x)) q (Some x) (length_row there items) h
      (ap (λ b. cond b (slice_get (set items q x) q) None) (get_or-set_same there q true false (omega arith))
      ∙ got_same items q x (omega arith))
      (λ j below ne. ap (λ b. cond b (slice_get (set items q x) j) None) (get_or-set_other there q j true false ne)
      ∙ ap (λ y. cond (get_or there j false) y None) (got_other items q j x ne) ∙ sym (get_row there items j below))

  -- an item whose flag is taken away is taken from the row
  pub take_item : (there : List Bool) (items : List A) (q : ℕ) → length there ≡ n
      → row n (set there q false) items ≡ set (row n there items) q None
  unfolding row
  take_item there items q lt = elim (cases_lt q n) [
    | inl h ↦ taken h
    | inr h ↦ ap (λ z. row n z items) (set_past there q false (omega arith))
        ∙ sym (set_past (row n there items) q None (omega (arith, length_row there items)))
  ]
    where
      taken : q < n → row n (set there q false) items ≡ set (row n there items) q None
      taken h = set_made (row n there items) (item_at (set there q false) items) q None (length_row there items) h
          (ap (λ b. cond b (slice_get items q) None) (get_or-set_same there q false false (omega arith)))
          (λ j below ne. ap (λ b. cond b (slice_get items j) None) (get_or-set_other there q j false false ne)
          ∙ sym (get_row there items j below))

  -- a flag at or past the length changes a row no more than a write there does
  pub put_past : (there : List Bool) (items : List A) (q : ℕ) (x : A) → n ≤ q → length there ≡ n
      → row n (set there q true) items ≡ set (row n there items) q (Some x)
  put_past there items q x h lt =
      ap (λ z. row n z items) (set_past there q true (omega arith))
      ∙ sym (set_past (row n there items) q (Some x) (omega (arith, length_row there items)))

  -- a row without a flag has no items
  pub none_there : (items : List A) → row n (no_flags n) items ≡ no_items n
  unfolding row no_items
  none_there items = sym (fill_by_all (item_at (no_flags n) items) (replicate n None) n None (length-replicate n None)
      (λ k h. get_or-replicate n k None None h ∙ sym (ap (λ b. cond b (slice_get items k) None) (get_unset n k))))

  -- a row without items is any row of its length, each item taken away
  pub none_mapped : (xs : List (Option A)) → length xs ≡ n
      → no_items {A = A} n ≡ map {A = Option A} {B = Option A} (λ x. None) xs
  unfolding no_items
  none_mapped xs l = ap (λ k. replicate k None) (sym l) ∙ all xs
    where
      all : (ys : List (Option A)) → replicate {A = Option A} (length ys) None
          ≡ map {A = Option A} {B = Option A} (λ x. None) ys
      all [] = refl
      all (y ∷ ys) = ap (λ zs. None ∷ zs) (all ys)
