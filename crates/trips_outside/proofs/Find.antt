-- What the entries from one on hold, and what an entry holds by its number.
use Rattle.std.proofs.Common.{◌≡◌, ℕ, ◌+◌, ◌<◌, ◌≤◌, true, false, cond, List, ◌∷◌, length, get_or, drop}
use Rattle.std.proofs.Common.{map, Some, option_map, refl, sym, ◌∙◌, ap, suc, add-one, drop-cons}
use Rattle.std.proofs.lemmas.List.{drop_all}
use Rattle.std.proofs.lemmas.Option.{slice_get-map, slice_get_read, slice_get_past}
use Rattle.std.specs.Prelude.{bytes_eq}
use Rattle.trips_outside.specs.inside.MemoryFiles.{held_among, left_in}

module _ {E : Type 0} (entry : E → List ℕ × List ℕ) (files : List E) (name : List ℕ) (i : ℕ) (e : E)
    (within : i < length files) (is : e ≡ get_or files i e) where
  held_step : held_among (map entry (drop i files)) name
      ≡ cond (bytes_eq (entry e).0 name) (Some (entry e).1)
      (held_among (map entry (drop (i + 1) files)) name)
  held_step =
      rw add-one (ap (λ l. held_among (map entry l) name)
      (drop-cons files i e within ∙ ap (λ x. x ∷ drop (suc i) files) (sym is)))

  -- the entry has the name
  pub held_here : held_among (map entry files) name ≡ held_among (map entry (drop i files)) name
      → bytes_eq (entry e).0 name ≡ true → held_among (map entry files) name ≡ Some (entry e).1
  held_here so_far same =
      so_far ∙ held_step ∙ ap
      (λ b. cond b (Some (entry e).1) (held_among (map entry (drop (i + 1) files)) name)) same

  -- the entry has another name
  pub held_on : held_among (map entry files) name ≡ held_among (map entry (drop i files)) name
      → bytes_eq (entry e).0 name ≡ false
      → held_among (map entry files) name ≡ held_among (map entry (drop (i + 1) files)) name
  held_on so_far other =
      so_far ∙ held_step ∙ ap
      (λ b. cond b (Some (entry e).1) (held_among (map entry (drop (i + 1) files)) name)) other

  -- by its number the entry is read from its start on
  pub left_here : (number : ℕ) → number ≡ i → left_in (map entry files) number 0 ≡ Some (entry e).1
  left_here number at =
      ap (λ n. left_in (map entry files) n 0) at
      ∙ ap (option_map (λ x. drop 0 x.1)) (slice_get-map entry files i
      ∙ ap (option_map entry) (slice_get_read files (length files) i e refl within is))

-- Where no entry has the name the number of entries leads nowhere.
pub left_nowhere : {E : Type 0} (entry : E → List ℕ × List ℕ) (files : List E) (name : List ℕ)
    (i number : ℕ) → length files ≤ i → number ≡ i
    → held_among (map entry files) name ≡ held_among (map entry (drop i files)) name
    → left_in (map entry files) number 0 ≡ held_among (map entry files) name
left_nowhere entry files name i number past at so_far =
    ap (λ n. left_in (map entry files) n 0) at
    ∙ ap (option_map (λ x. drop 0 x.1)) (slice_get-map entry files i
    ∙ ap (option_map entry) (slice_get_past files i past))
    ∙ sym (so_far ∙ ap (λ l. held_among (map entry l) name) (drop_all i files past))
