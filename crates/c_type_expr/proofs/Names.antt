-- What the table knows of the open blocks.
use Rattle.std.proofs.Common.{◌≡◌, ℕ, zero, suc, ◌+◌, ◌-◌, ◌<◌, ◌≤◌, Bool, true, false, cond, List}
use Rattle.std.proofs.Common.{[], ◌∷◌, ◌++◌, length, take, drop, get_or, reverse, Option, Some}
use Rattle.std.proofs.Common.{None, refl, sym, ap, ◌∙◌, subst, arith, ⊎_elim}
use Rattle.std.specs.Prelude.{is_some, nat_le}
use Rattle.std.proofs.lemmas.List.{reverse-append, length-reverse, reverse-reverse, length-take-le}
use Rattle.std.proofs.lemmas.List.{length-map, take-map, drop-map}
use Rattle.std.proofs.Math.Seq.{get_or-append_seam}
use Rattle.std.proofs.Math.ListN.{get_or-append}
use Rattle.std.proofs.lemmas.Bool.{cases_lt, lt-leb, le-leb}
use Rattle.c_type_expr.specs.declared.meaning.Entry.{Entry}
use Rattle.c_type_expr.specs.declared.meaning.Meaning.{Meaning}
use Rattle.c_type_expr.specs.declared.meaning.Binding.{Binding}
use Rattle.c_type_expr.specs.Scope.{Scope, Frame, same_name, find, look_up, is_here, or_else, closed}
use Rattle.c_type_expr.specs.Scope.{declared_in, bindings, frames}
use Rattle.c_type_expr.specs.inside.Frames.{first_start, StartsFit, place_in}
use Rattle.c_type_expr.proofs.Chains.{drop_reversed}

over : (b : Bool) (m : Meaning) (x y : Option Meaning)
    → or_else (cond b (Some m) x) y ≡ cond b (Some m) (or_else x y)
over true m x y = refl
over false m x y = refl

find_cut : (k : ℕ) (es : List Entry) (q : List ℕ)
    → or_else (find (bindings (take k es)) q) (find (bindings (drop k es)) q) ≡ find (bindings es) q
find_cut zero es q = refl
find_cut (suc k) [] q = refl
find_cut (suc k) (e ∷ es) q =
    over (same_name e.binding.name q) e.binding.meaning (find (bindings (take k es)) q)
    (find (bindings (drop k es)) q)
    ∙ ap (λ x. cond (same_name e.binding.name q) (Some e.binding.meaning) x) (find_cut k es q)

last_one : (x : Option Meaning) → or_else x None ≡ x
last_one None = refl
last_one (Some m) = refl

-- the blocks are looked through as one list
pub flat : (ss : List ℕ) (es : List Entry) (q : List ℕ)
    → look_up (frames ss es) q ≡ find (bindings es) q
flat [] es q = last_one (find (bindings es) q)
flat (s ∷ ss) es q =
    ap (λ x. or_else (find (bindings (take (length es - s) es)) q) x)
    (flat ss (drop (length es - s) es) q)
    ∙ find_cut (length es - s) es q

-- a name without a place is not found
find_none : (es : List Entry) (q : List ℕ) → place_in es q ≡ None → find (bindings es) q ≡ None
find_none [] q h = refl
find_none (e ∷ es) q h = by (find_none es q) (same_name e.binding.name q) refl
  where
    by : (place_in es q ≡ None → find (bindings es) q ≡ None) → (b : Bool)
        → same_name e.binding.name q ≡ b → find (bindings (e ∷ es)) q ≡ None
    by rec true p = let x = sym (ap (λ b. cond b (Some (length es)) (place_in es q)) p) ∙ h in absurd (cc)
    by rec false p =
        ap (λ b. cond b (Some e.binding.meaning) (find (bindings es) q)) p
        ∙ rec (sym (ap (λ b. cond b (Some (length es)) (place_in es q)) p) ∙ h)

backwards : (e : Entry) (es : List Entry) → reverse (e ∷ es) ≡ reverse es ++ e ∷ []
backwards e es = reverse-append (e ∷ []) es

record Found (es : List Entry) (q : List ℕ) (i : ℕ) : Type 0 where
  within : i < length es
  meaning : (d : Entry) → find (bindings es) q ≡ Some (get_or (reverse es) i d).binding.meaning

some_is : (i j : ℕ) → Some i ≡ Some j → i ≡ j
some_is i j e = cc

find_some : (es : List Entry) (q : List ℕ) (i : ℕ) → place_in es q ≡ Some i → Found es q i
find_some [] q i h = absurd (cc)
find_some (e ∷ es) q i h = by (find_some es q i) (same_name e.binding.name q) refl
  where
    by : (place_in es q ≡ Some i → Found es q i) → (b : Bool) → same_name e.binding.name q ≡ b
        → Found (e ∷ es) q i
    by rec true p =
        let at : length es ≡ i = some_is _ _ (sym (ap (λ b. cond b (Some (length es)) (place_in es q)) p) ∙ h) in
        record {
          within = omega (arith, at);
          meaning = λ d.
              ap (λ b. cond b (Some e.binding.meaning) (find (bindings es) q)) p
              ∙ ap (λ (x : Entry). Some x.binding.meaning)
              (sym (get_or-append_seam (reverse es) e [] d))
              ∙ ap (λ n. Some (get_or (reverse es ++ e ∷ []) n d).binding.meaning)
              (length-reverse es ∙ at)
              ∙ ap (λ (l : List Entry). Some (get_or l i d).binding.meaning) (sym (backwards e es));
        }
    by rec false p =
        let f = rec (sym (ap (λ b. cond b (Some (length es)) (place_in es q)) p) ∙ h) in
        let lt : i < length (reverse es) = omega (arith, f.within, length-reverse es) in
        record {
          within = omega (arith, f.within);
          meaning = λ d.
              ap (λ b. cond b (Some e.binding.meaning) (find (bindings es) q)) p
              ∙ f.meaning d
              ∙ ap (λ (x : Entry). Some x.binding.meaning)
              (sym (get_or-append (reverse es) (e ∷ []) d i lt))
              ∙ ap (λ (l : List Entry). Some (get_or l i d).binding.meaning) (sym (backwards e es));
        }

module _ (ss : List ℕ) (items : List Entry) (q : List ℕ) where
  -- a name that stands in no entry means nothing
  pub look_none : place_in (reverse items) q ≡ None → look_up (frames ss (reverse items)) q ≡ None
  look_none h = flat ss (reverse items) q ∙ find_none (reverse items) q h

  -- the place of a name is within the entries
  pub look_within : (i : ℕ) → place_in (reverse items) q ≡ Some i → i < length items
  look_within i h =
      let f = find_some (reverse items) q i h in omega (arith, f.within, length-reverse items)

  -- a name means what the entry at its place says
  pub look_some : (i : ℕ) (d : Entry) → place_in (reverse items) q ≡ Some i
      → look_up (frames ss (reverse items)) q ≡ Some (get_or items i d).binding.meaning
  look_some i d h =
      let f = find_some (reverse items) q i h in
      flat ss (reverse items) q ∙ f.meaning d
      ∙ ap (λ (l : List Entry). Some (get_or l i d).binding.meaning) (reverse-reverse items)

-- the innermost block
none_here : (n : ℕ) (es : List Entry) (q : List ℕ) → place_in es q ≡ None
    → find (bindings (take n es)) q ≡ None
none_here zero es q h = refl
none_here (suc n) [] q h = refl
none_here (suc n) (e ∷ es) q h = by (none_here n es q) (same_name e.binding.name q) refl
  where
    by : (place_in es q ≡ None → find (bindings (take n es)) q ≡ None) → (b : Bool)
        → same_name e.binding.name q ≡ b → find (bindings (e ∷ take n es)) q ≡ None
    by rec true p = let x = sym (ap (λ b. cond b (Some (length es)) (place_in es q)) p) ∙ h in absurd (cc)
    by rec false p =
        ap (λ b. cond b (Some e.binding.meaning) (find (bindings (take n es)) q)) p
        ∙ rec (sym (ap (λ b. cond b (Some (length es)) (place_in es q)) p) ∙ h)

here_some : (s : ℕ) (es : List Entry) (q : List ℕ) (i : ℕ) → s ≤ length es → place_in es q ≡ Some i
    → is_some (find (bindings (take (length es - s) es)) q) ≡ nat_le s i
here_some s [] q i le h = absurd (cc)
here_some s (e ∷ es) q i le h = ⊎_elim inside (outside (λ l. here_some s es q i l))
    (cases_lt (length es) s)
  where
    inside : length es < s → is_some (find (bindings (take (length (e ∷ es) - s) (e ∷ es))) q)
        ≡ nat_le s i
    inside lt =
        let n : length (e ∷ es) - s ≡ zero = omega arith in
        let f = find_some (e ∷ es) q i h in
        ap (λ n. is_some (find (bindings (take n (e ∷ es))) q)) n
        ∙ sym (lt-leb s i (omega (arith, f.within)))

    outside : (s ≤ length es → place_in es q ≡ Some i
        → is_some (find (bindings (take (length es - s) es)) q) ≡ nat_le s i) → s ≤ length es
        → is_some (find (bindings (take (length (e ∷ es) - s) (e ∷ es))) q) ≡ nat_le s i
    outside rec ge =
        let n : length (e ∷ es) - s ≡ suc (length es - s) = omega arith in
        ap (λ n. is_some (find (bindings (take n (e ∷ es))) q)) n
        ∙ by (same_name e.binding.name q) refl
      where
        by : (b : Bool) → same_name e.binding.name q ≡ b
            → is_some (find (bindings (e ∷ take (length es - s) es)) q) ≡ nat_le s i
        by true p =
            let at : length es ≡ i = some_is _ _ (sym (ap (λ b. cond b (Some (length es)) (place_in es q)) p) ∙ h) in
            ap (λ b. is_some (cond b (Some e.binding.meaning)
            (find (bindings (take (length es - s) es)) q))) p
            ∙ sym (le-leb s i (omega (arith, at)))
        by false p =
            ap (λ b. is_some (cond b (Some e.binding.meaning)
            (find (bindings (take (length es - s) es)) q))) p
            ∙ rec ge (sym (ap (λ b. cond b (Some (length es)) (place_in es q)) p) ∙ h)

-- a name is declared in the innermost block where its place is not before the block's start
pub here_is : (ss : List ℕ) (es : List Entry) (q : List ℕ) (i : ℕ) → StartsFit ss (length es)
    → place_in es q ≡ Some i → nat_le (first_start ss) i ≡ is_here (frames ss es) q
here_is [] es q i fit h =
    let f = find_some es q i h in
    sym (ap is_some (f.meaning (some_entry es (omega (arith, f.within))))
    ∙ sym (le-leb 0 i (omega arith)))
  where
    some_entry : (es : List Entry) → 0 < length es → Entry
    some_entry [] lt = absurd (omega (arith, lt))
    some_entry (e ∷ es) lt = e
here_is (s ∷ ss) es q i fit h = sym (here_some s es q i fit.0 h)

-- a name that stands in no entry is not declared in the innermost block
pub not_here : (ss : List ℕ) (es : List Entry) (q : List ℕ) → place_in es q ≡ None
    → false ≡ is_here (frames ss es) q
not_here [] es q h = sym (ap is_some (find_none es q h))
not_here (s ∷ ss) es q h = sym (ap is_some (none_here (length es - s) es q h))

-- one more name
starts_more : (ss : List ℕ) (m n : ℕ) → m ≤ n → StartsFit ss m → StartsFit ss n
starts_more [] m n le f = tt
starts_more (s ∷ ss) m n le f = (omega (arith, f.0), f.1)

declared_to : (ss : List ℕ) (e : Entry) (es : List Entry) → StartsFit ss (length es)
    → frames ss (e ∷ es) ≡ declared_in e.binding (frames ss es)
declared_to [] e es fit = refl
declared_to (s ∷ ss) e es fit =
    let n : length (e ∷ es) - s ≡ suc (length es - s) = omega (arith, fit.0) in
    ap (λ n. bindings (take n (e ∷ es)) ∷ frames ss (drop n (e ∷ es))) n

-- the blocks are those of the bindings alone
abbrev cut : List ℕ → Frame → Scope
cut [] bs = bs ∷ []
cut (s ∷ ss) bs = take (length bs - s) bs ∷ cut ss (drop (length bs - s) bs)

cuts : (ss : List ℕ) (es : List Entry) → frames ss es ≡ cut ss (bindings es)
cuts [] es = refl
cuts (s ∷ ss) es =
    let l : length (bindings es) ≡ length es = length-map es (λ (e : Entry). e.binding) in
    ap (λ (G : Scope). bindings (take (length es - s) es) ∷ G) (cuts ss (drop (length es - s) es))
    ∙ ap (λ (b : Frame). bindings (take (length es - s) es) ∷ cut ss b)
    (sym (drop-map (λ (e : Entry). e.binding) (length es - s) es))
    ∙ ap (λ (b : Frame). b ∷ cut ss (drop (length es - s) (bindings es)))
    (sym (take-map (λ (e : Entry). e.binding) (length es - s) es))
    ∙ ap (λ (n : ℕ). take (n - s) (bindings es) ∷ cut ss (drop (n - s) (bindings es))) (sym l)

-- equal bindings make equal blocks
pub same_blocks : (ss : List ℕ) (old new : List Entry) → bindings new ≡ bindings old
    → frames ss new ≡ frames ss old
same_blocks ss old new h =
    cuts ss new ∙ ap (λ (b : Frame). cut ss b) h ∙ sym (cuts ss old)

pub same_count_of : (old new : List Entry) → bindings (reverse new) ≡ bindings (reverse old)
    → length new ≡ length old
same_count_of old new h =
    omega (
      arith,
      ap (length {A = Binding}) h,
      length-map (reverse new) (λ (e : Entry). e.binding),
      length-map (reverse old) (λ (e : Entry). e.binding),
      length-reverse new,
      length-reverse old,
    )

pub still_fits : (ss : List ℕ) (old new : List Entry)
    → bindings (reverse new) ≡ bindings (reverse old) → StartsFit ss (length old)
    → StartsFit ss (length new)
still_fits ss old new h fit = subst (λ (n : ℕ). StartsFit ss n) (sym (same_count_of old new h)) fit

-- a binding put in front of the entries is declared in the innermost block
pub added : (ss : List ℕ) (old new : List Entry) (b : Binding) → StartsFit ss (length old)
    → bindings (reverse new) ≡ b ∷ bindings (reverse old) → (frames ss (reverse new)
    ≡ declared_in b (frames ss (reverse old))) × StartsFit ss (length new)
added ss old new b fit h =
    let e : Entry = record { binding = b; older = None } in
    let l : length (reverse old) ≡ length old = length-reverse old in
    let n : length new ≡ length old + 1 =
    omega (
      arith,
      ap (length {A = Binding}) h,
      length-map (reverse new) (λ (e : Entry). e.binding),
      length-map (reverse old) (λ (e : Entry). e.binding),
      length-reverse new,
      length-reverse old,
    ) in (
      same_blocks ss (e ∷ reverse old) (reverse new) h
          ∙ declared_to ss e (reverse old) (subst (λ (n : ℕ). StartsFit ss n) (sym l) fit),
      starts_more ss (length old) (length new) (omega (arith, n)) fit,
    )

-- a block is left
next_block : (ss : List ℕ) (es : List Entry) (f : Frame) → closed (f ∷ frames ss es) ≡ frames ss es
next_block [] es f = refl
next_block (s ∷ ss) es f = refl

pub left_block : (s : ℕ) (ss : List ℕ) (old new : List Entry) → StartsFit (s ∷ ss) (length old)
    → new ≡ take s old
    → (frames ss (reverse new) ≡ closed (frames (s ∷ ss) (reverse old))) × StartsFit ss (length new)
left_block s ss old new fit h =
    let l : length (reverse old) ≡ length old = length-reverse old in (
      ap (λ (x : List Entry). frames ss (reverse x)) h
          ∙ ap (frames ss) (sym (drop_reversed s old fit.0))
          ∙ ap (λ n. frames ss (drop (n - s) (reverse old))) (sym l)
          ∙ sym (next_block ss (drop (length (reverse old) - s) (reverse old))
          (bindings (take (length (reverse old) - s) (reverse old)))),
      subst (StartsFit ss) (sym (ap (length {A = Entry}) h ∙ length-take-le s old fit.0)) fit.1,
    )

-- the entries up to the start of the innermost block are the blocks with that one closed
pub close_to : (s : ℕ) (starts less : List ℕ) (old new : List Entry) → starts ≡ less ++ s ∷ []
    → StartsFit (reverse starts) (length old) → new ≡ take s old
    → (frames (reverse less) (reverse new) ≡ closed (frames (reverse starts) (reverse old)))
    × StartsFit (reverse less) (length new)
close_to s starts less old new e fit h =
    let r : reverse starts ≡ s ∷ reverse less = ap reverse e ∙ reverse-append less (s ∷ []) in
    let b = left_block s (reverse less) old new (subst (λ (l : List ℕ). StartsFit l (length old)) r fit) h in
    (b.0 ∙ ap (λ (l : List ℕ). closed (frames l (reverse old))) (sym r), b.1)
