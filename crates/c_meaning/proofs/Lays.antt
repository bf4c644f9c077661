-- The arrays as they are kept: unsetting one, and leaving those that were added.
use Rattle.std.proofs.Common.{◌≡◌, ℕ, zero, suc, ◌+◌, ◌-◌, ◌<◌, ◌≤◌, List, [], ◌∷◌, length, take, drop}
use Rattle.std.proofs.Common.{set, get_or, replicate, Option, Some, None, slice_get, refl, sym, ap}
use Rattle.std.proofs.Common.{subst, ◌∙◌, arith, add-zero, length-drop}
use Rattle.std.proofs.lemmas.List.{length-map}
use Rattle.c_meaning_spec.specs.State.{row_in}
use Rattle.c_meaning.specs.declared.arrays.Cell.{Cell}
use Rattle.c_meaning.specs.declared.arrays.Span.{Span}
use Rattle.c_meaning.specs.inside.Cells.{row_of, rows, total, Follows, CellsKnown, span_length, IsLaid}
use Rattle.c_meaning.proofs.Rows.{length-rows}
use Rattle.c_meaning.proofs.Stamps.{spans-later, cells-later, spans-take, spans-set, unset-cells}
use Rattle.c_meaning.proofs.Stamps.{drop-known}

follows-set : (a at : ℕ) (spans : List Span) (span new : Span) → slice_get spans a ≡ Some span
    → new.start ≡ span.start → new.length ≡ span.length → Follows at spans
    → Follows at (set spans a new)
follows-set a at [] span new g e l f = tt
follows-set zero at (s ∷ spans) span new g e l f =
    let i : s ≡ span = cc in
    let n : at + s.length ≡ at + new.length = ap (λ (s : Span). at + s.length) i ∙ ap (λ (n : ℕ). at + n) (sym l) in
    (e ∙ (sym (ap (λ (s : Span). s.start) i) ∙ f.0), subst (λ (n : ℕ). Follows n spans) n f.1)
follows-set (suc a) at (s ∷ spans) span new g e l f =
    (f.0, follows-set a (at + s.length) spans span new g e l f.1)

total-set : (a : ℕ) (spans : List Span) (span new : Span) → slice_get spans a ≡ Some span
    → new.length ≡ span.length → total (set spans a new) ≡ total spans
total-set a [] span new g l = refl
total-set zero (s ∷ spans) span new g l =
    let i : s ≡ span = cc in
    ap (λ (n : ℕ). n + total spans) (l ∙ sym (ap (λ (s : Span). s.length) i))
total-set (suc a) (s ∷ spans) span new g l =
    ap (λ (n : ℕ). s.length + n) (total-set a spans span new g l)

-- arrays of which one has a new stamp are laid as before
pub laid-unset : (a : ℕ) (spans : List Span) (cells : List Cell) (used last stamp : ℕ) (span : Span)
    → slice_get spans a ≡ Some span → stamp ≡ last + 1 → IsLaid spans cells used last
    → IsLaid (set spans a (record { start = span.start; length = span.length; stamp = stamp })) cells
    used stamp
laid-unset a spans cells used last stamp span g e h =
    let new : Span = record { start = span.start; length = span.length; stamp = stamp } in
    let le : last ≤ stamp = omega arith in record {
      follows = follows-set a 0 spans span new g refl refl h.follows;
      counted = h.counted ∙ sym (total-set a spans span new g refl);
      fits = h.fits;
      spans_known = spans-set stamp a spans new (spans-later last stamp spans le h.spans_known)
          (omega arith);
      cells_known = cells-later last stamp cells le h.cells_known;
    }

-- the first cells are as many as are taken
pub length-taken : (n : ℕ) (cells : List Cell) → n ≤ length cells → length (take n cells) ≡ n
length-taken zero cells h = refl
length-taken (suc n) [] h = absurd (omega arith)
length-taken (suc n) (c ∷ cells) h = ap suc (length-taken n cells (omega arith))

length-row : (s : Span) (cells : List Cell) → s.length ≤ length cells
    → length (row_of s cells) ≡ s.length
length-row s cells h = simp length-map (length-taken s.length cells h)

-- an array has as many elements as its span has cells
pub row-count : (a : ℕ) (spans : List Span) (cells : List Cell) → total spans ≤ length cells
    → length (row_in (slice_get (rows spans cells) a)) ≡ span_length (slice_get spans a)
row-count a [] cells le = refl
row-count zero (s ∷ spans) cells le = length-row s cells (omega arith)
row-count (suc a) (s ∷ spans) cells le =
    let m : length (drop s.length cells) ≡ length cells - s.length = length-drop s.length cells in
    row-count a spans (drop s.length cells) (omega arith)

unset_from : (a : ℕ) (spans : List Span) (cells : List Cell) (last stamp : ℕ) (span : Span)
    → slice_get spans a ≡ Some span → last < stamp → total spans ≤ length cells
    → CellsKnown last cells → rows (set spans a
    (record { start = span.start; length = span.length; stamp = stamp })) cells
    ≡ set (rows spans cells) a (replicate (length (row_in (slice_get (rows spans cells) a))) None)
unset_from a [] cells last stamp span g lt le h = absurd (cc)
unset_from zero (s ∷ spans) cells last stamp span g lt le h =
    let e : s ≡ span = cc in
    let n : s.length ≤ length cells = omega arith in
    let k : length (row_of s cells) ≡ s.length = length-row s cells n in
    ap (λ (x : Span). row_of (record x { stamp = stamp }) cells ∷ rows spans (drop x.length cells))
    (sym e)
    ∙ ap (λ (r : List (Option ℕ)). r ∷ rows spans (drop s.length cells))
    (unset-cells last stamp s.length cells lt h n ∙ ap (λ (m : ℕ). replicate m None) (sym k))
unset_from (suc a) (s ∷ spans) cells last stamp span g lt le h =
    let n : s.length ≤ length cells = omega arith in
    let m : length (drop s.length cells) ≡ length cells - s.length = length-drop s.length cells in
    ap (λ (rs : List (List (Option ℕ))). row_of s cells ∷ rs)
    (unset_from a spans (drop s.length cells) last stamp span g lt (omega arith)
    (drop-known last s.length cells h))

-- an array with a new stamp has its elements unset, and the others stay
pub rows-unset : (a : ℕ) (spans : List Span) (cells : List Cell) (used last stamp : ℕ) (span : Span)
    → slice_get spans a ≡ Some span → stamp ≡ last + 1 → IsLaid spans cells used last
    → rows (set spans a (record { start = span.start; length = span.length; stamp = stamp })) cells
    ≡ set (rows spans cells) a (replicate (length (row_in (slice_get (rows spans cells) a))) None)
rows-unset a spans cells used last stamp span g e h =
    let f = h.fits in let t = h.counted in
    unset_from a spans cells last stamp span g (omega arith) (omega arith) h.cells_known

-- LEAVING

-- the first spans have the first rows of all
pub rows-take : (n : ℕ) (spans : List Span) (cells : List Cell)
    → rows (take n spans) cells ≡ take n (rows spans cells)
rows-take zero spans cells = refl
rows-take (suc n) [] cells = refl
rows-take (suc n) (s ∷ spans) cells = ap (λ (rs : List (List (Option ℕ))). row_of s cells ∷ rs)
    (rows-take n spans (drop s.length cells))

follows-take : (n at : ℕ) (spans : List Span) → Follows at spans → Follows at (take n spans)
follows-take zero at spans f = tt
follows-take (suc n) at [] f = tt
follows-take (suc n) at (s ∷ spans) f = (f.0, follows-take n (at + s.length) spans f.1)

total-take : (n at : ℕ) (spans : List Span) (span : Span) → n < length spans
    → span ≡ get_or spans n span → Follows at spans → span.start ≡ at + total (take n spans)
total-take n at [] span lt g f = absurd (omega arith)
total-take zero at (s ∷ spans) span lt g f =
    ap (λ (s : Span). s.start) g ∙ (f.0 ∙ sym (add-zero at))
total-take (suc n) at (s ∷ spans) span lt g f =
    let h = total-take n (at + s.length) spans span (omega arith) g f.1 in omega arith

total-least : (n : ℕ) (spans : List Span) → total (take n spans) ≤ total spans
total-least zero spans = omega arith
total-least (suc n) [] = omega arith
total-least (suc n) (s ∷ spans) = let h = total-least n spans in omega arith

-- the first arrays of those that are laid are laid, up to the start of the next one
pub laid-kept : (n : ℕ) (spans : List Span) (cells : List Cell) (used last : ℕ) (span : Span)
    → n < length spans → span ≡ get_or spans n span → IsLaid spans cells used last
    → IsLaid (take n spans) cells span.start last
laid-kept n spans cells used last span lt g h =
    let c = h.counted in let f = h.fits in
    let t = total-take n 0 spans span lt g h.follows in
    let m = total-least n spans in record {
      follows = follows-take n 0 spans h.follows;
      counted = omega arith;
      fits = omega arith;
      spans_known = spans-take last n spans h.spans_known;
      cells_known = h.cells_known;
    }

-- the arrays that are kept have the elements that they had
pub rows-kept : (n : ℕ) (spans : List Span) (cells : List Cell) (spans' : List Span)
    (view : List (List (Option ℕ))) → spans' ≡ take n spans → rows spans cells ≡ view
    → rows spans' cells ≡ take n view
rows-kept n spans cells spans' view e v =
    ap (λ (ss : List Span). rows ss cells) e ∙ rows-take n spans cells ∙ ap (take n) v

take-all : (n : ℕ) (rs : List (List (Option ℕ))) → length rs ≤ n → take n rs ≡ rs
take-all zero [] h = refl
take-all zero (r ∷ rs) h = absurd (omega arith)
take-all (suc n) [] h = refl
take-all (suc n) (r ∷ rs) h = ap (λ (x : List (List (Option ℕ))). r ∷ x)
    (take-all n rs (omega arith))

-- as many rows as there are, or more, are all rows
pub rows-all : (n : ℕ) (spans : List Span) (cells : List Cell) (view : List (List (Option ℕ)))
    → length spans ≤ n → rows spans cells ≡ view → view ≡ take n view
rows-all n spans cells view le v =
    let l = length-rows spans cells in
    sym v ∙ sym (take-all n (rows spans cells) (omega arith)) ∙ ap (take n) v

-- AS THE FUNCTIONS HAVE IT

-- other cells, which are enough and of known stamps
pub laid-cells : (spans : List Span) (cells : List Cell) (used last : ℕ) (spans' : List Span)
    (cells' : List Cell) (last' : ℕ) → IsLaid spans cells used last → spans' ≡ spans
    → used ≤ length cells' → last ≤ last' → CellsKnown last' cells' → IsLaid spans' cells' used last'
laid-cells spans cells used last spans' cells' last' h e le l k =
    subst (λ (ss : List Span). IsLaid ss cells' used last') (sym e) (record {
      follows = h.follows;
      counted = h.counted;
      fits = le;
      spans_known = spans-later last last' spans l h.spans_known;
      cells_known = k;
    })

-- as many cells as are used are taken
pub taken-length : (used : ℕ) (cells cells0 : List Cell) → used ≤ length cells
    → cells0 ≡ take used cells → length cells0 ≡ used
taken-length used cells cells0 le c = ap length c ∙ length-taken used cells le
