-- The arrays as they are kept: reading and writing.
use Rattle.std.proofs.Common.{◌≡◌, ℕ, zero, suc, ◌+◌, ◌-◌, ◌<◌, ◌≤◌, Bool, true, false, cond}
use Rattle.std.proofs.Common.{List, [], ◌∷◌, map, length, take, drop, set, get_or}
use Rattle.std.proofs.Common.{Option, Some, None, slice_get, refl, sym, ap, subst, ◌∙◌}
use Rattle.std.proofs.Common.{arith, zero-add, eq-eqb, IsSome, IsTrue}
use Rattle.std.specs.Prelude.{option_map}
use Rattle.std.proofs.lemmas.List.{drop-set-lt, drop-set-add, take-set-le, map-set}
use Rattle.std.proofs.Math.Seq.{take-set-lt}
use Rattle.std.proofs.lemmas.Option.{slice_get-map, slice_get_past, slice_get-get_or}
use Rattle.c_meaning_spec.specs.State.{cell_in, element_set}
use Rattle.c_meaning.specs.declared.arrays.Cell.{Cell}
use Rattle.c_meaning.specs.declared.arrays.Span.{Span}
use Rattle.c_meaning.specs.inside.Cells.{shown, row_of, rows, total, Follows}

-- WHAT A BOOL TELLS

-- of what is not there, the right answer is that it is not
pub never : {A : Type 0} (o : Option A) → o ≡ None
    → (IsTrue false → IsSome o) × (IsSome o → IsTrue false)
never {A = A} o e = (λ h. absurd (cc), λ h. let g : IsSome {T = A} None = subst IsSome e h in absurd (cc))

-- of what is there, the right answer is that it is
pub always : {A : Type 0} (o : Option A) → IsSome o
    → (IsTrue true → IsSome o) × (IsSome o → IsTrue true)
always o h = (λ t. h, λ g. refl)

-- READING

-- Where there is no span there is no row.
pub absent : (spans : List Span) (cells : List Cell) (a : ℕ) → slice_get spans a ≡ None
    → slice_get (rows spans cells) a ≡ None
absent [] cells a h = refl
absent (span ∷ spans) cells zero h = absurd (cc)
absent (span ∷ spans) cells (suc a) h = absent spans (drop span.length cells) a h

-- an array that has a span has a row
pub row-present : (spans : List Span) (cells : List Cell) (a : ℕ) (span : Span)
    → slice_get spans a ≡ Some span → IsSome (slice_get (rows spans cells) a)
row-present [] cells a span h = absurd (cc)
row-present (s ∷ spans) cells zero span h = refl
row-present (s ∷ spans) cells (suc a) span h = row-present spans (drop s.length cells) a span h

length-shown : (stamp n : ℕ) (cells : List Cell) → length (map (shown stamp) (take n cells)) ≤ n
length-shown stamp zero cells = omega arith
length-shown stamp (suc n) [] = omega arith
length-shown stamp (suc n) (c ∷ cells) = let h = length-shown stamp n cells in omega arith

-- an array has no element past its length
pub outside : (spans : List Span) (cells : List Cell) (a i : ℕ) (span : Span)
    → slice_get spans a ≡ Some span → span.length ≤ i
    → cell_in (slice_get (rows spans cells) a) i ≡ None
outside [] cells a i span h le = absurd (cc)
outside (first ∷ spans) cells zero i span h le =
    let e : first ≡ span = cc in
    let l : first.length ≤ i = subst (λ (s : Span). s.length ≤ i) (sym e) le in
    let n = length-shown first.stamp first.length cells in
    slice_get_past (map (shown first.stamp) (take first.length cells)) i (omega arith)
outside (first ∷ spans) cells (suc a) i span h le =
    outside spans (drop first.length cells) a i span h le

slice_get-take : (n i : ℕ) (cells : List Cell) → i < n
    → slice_get (take n cells) i ≡ slice_get cells i
slice_get-take zero i cells h = absurd (omega arith)
slice_get-take (suc n) i [] h = refl
slice_get-take (suc n) zero (c ∷ cells) h = refl
slice_get-take (suc n) (suc i) (c ∷ cells) h = slice_get-take n i cells (omega arith)

slice_get-drop : (n i : ℕ) (cells : List Cell)
    → slice_get (drop n cells) i ≡ slice_get cells (n + i)
slice_get-drop zero i cells = ap (slice_get cells) (sym (zero-add i))
slice_get-drop (suc n) i [] = refl
slice_get-drop (suc n) i (c ∷ cells) =
    let e : suc n + i ≡ suc (n + i) = omega arith in
    slice_get-drop n i cells ∙ ap (slice_get (c ∷ cells)) (sym e)

pub start-least : (spans : List Span) (a at : ℕ) (span : Span) → Follows at spans
    → slice_get spans a ≡ Some span → at ≤ span.start
start-least [] a at span f h = absurd (cc)
start-least (first ∷ spans) zero at span f h =
    let e : first ≡ span = cc in
    let s : at ≡ span.start = sym f.0 ∙ ap (λ (s : Span). s.start) e in omega arith
start-least (first ∷ spans) (suc a) at span f h =
    let i = start-least spans a (at + first.length) span f.1 h in omega arith

end-most : (spans : List Span) (a at : ℕ) (span : Span) → Follows at spans
    → slice_get spans a ≡ Some span → span.start + span.length ≤ at + total spans
end-most [] a at span f h = absurd (cc)
end-most (first ∷ spans) zero at span f h =
    let e : first ≡ span = cc in
    let s : at ≡ span.start = sym f.0 ∙ ap (λ (s : Span). s.start) e in
    let l : first.length ≡ span.length = ap (λ (s : Span). s.length) e in omega arith
end-most (first ∷ spans) (suc a) at span f h = let i = end-most spans a (at + first.length) span f.1 h in omega arith

-- the cells of an array are within those in use
pub within : (spans : List Span) (a : ℕ) (span : Span) → Follows 0 spans
    → slice_get spans a ≡ Some span → span.start + span.length ≤ total spans
within spans a span f h = let e = end-most spans a 0 span f h in omega arith

present_from : (spans : List Span) (cells : List Cell) (a i at : ℕ) (span : Span) → Follows at spans
    → slice_get spans a ≡ Some span → i < span.length
    → cell_in (slice_get (rows spans cells) a) i
    ≡ option_map (shown span.stamp) (slice_get cells ((span.start - at) + i))
present_from [] cells a i at span f h lt = absurd (cc)
present_from (first ∷ spans) cells zero i at span f h lt =
    let e : first ≡ span = cc in
    let s : at ≡ span.start = sym f.0 ∙ ap (λ (s : Span). s.start) e in
    let k : (span.start - at) + i ≡ i = omega arith in
    ap (λ (s : Span). slice_get (row_of s cells) i) e
    ∙ slice_get-map (shown span.stamp) (take span.length cells) i
    ∙ ap (option_map (shown span.stamp)) (slice_get-take span.length i cells lt
    ∙ ap (slice_get cells) (sym k))
present_from (first ∷ spans) cells (suc a) i at span f h lt =
    let le = start-least spans a (at + first.length) span f.1 h in
    let k : first.length + ((span.start - (at + first.length)) + i) ≡ (span.start - at) + i = omega arith in
    present_from spans (drop first.length cells) a i (at + first.length) span f.1 h lt
    ∙ ap (option_map (shown span.stamp)) (slice_get-drop first.length
    ((span.start - (at + first.length)) + i) cells ∙ ap (slice_get cells) k)

-- the element at i of the array at a
pub present : (spans : List Span) (cells : List Cell) (a i : ℕ) (span : Span) (d : Cell)
    → Follows 0 spans → slice_get spans a ≡ Some span → i < span.length → total spans ≤ length cells
    → cell_in (slice_get (rows spans cells) a) i
    ≡ Some (shown span.stamp (get_or cells (span.start + i) d))
present spans cells a i span d f h lt fits =
    let w = within spans a span f h in
    let k : (span.start - 0) + i ≡ span.start + i = omega arith in
    let l : span.start + i < length cells = omega arith in
    present_from spans cells a i 0 span f h lt
    ∙ ap (λ (n : ℕ). option_map (shown span.stamp) (slice_get cells n)) k
    ∙ ap (option_map (shown span.stamp)) (slice_get-get_or cells (span.start + i) d l)

-- an array has each element within its length
pub is-present : (spans : List Span) (cells : List Cell) (a i : ℕ) (span : Span) → Follows 0 spans
    → slice_get spans a ≡ Some span → i < span.length → total spans ≤ length cells
    → IsSome (cell_in (slice_get (rows spans cells) a) i)
is-present spans cells a i span f h lt fits =
    rw (present spans cells a i span (record { stamp = 0; word = 0 }) f h lt fits) refl

-- there are as many rows as spans
pub length-rows : (spans : List Span) (cells : List Cell) → length (rows spans cells) ≡ length spans
length-rows [] cells = refl
length-rows (s ∷ spans) cells = ap suc (length-rows spans (drop s.length cells))

-- WRITING

shown-worded : (stamp w : ℕ) → shown stamp (record { stamp = stamp; word = w }) ≡ Some w
shown-worded stamp w = ap (λ (b : Bool). cond b (Some w) None) (eq-eqb stamp stamp refl)

set_from : (spans : List Span) (cells : List Cell) (a i at w : ℕ) (span : Span) → Follows at spans
    → slice_get spans a ≡ Some span → i < span.length
    → rows spans (set cells ((span.start - at) + i) (record { stamp = span.stamp; word = w }))
    ≡ element_set (rows spans cells) a i (Some w)
set_from [] cells a i at w span f h lt = absurd (cc)
set_from (first ∷ spans) cells zero i at w span f h lt =
    let e : first ≡ span = cc in
    let s : at ≡ span.start = sym f.0 ∙ ap (λ (s : Span). s.start) e in
    let k : (span.start - at) + i ≡ i = omega arith in
    let n : i < first.length = subst (λ (s : Span). i < s.length) (sym e) lt in
    let c : Cell = record { stamp = span.stamp; word = w } in
    let row : row_of first (set cells i c) ≡ set (row_of first cells) i (Some w) =
    ap (map (shown first.stamp)) (take-set-lt first.length cells i c n)
    ∙ map-set (shown first.stamp) (take first.length cells) i c
    ∙ ap (set (row_of first cells) i) (ap (λ (s : Span). shown s.stamp c) e
    ∙ shown-worded span.stamp w) in
    let rest : rows spans (drop first.length (set cells i c)) ≡ rows spans (drop first.length cells) =
    ap (rows spans) (drop-set-lt first.length cells i c n) in
    ap (λ (j : ℕ). rows (first ∷ spans) (set cells j c)) k
    ∙ ap (λ (r : List (Option ℕ)). r ∷ rows spans (drop first.length (set cells i c))) row
    ∙ ap (λ (rs : List (List (Option ℕ))). set (row_of first cells) i (Some w) ∷ rs) rest
set_from (first ∷ spans) cells (suc a) i at w span f h lt =
    let le = start-least spans a (at + first.length) span f.1 h in
    let j : ℕ = (span.start - (at + first.length)) + i in
    let k : (span.start - at) + i ≡ first.length + j = omega arith in
    let c : Cell = record { stamp = span.stamp; word = w } in
    let row : row_of first (set cells (first.length + j) c) ≡ row_of first cells =
    ap (map (shown first.stamp)) (take-set-le first.length cells (first.length + j) c (omega arith))
    in
    ap (λ (m : ℕ). rows (first ∷ spans) (set cells m c)) k
    ∙ ap (λ (r : List (Option ℕ)). r ∷ rows spans
    (drop first.length (set cells (first.length + j) c))) row
    ∙ ap (λ (cs : List Cell). row_of first cells ∷ rows spans cs)
    (drop-set-add first.length cells j c)
    ∙ ap (λ (rs : List (List (Option ℕ))). row_of first cells ∷ rs)
    (set_from spans (drop first.length cells) a i (at + first.length) w span f.1 h lt)

-- a cell of an array's span that is set sets this element and no other
pub rows-set : (spans : List Span) (cells : List Cell) (a i w : ℕ) (span : Span) → Follows 0 spans
    → slice_get spans a ≡ Some span → i < span.length
    → rows spans (set cells (span.start + i) (record { stamp = span.stamp; word = w }))
    ≡ element_set (rows spans cells) a i (Some w)
rows-set spans cells a i w span f h lt =
    let k : span.start + i ≡ (span.start - 0) + i = omega arith in
    ap (λ (n : ℕ). rows spans (set cells n (record { stamp = span.stamp; word = w }))) k
    ∙ set_from spans cells a i 0 w span f h lt
