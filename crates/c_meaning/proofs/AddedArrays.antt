-- The arrays as they are kept: adding one, unset or with its first words.
use Rattle.std.proofs.Common.{◌≡◌, ℕ, zero, suc, ◌+◌, ◌-◌, ◌≤◌, Bool, cond, List, [], ◌∷◌, ◌++◌, map}
use Rattle.std.proofs.Common.{length, take, drop, replicate, Option, Some, None, refl, sym, ap, subst}
use Rattle.std.proofs.Common.{◌∙◌, arith, add-zero, zero-add, eq-eqb, length-append, length-drop}
use Rattle.std.proofs.Common.{append_assoc}
use Rattle.std.proofs.lemmas.List.{take-append-le, drop-append-le, length-replicate, length-map}
use Rattle.std.proofs.lemmas.List.{map-append}
use Rattle.c_meaning.specs.declared.arrays.Cell.{Cell}
use Rattle.c_meaning.specs.declared.arrays.Span.{Span}
use Rattle.c_meaning.specs.inside.Cells.{shown, row_of, rows, total, Follows, CellsKnown, IsLaid}
use Rattle.c_meaning.specs.inside.Cells.{worded}
use Rattle.c_meaning.proofs.Lays.{length-taken}
use Rattle.c_meaning.proofs.Stamps.{spans-later, spans-snoc, unset-cells, drop-known}

rows-append : (spans : List Span) (cells more : List Cell) → total spans ≤ length cells
    → rows spans (cells ++ more) ≡ rows spans cells
rows-append [] cells more h = refl
rows-append (s ∷ spans) cells more h =
    let n : s.length ≤ length cells = omega arith in
    let m : length (drop s.length cells) ≡ length cells - s.length = length-drop s.length cells in
    ap (λ (cs : List Cell). map (shown s.stamp) cs ∷ rows spans (drop s.length (cells ++ more)))
    (take-append-le s.length cells more n)
    ∙ ap (λ (cs : List Cell). row_of s cells ∷ rows spans cs) (drop-append-le s.length cells more n)
    ∙ ap (λ (rs : List (List (Option ℕ))). row_of s cells ∷ rs)
    (rows-append spans (drop s.length cells) more (omega arith))

drop-empty : (n : ℕ) → drop {A = Cell} n [] ≡ []
drop-empty zero = refl
drop-empty (suc n) = refl

drop-drop : (m n : ℕ) (cells : List Cell) → drop n (drop m cells) ≡ drop (m + n) cells
drop-drop zero n cells = ap (λ (k : ℕ). drop k cells) (sym (zero-add n))
drop-drop (suc m) n [] =
    let e : suc m + n ≡ suc (m + n) = omega arith in
    drop-empty n ∙ ap (λ (k : ℕ). drop k []) (sym e)
drop-drop (suc m) n (c ∷ cells) =
    let e : suc m + n ≡ suc (m + n) = omega arith in
    drop-drop m n cells ∙ ap (λ (k : ℕ). drop k (c ∷ cells)) (sym e)

rows-snoc : (spans : List Span) (cells : List Cell) (span : Span)
    → rows (spans ++ span ∷ []) cells ≡ rows spans cells ++ row_of span
    (drop (total spans) cells) ∷ []
rows-snoc [] cells span = refl
rows-snoc (s ∷ spans) cells span =
    ap (λ (rs : List (List (Option ℕ))). row_of s cells ∷ rs)
    (rows-snoc spans (drop s.length cells) span
    ∙ ap (λ (cs : List Cell). rows spans (drop s.length cells) ++ row_of span cs ∷ [])
    (drop-drop s.length (total spans) cells))

follows-snoc : (at : ℕ) (spans : List Span) (span : Span) → Follows at spans
    → span.start ≡ at + total spans → Follows at (spans ++ span ∷ [])
follows-snoc at [] span f e = (e ∙ add-zero at, tt)
follows-snoc at (s ∷ spans) span f e =
    let k : at + (s.length + total spans) ≡ (at + s.length) + total spans = omega arith in
    (f.0, follows-snoc (at + s.length) spans span f.1 (e ∙ k))

total-snoc : (spans : List Span) (span : Span)
    → total (spans ++ span ∷ []) ≡ total spans + span.length
total-snoc [] span = omega arith
total-snoc (s ∷ spans) span = let h = total-snoc spans span in omega arith

-- spans that are laid, with one behind them, are laid in cells that are enough for it
pub laid-added : (spans : List Span) (cells more : List Cell) (used last stamp : ℕ) (span : Span)
    → IsLaid spans cells used last → span.start ≡ used → span.stamp ≡ stamp → stamp ≡ last + 1
    → used + span.length ≤ length more → CellsKnown stamp more
    → IsLaid (spans ++ span ∷ []) more (used + span.length) stamp
laid-added spans cells more used last stamp span h e t l le k =
    let c = h.counted in
    let n : last ≤ stamp = omega arith in record {
      follows = follows-snoc 0 spans span h.follows (omega arith);
      counted = let x = total-snoc spans span in omega arith;
      fits = le;
      spans_known = spans-snoc stamp spans span (spans-later last stamp spans n h.spans_known)
          (omega arith);
      cells_known = k;
    }

-- an array whose cells have other stamps
pub rows-add_unset : (spans : List Span) (cells more : List Cell) (used last stamp n : ℕ)
    → IsLaid spans cells used last → stamp ≡ last + 1 → CellsKnown last (cells ++ more)
    → used + n ≤ length (cells ++ more) → rows
    (spans ++ record { start = used; length = n; stamp = stamp } ∷ []) (cells ++ more)
    ≡ rows spans cells ++ replicate n None ∷ []
rows-add_unset spans cells more used last stamp n h e k le =
    let c = h.counted in let f = h.fits in
    let m : length (drop (total spans) (cells ++ more)) ≡ length (cells ++ more) - total spans = length-drop
    (total spans) (cells ++ more) in
    rows-snoc spans (cells ++ more) (record { start = used; length = n; stamp = stamp })
    ∙ ap (λ (r : List (Option ℕ)). rows spans (cells ++ more) ++ r ∷ [])
    (unset-cells last stamp n (drop (total spans) (cells ++ more)) (omega arith)
    (drop-known last (total spans) (cells ++ more) k) (omega arith))
    ∙ ap (λ (rs : List (List (Option ℕ))). rs ++ replicate n None ∷ [])
    (rows-append spans cells more (omega arith))

shown-all : (stamp : ℕ) (words : List ℕ) → map (shown stamp) (map (worded stamp) words)
    ≡ map Some words
shown-all stamp [] = refl
shown-all stamp (w ∷ words) =
    ap (λ (b : Bool). cond b (Some w) None ∷ map (shown stamp) (map (worded stamp) words))
    (eq-eqb stamp stamp refl)
    ∙ ap (λ (r : List (Option ℕ)). Some w ∷ r) (shown-all stamp words)

shown-blanks : (stamp n : ℕ) → map (shown stamp) (replicate n (worded stamp 0))
    ≡ replicate n (Some 0)
shown-blanks stamp zero = refl
shown-blanks stamp (suc n) =
    ap (λ (b : Bool). cond b (Some 0) None ∷ map (shown stamp) (replicate n (worded stamp 0)))
    (eq-eqb stamp stamp refl)
    ∙ ap (λ (r : List (Option ℕ)). Some 0 ∷ r) (shown-blanks stamp n)

take-whole : (n : ℕ) (cells : List Cell) → n ≡ length cells → take n cells ≡ cells
take-whole zero [] h = refl
take-whole zero (c ∷ cells) h = absurd (omega arith)
take-whole (suc n) [] h = refl
take-whole (suc n) (c ∷ cells) h = ap (λ (cs : List Cell). c ∷ cs)
    (take-whole n cells (omega arith))

drop-seam : (n : ℕ) (cells more : List Cell) → n ≡ length cells → drop n (cells ++ more) ≡ more
drop-seam zero [] more h = refl
drop-seam zero (c ∷ cells) more h = absurd (omega arith)
drop-seam (suc n) [] more h = absurd (omega arith)
drop-seam (suc n) (c ∷ cells) more h = drop-seam n cells more (omega arith)

halves : (n : ℕ) (cells : List Cell) → take n cells ++ drop n cells ≡ cells
halves zero cells = refl
halves (suc n) [] = refl
halves (suc n) (c ∷ cells) = ap (λ (cs : List Cell). c ∷ cs) (halves n cells)

rows-taken : (spans : List Span) (n : ℕ) (cells : List Cell) → total spans ≤ n → n ≤ length cells
    → rows spans (take n cells) ≡ rows spans cells
rows-taken spans n cells h le =
    let l = length-taken n cells le in
    sym (rows-append spans (take n cells) (drop n cells) (omega arith))
    ∙ ap (rows spans) (halves n cells)

-- the cells of an array that is set
abbrev pub filled : ℕ → List ℕ → ℕ → List Cell
filled stamp words blanks = map (worded stamp) words ++ replicate blanks (worded stamp 0)

length-filled : (stamp : ℕ) (words : List ℕ) (blanks : ℕ)
    → length (filled stamp words blanks) ≡ length words + blanks
length-filled stamp words blanks = simp (length-append, length-map, length-replicate)

-- an array whose cells are its first words, then zeros
pub rows-add_set : (spans : List Span) (cells : List Cell) (used last stamp blanks n : ℕ)
    (words : List ℕ) → IsLaid spans cells used last → n ≡ length words + blanks
    → rows (spans ++ record { start = used; length = n; stamp = stamp } ∷ [])
    (take used cells ++ filled stamp words blanks)
    ≡ rows spans cells ++ (map Some words ++ replicate blanks (Some 0)) ∷ []
rows-add_set spans cells used last stamp blanks n words h e =
    let c = h.counted in let f = h.fits in
    let l : length (take used cells) ≡ used = length-taken used cells f in
    let more : List Cell = filled stamp words blanks in
    let k : length more ≡ n = length-filled stamp words blanks ∙ sym e in
    let row : row_of (record { start = used; length = n; stamp = stamp })
    (drop (total spans) (take used cells ++ more)) ≡ map Some words ++ replicate blanks (Some 0) =
    ap (λ (cs : List Cell). map (shown stamp) (take n cs))
    (drop-seam (total spans) (take used cells) more (omega arith))
    ∙ ap (map (shown stamp)) (take-whole n more (sym k))
    ∙ map-append (shown stamp) (map (worded stamp) words) (replicate blanks (worded stamp 0))
    ∙ ap (λ (r : List (Option ℕ)). r ++ map (shown stamp) (replicate blanks (worded stamp 0)))
    (shown-all stamp words)
    ∙ ap (λ (r : List (Option ℕ)). map Some words ++ r) (shown-blanks stamp blanks) in
    rows-snoc spans (take used cells ++ more) (record { start = used; length = n; stamp = stamp })
    ∙ ap (λ (r : List (Option ℕ)). rows spans (take used cells ++ more) ++ r ∷ []) row
    ∙ ap (λ (rs : List (List (Option ℕ))). rs ++ (map Some words ++ replicate blanks (Some 0)) ∷ [])
    (rows-append spans (take used cells) more (omega arith)
    ∙ rows-taken spans used cells (omega arith) f)

-- an array behind those that are laid is laid, where the cells are enough
pub laid-add : (spans : List Span) (cells : List Cell) (used last : ℕ) (spans' : List Span)
    (cells' : List Cell) (used' stamp n : ℕ) → IsLaid spans cells used last → stamp ≡ last + 1
    → used' ≡ used + n → spans' ≡ spans ++ record { start = used; length = n; stamp = stamp } ∷ []
    → used' ≤ length cells' → CellsKnown stamp cells' → IsLaid spans' cells' used' stamp
laid-add spans cells used last spans' cells' used' stamp n h e u s le k =
    subst (λ (ss : List Span). IsLaid ss cells' used' stamp) (sym s)
    (subst (λ (m : ℕ). IsLaid (spans ++ record { start = used; length = n; stamp = stamp } ∷ [])
    cells' m stamp) (sym u)
    (laid-added spans cells cells' used last stamp
    (record { start = used; length = n; stamp = stamp }) h refl refl e (omega arith) k))

-- an array that is added has its elements unset, and the others stay
pub rows-unset_added : (spans : List Span) (cells : List Cell) (used last : ℕ) (spans' : List Span)
    (cells' more : List Cell) (stamp n : ℕ) (view : List (List (Option ℕ)))
    → IsLaid spans cells used last → rows spans cells ≡ view → stamp ≡ last + 1
    → spans' ≡ spans ++ record { start = used; length = n; stamp = stamp } ∷ []
    → cells' ≡ cells ++ more → CellsKnown last cells' → used + n ≤ length cells'
    → rows spans' cells' ≡ view ++ replicate n None ∷ []
rows-unset_added spans cells used last spans' cells' more stamp n view h v e s c k le =
    let k' : CellsKnown last (cells ++ more) = subst (CellsKnown last) c k in
    let le' : used + n ≤ length (cells ++ more) = subst (λ (cs : List Cell). used + n ≤ length cs) c le in
    ap (λ (ss : List Span). rows ss cells') s
    ∙ ap (λ (cs : List Cell). rows (spans ++ record {
      start = used;
      length = n;
      stamp = stamp;
    } ∷ []) cs) c
    ∙ rows-add_unset spans cells more used last stamp n h e k' le'
    ∙ ap (λ (rs : List (List (Option ℕ))). rs ++ replicate n None ∷ []) v

-- cells padded up to a number are enough for it
pub enough-padded : (cells : List Cell) (c : Cell) (count used : ℕ) (cells' : List Cell)
    → count ≡ used - length cells → cells' ≡ cells ++ replicate count c → used ≤ length cells'
enough-padded cells c count used cells' e g =
    let l : length cells' ≡ length cells + count = ap length g ∙ simp (length-append, length-replicate) in omega arith

-- an array that is added with its first words has these, then zeros, and the others stay
pub rows-set_added : (spans : List Span) (cells : List Cell) (used last : ℕ) (spans' : List Span)
    (cells0 cells1 cells2 : List Cell) (stamp n blanks : ℕ) (words : List ℕ)
    (view : List (List (Option ℕ))) → IsLaid spans cells used last → rows spans cells ≡ view
    → n ≡ length words + blanks → spans' ≡ spans ++ record {
      start = used;
      length = n;
      stamp = stamp;
    } ∷ [] → cells0 ≡ take used cells → cells1 ≡ cells0 ++ map (worded stamp) words
    → cells2 ≡ cells1 ++ replicate blanks (worded stamp 0)
    → rows spans' cells2 ≡ view ++ (map Some words ++ replicate blanks (Some 0)) ∷ []
rows-set_added spans cells used last spans' cells0 cells1 cells2 stamp n blanks words view h v e s
    c0 c1 c2 =
    let w : cells2 ≡ take used cells ++ filled stamp words blanks =
    c2 ∙ ap (λ (cs : List Cell). cs ++ replicate blanks (worded stamp 0))
    (c1 ∙ ap (λ (cs : List Cell). cs ++ map (worded stamp) words) c0)
    ∙ append_assoc (take used cells) (map (worded stamp) words)
    (replicate blanks (worded stamp 0)) in
    ap (λ (ss : List Span). rows ss cells2) s
    ∙ ap (λ (cs : List Cell). rows (spans ++ record {
      start = used;
      length = n;
      stamp = stamp;
    } ∷ []) cs) w
    ∙ rows-add_set spans cells used last stamp blanks n words h e
    ∙ ap (λ (rs : List (List (Option ℕ))). rs ++ (map Some words ++ replicate blanks (Some 0)) ∷ [])
    v

-- cells filled with words and blanks are enough for the array of both
pub enough-filled : (used blanks : ℕ) (words : List ℕ) (stamp n : ℕ)
    (cells cells0 cells1 cells2 : List Cell) → used ≤ length cells → n ≡ length words + blanks
    → cells0 ≡ take used cells → cells1 ≡ cells0 ++ map (worded stamp) words
    → cells2 ≡ cells1 ++ replicate blanks (worded stamp 0) → used + n ≤ length cells2
enough-filled used blanks words stamp n cells cells0 cells1 cells2 le e c0 c1 c2 =
    let l0 : length cells0 ≡ used = ap length c0 ∙ length-taken used cells le in
    let l1 : length cells1 ≡ length cells0 + length words = ap length c1 ∙ simp (length-append, length-map) in
    let l2 : length cells2 ≡ length cells1 + blanks = ap length c2 ∙ simp (length-append, length-replicate) in
    omega arith
