-- Cells and spans have no later stamp than the last one, and what has another stamp is not set.
use Rattle.std.proofs.Common.{◌≡◌, ℕ, zero, suc, ◌<◌, ◌≤◌, Bool, false, cond, nat_eq, List, [], ◌∷◌}
use Rattle.std.proofs.Common.{◌++◌, map, length, take, drop, set, replicate, Option, Some, None}
use Rattle.std.proofs.Common.{slice_get, refl, ap, subst, ◌∙◌, arith}
use Rattle.std.proofs.lemmas.Bool.Decides.{nat_tests}
use Rattle.c_meaning.specs.declared.arrays.Cell.{Cell}
use Rattle.c_meaning.specs.declared.arrays.Span.{Span}
use Rattle.c_meaning.specs.inside.Cells.{shown, SpansKnown, CellsKnown, worded}

-- spans without a stamp later than one have none later than a later one
pub spans-later : (last later : ℕ) (spans : List Span) → last ≤ later → SpansKnown last spans
    → SpansKnown later spans
spans-later last later [] le h = tt
spans-later last later (s ∷ spans) le h = let a = h.0 in (omega arith, spans-later last later spans le h.1)

-- cells without a stamp later than one have none later than a later one
pub cells-later : (last later : ℕ) (cells : List Cell) → last ≤ later → CellsKnown last cells
    → CellsKnown later cells
cells-later last later [] le h = tt
cells-later last later (c ∷ cells) le h = let a = h.0 in (omega arith, cells-later last later cells le h.1)

-- cells behind cells have no later stamp where neither have
pub cells-append : (last : ℕ) (cells more : List Cell) → CellsKnown last cells
    → CellsKnown last more → CellsKnown last (cells ++ more)
cells-append last [] more h g = g
cells-append last (c ∷ cells) more h g = (h.0, cells-append last cells more h.1 g)

-- equal cells have no later stamp where the one has none
pub cells-replicate : (last n : ℕ) (c : Cell) → c.stamp ≤ last → CellsKnown last (replicate n c)
cells-replicate last zero c h = tt
cells-replicate last (suc n) c h = (h, cells-replicate last n c h)

-- words with a stamp that is not later are cells without a later one
pub cells-worded : (last stamp : ℕ) (words : List ℕ) → stamp ≤ last
    → CellsKnown last (map (worded stamp) words)
cells-worded last stamp [] h = tt
cells-worded last stamp (w ∷ words) h = (h, cells-worded last stamp words h)

-- cells of which one is set have no later stamp where the new one has none
pub cells-set : (last i : ℕ) (cells : List Cell) (c : Cell) → c.stamp ≤ last → CellsKnown last cells
    → CellsKnown last (set cells i c)
cells-set last i [] c le h = tt
cells-set last zero (d ∷ cells) c le h = (le, h.1)
cells-set last (suc i) (d ∷ cells) c le h = (h.0, cells-set last i cells c le h.1)

-- the first of some cells have no later stamp where all have none
pub cells-take : (last n : ℕ) (cells : List Cell) → CellsKnown last cells
    → CellsKnown last (take n cells)
cells-take last zero cells h = tt
cells-take last (suc n) [] h = tt
cells-take last (suc n) (c ∷ cells) h = (h.0, cells-take last n cells h.1)

-- the stamp of a span that is there is not later than the last
pub stamp-known : (last a : ℕ) (spans : List Span) (span : Span) → SpansKnown last spans
    → slice_get spans a ≡ Some span → span.stamp ≤ last
stamp-known last a [] span h g = absurd (cc)
stamp-known last zero (s ∷ spans) span h g = let e : s ≡ span = cc in subst (λ (s : Span). s.stamp ≤ last) e h.0
stamp-known last (suc a) (s ∷ spans) span h g = stamp-known last a spans span h.1 g

-- the first of some spans have no later stamp where all have none
pub spans-take : (last n : ℕ) (spans : List Span) → SpansKnown last spans
    → SpansKnown last (take n spans)
spans-take last zero spans h = tt
spans-take last (suc n) [] h = tt
spans-take last (suc n) (s ∷ spans) h = (h.0, spans-take last n spans h.1)

-- spans with one behind them have no later stamp where neither have
pub spans-snoc : (last : ℕ) (spans : List Span) (span : Span) → SpansKnown last spans
    → span.stamp ≤ last → SpansKnown last (spans ++ span ∷ [])
spans-snoc last [] span h g = (g, tt)
spans-snoc last (s ∷ spans) span h g = (h.0, spans-snoc last spans span h.1 g)

-- spans of which one is set have no later stamp where the new one has none
pub spans-set : (last a : ℕ) (spans : List Span) (span : Span) → SpansKnown last spans
    → span.stamp ≤ last → SpansKnown last (set spans a span)
spans-set last a [] span h g = tt
spans-set last zero (s ∷ spans) span h g = (g, h.1)
spans-set last (suc a) (s ∷ spans) span h g = (h.0, spans-set last a spans span h.1 g)

differs : (a b : ℕ) → a < b → nat_eq a b ≡ false
differs a b h = grind (arith, nat_tests)

-- a cell without the stamp is not set
pub unset-cells : (last stamp n : ℕ) (cells : List Cell) → last < stamp → CellsKnown last cells
    → n ≤ length cells → map (shown stamp) (take n cells) ≡ replicate n None
unset-cells last stamp zero cells lt h le = refl
unset-cells last stamp (suc n) [] lt h le = absurd (omega arith)
unset-cells last stamp (suc n) (c ∷ cells) lt h le =
    let a = h.0 in
    let e : nat_eq c.stamp stamp ≡ false = differs c.stamp stamp (omega arith) in
    ap (λ (b : Bool). cond b (Some c.word) None ∷ map (shown stamp) (take n cells)) e
    ∙ ap (λ (r : List (Option ℕ)). None ∷ r) (unset-cells last stamp n cells lt h.1 (omega arith))

-- the last of some cells have no later stamp where all have none
pub drop-known : (last n : ℕ) (cells : List Cell) → CellsKnown last cells
    → CellsKnown last (drop n cells)
drop-known last zero cells h = h
drop-known last (suc n) [] h = h
drop-known last (suc n) (c ∷ cells) h = drop-known last n cells h.1
