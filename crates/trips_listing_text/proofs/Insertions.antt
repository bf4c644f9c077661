-- What is put into a text vanishes where its comments do.
use Rattle.std.proofs.Common.{◌≡◌, ℕ, suc, ◌-◌, List, [], ◌∷◌, ◌++◌, Bool, true, false, Option, Some, None}
use Rattle.std.proofs.Common.{refl, sym, ap, ◌∙◌, append_assoc}
use Rattle.std.specs.Prelude.{◌==◌, not, ◌&&◌, if◌then◌else◌, codes, slice_get}
use Rattle.std.proofs.lemmas.List.{append-nil}
use Rattle.target_asm_spec.proofs.Numbers.{and_left, and_right, and_both}
use Rattle.target_file.specs.Bare.{is_empty, told, in_first, lines_of, line_text, bare_lines, bare}
use Rattle.target_file.proofs.Turns.{lines_some, bare_none}
use Rattle.trips_listing_text.specs.declared.told.Told.{Told}
use Rattle.trips_listing_text.specs.Comments as comment
use Rattle.trips_listing_text.specs.Comments.{comment, shown, function_line, scalar_text, has_room, with_scalar}
use Rattle.trips_listing_text.specs.Comments.{with_named, last_line, scalar_lines, told_lines, is_first, comments}
use Rattle.trips_listing_text.specs.Comments.{begun_by, part_text, place_text, begun}
use Rattle.trips_listing_text.specs.Listed.{begins_block, before, behind, line_end, listed}
use Rattle.trips_listing_text.proofs.Clears.{clear, clears, clears_both, not_false, shown_clear, place_clear}
use Rattle.trips_listing_text.proofs.Clears.{scalar_clear, begun_clear, part_clear}

-- lines ------------------------------------------------------------------------------------------

-- a line that a line feed ends
first_of : (w rest : List ℕ) → clears w ≡ true → lines_of (w ++ 10 ∷ rest) ≡ w ∷ lines_of rest
first_of [] rest h = refl
first_of (c ∷ cs) rest h =
    rw (not_false (c == 10) (and_left (clear c) (clears cs) h))
    (ap (in_first c) (first_of cs rest (and_right (clear c) (clears cs) h)))

-- a line alone
alone : (w : List ℕ) → clears w ≡ true → lines_of w ≡ w ∷ []
alone [] h = refl
alone (c ∷ cs) h =
    rw (not_false (c == 10) (and_left (clear c) (clears cs) h))
    (ap (in_first c) (alone cs (and_right (clear c) (clears cs) h)))

-- none of some lines has a line feed
abbrev all_clear : List (List ℕ) → Bool
all_clear [] = true
all_clear (l ∷ ls) = clears l && all_clear ls

in_clear : (c : ℕ) (ls : List (List ℕ)) → clear c ≡ true → all_clear ls ≡ true → all_clear (in_first c ls) ≡ true
in_clear c [] i h = and_both (clears (c ∷ [])) true (and_both (clear c) true i refl) refl
in_clear c (l ∷ ls) i h =
    and_both (clears (c ∷ l)) (all_clear ls) (and_both (clear c) (clears l) i (and_left (clears l) (all_clear ls) h))
    (and_right (clears l) (all_clear ls) h)

-- the lines of a text have none
lines_clear : (text : List ℕ) → all_clear (lines_of text) ≡ true
lines_clear [] = refl
lines_clear (c ∷ cs) = go (c == 10) refl (lines_clear cs)
  where
    go : (b : Bool) → (c == 10) ≡ b → all_clear (lines_of cs) ≡ true
        → all_clear (if b then [] ∷ lines_of cs else in_first c (lines_of cs)) ≡ true
    go true e h = h
    go false e h = in_clear c (lines_of cs) (ap not e) h

-- what vanishes ----------------------------------------------------------------------------------

-- nothing is left of the front of a text, whatever follows it
abbrev pub Vanishes : List ℕ → Type 0
Vanishes u = (rest : List ℕ) → bare (u ++ rest) ≡ bare rest

vanish_both : (u v : List ℕ) → Vanishes u → Vanishes v → Vanishes (u ++ v)
vanish_both u v a b = λ rest. ap bare (append_assoc u v rest) ∙ a (v ++ rest) ∙ b rest

vanish_comment : (w : List ℕ) → clears w ≡ true → Vanishes (comment w)
unfolding bare comment
vanish_comment w h = λ rest.
    let e : (codes "# " ++ (w ++ 10 ∷ [])) ++ rest ≡ (codes "# " ++ w) ++ 10 ∷ rest =
    append_assoc (codes "# ") (w ++ 10 ∷ []) rest ∙ ap (λ (t : List ℕ). codes "# " ++ t) (append_assoc w (10 ∷ []) rest)
    ∙ sym (append_assoc (codes "# ") w (10 ∷ rest)) in
    ap (λ (t : List ℕ). bare_lines (lines_of t)) e
    ∙ ap bare_lines (first_of (codes "# " ++ w) rest (clears_both (codes "# ") w refl h))
    ∙ gone (lines_of rest)
  where
    gone : (ls : List (List ℕ)) → bare_lines ((codes "# " ++ w) ∷ ls) ≡ bare_lines ls
    gone [] = refl
    gone (l ∷ ls) = refl

vanish_last : (line : List ℕ) → clears line ≡ true → Vanishes (last_line line)
vanish_last [] h = λ rest. refl
vanish_last (c ∷ cs) h = vanish_comment (c ∷ cs) h

-- what is written behind a scalar vanishes, and the line has no line feed
record IsRow (r : comment.Row) : Type 0 where
  written : Vanishes r.written
  line : clears r.line ≡ true

scalar_row : (name scalar line : List ℕ) → clears name ≡ true → clears scalar ≡ true → clears line ≡ true
    → IsRow (with_scalar name scalar line)
scalar_row name scalar line n s l = go (comment.is_empty line) (has_room line scalar)
  where
    go : (a b : Bool) → IsRow (if a then record { written = []; line = begun name scalar }
        else if b then record { written = []; line = line ++ (codes ", " ++ scalar) }
        else record { written = comment line; line = begun name scalar })
    go true b = record { written = λ rest. refl; line = begun_clear name scalar n s }
    go false true = record {
      written = λ rest. refl;
      line = clears_both line (codes ", " ++ scalar) l (clears_both (codes ", ") scalar refl s);
    }
    go false false = record { written = vanish_comment line l; line = begun_clear name scalar n s }

named_row : (name : List ℕ) (k : ℕ) (w line : List ℕ) → clears line ≡ true → IsRow (with_named name k w line)
named_row name k w line l = go (comment.is_empty (shown w))
    (scalar_row (shown name) (scalar_text k (shown w)) line (shown_clear name)
    (scalar_clear k (shown w) (shown_clear w)) l)
  where
    go : (a : Bool) → IsRow (with_scalar (shown name) (scalar_text k (shown w)) line)
        → IsRow (if a then record { written = []; line = line }
        else with_scalar (shown name) (scalar_text k (shown w)) line)
    go true r = record { written = λ rest. refl; line = l }
    go false r = r

vanish_scalars : (name : List ℕ) (k : ℕ) (ws : List (List ℕ)) (line : List ℕ) → clears line ≡ true
    → Vanishes (scalar_lines name k ws line)
vanish_scalars name k [] line l = vanish_last line l
vanish_scalars name k (w ∷ ws) line l =
    let r = named_row name k w line l in
    vanish_both (with_named name k w line).written (scalar_lines name (suc k) ws (with_named name k w line).line)
    r.written (vanish_scalars name (suc k) ws (with_named name k w line).line r.line)

vanish_told : (t : Option Told) (first : Bool) → Vanishes (told_lines t first)
vanish_told None first = λ rest. refl
vanish_told (Some t) first =
    vanish_both (function_line t) (if first then scalar_lines t.name 0 t.names [] else [])
    (vanish_comment (shown t.name ++ place_text t.library t.first t.last)
    (clears_both (shown t.name) (place_text t.library t.first t.last) (shown_clear t.name)
    (place_clear t.library t.first t.last)))
    (go first)
  where
    go : (b : Bool) → Vanishes (if b then scalar_lines t.name 0 t.names [] else [])
    go true = vanish_scalars t.name 0 t.names [] refl
    go false = λ rest. refl

-- so do the comments before a block
pub vanish_comments : (entries : List ℕ) (told : List Told) (k : ℕ) → Vanishes (comments entries told k)
vanish_comments entries told k = go (begun_by k entries == 0)
  where
    go : (b : Bool) → Vanishes (if b then comment (part_text k)
        else told_lines (slice_get told (begun_by k entries - 1))
        (is_first (slice_get entries (begun_by k entries - 1)) k))
    go true = vanish_comment (part_text k) (part_clear k)
    go false = vanish_told (slice_get told (begun_by k entries - 1)) _

-- texts ------------------------------------------------------------------------------------------

before_vanishes : (c : ℕ → List ℕ) → ((k : ℕ) → Vanishes (c k)) → (b : Bool) (k : ℕ) → Vanishes (before b c k)
before_vanishes c v true k = v k
before_vanishes c v false k = λ rest. refl

-- what is put before lines vanishes
listed_bare : (c : ℕ → List ℕ) → ((k : ℕ) → Vanishes (c k)) → (k : ℕ) (ls : List (List ℕ)) → all_clear ls ≡ true
    → bare (listed c k ls) ≡ bare_lines ls
unfolding bare
listed_bare c v k [] h = refl
listed_bare c v k (l ∷ []) h =
    before_vanishes c v (begins_block l) k (l ++ ([] ++ []))
    ∙ ap bare (append-nil l) ∙ ap bare_lines (alone l (and_left (clears l) true h))
listed_bare c v k (l ∷ m ∷ ms) h =
    let k2 = behind (begins_block l) k in
    let more = listed c k2 (m ∷ ms) in
    let again = listed_bare c v k2 (m ∷ ms) (and_right (clears l) (all_clear (m ∷ ms)) h) in
    before_vanishes c v (begins_block l) k (l ++ (10 ∷ more))
    ∙ ap bare_lines (first_of l more (and_left (clears l) (all_clear (m ∷ ms)) h))
    ∙ ap (λ (e : Bool). line_text (not e) (told l) ++ bare_lines (lines_of more)) (lines_some more)
    ∙ ap (λ (t : List ℕ). line_text true (told l) ++ t) again

-- Comments change nothing of what is left of a text.
pub listing_bare : (entries : List ℕ) (tells : List Told) (text : List ℕ)
    → bare (listed (comments entries tells) 0 (lines_of text)) ≡ bare text
unfolding bare
listing_bare entries tells text =
    listed_bare (comments entries tells) (vanish_comments entries tells) 0 (lines_of text) (lines_clear text)
