-- What a turn of a loop over bytes or over lines does.
use Rattle.std.proofs.Common.{◌≡◌, ◌∙◌, ℕ, suc, ◌+◌, ◌<◌, List, [], ◌∷◌, ◌++◌, length, take, drop, get_or}
use Rattle.std.proofs.Common.{refl, sym, ap, arith, Bool, true, false, append_assoc, map}
use Rattle.std.proofs.lemmas.List.{append-nil, flat_map_more, take_more}
use Rattle.std.proofs.lemmas.Bool.{eqb-true}
use Rattle.std.specs.Prelude.{◌==◌, ◌||◌, if◌then◌else◌, filter}
use Rattle.std.specs.List.{flat_map, join_with_byte, onto_first}
use Rattle.trips_json.specs.Lines.{is_value, lines_of, line_size, first_line, behind_line}
use Rattle.trips_json.specs.Objects.{all_lines, member, others, values}
use Rattle.trips_json.specs.Strings.{string_of}
use Rattle.trips_json.specs.inside.Items.{items, piece, is_other}

-- one item more
pub item_step : {A : Type 0} (f : A → List ℕ) (i : ℕ) (xs : List A) (d : A) (start out new : List ℕ)
    → i < length xs → out ≡ start ++ flat_map f (take i xs) → new ≡ out ++ f (get_or xs i d)
    → new ≡ start ++ flat_map f (take (i + 1) xs)
item_step f i xs d start out new l o n =
    n ∙ ap (λ t. t ++ f (get_or xs i d)) o ∙ flat_map_more f start (take i xs) (get_or xs i d)
    ∙ ap (λ t. start ++ flat_map f t) (sym (take_more xs i d l))

-- LINES

-- the lines of a text are its first one and those of what comes after that
lines_turn : (c : ℕ) (cs : List ℕ)
    → lines_of (c ∷ cs) ≡ first_line (c ∷ cs) ∷ lines_of (behind_line (c ∷ cs))
unfolding line_size
lines_turn c [] = go (c == 10)
  where
    go : (b : Bool) → (if b then [] ∷ [] else onto_first c [])
        ≡ take (if b then 0 else suc 0) (c ∷ []) ∷ lines_of (drop (suc (if b then 0 else suc 0)) (c ∷ []))
    go true = refl
    go false = refl
lines_turn c (d ∷ ds) = go (c == 10) (lines_turn d ds)
  where
    go : (b : Bool) → lines_of (d ∷ ds) ≡ first_line (d ∷ ds) ∷ lines_of (behind_line (d ∷ ds))
        → (if b then [] ∷ lines_of (d ∷ ds) else onto_first c (lines_of (d ∷ ds)))
        ≡ take (if b then 0 else suc (line_size (d ∷ ds))) (c ∷ d ∷ ds)
        ∷ lines_of (drop (suc (if b then 0 else suc (line_size (d ∷ ds)))) (c ∷ d ∷ ds))
    go true e = refl
    go false e = ap (onto_first c) e

-- a turn writes what is written of a line
pub turn : (is : List ℕ → Bool) (text : List ℕ → List ℕ) (later after : Bool) (out new rest line more all : List ℕ)
    → (length rest == 0) ≡ false → line ≡ first_line rest → more ≡ behind_line rest
    → new ≡ out ++ piece is text later line → after ≡ (later || is line)
    → out ++ items is text later (lines_of rest) ≡ all → new ++ items is text after (lines_of more) ≡ all
turn is text later after out new [] line more all some l m n a e = absurd cc
turn is text later after out new (c ∷ cs) line more all some l m n a e =
    let behind : line ∷ lines_of more ≡ lines_of (c ∷ cs) =
    ap (λ t. t ∷ lines_of more) l ∙ ap (λ t. first_line (c ∷ cs) ∷ lines_of t) m ∙ sym (lines_turn c cs) in
    ap (λ t. t ++ items is text after (lines_of more)) n
    ∙ append_assoc out (piece is text later line) (items is text after (lines_of more))
    ∙ ap (λ b. out ++ (piece is text later line ++ items is text b (lines_of more))) a
    ∙ ap (λ ls. out ++ items is text later ls) behind ∙ e

-- at the end of the text all is written
pub all_written : (is : List ℕ → Bool) (text : List ℕ → List ℕ) (later : Bool) (out rest all : List ℕ)
    → (length rest == 0) ≡ true → out ++ items is text later (lines_of rest) ≡ all → out ≡ all
all_written is text later out [] all none e = sym (append-nil out) ∙ e
all_written is text later out (c ∷ cs) all none e = absurd (omega (arith, eqb-true (length (c ∷ cs)) 0 none))

-- ITEMS

-- what stands behind a first item
abbrev more_text : List (List ℕ) → List ℕ
more_text [] = []
more_text (x ∷ xs) = 44 ∷ join_with_byte 44 (x ∷ xs)

join_step : (x : List ℕ) (xs : List (List ℕ)) → join_with_byte 44 (x ∷ xs) ≡ x ++ more_text xs
join_step x [] = sym (append-nil x)
join_step x (y ∷ ys) = refl

later_is : (is : List ℕ → Bool) (text : List ℕ → List ℕ) (lines : List (List ℕ))
    → items is text true lines ≡ more_text (map text (filter is lines))
unfolding piece
later_is is text [] = refl
later_is is text (l ∷ ls) = go (is l) (later_is is text ls)
  where
    go : (b : Bool) → items is text true ls ≡ more_text (map text (filter is ls))
        → (if b then (44 ∷ text l) else []) ++ items is text true ls
        ≡ more_text (map text (if b then l ∷ filter is ls else filter is ls))
    go true e = ap (λ t. 44 ∷ t)
        (ap (λ t. text l ++ t) e ∙ sym (join_step (text l) (map text (filter is ls))))
    go false e = e

-- what is written of lines is the list of their texts, with commas
joined : (is : List ℕ → Bool) (text : List ℕ → List ℕ) (lines : List (List ℕ))
    → items is text false lines ≡ join_with_byte 44 (map text (filter is lines))
unfolding piece
joined is text [] = refl
joined is text (l ∷ ls) = go (is l) (joined is text ls)
  where
    go : (b : Bool) → items is text false ls ≡ join_with_byte 44 (map text (filter is ls))
        → (if b then text l else []) ++ items is text b ls
        ≡ join_with_byte 44 (map text (if b then l ∷ filter is ls else filter is ls))
    go true e = ap (λ t. text l ++ t) (later_is is text ls) ∙ sym (join_step (text l) (map text (filter is ls)))
    go false e = e

every : (lines : List (List ℕ)) → filter (is_other true) lines ≡ lines
every [] = refl
every (l ∷ ls) = ap (λ t. l ∷ t) (every ls)

all_joined : (lines : List (List ℕ))
    → items (is_other true) string_of false lines ≡ join_with_byte 44 (map string_of lines)
all_joined lines = joined (is_other true) string_of lines
    ∙ ap (λ ls. join_with_byte 44 (map string_of ls)) (every lines)

-- of the lines that are values
pub values_joined : (text : List ℕ) → items is_value member false (lines_of text) ≡ values text
unfolding values
values_joined text = joined is_value member (lines_of text)

-- of all lines, or of those that are no values
pub strings_joined : (all : Bool) (text : List ℕ)
    → items (is_other all) string_of false (lines_of text) ≡ (if all then all_lines text else others text)
unfolding all_lines others
strings_joined true text = all_joined (lines_of text)
strings_joined false text = joined (is_other false) string_of (lines_of text)

-- WORDS

-- the words that stay are those whose bytes do
pub words_left : {A : Type 0} (bytes : A → List ℕ) (test : List ℕ → Bool) (xs : List A)
    → map bytes (filter (λ x. test (bytes x)) xs) ≡ filter test (map bytes xs)
words_left bytes test [] = refl
words_left bytes test (x ∷ xs) = go (test (bytes x)) (words_left bytes test xs)
  where
    go : (b : Bool) → map bytes (filter (λ y. test (bytes y)) xs) ≡ filter test (map bytes xs)
        → map bytes (if b then x ∷ filter (λ y. test (bytes y)) xs else filter (λ y. test (bytes y)) xs)
        ≡ (if b then bytes x ∷ filter test (map bytes xs) else filter test (map bytes xs))
    go true e = ap (λ t. bytes x ∷ t) e
    go false e = e

-- WRITES

-- three texts that were written one behind the other
pub three : (x y z start a b d : List ℕ) → a ≡ start ++ x → b ≡ a ++ y → d ≡ b ++ z
    → d ≡ start ++ (x ++ (y ++ z))
three x y z start a b d first second third =
    third ∙ ap (λ t. t ++ z) (second ∙ ap (λ t. t ++ y) first)
    ∙ ap (λ t. t ++ z) (append_assoc start x y) ∙ append_assoc start (x ++ y) z
    ∙ ap (λ t. start ++ t) (append_assoc x y z)
