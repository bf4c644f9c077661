-- The first word of a line, and the directive that it is.
use Rattle.std.proofs.Common.{◌≡◌, ◌≤◌, ◌<◌, ℕ, zero, suc, ◌+◌, Bool, true, false, not, ◌&&◌, [], ◌∷◌, ◌++◌, length}
use Rattle.std.proofs.Common.{take, drop, Option, Some, None, refl, sym, ap, ◌∙◌, subst, arith, codes, nat_eq}
use Rattle.std.proofs.Common.{append_assoc}
use Rattle.std.specs.Prelude.{is_some}
use Rattle.std.proofs.Math.Seq.{take-append_seam, drop-append_seam}
use Rattle.std.proofs.lemmas.List.{take-append-drop}
use Rattle.std.proofs.lemmas.Bool.Decides.{nat_tests}
use Rattle.c_tree.specs.declared.Form.TheVariants as form
use Rattle.c_lex.specs.declared.directive.DirectiveKind.{DirectiveKind}
use Rattle.c_lex.specs.declared.directive.Header.{Header}
use Rattle.c_lex.specs.declared.directive.Header.TheVariants.{Stdio, Limits, Stdbool, Stddef, Stdlib, String}
use Rattle.c_lex.specs.declared.directive.Header.TheVariants.{Ctype, Stdint}
use Rattle.c_lex.specs.declared.directive.DirectiveKind.TheVariants.{Define, Undef, Ifdef, Ifndef, Else, Endif}
use Rattle.c_lex.specs.Bytes.{Bytes, Goes, Each, by_class, not_feed, is_blank, is_word, is_letter}
use Rattle.c_lex.specs.Tables.{lookup}
use Rattle.c_lex.specs.Directives.{words, name_of, named, is_directive, headers, header_form}
use Rattle.c_lex.specs.Pieces.{IncludeLine, DirectiveLine, begins_word}
use Rattle.c_lex.specs.inside.Runs.{run_len, not_blank}
use Rattle.c_lex.specs.inside.Scans.{after_blanks, first_word, directive_at, with_length}
use Rattle.c_lex.proofs.Basics.{and_left, and_right, not_true, eq_is, none_some, some_same, first_same, second_same}
use Rattle.c_lex.proofs.Runs.{run_goes, run_le, run_exact, run_stops, length_run, Stops}
use Rattle.c_lex.proofs.Tables.{all_rows, row_is}

-- a blank belongs to no word
blank_no_word : (b : ℕ) → is_blank b ≡ true → is_word b ≡ false
blank_no_word b e = grind (arith, nat_tests)

pub stops_begins : (bs : Bytes) → Stops is_word bs → begins_word bs ≡ false
stops_begins [] s = refl
stops_begins (b ∷ bs) s = s

pub begins_stops : (bs : Bytes) → begins_word bs ≡ false → Stops is_word bs
begins_stops [] s = tt
begins_stops (b ∷ bs) s = s

-- what follows the blanks at the front
pub past_blanks : (a b : Bytes) → Each is_blank a → Stops is_blank b → after_blanks (a ++ b) ≡ b
past_blanks a b g s = ap (λ (n : ℕ). drop n (a ++ b)) (run_exact is_blank 0 a b g s)
    ∙ drop-append_seam a b

-- THE TABLE

abbrev each_word : Bytes → Bool
each_word [] = true
each_word (b ∷ bs) = is_word b && each_word bs

-- bytes of a word, at least one, and the first is no blank
abbrev word_like : Bytes → Bool
word_like [] = false
word_like (b ∷ bs) = not (is_blank b) && each_word (b ∷ bs)

pub words_like : all_rows word_like words ≡ true
words_like = refl

pub goes_word : (last : ℕ) (bs : Bytes) → each_word bs ≡ true → Goes (by_class is_word) last bs
goes_word last [] e = tt
goes_word last (b ∷ bs) e =
    (and_left (is_word b) (each_word bs) e, goes_word b bs (and_right (is_word b) (each_word bs) e))

pub like_goes : (w : Bytes) → word_like w ≡ true → Goes (by_class is_word) 0 w
like_goes [] e = tt
like_goes (b ∷ bs) e = goes_word 0 (b ∷ bs) (and_right (not (is_blank b)) (each_word (b ∷ bs)) e)

pub like_stops : (w r : Bytes) → word_like w ≡ true → Stops is_blank (w ++ r)
like_stops [] r e = absurd (cc)
like_stops (b ∷ bs) r e = not_true (is_blank b) (and_left (not (is_blank b)) (each_word (b ∷ bs)) e)

-- no blank stands where a directive's word begins
pub word_stops : (line : Bytes) (k : DirectiveKind) (rest : Bytes) (d : DirectiveLine line k rest) (more : Bytes)
    → Stops is_blank (d.word ++ more)
word_stops line k rest d more =
    like_stops d.word more (row_is word_like d.word words k words_like d.named)

-- the name of a directive's token names it
pub name_names : (k : DirectiveKind) → named (name_of k) ≡ Some k
name_names Define = refl
name_names Undef = refl
name_names Ifdef = refl
name_names Ifndef = refl
name_names Else = refl
name_names Endif = refl

pub name_directs : (k : DirectiveKind) → is_directive (form.Name (name_of k)) ≡ true
name_directs k = ap (λ (o : Option DirectiveKind). is_some o) (name_names k)

-- a word of a text is no directive's name
pub letter_plain : (b : ℕ) (w : Bytes) → is_letter b ≡ true → is_directive (form.Name (b ∷ w)) ≡ false
letter_plain b w e = let n : nat_eq b 35 ≡ false = grind (arith, nat_tests) in rw n refl

pub word_plain : (b : ℕ) (bs : Bytes) (n : ℕ) → is_letter b ≡ true → 0 < n
    → is_directive (form.Name (take n (b ∷ bs))) ≡ false
word_plain b bs zero e h = absurd (omega arith)
word_plain b bs (suc n) e h = letter_plain b (take n bs) e

-- an include is none
pub header_plain : (h : Header) → is_directive (header_form h) ≡ false
header_plain Stdio = refl
header_plain Limits = refl
header_plain Stdbool = refl
header_plain Stddef = refl
header_plain Stdlib = refl
header_plain String = refl
header_plain Ctype = refl
header_plain Stdint = refl

abbrev each_solid : Bytes → Bool
each_solid [] = true
each_solid (b ∷ bs) = not_blank b && (not_feed b && each_solid bs)

-- `<` and what follows it, with no blank and no line feed
abbrev header_like : Bytes → Bool
header_like [] = false
header_like (b ∷ bs) = nat_eq b 60 && each_solid (b ∷ bs)

headers_like : all_rows header_like headers ≡ true
unfolding headers
headers_like = refl

goes_solid : (last : ℕ) (bs : Bytes) → each_solid bs ≡ true → Goes (by_class not_blank) last bs
goes_solid last [] e = tt
goes_solid last (b ∷ bs) e =
    let rest : (not_feed b && each_solid bs) ≡ true = and_right (not_blank b) (not_feed b && each_solid bs) e in (
      and_left (not_blank b) (not_feed b && each_solid bs) e,
      goes_solid b bs (and_right (not_feed b) (each_solid bs) rest),
    )

goes_line : (last : ℕ) (bs : Bytes) → each_solid bs ≡ true → Goes (by_class not_feed) last bs
goes_line last [] e = tt
goes_line last (b ∷ bs) e =
    let rest : (not_feed b && each_solid bs) ≡ true = and_right (not_blank b) (not_feed b && each_solid bs) e in (
      and_left (not_feed b) (each_solid bs) rest,
      goes_line b bs (and_right (not_feed b) (each_solid bs) rest),
    )

-- what is known of a header's name
pub record IsName (name : Bytes) : Type 0 where
  pub solid : Goes (by_class not_blank) 0 name
  pub in_line : Goes (by_class not_feed) 0 name
  -- it begins with no blank, and goes on no word
  pub no_blank : (more : Bytes) → Stops is_blank (name ++ more)
  pub no_word : (more : Bytes) → Stops is_word (name ++ more)

like_name : (w : Bytes) → header_like w ≡ true → IsName w
like_name [] e = absurd (cc)
like_name (b ∷ bs) e =
    let first : b ≡ 60 = eq_is b 60 (and_left (nat_eq b 60) (each_solid (b ∷ bs)) e) in
    let each : each_solid (b ∷ bs) ≡ true = and_right (nat_eq b 60) (each_solid (b ∷ bs)) e in
    record {
      solid = goes_solid 0 (b ∷ bs) each;
      in_line = goes_line 0 (b ∷ bs) each;
      no_blank = λ more. subst (λ (x : ℕ). is_blank x ≡ false) (sym first) refl;
      no_word = λ more. subst (λ (x : ℕ). is_word x ≡ false) (sym first) refl;
    }

-- each name of the table is one
pub header_name : (h : Header) (name : Bytes) → lookup name headers ≡ Some h → IsName name
header_name h name e = like_name name (row_is header_like name headers h headers_like e)

-- bytes with none behind them are the same bytes
pub bytes_nil : (b : Bytes) → b ++ [] ≡ b
bytes_nil [] = refl
bytes_nil (x ∷ b) = ap (λ (y : Bytes). x ∷ y) (bytes_nil b)

-- LINES

-- a text that begins with blanks and a word of the table
pub record Begins (text : Bytes) : Type 0 where
  pub first : Bytes
  pub word : Bytes
  pub rest : Bytes
  pub is : text ≡ first ++ (word ++ rest)
  pub blank : Each is_blank first
  pub like : Goes (by_class is_word) 0 word
  pub stops : Stops is_blank (word ++ rest)
  pub ends : Stops is_word rest

-- has this first word
pub first_is : (text : Bytes) (b : Begins text) → first_word text ≡ b.word
first_is text b =
    let past : after_blanks text ≡ b.word ++ b.rest =
    ap after_blanks b.is ∙ past_blanks b.first (b.word ++ b.rest) b.blank b.stops in
    let n : run_len (by_class is_word) 0 (b.word ++ b.rest) ≡ length b.word =
    run_exact is_word 0 b.word b.rest b.like b.ends in
    ap (λ (a : Bytes). take (run_len (by_class is_word) 0 a) a) past
    ∙ ap (λ (m : ℕ). take m (b.word ++ b.rest)) n ∙ take-append_seam b.word b.rest

-- and so many blanks
pub blanks_are : (text : Bytes) (b : Begins text) → run_len (by_class is_blank) 0 text ≡ length b.first
blanks_are text b =
    ap (λ (t : Bytes). run_len (by_class is_blank) 0 t) b.is
    ∙ run_exact is_blank 0 b.first (b.word ++ b.rest) b.blank b.stops

-- a directive, with more behind it
unfoldable pub directive_begins : (line more : Bytes) (k : DirectiveKind) (rest : Bytes) → DirectiveLine line k rest
    → begins_word (rest ++ more) ≡ false → Begins (line ++ more)
directive_begins line more k rest d e =
    let like : word_like d.word ≡ true = row_is word_like d.word words k words_like d.named in
    record {
      first = d.first;
      word = d.word;
      rest = rest ++ more;
      is = ap (λ (x : Bytes). x ++ more) d.is ∙ append_assoc d.first (d.word ++ rest) more
          ∙ ap (λ (x : Bytes). d.first ++ x) (append_assoc d.word rest more);
      blank = d.first_blank;
      like = like_goes d.word like;
      stops = like_stops d.word (rest ++ more) like;
      ends = begins_stops (rest ++ more) e;
    }

-- behind `include` goes no word on
pub include_ends : (second name more : Bytes) → Each is_blank second → IsName name
    → Stops is_word (second ++ (name ++ more))
include_ends [] name more g n = n.no_word more
include_ends (b ∷ bs) name more g n = blank_no_word b g.0

unfoldable pub include_begins : (line more : Bytes) (h : Header) (i : IncludeLine line h) → Begins (line ++ more)
include_begins line more h i =
    record {
      first = i.first;
      word = codes "include";
      rest = i.second ++ (i.name ++ (i.third ++ more));
      is = ap (λ (x : Bytes). x ++ more) i.is
          ∙ append_assoc i.first (codes "include" ++ (i.second ++ (i.name ++ i.third))) more
          ∙ ap (λ (x : Bytes). i.first ++ (codes "include" ++ x))
          (append_assoc i.second (i.name ++ i.third) more
          ∙ ap (λ (x : Bytes). i.second ++ x) (append_assoc i.name i.third more));
      blank = i.first_blank;
      like = (refl, (refl, (refl, (refl, (refl, (refl, (refl, tt)))))));
      stops = refl;
      ends = include_ends i.second i.name (i.third ++ more) i.second_blank (header_name h i.name i.known);
    }

-- no line is an include, or begins with one, and a directive
pub include_apart : (line more : Bytes) (k : DirectiveKind) (rest : Bytes) (h : Header)
    → DirectiveLine (line ++ more) k rest → IncludeLine line h → ⊥
unfolding directive_begins include_begins
include_apart line more k rest h d i =
    let nil : rest ++ [] ≡ rest = bytes_nil rest in
    let b : Begins ((line ++ more) ++ []) = directive_begins (line ++ more) [] k rest d
    (subst (λ (x : Bytes). begins_word x ≡ false) (sym nil) d.ends) in
    let a : first_word ((line ++ more) ++ []) ≡ d.word = first_is ((line ++ more) ++ []) b in
    let c : first_word (line ++ more) ≡ codes "include" = first_is (line ++ more) (include_begins line more h i) in
    let w : d.word ≡ codes "include" = sym a ∙ ap first_word (bytes_nil (line ++ more)) ∙ c in
    let none : None ≡ Some k = ap (λ (x : Bytes). lookup x words) (sym w) ∙ d.named in
    cc

-- the first word of a directive's line is its word
pub directive_word : (line : Bytes) (k : DirectiveKind) (rest : Bytes) (d : DirectiveLine line k rest)
    → first_word line ≡ d.word
unfolding directive_begins
directive_word line k rest d =
    let b : Begins (line ++ []) = directive_begins line [] k rest d
    (subst (λ (x : Bytes). begins_word x ≡ false) (sym (bytes_nil rest)) d.ends) in
    ap first_word (sym (bytes_nil line)) ∙ first_is (line ++ []) b

-- a line is one directive
pub directive_once : (line : Bytes) (k k' : DirectiveKind) (rest rest' : Bytes) → DirectiveLine line k rest
    → DirectiveLine line k' rest' → k ≡ k'
directive_once line k k' rest rest' d d' =
    some_same k k' (sym d.named
    ∙ ap (λ (x : Bytes). lookup x words) (sym (directive_word line k rest d) ∙ directive_word line k' rest' d')
    ∙ d'.named)

-- what the scan finds
pub record Directed (line : Bytes) (n : ℕ) (k : DirectiveKind) : Type 0 where
  pub rest : Bytes
  pub line_is : DirectiveLine line k rest
  pub size : n ≡ length line_is.first + length line_is.word

pub directed_is : (line : Bytes) (n : ℕ) (k : DirectiveKind) → directive_at line ≡ Some (n, k) → Directed line n k
directed_is line n k e = by (lookup (first_word line) words) refl e
  where
    blanks : ℕ
    blanks = run_len (by_class is_blank) 0 line

    rest : Bytes
    rest = after_blanks line

    count : ℕ
    count = run_len (by_class is_word) 0 rest

    taken : (go : ℕ → Bool) (bs : Bytes)
        → run_len (by_class go) 0 bs ≡ length (take (run_len (by_class go) 0 bs) bs)
    taken go bs = sym (length_run (run_len (by_class go) 0 bs) bs (run_le (by_class go) 0 bs))

    by : (o : Option DirectiveKind) → lookup (first_word line) words ≡ o
        → with_length (blanks + count) o ≡ Some (n, k) → Directed line n k
    by None l f = absurd (cc)
    by (Some x) l f =
        let size : blanks + count ≡ n = first_same {A = DirectiveKind} (blanks + count, x) (n, k) f in
        let kind : x ≡ k = second_same {A = DirectiveKind} (blanks + count, x) (n, k) f in
        let a : blanks ≡ length (take blanks line) = taken is_blank line in
        let b : count ≡ length (take count rest) = taken is_word rest in
        record {
          rest = drop count rest;
          line_is = record {
            first = take blanks line;
            word = first_word line;
            is = sym (take-append-drop blanks line)
                ∙ ap (λ (y : Bytes). take blanks line ++ y) (sym (take-append-drop count rest));
            first_blank = run_goes (by_class is_blank) 0 line;
            named = l ∙ ap (λ (y : DirectiveKind). Some y) kind;
            ends = stops_begins (drop count rest) (run_stops is_word 0 rest);
          };
          size = omega arith;
        }

-- where it finds none, none is there
pub directed_none : (line : Bytes) (k : DirectiveKind) (rest : Bytes) → directive_at line ≡ None
    → DirectiveLine line k rest → ⊥
directed_none line k rest e d =
    let named : lookup (first_word line) words ≡ Some k =
    ap (λ (x : Bytes). lookup x words) (directive_word line k rest d) ∙ d.named in
    let n : ℕ = run_len (by_class is_blank) 0 line + run_len (by_class is_word) 0 (after_blanks line) in
    none_some (directive_at line) (n, k) e (ap (λ (o : Option DirectiveKind). with_length n o) named)

-- of two ways to part a text the longer front goes on behind the shorter
pub record GoesOn (a b c d : Bytes) : Type 0 where
  pub between : Bytes
  pub front : b ≡ a ++ between
  pub back : c ≡ between ++ d

pub goes_on : (a b c d : Bytes) → a ++ c ≡ b ++ d → length a ≤ length b → GoesOn a b c d
goes_on [] b c d e h = record { between = b; front = refl; back = e }
goes_on (x ∷ a) [] c d e h = absurd (let l : length (x ∷ a) ≡ suc (length a) = refl in omega arith)
goes_on (x ∷ a) (y ∷ b) c d e h =
    let first : x ≡ y = cc in
    let more : a ++ c ≡ b ++ d = cc in
    let g : GoesOn a b c d = goes_on a b c d more (let l : suc (length a) ≤ suc (length b) = h in omega arith) in
    record {
      between = g.between;
      front = ap (λ (z : ℕ). z ∷ b) (sym first) ∙ ap (λ (z : Bytes). x ∷ z) g.front;
      back = g.back;
    }
