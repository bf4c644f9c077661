-- What the matches of a parse have of what is said.
use Rattle.std.proofs.Common.{◌≡◌, ◌∙◌, refl, sym, ap, subst, Bool, true, false, List, [], ◌∷◌, drop, map}
use Rattle.std.proofs.Common.{Option, Some, None, option_map, is_some, inl, inr, ◌⊎◌}
use Rattle.std.specs.Prelude.{String, find, option_and_then, slice_get, string_bytes}
use Rattle.std.proofs.lemmas.Str.{IsUtf8-string_bytes}
use Rattle.std.specs.List.{fold}
use Rattle.std.specs.Str.{bytes_eq}
use Rattle.clap.specs.Walk.{Held, Row, first_of, idle, nothing_held, rows_after, rows_of, settled, walk}
use Rattle.clap.specs.Walk.{with_default}
use Rattle.clap.specs.Simple.{App, HasMatchesOf, entered, is_simple, names_of}
use Rattle.clap.specs.Kinds.{HasKind, Kinds}
use Rattle.clap.specs.Faults.{built_fault, entered_fault, fault_of, level_fault}
use Rattle.clap.specs.Matches.{found_of}
use Rattle.clap.specs.Values.{kind_of}
use Rattle.clap.specs.declared.error.Error.{Error}
use Rattle.clap.specs.declared.error.kind.ErrorKind.TheVariants.{OutOfMemory}
use Rattle.clap.specs.declared.parser.matches.ArgMatches.{ArgMatches}
use Rattle.clap.proofs.WalkLemmas.{both, find-map, first_value-rows}
use Rattle.trips_requests.specs.Words.{Text, Named, Said, value_said, words_read}
use Rattle.trips_words.specs.inside.Read.{raw_app, rules_for, shape_for, IsRead, is_flag, or_off, FindsSaid, Tells}
use Rattle.trips_words.proofs.Rows.{row_for, rows_for}
use Rattle.trips_words.proofs.Defaults.{row_of, kept, stays, turned_off}
use Rattle.trips_words.proofs.Settling.{settles_none}
use Rattle.trips_words.proofs.OneWord.{at}
use Rattle.trips_words.proofs.Places.{stands_first}
use Rattle.trips_words.proofs.Walks.{AllTexts, Told, end_of, rest_fault, told_as, words_are}

-- where the parse of a command's words ends
abbrev pub last : List Named → List Text → List Text → Held
last options places words = end_of options places (at nothing_held idle 1 false) (drop 1 words)

-- a command without subcommands has one level
level_is : (name : Text) (options : List Named) (places : List Text) (words : List Text)
    → built_fault (record { top = shape_for name options places; subs = [] }) nothing_held words
    ≡ rest_fault name options places (at nothing_held idle 1 false) words
level_is name options places words = go (walk (rules_for options places) [] nothing_held words).stopped
  where
    go : (o : Option (Text × List Text))
        → level_fault (shape_for name options places) [] nothing_held words
        (is_some (entered (record { top = shape_for name options places; subs = [] }) o))
        (entered_fault (record { top = shape_for name options places; subs = [] }) o)
        ≡ rest_fault name options places (at nothing_held idle 1 false) words
    go None = refl
    go (Some p) = refl

-- the parse tells what the words say, or fails
pub parse_told : (name : Text) (options : List Named) (places : List Text) → IsRead name options places
    → (words : List Text)
    → AllTexts (drop 1 words)
    → Told options places (words_read options places None [] (drop 1 words))
    (fault_of (raw_app name options places) words) (last options places words)
parse_told name options places r words u =
    told_as options places (words_read options places None [] (drop 1 words)) _ _ (last options places words)
    (last options places words)
    (ap (λ (b : App). built_fault b nothing_held (drop 1 words)) r.builds
    ∙ level_is name options places (drop 1 words)) refl
    (words_are name options places (drop 1 words) u places None [] nothing_held 1
    (settles_none options places nothing_held [] refl refl refl) (stands_first options places r.has))

said_row : (said : Said) (id : Text)
    → row_of id (rows_for said) ≡ option_map row_for (find (λ s. bytes_eq s.0 id) said)
said_row said id = sym (find-map (λ r. bytes_eq r.id id) row_for said)

abbrev first : Row → Option Text
first r = slice_get r.values 0

-- the first value of an id, of what is said and of the defaults behind it
first_is : (options : List Named) (places : List Text) (said : Said) (id : Text)
    → first_of id (fold with_default (rows_for said) (rules_for options places))
    ≡ or_off (is_flag id options) (value_said id said)
first_is options places said id = go (is_flag id options) refl (find (λ s. bytes_eq s.0 id) said) refl
  where
    one : (o : Option (Text × Text)) → option_and_then first (option_map row_for o) ≡ option_map (λ s. s.1) o
    one None = refl
    one (Some s) = refl

    go : (b : Bool) → is_flag id options ≡ b → (o : Option (Text × Text))
        → find (λ s. bytes_eq s.0 id) said ≡ o
        → option_and_then first (row_of id (fold with_default (rows_for said) (rules_for options places)))
        ≡ or_off b (option_map (λ s. s.1) o)
    go false f o e = ap (option_and_then first)
        (kept options places id (rows_for said) f ∙ said_row said id ∙ ap (option_map row_for) e) ∙ one o
    go true f None e = ap (option_and_then first)
        (turned_off options places id (rows_for said) (said_row said id ∙ ap (option_map row_for) e) f)
    go true f (Some x) e = ap (option_and_then first)
        (stays options places id (row_for x) (rows_for said) (said_row said id ∙ ap (option_map row_for) e))

-- the matches of words that are read have what is said
pub finds : (name : Text) (options : List Named) (places : List Text) → IsRead name options places
    → (words : List Text)
    → (m : ArgMatches) → HasMatchesOf (raw_app name options places) words m → (said : Said)
    → (settled (rules_for options places) (last options places words)).rows ≡ rows_for said → FindsSaid options said m
finds name options places r words m h said e id =
    let simple : is_simple (raw_app name options places) ≡ true =
    (both (is_simple (raw_app name options places)) _ r.simple).0 in
    let rows : rows_of (found_of m) ≡ fold with_default (rows_for said) (rules_for options places) =
    (h simple).0 ∙ ap (λ (b : App). rows_after b.top.rules (names_of b) (drop 1 words)) r.builds
    ∙ ap (λ (rs : List Row). fold with_default rs (rules_for options places)) e in
    first_value-rows (found_of m) id ∙ ap (first_of id) rows ∙ first_is options places said id

-- the answers of a parse
pub tells_some : (options : List Named) (places : List Text) (o : Option Said) (kinds : Kinds) (h : Held)
    (m : ArgMatches)
    → Told options places o kinds h → kinds ≡ []
    → ((said : Said) → (settled (rules_for options places) h).rows ≡ rows_for said → FindsSaid options said m)
    → Tells options o (Some m)
tells_some options places None kinds h m t e f = absurd (t e)
tells_some options places (Some said) kinds h m t e f = f said t.1

-- where a parse fails, but not for memory, nothing is said
pub tells_none : (options : List Named) (places : List Text) (o : Option Said) (kinds : Kinds) (h : Held)
    (error : Error)
    → Told options places o kinds h → HasKind kinds error → (kind_of error ≡ OutOfMemory → ⊥)
    → Tells options o None
tells_none options places None kinds h error t k n = tt
tells_none options places (Some said) kinds h error t k n = go (subst (λ ks. HasKind ks error) t.0 k)
  where
    go : (kind_of error ≡ OutOfMemory) ⊎ ⊥ → ⊥
    go (inl e) = n e
    go (inr none) = none

-- the words of a command line are text
all_texts : {Z : Type 0} (words : List (String Z)) → AllTexts (map (λ word. string_bytes word) words)
all_texts [] = tt
all_texts (word ∷ words) = (IsUtf8-string_bytes word, all_texts words)

-- the words behind the first are text
pub texts_behind : {Z : Type 0} (words : List (String Z))
    → AllTexts (drop 1 (map (λ word. string_bytes word) words))
texts_behind [] = tt
texts_behind (word ∷ words) = all_texts words
