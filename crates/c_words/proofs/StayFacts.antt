-- A unit that has the keywords of its declarations in the order of the grammar stays as it is.
use Rattle.std.proofs.Common.{◌≡◌, Bool, true, false, cond, not, ◌&&◌, ◌||◌, [], ◌∷◌, ◌++◌, Option, Some, None}
use Rattle.std.proofs.Common.{refl, ap, ap₂, ◌∙◌}
use Rattle.std.proofs.lemmas.Bool.{false≢true}
use Rattle.c_tree.specs.declared.Form.{Form}
use Rattle.c_tree.specs.declared.Mark.TheVariants as mark
use Rattle.c_tree.specs.declared.Lexeme.{Lexeme}
use Rattle.c_lex.specs.Lexes.{Tokens}
use Rattle.c_library.specs.Calls.{is_mark}
use Rattle.c_words.specs.declared.part.Part.{Part}
use Rattle.c_words.specs.declared.part.Part.TheVariants as part
use Rattle.c_words.specs.declared.place.Place.{Place}
use Rattle.c_words.specs.declared.stand.Spelled.{Spelled}
use Rattle.c_words.specs.declared.stand.Stand.{Stand}
use Rattle.c_words.specs.declared.stand.Stand.TheVariants as stand
use Rattle.c_words.specs.Keys.{is_word, is_type_word, run, behind, none}
use Rattle.c_tree.specs.declared.Key.TheVariants as key
use Rattle.c_words.specs.Ordered as o
use Rattle.c_words.specs.Places.{Places, here, past}
use Rattle.c_words.specs.Pointers as p
use Rattle.c_words.specs.Types.{type_of}
use Rattle.c_words.specs.Unworded.{may_be_behind, is_unchanged, has_no_words}

pub and_left : (a b : Bool) → (a && b) ≡ true → a ≡ true
and_left true b e = refl
and_left false b e = absurd (false≢true e)

pub and_right : (a b : Bool) → (a && b) ≡ true → b ≡ true
and_right true b e = e
and_right false b e = absurd (false≢true e)

-- what holds unless a word stands there, and one does
or_right : (w b : Bool) → (not w || b) ≡ true → w ≡ true → b ≡ true
or_right true b h e = h
or_right false b h e = absurd (false≢true e)

-- of a unit without other words the first token
unchanged : (t : Lexeme) (ts : Tokens) → has_no_words (t ∷ ts) ≡ true → is_unchanged t.form ts ≡ true
unchanged t ts e = and_left (is_unchanged t.form ts) (has_no_words ts) e

others : (t : Lexeme) (ts : Tokens) → has_no_words (t ∷ ts) ≡ true → has_no_words ts ≡ true
others t ts e = and_right (is_unchanged t.form ts) (has_no_words ts) e

-- is one of a type if it is a word
typed : (t : Lexeme) (ts : Tokens) → has_no_words (t ∷ ts) ≡ true → is_word t.form ≡ true
    → (is_type_word t.form && may_be_behind t.form ts) ≡ true
typed t ts e w =
    or_right (is_word t.form) (is_type_word t.form && may_be_behind t.form ts) (unchanged t ts e) w

is_typed : (t : Lexeme) (ts : Tokens) → has_no_words (t ∷ ts) ≡ true → is_word t.form ≡ true
    → is_type_word t.form ≡ true
is_typed t ts e w = and_left (is_type_word t.form) (may_be_behind t.form ts) (typed t ts e w)

may_be : (t : Lexeme) (ts : Tokens) → has_no_words (t ∷ ts) ≡ true → is_word t.form ≡ true
    → may_be_behind t.form ts ≡ true
may_be t ts e w = and_right (is_type_word t.form) (may_be_behind t.form ts) (typed t ts e w)

both_true : (a b : Bool) → a ≡ true → b ≡ true → (a && b) ≡ true
both_true a b e h = ap₂ (λ (x y : Bool). x && y) e h

-- RUNS

-- the words behind one of a type are its further ones
goes : (f : Form) (ts : Tokens) → may_be_behind f ts ≡ true → has_no_words ts ≡ true → o.goes_on f (run ts) ≡ true
goes f [] m e = refl
goes f (t ∷ ts) m e =
    let next = and_right (not (is_mark mark.Star t.form)) (not (is_word t.form) || o.may_follow f t.form) m in
    by (is_word t.form) refl next (λ w. goes t.form ts (may_be t ts e w) (others t ts e))
  where
    by : (b : Bool) → is_word t.form ≡ b → (not (is_word t.form) || o.may_follow f t.form) ≡ true
        → (is_word t.form ≡ true → o.goes_on t.form (run ts) ≡ true)
        → o.goes_on f (cond b (t ∷ run ts) []) ≡ true
    by true w n h =
        both_true (o.may_follow f t.form) (o.goes_on t.form (run ts))
        (or_right (is_word t.form) (o.may_follow f t.form) n w) (h w)
    by false w n h = refl

-- so the run is plain
plain : (t : Lexeme) (ts : Tokens) → has_no_words (t ∷ ts) ≡ true → is_word t.form ≡ true
    → o.is_plain (run (t ∷ ts)) ≡ true
plain t ts e w =
    ap (λ (b : Bool). o.is_plain (cond b (t ∷ run ts) [])) w
    ∙ both_true (is_type_word t.form) (o.goes_on t.form (run ts)) (is_typed t ts e w)
    (goes t.form ts (may_be t ts e w) (others t ts e))

-- and a plain run does not change
or_true : (b : Bool) → (true || b) ≡ true
or_true true = refl
or_true false = refl

not_changed : (q : Place) (ws ts : Tokens) → o.is_plain ws ≡ true → o.changed q ws ts ≡ None
not_changed q ws ts e =
    ap (λ (b : Bool). cond (b || not (o.may_stand q ws ts)) None
    (o.spelled (o.is_block q && not (none key.Static ws)) (type_of ws))) e
    ∙ ap (λ (b : Bool). cond b None (o.spelled (o.is_block q && not (none key.Static ws)) (type_of ws)))
    (or_true (not (o.may_stand q ws ts)))

-- is the token none of a run, or one of a run that stays?
abbrev is_still : Stand → Bool
is_still stand.Apart = true
is_still stand.Kept = true
is_still _ = false

still_goes_on : (s : Stand) (c : Option Spelled) → is_still s ≡ true → c ≡ None → is_still (o.gone_on s c) ≡ true
still_goes_on stand.Apart None h e = refl
still_goes_on stand.Apart (Some c) h e = absurd (cc)
still_goes_on stand.Kept c h e = refl
still_goes_on stand.Gone c h e = absurd (false≢true h)
still_goes_on (stand.Spelled x) c h e = absurd (false≢true h)

still_behind : (s : Stand) (ps : Places) (t : Lexeme) (ts : Tokens) → is_still s ≡ true
    → has_no_words (t ∷ ts) ≡ true → is_still (o.stand_of s ps t ts) ≡ true
still_behind s ps t ts h e =
    by (is_word t.form) (λ w. still_goes_on s (o.changed (here ps) (run (t ∷ ts)) (behind (t ∷ ts))) h
    (not_changed (here ps) (run (t ∷ ts)) (behind (t ∷ ts)) (plain t ts e w))) refl
  where
    by : (b : Bool)
        → (is_word t.form ≡ true
        → is_still (o.gone_on s (o.changed (here ps) (run (t ∷ ts)) (behind (t ∷ ts)))) ≡ true)
        → is_word t.form ≡ b
        → is_still (cond b (o.gone_on s (o.changed (here ps) (run (t ∷ ts)) (behind (t ∷ ts)))) stand.Apart) ≡ true
    by true k w = k w
    by false k w = refl

still_stands : (s : Stand) (t : Lexeme) → is_still s ≡ true → o.stands_for s t ≡ t ∷ []
still_stands stand.Apart t h = refl
still_stands stand.Kept t h = refl
still_stands stand.Gone t h = absurd (false≢true h)
still_stands (stand.Spelled x) t h = absurd (false≢true h)

ordered_stay : (s : Stand) (ps : Places) (ts : Tokens) → is_still s ≡ true → has_no_words ts ≡ true
    → o.ordered_from s ps ts ≡ ts
ordered_stay s ps [] h e = refl
ordered_stay s ps (t ∷ ts) h e =
    let still : is_still (o.stand_of s ps t ts) ≡ true = still_behind s ps t ts h e in
    ap₂ (λ (xs ys : Tokens). xs ++ ys) (still_stands (o.stand_of s ps t ts) t still)
    (ordered_stay (o.stand_of s ps t ts) (past t.form ps) ts still (others t ts e))

-- POINTERS

-- does no `*` stand first?
abbrev no_star : Tokens → Bool
no_star [] = true
no_star (t ∷ ts) = not (is_mark mark.Star t.form)

-- does no pointer begin behind the token, and is it none of one?
abbrev is_free : Part → Tokens → Bool
is_free part.Apart ts = true
is_free part.Word ts = no_star ts
is_free _ ts = false

starless : (f : Form) (ts : Tokens) → may_be_behind f ts ≡ true → no_star ts ≡ true
starless f [] m = refl
starless f (t ∷ ts) m = and_left (not (is_mark mark.Star t.form)) (not (is_word t.form) || o.may_follow f t.form) m

free_behind : (t : Lexeme) (ts : Tokens) → has_no_words (t ∷ ts) ≡ true → is_free (p.begins None t.form) ts ≡ true
free_behind t ts e = by (is_word t.form) refl (λ w. starless t.form ts (may_be t ts e w))
  where
    by : (b : Bool) → is_word t.form ≡ b → (is_word t.form ≡ true → no_star ts ≡ true)
        → is_free (cond b part.Word part.Apart) ts ≡ true
    by true w k = k w
    by false w k = refl

no_pointer : (b s : Bool) (o : Option Tokens) → not s ≡ true → cond (b && s) o None ≡ None
no_pointer true true o e = absurd (false≢true e)
no_pointer true false o e = refl
no_pointer false true o e = refl
no_pointer false false o e = refl

begins_none : (q : Part) (ps : Places) (t : Lexeme) (ts : Tokens) → is_free q (t ∷ ts) ≡ true
    → p.part_of q ps t ts ≡ p.begins None t.form
begins_none part.Apart ps t ts h = refl
begins_none part.Word ps t ts h =
    ap (λ (n : Option Tokens). p.begins n t.form)
    (no_pointer (p.may_point (here ps) (p.pointed ts)) (is_mark mark.Star t.form) (p.pointed ts) h)
begins_none part.Star ps t ts h = absurd (false≢true h)
begins_none part.Within ps t ts h = absurd (false≢true h)
begins_none part.Name ps t ts h = absurd (false≢true h)

begun_stands : (t : Lexeme) (ts : Tokens) → p.stands_for (p.begins None t.form) t ts ≡ t ∷ []
begun_stands t ts = by (is_word t.form)
  where
    by : (b : Bool) → p.stands_for (cond b part.Word part.Apart) t ts ≡ t ∷ []
    by true = refl
    by false = refl

pointers_stay : (q : Part) (ps : Places) (ts : Tokens) → is_free q ts ≡ true → has_no_words ts ≡ true
    → p.pointed_from q ps ts ≡ ts
pointers_stay q ps [] h e = refl
pointers_stay q ps (t ∷ ts) h e =
    ap (λ (x : Part). p.stands_for x t ts ++ p.pointed_from x (past t.form ps) ts) (begins_none q ps t ts h)
    ∙ ap₂ (λ (xs ys : Tokens). xs ++ ys) (begun_stands t ts)
    (pointers_stay (p.begins None t.form) (past t.form ps) ts (free_behind t ts e) (others t ts e))

pub ordered_stays : (ts : Tokens) → has_no_words ts ≡ true → o.ordered ts ≡ ts
ordered_stays ts e = ordered_stay stand.Apart [] ts refl e

pub pointers_stays : (ts : Tokens) → has_no_words ts ≡ true → p.without_pointers ts ≡ ts
pointers_stays ts e = pointers_stay part.Apart [] ts refl e
