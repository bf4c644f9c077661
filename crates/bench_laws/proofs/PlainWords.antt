-- The keywords of declarations in the benchmark's text stand as the grammar has them.
use Rattle.std.proofs.Common.{◌≡◌, ℕ, zero, suc, Bool, true, false, not, List, [], ◌∷◌, ◌++◌, refl, sym, subst}
use Rattle.std.proofs.Common.{append_assoc, append-nil}
use Rattle.std.specs.Prelude.{◌&&◌, ◌||◌}
use Rattle.c_tree.specs.declared.Form.{Form}
use Rattle.c_tree.specs.declared.Form.TheVariants as form
use Rattle.c_lex.proofs.Basics.{and_both, and_left, and_right}
use Rattle.c_pre.specs.Texts.{Tokens}
use Rattle.c_words.specs.Keys.{is_word, is_type_word}
use Rattle.c_words.specs.Unworded.{may_be_next, may_be_behind, is_unchanged, has_no_words}
use Rattle.bench_laws.proofs.Forms.{array_forms, function_forms, main_forms, call_forms, end_forms, line_of}
use Rattle.bench_laws.proofs.Forms.{lines_of, tokens}
use Rattle.bench_laws.proofs.Trees.{InLine, Offsets}

-- does the form stay before these, and the last one before any?
abbrev stays_before : Form → List Form → Bool
stays_before f [] = not (is_word f)
stays_before f (g ∷ gs) = not (is_word f) || (is_type_word f && may_be_next f g)

-- does each of them?
abbrev forms_stay : List Form → Bool
forms_stay [] = true
forms_stay (f ∷ fs) = stays_before f fs && forms_stay fs

or_left : (a b : Bool) → a ≡ true → (a || b) ≡ true
or_left true true e = refl
or_left true false e = refl
or_left false b e = absurd (cc)

-- a line before tokens
line_stays : (l : InLine) (fs : List Form) (us : Tokens) → forms_stay fs ≡ true → has_no_words us ≡ true
    → has_no_words (line_of l fs ++ us) ≡ true
line_stays l [] us e h = h
line_stays l (f ∷ []) us e h =
    and_both (is_unchanged f us) (has_no_words us)
    (or_left (not (is_word f)) (is_type_word f && may_be_behind f us) (and_left (not (is_word f)) true e)) h
line_stays l (f ∷ g ∷ gs) us e h =
    let more : Tokens = line_of (λ j. l (suc j)) (g ∷ gs) ++ us in
    and_both (is_unchanged f more) (has_no_words more) (and_left (stays_before f (g ∷ gs)) (forms_stay (g ∷ gs)) e)
    (line_stays (λ j. l (suc j)) (g ∷ gs) us (and_right (stays_before f (g ∷ gs)) (forms_stay (g ∷ gs)) e) h)

-- lines before tokens
lines_stay : (forms : ℕ → List Form) (o : ℕ → InLine) (n : ℕ) (us : Tokens)
    → ((k : ℕ) → forms_stay (forms k) ≡ true) → has_no_words us ≡ true → has_no_words (lines_of forms o n ++ us) ≡ true
lines_stay forms o zero us e h = h
lines_stay forms o (suc n) us e h =
    subst (λ (ts : Tokens). has_no_words ts ≡ true)
    (sym (append_assoc (lines_of forms o n) (line_of (o n) (forms n)) us))
    (lines_stay forms o n (line_of (o n) (forms n) ++ us) e (line_stays (o n) (forms n) us (e n) h))

function_stays : (k : ℕ) → forms_stay (function_forms k) ≡ true
function_stays k = refl

call_stays : (k : ℕ) → forms_stay (call_forms k) ≡ true
call_stays k = refl

array_stays : forms_stay array_forms ≡ true
array_stays = refl

main_stays : forms_stay main_forms ≡ true
main_stays = refl

end_stays : forms_stay end_forms ≡ true
end_stays = refl

-- those of the text
pub bench_words : (o : Offsets) (n : ℕ) → has_no_words (tokens o n) ≡ true
bench_words o n =
    let ending : Tokens = line_of o.ending end_forms in
    let from_calls : Tokens = lines_of call_forms o.calls n ++ ending in
    let from_main : Tokens = line_of o.main main_forms ++ from_calls in
    let from_functions : Tokens = lines_of function_forms o.functions n ++ from_main in
    let from_array : Tokens = line_of o.array array_forms ++ from_functions in
    let a : has_no_words ending ≡ true =
    subst (λ (ts : Tokens). has_no_words ts ≡ true) (append-nil ending)
    (line_stays o.ending end_forms [] end_stays refl) in
    let b : has_no_words from_calls ≡ true = lines_stay call_forms o.calls n ending call_stays a in
    let c : has_no_words from_main ≡ true = line_stays o.main main_forms from_calls main_stays b in
    let d : has_no_words from_functions ≡ true =
    lines_stay function_forms o.functions n from_main function_stays c in
    let e : has_no_words from_array ≡ true = line_stays o.array array_forms from_functions array_stays d in
    and_both (is_unchanged form.Include from_array) (has_no_words from_array)
    (or_left (not (is_word form.Include)) (is_type_word form.Include && may_be_behind form.Include from_array) refl) e
