-- The benchmark's text has no static object in a block and no list in braces.
use Rattle.std.proofs.Common.{◌≡◌, ℕ, zero, suc, Bool, true, false, not, nat_eq, List, [], ◌∷◌, ◌++◌, refl, sym, subst}
use Rattle.std.proofs.Common.{append_assoc, append-nil}
use Rattle.std.specs.Prelude.{◌&&◌, ◌||◌}
use Rattle.c_tree.specs.declared.Form.{Form}
use Rattle.c_tree.specs.declared.Form.TheVariants as form
use Rattle.c_tree.specs.declared.Mark.TheVariants as mark
use Rattle.c_lex.proofs.Basics.{and_both, and_left, and_right}
use Rattle.c_library.specs.Calls.{is_mark}
use Rattle.c_locals.specs.Objects.{no_objects_from, has_no_objects}
use Rattle.c_locals.specs.Stages.{is_static}
use Rattle.c_locals.specs.Values.{begins_list, sets_list}
use Rattle.c_locals.specs.Walks.{blocks_past}
use Rattle.c_grammar.specs.Tokens.{token}
use Rattle.c_pre.specs.Texts.{Tokens}
use Rattle.bench_laws.proofs.Forms.{array_forms, function_forms, main_forms, call_forms, end_forms, line_of}
use Rattle.bench_laws.proofs.Forms.{lines_of, tokens}
use Rattle.bench_laws.proofs.Trees.{InLine, Offsets}

-- is the form before these neither `static` nor a `=` before a `{`, and the last one no `=`?
abbrev sets_none : Form → List Form → Bool
sets_none f [] = not (is_mark mark.Assign f)
sets_none f (g ∷ gs) = not (is_mark mark.Assign f && is_mark mark.LeftBrace g)

-- is each of them so?
abbrev forms_apart : List Form → Bool
forms_apart [] = true
forms_apart (f ∷ fs) = (not (is_static f) && sets_none f fs) && forms_apart fs

-- it has no object, however many braces are open
abbrev Objectless : Tokens → Type 0
Objectless ts = (n : ℕ) → no_objects_from n ts ≡ true

not_both : (a b : Bool) → not a ≡ true → not (a && b) ≡ true
not_both true b e = absurd (cc)
not_both false true e = refl
not_both false false e = refl

-- neither of the two
neither : (s a b : Bool) → not s ≡ true → not b ≡ true → not (s || (a && b)) ≡ true
neither true a b e f = absurd (cc)
neither false a true e f = absurd (cc)
neither false true false e f = refl
neither false false false e f = refl

-- a token before others
one_apart : (n at : ℕ) (f : Form) (us : Tokens) → not (is_static f) ≡ true
    → not (is_mark mark.Assign f && begins_list us) ≡ true → Objectless us
    → no_objects_from n (token at f ∷ us) ≡ true
one_apart n at f us s a h =
    and_both (not (is_static f || sets_list n (token at f) us)) (no_objects_from (blocks_past n f) us)
    (neither (is_static f) (not (nat_eq n 0)) (is_mark mark.Assign f && begins_list us) s a) (h (blocks_past n f))

-- a line before tokens
line_apart : (l : InLine) (fs : List Form) (us : Tokens) → forms_apart fs ≡ true → Objectless us
    → Objectless (line_of l fs ++ us)
line_apart l [] us e h n = h n
line_apart l (f ∷ []) us e h n =
    let this : (not (is_static f) && not (is_mark mark.Assign f)) ≡ true =
    and_left (not (is_static f) && not (is_mark mark.Assign f)) true e in
    one_apart n (l 0) f us (and_left (not (is_static f)) (not (is_mark mark.Assign f)) this)
    (not_both (is_mark mark.Assign f) (begins_list us)
    (and_right (not (is_static f)) (not (is_mark mark.Assign f)) this)) h
line_apart l (f ∷ g ∷ gs) us e h n =
    let more : Tokens = line_of (λ j. l (suc j)) (g ∷ gs) ++ us in
    let this : (not (is_static f) && sets_none f (g ∷ gs)) ≡ true =
    and_left (not (is_static f) && sets_none f (g ∷ gs)) (forms_apart (g ∷ gs)) e in
    one_apart n (l 0) f more (and_left (not (is_static f)) (sets_none f (g ∷ gs)) this)
    (and_right (not (is_static f)) (sets_none f (g ∷ gs)) this)
    (line_apart (λ j. l (suc j)) (g ∷ gs) us
    (and_right (not (is_static f) && sets_none f (g ∷ gs)) (forms_apart (g ∷ gs)) e) h)

-- lines before tokens
lines_apart : (forms : ℕ → List Form) (o : ℕ → InLine) (n : ℕ) (us : Tokens)
    → ((k : ℕ) → forms_apart (forms k) ≡ true) → Objectless us → Objectless (lines_of forms o n ++ us)
lines_apart forms o zero us e h = h
lines_apart forms o (suc n) us e h =
    subst Objectless (sym (append_assoc (lines_of forms o n) (line_of (o n) (forms n)) us))
    (lines_apart forms o n (line_of (o n) (forms n) ++ us) e (line_apart (o n) (forms n) us (e n) h))

function_apart : (k : ℕ) → forms_apart (function_forms k) ≡ true
function_apart k = refl

call_apart : (k : ℕ) → forms_apart (call_forms k) ≡ true
call_apart k = refl

array_apart : forms_apart array_forms ≡ true
array_apart = refl

main_apart : forms_apart main_forms ≡ true
main_apart = refl

end_apart : forms_apart end_forms ≡ true
end_apart = refl

nothing : Objectless []
nothing n = refl

-- the text has none
pub bench_objects : (o : Offsets) (n : ℕ) → has_no_objects (tokens o n) ≡ true
bench_objects o n =
    let ending : Tokens = line_of o.ending end_forms in
    let from_calls : Tokens = lines_of call_forms o.calls n ++ ending in
    let from_main : Tokens = line_of o.main main_forms ++ from_calls in
    let from_functions : Tokens = lines_of function_forms o.functions n ++ from_main in
    let from_array : Tokens = line_of o.array array_forms ++ from_functions in
    let a : Objectless ending =
    subst Objectless (append-nil ending) (line_apart o.ending end_forms [] end_apart nothing) in
    let b : Objectless from_calls = lines_apart call_forms o.calls n ending call_apart a in
    let c : Objectless from_main = line_apart o.main main_forms from_calls main_apart b in
    let d : Objectless from_functions = lines_apart function_forms o.functions n from_main function_apart c in
    let e : Objectless from_array = line_apart o.array array_forms from_functions array_apart d in
    one_apart 0 o.include form.Include from_array refl refl e
