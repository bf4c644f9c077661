-- A unit without lists in braces in its blocks is its own behind the pass.
use Rattle.std.proofs.Common.{◌≡◌, ℕ, Bool, true, false, cond, List, [], ◌∷◌, ◌++◌, refl, sym, ap, ap₂, ◌∙◌, append-nil}
use Rattle.std.proofs.Common.{append_assoc}
use Rattle.std.specs.Prelude.{not, ◌&&◌, ◌||◌}
use Rattle.c_tree.specs.declared.Mark.TheVariants as mark
use Rattle.c_tree.specs.declared.Lexeme.{Lexeme}
use Rattle.c_lex.specs.Lexes.{Tokens}
use Rattle.c_library.specs.Calls.{is_mark}
use Rattle.c_library.proofs.LiteralForms.{both_hold}
use Rattle.c_locals.specs.declared.walk.Part.{Part}
use Rattle.c_locals.specs.declared.walk.Part.TheVariants as part
use Rattle.c_locals.specs.declared.walk.Walk.{Walk}
use Rattle.c_locals.specs.Brackets.{pieces}
use Rattle.c_locals.specs.Values.{beginning, begins, sets_list, adds_word, part_past, list_past}
use Rattle.c_locals.specs.Walks.{blocks_past, is_word}
use Rattle.c_locals.specs.Values.{past, words_added, body_added, words_past, body_past, puts, local, are_named}
use Rattle.c_locals.specs.Values.{each_declared, walked, with_values, no_values_from, has_no_values}

-- what is held so far fits the part
abbrev Fits : Part → Tokens → Tokens → Type 0
Fits part.Code type body = (type ≡ []) × (body ≡ [])
Fits part.Words type body = body ≡ []
Fits part.Body type body = Unit {0}

-- OUTSIDE OF DECLARATIONS

code_same : (x : Bool) (t : Lexeme) (ts : Tokens) → cond x [] (t ∷ []) ++ (cond x (t ∷ []) [] ++ ts) ≡ t ∷ ts
code_same true t ts = refl
code_same false t ts = refl

code_fits : (x : Bool) (t : Lexeme) → Fits (cond x part.Words part.Code) (cond x (t ∷ []) []) []
code_fits true t = refl
code_fits false t = (refl, refl)

-- WITHIN

-- a declaration without lists stays
local_same : (x : Bool) (type body : Tokens) (t : Lexeme) → x ≡ false → local x type body t ≡ type ++ (body ++ t ∷ [])
local_same true type body t e = absurd (cc)
local_same false type body t e = refl

regrouped : (xs ys zs : Tokens) (t : Lexeme) → (xs ++ (ys ++ t ∷ [])) ++ zs ≡ xs ++ (ys ++ t ∷ zs)
regrouped xs ys zs t =
    append_assoc xs (ys ++ t ∷ []) zs ∙ ap (λ (us : Tokens). xs ++ us) (append_assoc ys (t ∷ []) zs)

added_word : (xs ys zs : Tokens) (t : Lexeme) → ys ≡ [] → (xs ++ t ∷ []) ++ (ys ++ zs) ≡ xs ++ (ys ++ t ∷ zs)
added_word xs ys zs t e =
    ap (λ (us : Tokens). (xs ++ t ∷ []) ++ (us ++ zs)) e
    ∙ append_assoc xs (t ∷ []) zs
    ∙ ap (λ (us : Tokens). xs ++ (us ++ t ∷ zs)) (sym e)

added_body : (xs ys zs : Tokens) (t : Lexeme) → xs ++ ((ys ++ t ∷ []) ++ zs) ≡ xs ++ (ys ++ t ∷ zs)
added_body xs ys zs t = ap (λ (us : Tokens). xs ++ us) (append_assoc ys (t ∷ []) zs)

-- a token goes to one of the two
added : (x : Bool) (xs ys zs : Tokens) (t : Lexeme) → (x ≡ true → ys ≡ [])
    → cond x (xs ++ t ∷ []) xs ++ (cond x ys (ys ++ t ∷ []) ++ zs) ≡ xs ++ (ys ++ t ∷ zs)
added true xs ys zs t h = added_word xs ys zs t (h refl)
added false xs ys zs t h = added_body xs ys zs t

-- the end puts all, and any other token is held
declared_same : (x : Bool) (whole type body xs ys zs : Tokens) (t : Lexeme)
    → whole ≡ type ++ (body ++ t ∷ []) → xs ++ (ys ++ zs) ≡ type ++ (body ++ t ∷ zs)
    → cond x whole [] ++ (cond x [] xs ++ (cond x [] ys ++ zs)) ≡ type ++ (body ++ t ∷ zs)
declared_same true whole type body xs ys zs t e h =
    ap (λ (us : Tokens). us ++ zs) e ∙ regrouped type body zs t
declared_same false whole type body xs ys zs t e h = h

no_words : (type body : Tokens) (t : Lexeme) → adds_word part.Body t.form ≡ true → body ≡ []
no_words type body t e = absurd (cc)

-- one token of any part
same : (w : Walk) (p : Part) (type body : Tokens) (t : Lexeme) (ts : Tokens) → w.has_list ≡ false
    → Fits p type body
    → puts w p type body t ++ (words_past w p type t ++ (body_past p body t ++ ts)) ≡ type ++ (body ++ t ∷ ts)
same w part.Code type body t ts e h =
    code_same (begins w t.form) t ts
    ∙ ap₂ (λ (xs ys : Tokens). xs ++ (ys ++ t ∷ ts)) (sym h.0) (sym h.1)
same w part.Words type body t ts e h =
    declared_same (is_mark mark.Semicolon t.form) (local w.has_list type body t) type body
    (words_added part.Words type t) (body_added part.Words body t) ts t (local_same w.has_list type body t e)
    (added (adds_word part.Words t.form) type body ts t (λ x. h))
same w part.Body type body t ts e h =
    declared_same (is_mark mark.Semicolon t.form) (local w.has_list type body t) type body
    (words_added part.Body type t) (body_added part.Body body t) ts t (local_same w.has_list type body t e)
    (added (adds_word part.Body t.form) type body ts t (no_words type body t))

word_fits : (x : Bool) (type body : Tokens) (t : Lexeme) → body ≡ []
    → Fits (cond x part.Words part.Body) (cond x (type ++ t ∷ []) type) (cond x body (body ++ t ∷ []))
word_fits true type body t e = e
word_fits false type body t e = tt

words_fit : (x y : Bool) (type body : Tokens) (t : Lexeme) → body ≡ []
    → Fits (cond x part.Code (cond y part.Words part.Body)) (cond x [] (cond y (type ++ t ∷ []) type))
    (cond x [] (cond y body (body ++ t ∷ [])))
words_fit true y type body t e = (refl, refl)
words_fit false y type body t e = word_fits y type body t e

body_fits : (x : Bool) (type body : Tokens) → Fits (cond x part.Code part.Body) (cond x [] type) (cond x [] body)
body_fits true type body = (refl, refl)
body_fits false type body = tt

-- and behind it
fits : (w : Walk) (p : Part) (type body : Tokens) (t : Lexeme) → Fits p type body
    → Fits (part_past w p t.form) (words_past w p type t) (body_past p body t)
fits w part.Code type body t h = code_fits (begins w t.form) t
fits w part.Words type body t h =
    words_fit (is_mark mark.Semicolon t.form) (is_word t.form) type body t h
fits w part.Body type body t h = body_fits (is_mark mark.Semicolon t.form) type (body ++ t ∷ [])

not_true : (x : Bool) → not x ≡ true → x ≡ false
not_true true e = absurd (cc)
not_true false e = refl

no_list : (w : Walk) (p : Part) (t : Lexeme) (ts : Tokens) → w.has_list ≡ false → sets_list w.blocks t ts ≡ false
    → list_past w p t ts ≡ false
no_list w part.Code t ts e h = refl
no_list w part.Words t ts e h = ap₂ (λ (x y : Bool). x || y) e h
no_list w part.Body t ts e h = ap₂ (λ (x y : Bool). x || y) e h

-- from any place on
stay_from : (w : Walk) (type body ts : Tokens) → w.has_list ≡ false → Fits w.part type body
    → no_values_from w.blocks ts ≡ true → walked w type body ts ≡ type ++ (body ++ ts)
stay_from w type body [] e h k = ap (λ (xs : Tokens). type ++ xs) (sym (append-nil body))
stay_from w type body (t ∷ ts) e h k =
    let both = both_hold (not (sets_list w.blocks t ts)) (no_values_from (blocks_past w.blocks t.form) ts) k in
    ap (λ (xs : Tokens). puts w w.part type body t ++ xs)
    (stay_from (past w t ts) (words_past w w.part type t) (body_past w.part body t) ts
    (no_list w w.part t ts e (not_true (sets_list w.blocks t ts) both.0)) (fits w w.part type body t h) both.1)
    ∙ same w w.part type body t ts e h

-- a unit without lists in its blocks is its own
pub values_stay : (ts : Tokens) → has_no_values ts ≡ true → with_values ts ≡ ts
values_stay ts e = stay_from beginning [] [] ts refl (refl, refl) e
