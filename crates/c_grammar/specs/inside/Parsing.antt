-- Parts of a parser, as functions of the list of tokens.
use Rattle.std.specs.Prelude.{ℕ, zero, suc, Bool, true, false, if◌then◌else◌, List, [], ◌∷◌, ◌++◌}
use Rattle.std.specs.Prelude.{Option, Some, None, Result, Ok, Err}
use Rattle.c_tree.specs.declared.token.Form.{Form}
use Rattle.c_tree.specs.declared.token.Form.TheVariants as form
use Rattle.c_tree.specs.declared.token.Mark.{Mark}
use Rattle.c_tree.specs.declared.token.Mark.TheVariants as mark
use Rattle.c_tree.specs.declared.token.Key.{Key}
use Rattle.c_grammar.specs.Tokens.{Tokens}
use Rattle.c_grammar.specs.inside.Numbers.{is_mark, is_key}

-- where parsing stops: the tokens from there on
pub record Stop : Type 0 where
  -- whether it is for the depth that the first of them opens
  pub deep : Bool
  pub rest : Tokens

-- what a part of the parser gives: a value and the tokens behind it, or where it stops
abbrev pub Out : Type 0 → Type 0
Out A = Result (A × Tokens) Stop

-- one part and then another
abbrev pub and_then : {A B : Type 0} → Out A → (A → Tokens → Out B) → Out B
and_then (Ok p) f = f p.0 p.1
and_then (Err s) f = Err s

-- a stop at a token that does not go on
abbrev pub syntax : {A : Type 0} → Tokens → Out A
syntax ts = Err (record { deep = false; rest = ts })

-- a stop at an opener that is too deep
abbrev pub too_deep : {A : Type 0} → Tokens → Out A
too_deep ts = Err (record { deep = true; rest = ts })

-- one of two values, by whether there is one
abbrev pub by_option : {A B : Type 0} → Option A → B → (A → B) → B
by_option None x f = x
by_option (Some a) x f = f a

-- the tokens behind the first one
abbrev pub tail : Tokens → Tokens
tail [] = []
tail (t ∷ ts) = ts

-- the offset of the first token
abbrev pub offset_of : Tokens → ℕ
offset_of [] = 0
offset_of (t ∷ ts) = t.offset

-- is the first token such a one?
abbrev pub first : (Form → Bool) → Tokens → Bool
first p [] = false
first p (t ∷ ts) = p t.form

-- does the mark come next?
abbrev pub is_next : Mark → Tokens → Bool
is_next k ts = first (is_mark k) ts

-- does the keyword come next?
abbrev pub is_word : Key → Tokens → Bool
is_word k ts = first (is_key k) ts

-- takes a mark, and gives its offset
abbrev pub expect : Mark → Tokens → Out ℕ
expect k ts = if is_next k ts then Ok (offset_of ts, tail ts) else syntax ts

-- takes a keyword, and gives its offset
abbrev pub expect_keyword : Key → Tokens → Out ℕ
expect_keyword k ts = if is_word k ts then Ok (offset_of ts, tail ts) else syntax ts

-- the offset and the word of a name
abbrev pub name_by : ℕ → Form → Tokens → Out (ℕ × List ℕ)
name_by l (form.Name w) ts = Ok ((l, w), tail ts)
name_by l _ ts = syntax ts

-- takes a name, and gives its offset
abbrev pub name_of : Tokens → Out (ℕ × List ℕ)
name_of [] = syntax []
name_of (t ∷ ts) = name_by t.offset t.form (t ∷ ts)

-- does a mark end a list behind a comma?
abbrev pub closes : Mark → Bool → Tokens → Bool
closes k trailing ts = if trailing then is_next k ts else false

-- items with commas between them, and one more comma where that may be, up to a mark
abbrev pub listed : {A : Type 0} → Mark → Bool → (Tokens → Out A) → ℕ → Tokens → Out (List A)
listed k trailing item zero ts = syntax ts
listed k trailing item (suc n) ts =
    and_then (item ts) (λ x ts.
    if is_next mark.Comma ts then
    if closes k trailing (tail ts) then Ok (x ∷ [], tail (tail ts))
    else and_then (listed k trailing item n (tail ts)) (λ xs ts. Ok (x ∷ xs, ts))
    else and_then (expect k ts) (λ _ ts. Ok (x ∷ [], ts)))

-- behind an item of such a list
abbrev pub listed_on : {A : Type 0} → Mark → Bool → (Tokens → Out A) → ℕ → A → Tokens → Out (List A)
listed_on k trailing item n x ts =
    if is_next mark.Comma ts then
    if closes k trailing (tail ts) then Ok (x ∷ [], tail (tail ts))
    else and_then (listed k trailing item n (tail ts)) (λ xs ts. Ok (x ∷ xs, ts))
    else and_then (expect k ts) (λ _ ts. Ok (x ∷ [], ts))

-- items, one at least, as long as another one begins
abbrev pub repeated : {A : Type 0} → (Form → Bool) → (Tokens → Out A) → ℕ → Tokens → Out (List A)
repeated begins item zero ts = syntax ts
repeated begins item (suc n) ts =
    and_then (item ts) (λ x ts.
    if first begins ts then and_then (repeated begins item n ts) (λ xs ts. Ok (x ∷ xs, ts))
    else Ok (x ∷ [], ts))

-- behind an item of such a list
abbrev pub repeated_on : {A : Type 0} → (Form → Bool) → (Tokens → Out A) → ℕ → A → Tokens
    → Out (List A)
repeated_on begins item n x ts =
    if first begins ts then and_then (repeated begins item n ts) (λ xs ts. Ok (x ∷ xs, ts))
    else Ok (x ∷ [], ts)

-- items, each of which is some of what is listed, up to a mark
abbrev pub many : {A : Type 0} → Mark → (Tokens → Out (List A)) → ℕ → Tokens → Out (List A)
many k item zero ts = syntax ts
many k item (suc n) ts =
    if is_next k ts then Ok ([], tail ts)
    else and_then (item ts) (λ xs ts. and_then (many k item n ts) (λ ys ts. Ok (xs ++ ys, ts)))

-- is no token left?
abbrev pub is_end : Tokens → Bool
is_end [] = true
is_end (t ∷ ts) = false

-- items up to the end, one at least
abbrev pub to_end : {A : Type 0} → (Tokens → Out (List A)) → ℕ → Tokens → Out (List A)
to_end item zero ts = syntax ts
to_end item (suc n) ts =
    and_then (item ts) (λ xs ts.
    if is_end ts then Ok (xs, ts) else and_then (to_end item n ts) (λ ys ts. Ok (xs ++ ys, ts)))
