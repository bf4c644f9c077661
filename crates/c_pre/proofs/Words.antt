-- A word that begins with a letter says nothing to the preprocessor.
use Rattle.std.proofs.Common.{◌≡◌, ◌<◌, ◌≤◌, arith, ℕ, Bool, true, false, cond, not, nat_eq, List, [], ◌∷◌, refl, ap}
use Rattle.std.proofs.Common.{◌∙◌}
use Rattle.std.specs.Prelude.{◌&&◌, Option, Some, None}
use Rattle.std.specs.Str.{bytes_eq}
use Rattle.std.proofs.lemmas.Bool.Decides.{nat_tests}
use Rattle.c_tree.specs.declared.Form.TheVariants as form
use Rattle.c_lex.specs.declared.directive.DirectiveKind.{DirectiveKind}
use Rattle.c_lex.specs.declared.directive.Header.{Header}
use Rattle.c_pre.specs.declared.said.Said.TheVariants as said
use Rattle.c_lex.specs.Directives.{words, headers}
use Rattle.c_pre.specs.Said.{of_these, said_by}
use Rattle.c_lex.specs.Bytes.{Bytes}
use Rattle.c_lex.specs.Tables.{lookup}

-- does the name begin with the byte?
abbrev pub begins : ℕ → Bytes → Bool
begins b [] = false
begins b (c ∷ cs) = nat_eq c b

-- does none of the names begin with it?
abbrev pub none_begins : {A : Type 0} → ℕ → List (Bytes × A) → Bool
none_begins b [] = true
none_begins b (row ∷ rows) = cond (begins b row.0) false (none_begins b rows)

no_more : (x : Bool) → (false && x) ≡ false
no_more true = refl
no_more false = refl

-- names that begin otherwise are not one
apart : (b : ℕ) (w v : Bytes) → begins b v ≡ false → bytes_eq v (b ∷ w) ≡ false
apart b w [] e = refl
apart b w (c ∷ cs) e = ap (λ (x : Bool). x && bytes_eq cs w) e ∙ no_more (bytes_eq cs w)

by_first : {A : Type 0} (b : ℕ) (w v : Bytes) (x : A) (rows : List (Bytes × A)) (t : Bool) → begins b v ≡ t
    → cond t false (none_begins b rows) ≡ true → (none_begins b rows ≡ true → lookup (b ∷ w) rows ≡ None)
    → cond (bytes_eq v (b ∷ w)) (Some x) (lookup (b ∷ w) rows) ≡ None
by_first b w v x rows true e n h = absurd (cc)
by_first b w v x rows false e n h =
    ap (λ (t : Bool). cond t (Some x) (lookup (b ∷ w) rows)) (apart b w v e) ∙ h n

-- it is none of the names
misses : {A : Type 0} (b : ℕ) (w : Bytes) (rows : List (Bytes × A)) → none_begins b rows ≡ true
    → lookup (b ∷ w) rows ≡ None
misses b w [] n = refl
misses b w (row ∷ rows) n = by_first b w row.0 row.1 rows (begins b row.0) refl n (misses b w rows)

-- a word that begins with no byte of a name of the lexer's is a token of the program
pub word_is_token : (b : ℕ) (w : Bytes) → nat_eq b 35 ≡ false → none_begins b headers ≡ true → nat_eq b 10 ≡ false
    → said_by (form.Name (b ∷ w)) ≡ said.Token
word_is_token b w n h e =
    ap (λ (t : Bool). of_these (cond t (lookup w words) None) (lookup (b ∷ w) headers) (bytes_eq (b ∷ w) (10 ∷ []))) n
    ∙ ap (λ (d : Option Header). of_these None d (bytes_eq (b ∷ w) (10 ∷ []))) (misses b w headers h)
    ∙ ap (λ (t : Bool). of_these None None t)
    (ap (λ (x : Bool). x && bytes_eq w []) e ∙ no_more (bytes_eq w []))

-- numbers apart are found to be
other_number : (c b : ℕ) → c < b → nat_eq c b ≡ false
other_number c b h = grind (arith, nat_tests)

number_behind : (c b : ℕ) → c < b → nat_eq b c ≡ false
number_behind c b h = grind (arith, nat_tests)

-- no header begins with a byte behind `<`
no_header : (b : ℕ) → nat_eq 60 b ≡ false → none_begins b headers ≡ true
unfolding headers
no_header b e = simp e

-- a name that begins with a letter or `_` is a token of the program
pub letter_is_token : (b : ℕ) (w : Bytes) → 65 ≤ b → said_by (form.Name (b ∷ w)) ≡ said.Token
letter_is_token b w h =
    let directive : 35 < b = omega arith in
    let header : 60 < b = omega arith in
    let feed : 10 < b = omega arith in
    word_is_token b w (number_behind 35 b directive) (no_header b (other_number 60 b header))
    (number_behind 10 b feed)
