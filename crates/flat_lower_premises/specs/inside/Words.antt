-- Words that stand for a value of a type, and the tokens whose numbers are such words.
use Rattle.std.specs.Prelude.{ℕ, List, [], ◌∷◌}
use Rattle.c_tree.specs.declared.token.Kind.{Kind}
use Rattle.c_tree.specs.declared.token.Form.{Form}
use Rattle.c_tree.specs.declared.token.Form.TheVariants as form
use Rattle.c_tree.specs.declared.token.Lexeme.{Lexeme}
use Rattle.c_constant.specs.Kinds.{IsWord}

-- each of the words is one of the type
abbrev pub AreWordsOf : Kind → List ℕ → Type 0
AreWordsOf k [] = Unit {0}
AreWordsOf k (w ∷ ws) = IsWord k w × AreWordsOf k ws

-- there is one at least
abbrev pub IsFilled : {A : Type 0} → List A → Type 0
IsFilled [] = ⊥
IsFilled (x ∷ xs) = Unit {0}

-- a constant's value is a word of its type
abbrev pub FormHasWord : Form → Type 0
FormHasWord (form.Number v k) = IsWord k v
FormHasWord _ = Unit {0}

-- so is each of a text's tokens
abbrev pub TokensHaveWords : List Lexeme → Type 0
TokensHaveWords [] = Unit {0}
TokensHaveWords (t ∷ ts) = FormHasWord t.form × TokensHaveWords ts
