-- What holds of each form.
use Rattle.std.proofs.Common.{◌≡◌, ◌<◌, ℕ, ◌^◌, Bool, true, false, List, [], ◌∷◌, ◌++◌}
use Rattle.c_tree.specs.declared.Form.{Form}
use Rattle.c_tree.specs.declared.Form.TheVariants as form
use Rattle.c_tree.specs.declared.Key.{Key}
use Rattle.c_tree.specs.declared.Kind.{Kind}
use Rattle.c_tree.specs.declared.Kind.TheVariants as kind
use Rattle.c_tree.specs.declared.Mark.{Mark}
use Rattle.c_tree.specs.declared.Lexeme.{Lexeme}
use Rattle.c_lex.specs.Bytes.{Bytes}

-- a fact on forms
abbrev pub Fact : Type 1
Fact = Form → Type 0

-- it holds of each of these
abbrev pub EachForm : Fact → List Form → Type 0
EachForm P [] = Unit {0}
EachForm P (f ∷ fs) = P f × EachForm P fs

abbrev pub EachToken : Fact → List Lexeme → Type 0
EachToken P [] = Unit {0}
EachToken P (t ∷ ts) = P t.form × EachToken P ts

-- int and the wider types
abbrev pub is_wide : Kind → Bool
is_wide kind.Int = true
is_wide kind.UInt = true
is_wide kind.Long = true
is_wide kind.ULong = true
is_wide _ = false

-- it holds of all that this crate may add: names, keywords, punctuators, constants below 2^31, and
-- the token of an include
pub record Allows (P : Fact) : Type 0 where
  pub name : (w : Bytes) → P (form.Name w)
  pub key : (k : Key) → P (form.Key k)
  pub mark : (m : Mark) → P (form.Mark m)
  pub number : (n : ℕ) (k : Kind) → n < 2 ^ 31 → is_wide k ≡ true → P (form.Number n k)
  pub include : P form.Include

-- it holds of tokens behind tokens
pub each_append : (P : Fact) (xs ys : List Lexeme) → EachToken P xs → EachToken P ys → EachToken P (xs ++ ys)
each_append P [] ys h k = k
each_append P (x ∷ xs) ys h k = (h.0, each_append P xs ys h.1 k)
