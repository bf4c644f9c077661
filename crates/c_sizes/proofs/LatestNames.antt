-- The last entry with a name is the first one in reverse.
use Rattle.std.proofs.Common.{◌≡◌, List, [], ◌∷◌, ◌++◌, reverse, refl, sym, ap, ◌∙◌, append-nil, append_assoc}
use Rattle.std.proofs.lemmas.List.{reverse-append}
use Rattle.std.specs.Prelude.{Option, None}
use Rattle.c_lex.specs.Bytes.{Bytes}
use Rattle.c_sizes.specs.declared.known.Entry.{Entry}
use Rattle.c_sizes.specs.declared.known.Entry.TheVariants as entry
use Rattle.c_sizes.specs.declared.shape.Shape.{Shape}
use Rattle.c_sizes.specs.Scopes.{found}
use Rattle.c_sizes.specs.inside.Latest.{later, latest}

shift : (e : Entry) (es rest : List Entry) → reverse (e ∷ es) ++ rest ≡ reverse es ++ e ∷ rest
shift e es rest =
    ap (λ (xs : List Entry). xs ++ rest) (reverse-append (e ∷ []) es) ∙ append_assoc (reverse es) (e ∷ []) rest

one : (w : Bytes) (e : Entry) (rest : List Entry) → found w (e ∷ rest) ≡ later w e (found w rest)
one w entry.Block rest = refl
one w (entry.Name v s) rest = refl

onto : (w : Bytes) (es rest : List Entry) → found w (reverse es ++ rest) ≡ latest w es (found w rest)
onto w [] rest = refl
onto w (e ∷ es) rest =
    ap (λ (xs : List Entry). found w xs) (shift e es rest) ∙ onto w es (e ∷ rest)
    ∙ ap (λ (o : Option Shape). latest w es o) (one w e rest)

-- so it is found from the first on
pub latest_is : (w : Bytes) (es : List Entry) → found w (reverse es) ≡ latest w es None
latest_is w es = ap (λ (xs : List Entry). found w xs) (sym (append-nil (reverse es))) ∙ onto w es []
