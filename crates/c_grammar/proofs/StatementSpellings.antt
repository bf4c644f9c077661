-- The spellings of statements and of what stands in them, and what may follow.
use Rattle.std.proofs.Common.{◌≡◌, ℕ, suc, Bool, true, false, List, ◌∷◌, Ok, refl, sym, ◌∙◌, subst}
use Rattle.std.proofs.lemmas.Bool.{false≢true}
use Rattle.c_tree.specs.declared.token.Mark.TheVariants as mark
use Rattle.c_tree.specs.declared.token.Key.TheVariants as key
use Rattle.c_tree.specs.declared.tree.Label.{Label}
use Rattle.c_tree.specs.declared.tree.Section.{Section}
use Rattle.c_tree.specs.declared.tree.Stmt.{Stmt}
use Rattle.c_tree.specs.declared.tree.StmtNode.TheVariants as node
use Rattle.c_tree.specs.declared.tree.ForInit.{ForInit}
use Rattle.c_grammar.specs.Tokens.{Tokens, punct}
use Rattle.c_grammar.specs.Statements.{at, locals, stmt, inner, entry, init, entries, Writes, label}
use Rattle.c_grammar.specs.Statements.{labels, body}
use Rattle.c_grammar.specs.inside.Parsing.{Out, first, is_word}
use Rattle.c_grammar.specs.inside.ModelBegins.{Below, begins_label, begins_statement}
use Rattle.c_grammar.proofs.Pieces.{Rel, Then, always, any, Piece, Done, same_tree}
use Rattle.c_grammar.proofs.TokenPieces.{Is}
use Rattle.c_grammar.proofs.Levels.{zero_token}
use Rattle.c_grammar.proofs.LocalDeclarations.{locals_first}

-- the statement of a pair
abbrev pub pair_tree : Bool × Stmt → Stmt
pair_tree p = p.1

-- an `if` that is open is not followed by `else`
abbrev pub closed_off : Bool × Stmt → Tokens → Type 0
closed_off p t = p.0 ≡ true → is_word key.Else t ≡ false

-- the spelling of a statement
abbrev pub StmtIs : ℕ → Rel (Bool × Stmt)
StmtIs d may p f t = Writes may (stmt p.0 p.1) d f t

-- the spelling of an inner statement
abbrev pub InnerIs : ℕ → Rel (Bool × Stmt)
InnerIs d may p f t = Writes may (inner p.0 p.1) d f t

-- the spelling of a declaration of locals one deeper, where it may stand
abbrev pub LocalsIn : ℕ → Rel (List Stmt)
LocalsIn d may ss f t = (may f (suc d) ≡ true) × Writes may (locals ss) (suc d) f t

-- the spelling of an entry of a block
abbrev pub EntryIs : ℕ → Rel (List Stmt)
EntryIs d may ss f t = Writes may (entry ss) d f t

-- the spelling of what a `for` begins with
abbrev pub InitIs : ℕ → Rel ForInit
InitIs d may i f t = Writes may (init i) d f t

-- the spelling of the entries of a block, up to its brace
abbrev pub EntriesAre : ℕ → Rel (List Stmt)
EntriesAre d may ss f t = Writes may (entries ss) d f t

-- the spelling of a label
abbrev pub LabelIs : ℕ → Rel Label
LabelIs d may x f t = Writes may (label x) d f t

-- the spelling of the labels of a section
abbrev pub LabelsAre : ℕ → Rel (List Label)
LabelsAre d may xs f t = Writes may (labels xs) d f t

-- the spelling of the statements of a section
abbrev pub RunIs : ℕ → Rel (List Stmt)
RunIs d may ss f t = Writes may (body ss) d f t

-- behind the labels of a section stands no other one
abbrev pub no_label : List Label → Tokens → Type 0
no_label xs t = first begins_label t ≡ false

-- behind a statement of a section stands no `else`
abbrev pub not_else : Stmt → Tokens → Type 0
not_else s t = is_word key.Else t ≡ false

-- behind the last statement of a section stands neither a statement nor `else`
abbrev pub behind_here : Tokens → Type 0
behind_here t = (first begins_statement t ≡ false) × (is_word key.Else t ≡ false)

-- the same behind the statements of a section
abbrev pub behind_run : List Stmt → Tokens → Type 0
behind_run ss t = behind_here t

-- the same behind sections
abbrev pub behind_sections : List Section → Tokens → Type 0
behind_sections xs t = behind_here t

-- a label that is known, and no token of it
abbrev pub label_here : Label → Tokens → Out Label
label_here x t = Ok (x, t)

-- sections that are known, and no token of them
abbrev pub sections_here : List Section → Tokens → Out (List Section)
sections_here xs t = Ok (xs, t)

-- the spelling of a block behind its left brace
abbrev pub BodyIs : ℕ → Rel Stmt
BodyIs d = Then (Is mark.LeftBrace) (λ l. Then (EntriesAre d)
    (λ ss. Done (at l (node.Compound ss))))

-- no `else` follows an entry
abbrev pub no_else : List Stmt → Tokens → Type 0
no_else s t = is_word key.Else t ≡ false

-- some tokens behind a shortest statement
abbrev pub stmt_first : Tokens → Tokens
stmt_first t = zero_token ∷ punct 0 mark.Semicolon ∷ t

-- statements that are known, and no token of them
abbrev pub list_here : List Stmt → Tokens → Out (List Stmt)
list_here ss t = Ok (ss, t)

-- what a `for` begins with, where it is known, and no token of it
abbrev pub init_here : ForInit → Tokens → Out ForInit
init_here i t = Ok (i, t)

-- what is known of the parser one deeper
pub record Good (below : Below) (m d : ℕ) : Type 0 where
  pub inner_piece : Piece pair_tree (InnerIs d) any closed_off closed_off stmt_first m below.inner
  pub locals_in : Piece same_tree (LocalsIn d) any always always locals_first m below.locals

-- where `else` follows, a statement is closed
pub not_open : (b : Bool) (rest : Tokens) → (b ≡ true → is_word key.Else rest ≡ false)
    → is_word key.Else rest ≡ true → b ≡ false
not_open true rest h e = absurd (false≢true (sym (h refl) ∙ e))
not_open false rest h e = refl

-- what may not follow a statement may not follow an equal one
pub kept_off : {v y : Bool × Stmt} {u t : Tokens} → (v ≡ y) × (u ≡ t) → closed_off y t → closed_off v u
kept_off {v = v} {y = y} {u = u} {t = t} r h =
    subst (λ (q : Bool × Stmt). closed_off q u) (sym r.0)
    (subst (λ (w : Tokens). closed_off y w) (sym r.1) h)
