-- Which typed programs a translation unit has, by one rule for each kind of item (C17 6.7, 6.9).
use Rattle.std.specs.Prelude.{◌≡◌, ℕ, ◌+◌, ◌-◌, ◌*◌, replicate, ◌≤◌, ◌<◌, Bool, true, false, ◌&&◌, length, List, []}
use Rattle.std.specs.Prelude.{◌∷◌, ◌++◌, map, Option, Some, None}
use Rattle.c_tree.specs.Limits.{most_object_bytes, most_parameters}
use Rattle.c_tree.specs.declared.token.Kind.{Kind}
use Rattle.c_tree.specs.declared.token.Kind.TheVariants.{Int}
use Rattle.c_tree.specs.declared.tree.ArraySize.{ArraySize}
use Rattle.c_tree.specs.declared.tree.ArraySize.TheVariants as size
use Rattle.c_tree.specs.declared.tree.Expr.{Expr}
use Rattle.c_tree.specs.declared.tree.Param.{Param}
use Rattle.c_tree.specs.declared.tree.Program.{Program}
use Rattle.c_tree.specs.declared.tree.Section.{Section}
use Rattle.c_tree.specs.declared.tree.Stmt.{Stmt}
use Rattle.c_tree.specs.declared.tree.StmtNode.{StmtNode, out-StmtNode}
use Rattle.c_tree.specs.declared.tree.StmtNode.TheVariants as node
use Rattle.c_tree.specs.declared.tree.ForInit.{ForInit}
use Rattle.c_tree.specs.declared.tree.ForInit.TheOpen.{StmtNode-F, Compound}
use Rattle.c_tree.specs.declared.tree.Top.{Top}
use Rattle.c_tree.specs.declared.tree.TopNode.{TopNode}
use Rattle.c_tree.specs.declared.tree.TopNode.TheVariants.{Include, Global, Func}
use Rattle.c_tree.specs.declared.typed.Callee.{Callee}
use Rattle.c_tree.specs.declared.typed.Slot.{Slot}
use Rattle.c_tree.specs.declared.typed.TypedFunc.{TypedFunc}
use Rattle.c_tree.specs.declared.typed.TypedProgram.{TypedProgram}
use Rattle.c_tree.specs.declared.typed.TypedStmt.{TypedStmt}
use Rattle.c_tree.specs.declared.typed.TypedStmt.TheVariants as typed
use Rattle.c_constant.specs.Kinds.{converted}
use Rattle.c_constant.specs.Constant.{constant, ends, length_of}
use Rattle.c_constant.specs.Need.{need_fits}
use Rattle.c_type_expr.specs.declared.meaning.Meaning.{Meaning}
use Rattle.c_type_expr.specs.declared.meaning.Meaning.TheVariants as meaning
use Rattle.c_type_expr.specs.Scope.{Scope, look_up, closed}
use Rattle.c_type.specs.declared.file_scope.FileScope.{FileScope}
use Rattle.c_type.specs.declared.state.State.{State}
use Rattle.c_type.specs.States.{at, nowhere, is_end, is_taken, row_in, slot_of, named_among, with_params, started}
use Rattle.c_constant.specs.Kinds.{bytes}
use Rattle.c_type.specs.FileScopes.{eof_name, getchar_name, putchar_name, exit_name, int_slots, long_slots}
use Rattle.c_type.specs.FileScopes.{with_include, length_in, prototype_names, body_entry, empty_file, main_name, number_in}
use Rattle.c_type.specs.FileScopes.{all_values, global_names}
use Rattle.c_type_rules.specs.Constants.{IsConstant, Size}
use Rattle.c_type_rules.specs.Definitions.{CallsIn}
use Rattle.c_type_rules.specs.Statements.{Types, TypesAll}

-- CONSTANTS

-- the words of constant expressions, each with a value and a need within the limit, at a type
pub data Values (G : Scope) (k : Kind) : List Expr → List ℕ → Type 0 where
  no_value : Values G k [] []
  one_value : {e : Expr} {n : ℕ} {es : List Expr} {ns : List ℕ}
      → IsConstant G e → (constant ends e).value ≡ Some n → need_fits e ≡ true
      → Values G k es ns → Values G k (e ∷ es) (converted k n ∷ ns)

-- the words of rows of values, none with more than its length, each with zeros behind its values
pub data RowValues (G : Scope) (k : Kind) (n : ℕ) : List (List Expr) → List ℕ → Type 0 where
  no_row : RowValues G k n [] []
  one_row : {es : List Expr} {ess : List (List Expr)} {ws ns : List ℕ}
      → Values G k es ws → length es ≤ n → RowValues G k n ess ns
      → RowValues G k n (es ∷ ess) ((ws ++ replicate (n - length es) 0) ++ ns)

-- how many values a global holds
pub data Count (G : Scope) (init : List (List Expr)) : ArraySize → ℕ → Type 0 where
  -- a scalar
  single : Count G init size.Scalar 1
  -- empty brackets: as many as the braces have values
  counted : 0 < length (all_values init) → Count G init size.Open (length (all_values init))
  -- one for each element
  sized : {e : Expr} {n : ℕ} → Size G e n → Count G init (size.Sized e) n
  -- an empty first pair of brackets: as many rows as the braces have
  rows_counted : {e : Expr} {n : ℕ} → Size G e n → 0 < length init
      → Count G init (size.Rows None e) (length init * n)
  -- rows by elements
  rows_sized : {r e : Expr} {m n : ℕ} → Size G r m → Size G e n
      → Count G init (size.Rows (Some r) e) (m * n)

-- the words that a global of so many values begins with: those of one list, or of whole rows
pub data Init (G : Scope) (k : Kind) (count : ℕ) : ArraySize → List (List Expr) → List ℕ → Type 0
  where
    -- of a scalar, or of an array with one size
    in_list : {s : ArraySize} {init : List (List Expr)} {ns : List ℕ} → row_in s ≡ None
        → Values G k (all_values init) ns → length (all_values init) ≤ count
        → Init G k count s init ns
    in_rows : {o : Option Expr} {e : Expr} {n : ℕ} {init : List (List Expr)} {ns : List ℕ}
        → length_of e ≡ Some n → RowValues G k n init ns → length init * n ≤ count
        → Init G k count (size.Rows o e) init ns

-- FUNCTIONS

-- a definition's parameters have names; each name is another, and none that no block may declare
pub data Named (is_def : Bool) (G : Scope) (seen : List Param) : Option (List ℕ) → Type 0 where
  unnamed : is_def ≡ false → Named is_def G seen None
  named : {w : List ℕ} → named_among seen w ≡ false → is_end (look_up G w) ≡ false
      → Named is_def G seen (Some w)

-- the second size of an array parameter: a constant of at least 1 where the parameters before it are in
-- scope, of no more bytes than an array may have
pub data Row (G : Scope) (seen : List Param) (k : Kind) : ArraySize → Type 0 where
  no_row_size : {s : ArraySize} → row_in s ≡ None → Row G seen k s
  row_size : {o : Option Expr} {e : Expr} {n : ℕ}
      → Size (with_params seen (started G None)).names e n → n * bytes k ≤ most_object_bytes
      → Row G seen k (size.Rows o e)

-- parameters after others, in all no more than a function may have
pub data Params (is_def : Bool) (G : Scope) : List Param → List Param → Type 0 where
  no_param : {seen : List Param} → Params is_def G seen []
  one_param : {seen ps : List Param} {p : Param}
      → Row G seen p.kind p.size → Named is_def G seen p.name → length seen < most_parameters
      → Params is_def G (seen ++ p ∷ []) ps
      → Params is_def G seen (p ∷ ps)

-- the name means nothing yet, or a function of the same type; a function has one definition
pub data Agrees (is_def : Bool) (given : Option Kind) (slots : List Slot) : Option Meaning → Type 0
  where
    -- its first declaration
    fresh : Agrees is_def given slots None
    -- a later one
    again : {c : Option Callee} {d : Bool} → is_def && d ≡ false
        → Agrees is_def given slots (Some (meaning.Function given slots c d))

-- what stands before the body of a function: its parameters, and that it agrees with what the name means
abbrev pub Heads : Bool → Option Kind → List ℕ → List Param → Scope → Type 0
Heads is_def given w params G =
    Params is_def G [] params × Agrees is_def given (map slot_of params) (look_up G w)

-- is the node a block?
abbrev pub is_block : StmtNode-F ForInit StmtNode Section Stmt → Bool
is_block (Compound ss) = true
is_block _ = false

-- a body: its outermost block is the scope of the parameters
pub data Body : State → Stmt → TypedStmt → State → Type 0 where
  outermost : {v w : State} {l : ℕ} {ss : List Stmt} {ts : List TypedStmt}
      → TypesAll nowhere v ss ts w → Body v (at l (node.Compound ss)) (typed.Compound ts) w
  other : {v w : State} {s : Stmt} {t : TypedStmt}
      → is_block (out-StmtNode s.node) ≡ false → Types nowhere v s t w → Body v s t w

-- ITEMS

-- the function of a body after which the state is that one
abbrev pub typed_function : ℕ → TypedStmt → State → TypedFunc
typed_function count t v = record {
  result = v.result;
  params = count;
  scalars = v.scalars;
  arrays = v.arrays;
  body = t;
}

-- in a unit of these items, the item leads from one file scope to the other
pub data Item (unit : List Top) : FileScope → TopNode → FileScope → Type 0 where
  -- 6.10.2: `EOF` is new, `getchar`, `putchar` and what ends the run are defined here, and prototypes before it
  -- agree
  include : {U : FileScope} → is_taken U.names eof_name ≡ false
      → Agrees true (Some Int) [] (look_up U.names getchar_name)
      → Agrees true (Some Int) int_slots (look_up U.names putchar_name)
      → Agrees true None long_slots (look_up U.names exit_name)
      → Item unit U Include (record U { names = with_include U.names })
  -- a later include declares nothing anew
  include_again : {U : FileScope} → is_end (look_up U.names eof_name) ≡ true → Item unit U Include U
  -- 6.7.6.2, 6.7.9, 6.9.2: its name is new, and it is in scope in its own values
  global : {U : FileScope} {k : Kind} {w : List ℕ} {s : ArraySize} {init : List (List Expr)} {n : ℕ}
      {ns : List ℕ}
      → Count U.names init s n → is_taken U.names w ≡ false
      → n * bytes k + U.bytes ≤ most_object_bytes
      → Init (global_names s k w U) k n s init ns
      → Item unit U (Global k w s init) (record U {
        names = global_names s k w U;
        globals = U.globals ++ (record {
          kind = k;
          length = length_in s n;
          row = row_in s;
          init = ns;
        }) ∷ [];
        bytes = n * bytes k + U.bytes;
      })
  -- 6.7.6.3
  prototype : {U : FileScope} {given : Option Kind} {w : List ℕ} {params : List Param}
      {c : Option Callee}
      → CallsIn unit w c → Heads false given w params U.names
      → Item unit U (Func given w params None)
      (record U { names = prototype_names c w given (map slot_of params) U.names })
  -- 6.9.1: the body may call the function itself
  definition : {U : FileScope} {given : Option Kind} {w : List ℕ} {params : List Param}
      {c : Option Callee} {s : Stmt} {t : TypedStmt} {v : State}
      → CallsIn unit w c → Heads true given w params U.names
      → Body (body_entry c w given params U.names) s t v
      → Item unit U (Func given w params (Some s)) (record U {
        names = closed v.names;
        functions = U.functions ++ typed_function (length params) t v ∷ [];
      })

-- items, one after another
pub data Items (unit : List Top) : FileScope → List Top → FileScope → Type 0 where
  no_item : {U : FileScope} → Items unit U [] U
  one_item : {U V W : FileScope} {t : Top} {ts : List Top}
      → Item unit U t.node V → Items unit V ts W → Items unit U (t ∷ ts) W

-- the unit is accepted with the typed program: it defines `int main(void)`
pub data Accepts : Program → TypedProgram → Type 0 where
  -- 5.1.2.2.1
  accepts : {p : Program} {U : FileScope} {c : Option Callee}
      → Items p.items empty_file p.items U
      → look_up U.names main_name ≡ Some (meaning.Function (Some Int) [] c true)
      → Accepts p (record { globals = U.globals; functions = U.functions; main = number_in c })
