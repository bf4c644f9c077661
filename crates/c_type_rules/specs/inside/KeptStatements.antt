-- Typed statements that are well formed (C17 6.8). A rule for each production.
use Rattle.std.specs.Prelude.{◌≡◌, ℕ, ◌≤◌, true, false, List, [], ◌∷◌, ◌++◌, Option, Some, None, slice_get}
use Rattle.c_tree.specs.TypedTrees.{Level, Beginning}
use Rattle.c_tree.specs.declared.token.Kind.{Kind}
use Rattle.c_tree.specs.declared.typed.Place.TheVariants as place
use Rattle.c_tree.specs.declared.typed.Slot.TheVariants as slot
use Rattle.c_tree.specs.declared.typed.TypedArray.{TypedArray}
use Rattle.c_tree.specs.declared.typed.TypedExpr.{TypedExpr}
use Rattle.c_tree.specs.declared.typed.TypedFunc.{TypedFunc}
use Rattle.c_tree.specs.declared.typed.TypedProgram.{TypedProgram}
use Rattle.c_tree.specs.declared.typed.TypedSection.{TypedSection}
use Rattle.c_tree.specs.declared.typed.TypedStmt.{TypedStmt, out-TypedStmt}
use Rattle.c_tree.specs.declared.typed.TypedForInit.{TypedForInit, out-TypedForInit}
use Rattle.c_tree.specs.declared.typed.TypedForInit.TheOpen.{Declare}
use Rattle.c_tree.specs.declared.typed.TypedForInit.TheOpen.{Plain, Compound, If, While, Do, For, Switch}
use Rattle.c_tree.specs.declared.typed.TypedForInit.TheOpen.{Break, Continue, Return, Nothing}
use Rattle.c_tree.specs.declared.typed.TypedForInit.TheOpen.{First, Locals}
use Rattle.c_tree.specs.TypedTrees.{node_of}
use Rattle.c_constant.specs.Kinds.{IsWord, promoted}
use Rattle.c_type.specs.declared.state.Around.{Around}
use Rattle.c_type.specs.Statements.{label_among}
use Rattle.c_type.specs.States.{in_loop, in_switch}
use Rattle.c_type_rules.specs.inside.Expressions.{Gives, Has}
use Rattle.c_type_rules.specs.inside.Needs.{FitsNeed}

-- a full expression whose value, of the type, is taken
abbrev pub IsValue : TypedProgram → TypedFunc → Kind → TypedExpr → Type 0
IsValue P f k e = Has P f k e × FitsNeed e

-- a full expression whose value, of whatever type, tells whether to go on
pub record IsTest (P : TypedProgram) (f : TypedFunc) (e : TypedExpr) : Type 0 where
  -- any integer type: what is not 0 is true
  pub kind : Kind
  pub value : IsValue P f kind e

-- a full expression of which no value is taken
abbrev pub IsEffect : TypedProgram → TypedFunc → TypedExpr → Type 0
IsEffect P f e = Gives P f e.kind (node_of e) × FitsNeed e

-- the same where the expression may be left out
abbrev pub IsValueIf : TypedProgram → TypedFunc → Kind → Option TypedExpr → Type 0
IsValueIf P f k None = Unit {0}
IsValueIf P f k (Some e) = IsValue P f k e

-- a test, if there is one
abbrev pub IsTestIf : TypedProgram → TypedFunc → Option TypedExpr → Type 0
IsTestIf P f None = Unit {0}
IsTestIf P f (Some e) = IsTest P f e

-- an expression without its value, if there is one
abbrev pub IsEffectIf : TypedProgram → TypedFunc → Option TypedExpr → Type 0
IsEffectIf P f None = Unit {0}
IsEffectIf P f (Some e) = IsEffect P f e

-- a value is returned exactly where the function gives one, and is of its type
abbrev pub IsReturn : TypedProgram → TypedFunc → Option Kind → Option TypedExpr → Type 0
IsReturn P f None None = Unit {0}
IsReturn P f None (Some e) = ⊥
IsReturn P f (Some k) None = ⊥
IsReturn P f (Some k) (Some e) = IsValue P f k e

-- the word of a label is one of the type; `default` has none
abbrev pub IsLabel : Kind → Option ℕ → Type 0
IsLabel k None = Unit {0}
IsLabel k (Some w) = IsWord k w

-- each label of a switch of the type is another than those before it, which start with these
pub data Labels (k : Kind) : List (Option ℕ) → List (Option ℕ) → Type 0 where
  no_label : {seen : List (Option ℕ)} → Labels k seen []
  a_label : {seen : List (Option ℕ)} {x : Option ℕ} {xs : List (Option ℕ)}
      → IsLabel k x → label_among x seen ≡ false → Labels k (seen ++ x ∷ []) xs
      → Labels k seen (x ∷ xs)

mutual
  -- the statement is well formed, by what is around it
  pub data WellFormedStmt (P : TypedProgram) (f : TypedFunc) : Around → Level → Type 0 where
    -- a local scalar, no parameter, whose initialiser is of its type
    scalar : {b : Around} {n : ℕ} {k : Kind} {init : Option TypedExpr}
        → f.params ≤ n → slice_get f.scalars n ≡ Some (slot.Scalar k) → IsValueIf P f k init
        → WellFormedStmt P f b (Declare (place.Scalar n) init)
    -- a local array, which has no initialiser
    array : {b : Around} {n : ℕ} {a : TypedArray} → slice_get f.arrays n ≡ Some a
        → WellFormedStmt P f b (Declare (place.Array n) None)
    plain : {b : Around} {e : Option TypedExpr} → IsEffectIf P f e → WellFormedStmt P f b (Plain e)
    compound : {b : Around} {ss : List TypedStmt} → RunsAll P f b ss → WellFormedStmt P f b (Compound ss)
    choice : {b : Around} {test : TypedExpr} {one : TypedStmt} {other : Option TypedStmt}
        → IsTest P f test → WellFormedStmt P f b (out-TypedStmt one) → RunsElse P f b other
        → WellFormedStmt P f b (If test one other)
    while_loop : {b : Around} {test : TypedExpr} {body : TypedStmt}
        → IsTest P f test → WellFormedStmt P f in_loop (out-TypedStmt body) → WellFormedStmt P f b (While test body)
    do_loop : {b : Around} {test : TypedExpr} {body : TypedStmt}
        → WellFormedStmt P f in_loop (out-TypedStmt body) → IsTest P f test → WellFormedStmt P f b (Do body test)
    for_loop : {b : Around} {init : TypedForInit} {test post : Option TypedExpr} {body : TypedStmt}
        → Begins P f b (out-TypedForInit init) → IsTestIf P f test → IsEffectIf P f post
        → WellFormedStmt P f in_loop (out-TypedStmt body) → WellFormedStmt P f b (For init test post body)
    -- the scalar that a switch counts, no parameter, is of the promoted type of its test
    switch : {b : Around} {n : ℕ} {k : Kind} {test : TypedExpr} {sections : List TypedSection}
        → f.params ≤ n → slice_get f.scalars n ≡ Some (slot.Scalar k) → promoted k ≡ k → IsValue P f k test
        → RunsSections P f k [] (in_switch b) sections → WellFormedStmt P f b (Switch n test sections)
    -- only in a loop or a switch
    breaks : {b : Around} → b.may_break ≡ true → WellFormedStmt P f b Break
    -- only in a loop
    continues : {b : Around} → b.may_continue ≡ true → WellFormedStmt P f b Continue
    returns : {b : Around} {e : Option TypedExpr} → IsReturn P f f.result e → WellFormedStmt P f b (Return e)

  -- each statement of a list is well formed
  pub data RunsAll (P : TypedProgram) (f : TypedFunc) : Around → List TypedStmt → Type 0 where
    end : {b : Around} → RunsAll P f b []
    next : {b : Around} {s : TypedStmt} {ss : List TypedStmt}
        → WellFormedStmt P f b (out-TypedStmt s) → RunsAll P f b ss → RunsAll P f b (s ∷ ss)

  -- each section of a switch of the type, behind these labels, is well formed
  pub data RunsSections (P : TypedProgram) (f : TypedFunc)
      : Kind → List (Option ℕ) → Around → List TypedSection → Type 0 where
    no_section : {k : Kind} {seen : List (Option ℕ)} {b : Around} → RunsSections P f k seen b []
    a_section : {k : Kind} {seen : List (Option ℕ)} {b : Around} {s : TypedSection} {ss : List TypedSection}
        → Labels k seen s.labels → RunsAll P f b s.body → RunsSections P f k (seen ++ s.labels) b ss
        → RunsSections P f k seen b (s ∷ ss)

  -- the statement of an `else` is well formed, if there is one
  pub data RunsElse (P : TypedProgram) (f : TypedFunc) : Around → Option TypedStmt → Type 0 where
    without : {b : Around} → RunsElse P f b None
    with_else : {b : Around} {s : TypedStmt} → WellFormedStmt P f b (out-TypedStmt s) → RunsElse P f b (Some s)

  -- the first part of a `for` stands outside that loop
  pub data Begins (P : TypedProgram) (f : TypedFunc) : Around → Beginning → Type 0 where
    nothing : {b : Around} → Begins P f b Nothing
    first : {b : Around} {e : TypedExpr} → IsEffect P f e → Begins P f b (First e)
    locals : {b : Around} {ss : List TypedStmt} → RunsAll P f b ss → Begins P f b (Locals ss)
