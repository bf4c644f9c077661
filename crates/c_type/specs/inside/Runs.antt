-- What the typing of statements answers, and the state that it leaves.
use Rattle.std.specs.Prelude.{◌≡◌, ℕ, ◌++◌, map, List, Option, None, Result, Ok, Err}
use Rattle.c_tree.specs.declared.token.Kind.{Kind}
use Rattle.c_tree.specs.declared.typed.TypedSection.{TypedSection}
use Rattle.c_tree.specs.declared.typed.TypedStmt.{TypedStmt}
use Rattle.c_tree.specs.declared.typed.TypedForInit.{TypedForInit}
use Rattle.c_type_expr.specs.declared.fault.TypeFault.{TypeFault}
use Rattle.c_type_expr.specs.declared.fault.TypeFault.TheVariants.{Memory}
use Rattle.c_type_expr.specs.Blames.{Blame, first}
use Rattle.c_type_expr.specs.Scope.{Scope}
use Rattle.c_type_expr.specs.inside.Says.{Stops}
use Rattle.c_type.specs.declared.state.State.{State}
use Rattle.c_type.specs.declared.state.Around.{Around}
use Rattle.c_type.specs.Statements.{SectionPart, sections_fault, sections_trees, sections_after}
use Rattle.c_type.specs.Statements.{section_tree, section_fault, label_word}
use Rattle.c_type.specs.Statements.{Part, Beginning, all_after, all_fault, all_trees, else_after, else_fault, else_tree}

-- a value, and what is changed in place after it, exactly where nothing fails
abbrev pub Moves : {A S : Type 0} → Blame → A → S → S → Result A TypeFault → Type 0
Moves f t wanted new (Ok u) = (f ≡ None) × (u ≡ t) × (new ≡ wanted)
Moves f t wanted new (Err e) = Stops f e

-- what the typing of a statement answers
abbrev pub Runs : Part → Around → State → State → Result TypedStmt TypeFault → Type 0
Runs p b old new (Ok t) = (p.fault b old ≡ None) × (t ≡ p.tree old) × (new ≡ p.after old)
Runs p b old new (Err e) = Stops (p.fault b old) e

-- the same of the first part of a `for`
abbrev pub Begins : Beginning → Around → State → State → Result TypedForInit TypeFault → Type 0
Begins p b old new (Ok t) = (p.fault b old ≡ None) × (t ≡ p.tree old) × (new ≡ p.after old)
Begins p b old new (Err e) = Stops (p.fault b old) e

-- the same of several
abbrev pub RunAll : List Part → Around → State → State → Result (List TypedStmt) TypeFault → Type 0
RunAll ps b old new (Ok ts) =
    (all_fault ps b old ≡ None) × (ts ≡ all_trees ps old) × (new ≡ all_after ps old)
RunAll ps b old new (Err e) = Stops (all_fault ps b old) e

-- the same of an `else` that may be left out
abbrev pub RunElse : Option Part → Around → State → State → Result (Option TypedStmt) TypeFault
    → Type 0
RunElse p b old new (Ok t) =
    (else_fault p b old ≡ None) × (t ≡ else_tree p old) × (new ≡ else_after p old)
RunElse p b old new (Err e) = Stops (else_fault p b old) e

-- the two legs of an `if`
abbrev pub RunLegs : Part → Option Part → Around → State → State
    → Result (TypedStmt × Option TypedStmt) TypeFault → Type 0
RunLegs p q b old new (Ok t) =
    (first (p.fault b old) (else_fault q b (p.after old)) ≡ None) × (t.0 ≡ p.tree old)
    × (t.1 ≡ else_tree q (p.after old)) × (new ≡ else_after q (p.after old))
RunLegs p q b old new (Err e) = Stops (first (p.fault b old) (else_fault q b (p.after old))) e

-- the state is that one, unless memory runs out
abbrev pub Adds : State → State → Result (Unit {0}) TypeFault → Type 0
Adds wanted new (Ok u) = new ≡ wanted
Adds wanted new (Err e) = e ≡ Memory

-- the same of sections of a switch of a type, behind these labels
abbrev pub RunSections : Kind → List (Option ℕ) → List SectionPart → Around → State → State
    → Result (List TypedSection) TypeFault → Type 0
RunSections k seen xs b old new (Ok ts) =
    (sections_fault k seen xs b old ≡ None) × (ts ≡ sections_trees k xs old)
    × (new ≡ sections_after xs old)
RunSections k seen xs b old new (Err e) = Stops (sections_fault k seen xs b old) e

-- the same of one section, which leaves its labels with those before it
abbrev pub RunSection : Kind → List (Option ℕ) → SectionPart → Around → State → State
    → List (Option ℕ) → Result TypedSection TypeFault → Type 0
RunSection k seen x b old new after (Ok t) =
    (section_fault k seen x b old ≡ None)
    × (t ≡ section_tree k x old) × (new ≡ all_after x.body old)
    × (after ≡ seen ++ map (label_word k) x.labels)
RunSection k seen x b old new after (Err e) = Stops (section_fault k seen x b old) e

-- the names are those, unless memory runs out
abbrev pub NamesAre : Scope → Scope → Result (Unit {0}) TypeFault → Type 0
NamesAre wanted new (Ok u) = new ≡ wanted
NamesAre wanted new (Err e) = e ≡ Memory

-- a value and the names after it, unless memory runs out
abbrev pub Names : {A : Type 0} → A → Scope → Scope → Result A TypeFault → Type 0
Names n wanted new (Ok m) = (m ≡ n) × (new ≡ wanted)
Names n wanted new (Err e) = e ≡ Memory
