-- The declared trees level by level, as their plain forms.
use Rattle.std.proofs.Common.{◌≡◌, ℕ, List, [], ◌∷◌, ◌++◌, Option, refl, sym, ap, ◌∙◌}
use Rattle.trips_isa.specs.declared.op.Op.{Op}
use Rattle.ir_forms.specs.declared.flat.Arg.{Arg}
use Rattle.ir_forms.specs.declared.flat.FlatStmt.{FlatStmt, roll-FlatStmt, fold-FlatStmt}
use Rattle.ir_forms.specs.declared.flat.FlatStmt.{fold-roll-FlatStmt, map-FlatStmt}
use Rattle.ir_forms.specs.declared.flat.FlatStmt.TheVariants as stmt
use Rattle.ir_forms.specs.declared.flat.FlatStmt.TheOpen.{FlatStmt-F}
use Rattle.ir_forms.specs.declared.hyper.Source.{Source}
use Rattle.ir_forms.specs.declared.hyper.Exit.{Exit}
use Rattle.ir_forms.specs.declared.hyper.HyperItem.{HyperItem, roll-HyperItem, fold-HyperItem}
use Rattle.ir_forms.specs.declared.hyper.HyperItem.{fold-roll-HyperItem, map-HyperItem}
use Rattle.ir_forms.specs.declared.hyper.HyperItem.TheVariants as item
use Rattle.ir_forms.specs.declared.hyper.HyperItem.TheOpen.{HyperItem-F}
use Rattle.ir_forms.specs.declared.hyper.Tail as declared
use Rattle.ir_forms.specs.declared.hyper.Tail.{roll-Tail, fold-Tail, fold-roll-Tail, map-Tail}
use Rattle.ir_forms.specs.declared.hyper.Tail.TheVariants as tail
use Rattle.ir_forms.specs.declared.hyper.Tail.TheOpen.{Tail-F}
use Rattle.ir_forms.specs.inside.FlatCode.{Step, Let, Frame, Load, Save, Call, Put, Get, If, Loop, Break}
use Rattle.ir_forms.specs.inside.FlatCode.{Continue, Return, Halt, ◌▹◌, Then}
use Rattle.ir_forms.specs.inside.FlatViews.{stays, step_by, step_of, code_of}
use Rattle.ir_forms.specs.inside.HyperCode as hyper
use Rattle.ir_forms.specs.inside.HyperViews.{Before, before_by, then_items, items_of, tail_by, tail_of}

-- STATEMENTS

step_is : (x : FlatStmt-F FlatStmt) (s : FlatStmt) → roll-FlatStmt x ≡ s → step_of s
    ≡ step_by (map-FlatStmt FlatStmt Step step_of x)
unfolding step_of
step_is x s e = ap (fold-FlatStmt Step step_by) (sym e) ∙ fold-roll-FlatStmt Step step_by x

-- A constant, copy or operation, seen as a step of flat code.
pub step_let : (to : ℕ) (op : Op) (a b : Arg) → step_of (stmt.Let to op a b) ≡ Let to op a b
step_let to op a b = step_is (FlatStmt-F.Let to op a b) _ (stmt.rolls-Let to op a b)

-- An address in the frame, seen as a step of flat code.
pub step_frame : (to at : ℕ) → step_of (stmt.Frame to at) ≡ Frame to at
step_frame to at = step_is (FlatStmt-F.Frame to at) _ (stmt.rolls-Frame to at)

-- A load, seen as a step of flat code.
pub step_load : (to : ℕ) (op : Op) (a : Arg) → step_of (stmt.Load to op a) ≡ Load to op a
step_load to op a = step_is (FlatStmt-F.Load to op a) _ (stmt.rolls-Load to op a)

-- A store, seen as a step of flat code.
pub step_save : (op : Op) (a v : Arg) → step_of (stmt.Save op a v) ≡ Save op a v
step_save op a v = step_is (FlatStmt-F.Save op a v) _ (stmt.rolls-Save op a v)

-- A call, seen as a step of flat code.
pub step_call : (f : ℕ) (args : List Arg) (to : Option ℕ)
    → step_of (stmt.Call f args to) ≡ Call f args to stays
step_call f args to = step_is (FlatStmt-F.Call f args to) _ (stmt.rolls-Call f args to)

-- A byte put out, seen as a step of flat code.
pub step_put : (v : Arg) → step_of (stmt.Put v) ≡ Put v
step_put v = step_is (FlatStmt-F.Put v) _ (stmt.rolls-Put v)

-- A byte read, seen as a step of flat code.
pub step_get : (to : ℕ) → step_of (stmt.Get to) ≡ Get to
step_get to = step_is (FlatStmt-F.Get to) _ (stmt.rolls-Get to)

-- An if, seen as a step with the code of its legs.
pub step_if : (t : Arg) (a b : List FlatStmt)
    → step_of (stmt.If t a b) ≡ If t (code_of a) (code_of b)
step_if t a b = step_is (FlatStmt-F.If t a b) _ (stmt.rolls-If t a b)

-- A loop, seen as a step with the code of its two parts.
pub step_loop : (a b : List FlatStmt) → step_of (stmt.Loop a b) ≡ Loop (code_of a) (code_of b)
step_loop a b = step_is (FlatStmt-F.Loop a b) _ (stmt.rolls-Loop a b)

-- A break, seen as a step of flat code.
pub step_break : step_of stmt.Break ≡ Break
step_break = step_is FlatStmt-F.Break _ stmt.rolls-Break

-- A continue, seen as a step of flat code.
pub step_continue : step_of stmt.Continue ≡ Continue
step_continue = step_is FlatStmt-F.Continue _ stmt.rolls-Continue

-- A return, seen as a step of flat code.
pub step_return : (v : Option Arg) → step_of (stmt.Return v) ≡ Return v
step_return v = step_is (FlatStmt-F.Return v) _ (stmt.rolls-Return v)

-- An end of the whole run, seen as a step of flat code.
pub step_halt : (v : Arg) → step_of (stmt.Halt v) ≡ Halt v
step_halt v = step_is (FlatStmt-F.Halt v) _ (stmt.rolls-Halt v)

-- a list of statements after another is code after code
pub code_append : (a b : List FlatStmt) → code_of (a ++ b) ≡ Then (code_of a) (code_of b)
code_append [] b = refl
code_append (s ∷ a) b = ap (λ x. step_of s ▹ x) (code_append a b)

-- ITEMS

before_is : (x : HyperItem-F HyperItem) (i : HyperItem) → roll-HyperItem x ≡ i → then_items i
    ≡ before_by (map-HyperItem HyperItem Before then_items x)
unfolding then_items
before_is x i e = ap (fold-HyperItem Before before_by) (sym e)
    ∙ fold-roll-HyperItem Before before_by x

-- an operation in front of items, as its plain form
pub then_set : (to : ℕ) (op : Op) (a b : Source) (rest : hyper.Items)
    → then_items (item.Set to op a b) rest
    ≡ hyper.Set to op a b rest
then_set to op a b rest = ap (λ f. f rest)
    (before_is (HyperItem-F.Set to op a b) _ (item.rolls-Set to op a b))

-- a load in front of items, as its plain form
pub then_load : (to : ℕ) (op : Op) (a : Source) (rest : hyper.Items)
    → then_items (item.Load to op a) rest
    ≡ hyper.Load to op a rest
then_load to op a rest = ap (λ f. f rest)
    (before_is (HyperItem-F.Load to op a) _ (item.rolls-Load to op a))

-- a store in front of items, as its plain form
pub then_save : (op : Op) (a v : Source) (rest : hyper.Items) → then_items (item.Save op a v) rest
    ≡ hyper.Save op a v rest
then_save op a v rest = ap (λ f. f rest) (before_is (HyperItem-F.Save op a v) _
    (item.rolls-Save op a v))

-- an `if` in front of items, as its plain form
pub then_if : (t : Source) (a b : List HyperItem) (rest : hyper.Items)
    → then_items (item.If t a b) rest
    ≡ hyper.If t (items_of a) (items_of b) rest
then_if t a b rest = ap (λ f. f rest) (before_is (HyperItem-F.If t a b) _ (item.rolls-If t a b))

-- TAILS

tail_is : (x : Tail-F declared.Tail) (t : declared.Tail) → roll-Tail x ≡ t → tail_of t
    ≡ tail_by (map-Tail declared.Tail hyper.Tail tail_of x)
unfolding tail_of
tail_is x t e = ap (fold-Tail hyper.Tail tail_by) (sym e) ∙ fold-roll-Tail hyper.Tail tail_by x

-- an exit, as its plain form
pub tail_leave : (e : Exit) → tail_of (tail.Leave e) ≡ hyper.Leave e
tail_leave e = tail_is (Tail-F.Leave e) _ (tail.rolls-Leave e)

-- a test with two tails, as its plain form
pub tail_test : (t : Source) (a b : declared.Tail)
    → tail_of (tail.Test t a b) ≡ hyper.Test t (tail_of a) (tail_of b)
tail_test t a b = tail_is (Tail-F.Test t a b) _ (tail.rolls-Test t a b)
