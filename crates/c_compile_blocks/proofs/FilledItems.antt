-- The filled if-items of items, one item at a time.
use Rattle.std.proofs.Common.{◌≡◌, ℕ, ◌+◌, ◌≤◌, Bool, ◌||◌, cond, List, ◌∷◌, drop, ap}
use Rattle.std.proofs.Common.{◌∙◌, arith}
use Rattle.std.specs.Prelude.{Option, Some, None, IfSome}
use Rattle.trips_isa.specs.declared.op.Op.{Op}
use Rattle.ir_forms.specs.declared.hyper.Source.{Source}
use Rattle.ir_forms.specs.declared.hyper.HyperItem.{HyperItem}
use Rattle.ir_forms.specs.declared.hyper.HyperItem.TheVariants as item
use Rattle.ir_forms.specs.inside.HyperCode.{Items, Set, Load, Save, If}
use Rattle.ir_forms.specs.inside.HyperFits.{is_filled, filled_ifs}
use Rattle.ir_forms.specs.inside.HyperViews.{items_of, then_items}
use Rattle.ir_forms.proofs.Views.{then_set, then_load, then_save, then_if}

-- AN ITEM

-- a set, before others
pub set_is : (i : HyperItem) (to : ℕ) (op : Op) (a b : Source) (rest : Items) → i ≡ item.Set to op a b
    → then_items i rest ≡ Set to op a b rest
set_is i to op a b rest e = ap (λ (x : HyperItem). then_items x rest) e ∙ then_set to op a b rest

-- a load
pub load_is : (i : HyperItem) (to : ℕ) (op : Op) (a : Source) (rest : Items) → i ≡ item.Load to op a
    → then_items i rest ≡ Load to op a rest
load_is i to op a rest e = ap (λ (x : HyperItem). then_items x rest) e ∙ then_load to op a rest

-- a save
pub save_is : (i : HyperItem) (op : Op) (a v : Source) (rest : Items) → i ≡ item.Save op a v
    → then_items i rest ≡ Save op a v rest
save_is i op a v rest e = ap (λ (x : HyperItem). then_items x rest) e ∙ then_save op a v rest

-- an if, whose legs are lists
pub if_is : (i : HyperItem) (t : Source) (ys ns : List HyperItem) (rest : Items) → i ≡ item.If t ys ns
    → then_items i rest ≡ If t (items_of ys) (items_of ns) rest
if_is i t ys ns rest e = ap (λ (x : HyperItem). then_items x rest) e ∙ then_if t ys ns rest

-- what an item that is no if leaves
pub kept : (i : HyperItem) (rest items : Items) (guards : ℕ) → then_items i rest ≡ items
    → filled_ifs items ≡ filled_ifs rest → filled_ifs (then_items i rest) + guards ≤ guards + filled_ifs rest
kept i rest items guards e f =
    let s : filled_ifs (then_items i rest) ≡ filled_ifs items = ap filled_ifs e in omega (arith, s, f)

-- what an if leaves of some guards behind its legs, where it takes one itself
pub taken : (i : HyperItem) (t : Source) (ys ns : List HyperItem) (guards first second : ℕ) (c : Bool) (o : Option ℕ)
    → i ≡ item.If t ys ns → filled_ifs (items_of ys) + first ≤ guards → filled_ifs (items_of ns) + second ≤ first
    → c ≡ (is_filled (items_of ys) || is_filled (items_of ns))
    → IfSome o (λ left. cond c 1 0 + left ≤ second)
    → IfSome o (λ left. (rest : Items) → filled_ifs (then_items i rest) + left ≤ guards + filled_ifs rest)
taken i t ys ns guards first second c None e f g h k = k
taken i t ys ns guards first second c (Some left) e f g h k = λ rest.
    let s : filled_ifs (then_items i rest) ≡ filled_ifs (If t (items_of ys) (items_of ns) rest) =
    ap filled_ifs (if_is i t ys ns rest e) in
    let d : cond {A = ℕ} c 1 0 ≡ cond (is_filled (items_of ys) || is_filled (items_of ns)) 1 0 =
    ap (λ (b : Bool). cond {A = ℕ} b 1 0) h in
    omega (arith, s, d, f, g, k)

-- ITEMS

-- an item of a list stands before those behind it
pub next_is : (all : List HyperItem) (i : ℕ) (a : HyperItem) → drop i all ≡ a ∷ drop (i + 1) all
    → items_of (drop i all) ≡ then_items a (items_of (drop (i + 1) all))
next_is all i a e = ap items_of e
