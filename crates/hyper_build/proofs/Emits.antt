-- Items that are put before the rest of a block.
use Rattle.std.proofs.Common.{◌≡◌, ℕ, List, [], ◌∷◌, ◌++◌, map, reverse, ap, ap₂, ◌∙◌}
use Rattle.std.proofs.lemmas.List.{reverse-append}
use Rattle.trips_isa.specs.declared.op.Op.{Op}
use Rattle.ir_forms.specs.declared.flat.Arg.{Arg}
use Rattle.ir_forms.specs.declared.hyper.Source.{Source}
use Rattle.ir_forms.specs.declared.hyper.Source.TheVariants.{Reg}
use Rattle.ir_forms.specs.declared.hyper.Exit.{Exit}
use Rattle.ir_forms.specs.declared.hyper.Exit.TheVariants as exit
use Rattle.ir_forms.specs.declared.hyper.HyperItem.{HyperItem}
use Rattle.ir_forms.specs.declared.hyper.HyperItem.TheVariants as item
use Rattle.ir_forms.specs.declared.hyper.Tail as declared
use Rattle.ir_forms.specs.declared.hyper.Tail.TheVariants as tail
use Rattle.ir_forms.specs.inside.HyperCode.{Items, Block}
use Rattle.ir_forms.specs.inside.HyperCode as hyper_code
use Rattle.ir_forms.specs.declared.hyper.HyperBlock.{HyperBlock}
use Rattle.ir_forms.specs.inside.HyperViews.{items_of, tail_of, then_items, block_of}
use Rattle.ir_forms.specs.inside.HyperRuns as hyper
use Rattle.ir_forms.proofs.Views.{then_set, then_load, then_save, then_if, tail_leave, tail_test}
use Rattle.hyper_build.specs.declared.rest.Rest.{Rest}
use Rattle.hyper_build.specs.inside.Parts.{source, set_then, load_then, save_then}
use Rattle.hyper_build.specs.inside.Emitted.{rest_of, out_of}
use Rattle.hyper_build.specs.inside.BackwardStatements.{left_by}
use Rattle.hyper_build.specs.inside.BackwardItems.{if_then}
use Rattle.hyper_build.specs.inside.BackwardCode.{test_block}
use Rattle.hyper_build.specs.inside.Merging.{fork}

-- a rest, and one item before it
abbrev with_item : Rest → HyperItem → Rest
with_item r i = record { items = r.items ++ i ∷ []; tail = r.tail }

pushed : (xs : List HyperItem) (i : HyperItem)
    → items_of (reverse (xs ++ i ∷ [])) ≡ then_items i (items_of (reverse xs))
pushed xs i = ap items_of (reverse-append xs (i ∷ []))

before : (r : Rest) (i : HyperItem) (its : Items) → then_items i (items_of (reverse r.items)) ≡ its
    → rest_of (with_item r i) ≡ record { items = its; tail = tail_of r.tail }
before r i its e =
    ap (λ (k : Items). record { items = k; tail = tail_of r.tail }) (pushed r.items i ∙ e)

-- a rest that only jumps, as its plain block
pub jump_is : (l : ℕ)
    → rest_of (record { items = []; tail = tail.Leave (exit.Jump l) }) ≡ hyper.jump l
jump_is l = ap (λ t. record { items = items_of []; tail = t }) (tail_leave (exit.Jump l))

-- a rest that only leaves, as its plain block
pub leave_is : (e : Exit) → rest_of (record { items = []; tail = tail.Leave e }) ≡ left_by e
leave_is e = ap (λ t. record { items = items_of []; tail = t }) (tail_leave e)

-- an operation put before a rest, as its plain block
pub set_is : (r : Rest) (to : ℕ) (op : Op) (a b : Source)
    → rest_of (with_item r (item.Set to op a b)) ≡ set_then to op a b (rest_of r)
set_is r to op a b =
    before r (item.Set to op a b) _ (then_set to op a b (items_of (reverse r.items)))

-- an if put before a rest, as its plain block
pub if_is : (r : Rest) (t : Source) (a b : List HyperItem)
    → rest_of (with_item r (item.If t a b)) ≡ if_then t (items_of a) (items_of b) (rest_of r)
if_is r t a b = before r (item.If t a b) _ (then_if t a b (items_of (reverse r.items)))

-- a rest that only tests, as its plain block
pub test_is : (x : Arg) (t : Source) (one other : ℕ) → t ≡ source x
    → rest_of (record {
      items = [];
      tail = tail.Test t (tail.Leave (exit.Jump one)) (tail.Leave (exit.Jump other));
    }) ≡ test_block x one other
test_is x t one other e =
    ap (λ y. record { items = items_of []; tail = y })
    (tail_test t (tail.Leave (exit.Jump one)) (tail.Leave (exit.Jump other))
    ∙ ap₂ (hyper_code.Test t) (tail_leave (exit.Jump one)) (tail_leave (exit.Jump other))
    ∙ ap (λ y. hyper_code.Test y (hyper_code.Leave (exit.Jump one)) (hyper_code.Leave (exit.Jump other))) e)

-- a tail behind the test of the stack, as its plain block
pub fork_is : (t : declared.Tail) (out : ℕ)
    → rest_of (record { items = []; tail = tail.Test (Reg 92) t (tail.Leave (exit.Jump out)) })
    ≡ fork (tail_of t) out
fork_is t out =
    ap (λ y. record { items = items_of []; tail = y })
    (tail_test (Reg 92) t (tail.Leave (exit.Jump out))
    ∙ ap (hyper_code.Test (Reg 92) (tail_of t)) (tail_leave (exit.Jump out)))

-- a load put before a rest, as its plain block
pub load_is : (r : Rest) (to : ℕ) (op : Op) (a : Source)
    → rest_of (with_item r (item.Load to op a)) ≡ load_then to op a (rest_of r)
load_is r to op a = before r (item.Load to op a) _ (then_load to op a (items_of (reverse r.items)))

-- a store put before a rest, as its plain block
pub save_is : (r : Rest) (op : Op) (a v : Source)
    → rest_of (with_item r (item.Save op a v)) ≡ save_then op a v (rest_of r)
save_is r op a v = before r (item.Save op a v) _ (then_save op a v (items_of (reverse r.items)))

-- one more block before the others
pub out_pushed : (out : List HyperBlock) (b : HyperBlock) (k : Block) → block_of b ≡ k
    → out_of (out ++ b ∷ []) ≡ k ∷ out_of out
out_pushed out b k e = ap (map block_of) (reverse-append out (b ∷ [])) ∙ ap (λ k. k ∷ out_of out) e
