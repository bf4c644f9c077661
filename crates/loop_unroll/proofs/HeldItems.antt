-- Items that set registers to themselves, as plain data.
use Rattle.std.proofs.Common.{◌≡◌, ℕ, zero, suc, Bool, cond, List, [], ◌∷◌, ◌++◌, refl, sym, ap, ◌∙◌}
use Rattle.trips_isa.specs.declared.op.Op.TheVariants.{Mov}
use Rattle.ir_forms.specs.declared.hyper.Source.{Source}
use Rattle.ir_forms.specs.declared.hyper.Source.TheVariants.{Const, Reg}
use Rattle.ir_forms.specs.declared.hyper.HyperItem.{HyperItem}
use Rattle.ir_forms.specs.declared.hyper.HyperItem.TheVariants as variant
use Rattle.ir_forms.specs.inside.HyperCode.{Items, Done, Set}
use Rattle.ir_forms.specs.inside.HyperViews.{items_of, then_items}
use Rattle.ir_forms.proofs.Views.{then_set}
use Rattle.loop_unroll.specs.inside.Unrolled.{before, sets, holding, held, turns, held_turns}
use Rattle.loop_unroll.proofs.Views.{item_put, items_put, all_put, before_before}

-- one more register is set to itself
pub put_held : (xs all : List HyperItem) (i : HyperItem) (r : ℕ) (k : Items)
    → i ≡ variant.Set r Mov (Reg r) (Const 0) → all ≡ xs ++ i ∷ []
    → before (items_of all) k ≡ before (items_of xs) (Set r Mov (Reg r) (Const 0) k)
put_held xs all i r k h e =
    ap (λ (l : List HyperItem). before (items_of l) k) e
    ∙ ap (λ (is : Items). before is k) (items_put xs i)
    ∙ before_before (items_of xs) (then_items i Done) k
    ∙ ap (before (items_of xs))
    (sym (item_put i Done k) ∙ ap (λ (i : HyperItem). then_items i k) h ∙ then_set r Mov (Reg r) (Const 0) k)

-- none is set yet
pub none_held : (all : List HyperItem) (is : Items) → all ≡ []
    → (k : Items) → before (items_of all) (holding is 128 k) ≡ held is k
unfolding held
none_held all is e k = ap (λ (l : List HyperItem). before (items_of l) (holding is 128 k)) e

-- one more of them is
pub one_held : (new old is : Items) (r n : ℕ) → n ≡ suc r
    → ((k : Items) → before new k ≡ before old (cond (sets r is) (Set r Mov (Reg r) (Const 0) k) k))
    → ((k : Items) → before old (holding is n k) ≡ held is k)
    → (k : Items) → before new (holding is r k) ≡ held is k
one_held new old is r n e f g k =
    f (holding is r k) ∙ ap (λ n. before old (holding is n k)) (sym e) ∙ g k

-- turns behind them
pub turns_held : (way : Bool) (t : Source) (is : Items) (n : ℕ) (all xs ys : List HyperItem) → (n ≡ 0 → ⊥)
    → all ≡ xs ++ ys → ((k : Items) → before (items_of xs) k ≡ held is k) → items_of ys ≡ turns way t is n
    → items_of all ≡ held_turns way t is n
turns_held way t is zero all xs ys some e f g = absurd (some refl)
turns_held way t is (suc n) all xs ys some e f g =
    ap items_of e ∙ all_put xs ys ∙ f (items_of ys) ∙ ap (held is) g
