-- Items at the end of others, as plain data.
use Rattle.std.proofs.Common.{◌≡◌, ℕ, Bool, true, false, cond, ◌&&◌, List, [], ◌∷◌, ◌++◌, refl, sym, ap, ap₂, ◌∙◌}
use Rattle.trips_isa.specs.declared.op.Op.{Op}
use Rattle.ir_forms.specs.declared.hyper.Source.{Source}
use Rattle.ir_forms.specs.declared.hyper.HyperItem.{HyperItem, out-HyperItem, roll-out-HyperItem}
use Rattle.ir_forms.specs.declared.hyper.HyperItem.{fold-HyperItem, fold-roll-HyperItem, map-HyperItem}
use Rattle.ir_forms.specs.declared.hyper.HyperItem.TheOpen.{HyperItem-F}
use Rattle.ir_forms.specs.declared.hyper.HyperItem.TheOpen as item
use Rattle.ir_forms.specs.declared.hyper.HyperItem.TheVariants as variant
use Rattle.ir_forms.specs.inside.HyperCode.{Items, Done, Set, Load, Save, If}
use Rattle.ir_forms.specs.inside.HyperViews.{Before, before_by, then_items, items_of}
use Rattle.ir_forms.proofs.Views.{then_set, then_load, then_save, then_if}
use Rattle.loop_unroll.specs.inside.Unrolled.{before, leg, is_last, keeps_test, in_leg, and_more}

-- an item by its level
level : (i : HyperItem) → then_items i ≡ before_by (map-HyperItem HyperItem Before then_items (out-HyperItem i))
unfolding then_items
level i = ap (fold-HyperItem Before before_by) (sym (roll-out-HyperItem i))
    ∙ fold-roll-HyperItem Before before_by (out-HyperItem i)

put_by : (x : HyperItem-F Before) (r k : Items) → before_by x (before r k) ≡ before (before_by x r) k
put_by (item.Set to op a b) r k = refl
put_by (item.Load to op a) r k = refl
put_by (item.Save op a v) r k = refl
put_by (item.If t one other) r k = refl

pub item_put : (i : HyperItem) (r k : Items) → then_items i (before r k) ≡ before (then_items i r) k
item_put i r k =
    ap (λ (f : Before). f (before r k)) (level i)
    ∙ put_by (map-HyperItem HyperItem Before then_items (out-HyperItem i)) r k
    ∙ sym (ap (λ (f : Before). before (f r) k) (level i))

pub items_put : (xs : List HyperItem) (i : HyperItem)
    → items_of (xs ++ i ∷ []) ≡ before (items_of xs) (then_items i Done)
items_put [] i = refl
items_put (x ∷ xs) i = ap (then_items x) (items_put xs i) ∙ item_put x (items_of xs) (then_items i Done)

-- items after items
pub all_put : (xs ys : List HyperItem) → items_of (xs ++ ys) ≡ before (items_of xs) (items_of ys)
all_put [] ys = refl
all_put (x ∷ xs) ys = ap (then_items x) (all_put xs ys) ∙ item_put x (items_of xs) (items_of ys)

-- MORE TURNS

one_item : (x : HyperItem-F Before) (r : Items) → is_last (before_by x r) ≡ false
one_item (item.Set to op a b) r = refl
one_item (item.Load to op a) r = refl
one_item (item.Save op a v) r = refl
one_item (item.If t one other) r = refl

some_item : (i : HyperItem) (r : Items) → is_last (then_items i r) ≡ false
some_item i r =
    ap (λ (f : Before). is_last (f r)) (level i)
    ∙ one_item (map-HyperItem HyperItem Before then_items (out-HyperItem i)) r

not_last : (a b : Items) → is_last b ≡ false → is_last (before a b) ≡ false
not_last Done b h = h
not_last (Set to op x y rest) b h = refl
not_last (Load to op x rest) b h = refl
not_last (Save op x y rest) b h = refl
not_last (If u one other rest) b h = refl

module _ (way : Bool) (t : Source) (k : Items) where
  -- the last item alone says where more goes
  more_before : (a b : Items) → is_last b ≡ false → and_more way t (before a b) k ≡ before a (and_more way t b k)
  more_before Done b h = refl
  more_before (Set to op x y rest) b h = ap (Set to op x y) (more_before rest b h)
  more_before (Load to op x rest) b h = ap (Load to op x) (more_before rest b h)
  more_before (Save op x y rest) b h = ap (Save op x y) (more_before rest b h)
  more_before (If u one other rest) b h =
      ap (λ c. cond (c && keeps_test t u one other) (in_leg way u one other k)
      (If u one other (and_more way t (before rest b) k))) (not_last rest b h)
      ∙ ap (If u one other) (more_before rest b h)

  -- declared items, of which one is the last
  pub more_last : (all xs : List HyperItem) (i : HyperItem) (made : Items) → all ≡ xs ++ i ∷ []
      → made ≡ before (items_of xs) (and_more way t (then_items i Done) k)
      → made ≡ and_more way t (items_of all) k
  more_last all xs i made e m =
      m ∙ sym (more_before (items_of xs) (then_items i Done) (some_item i Done))
      ∙ ap (λ (is : Items). and_more way t is k) (sym (items_put xs i))
      ∙ sym (ap (λ (l : List HyperItem). and_more way t (items_of l) k) e)

  -- and none
  pub more_none : (all : List HyperItem) → all ≡ [] → leg way t k ≡ and_more way t (items_of all) k
  more_none all e = sym (ap (λ (l : List HyperItem). and_more way t (items_of l) k) e)

  -- an item that sets a register, with more behind it
  pub behind_set : (i : HyperItem) (to : ℕ) (op : Op) (a b : Source) → i ≡ variant.Set to op a b
      → then_items i (leg way t k) ≡ and_more way t (then_items i Done) k
  behind_set i to op a b e =
      ap (λ (i : HyperItem). then_items i (leg way t k)) e ∙ then_set to op a b (leg way t k)
      ∙ sym (ap (λ (is : Items). and_more way t is k) (ap (λ (i : HyperItem). then_items i Done) e
      ∙ then_set to op a b Done))

  -- a load
  pub behind_load : (i : HyperItem) (to : ℕ) (op : Op) (a : Source) → i ≡ variant.Load to op a
      → then_items i (leg way t k) ≡ and_more way t (then_items i Done) k
  behind_load i to op a e =
      ap (λ (i : HyperItem). then_items i (leg way t k)) e ∙ then_load to op a (leg way t k)
      ∙ sym (ap (λ (is : Items). and_more way t is k) (ap (λ (i : HyperItem). then_items i Done) e
      ∙ then_load to op a Done))

  -- a store
  pub behind_save : (i : HyperItem) (op : Op) (a v : Source) → i ≡ variant.Save op a v
      → then_items i (leg way t k) ≡ and_more way t (then_items i Done) k
  behind_save i op a v e =
      ap (λ (i : HyperItem). then_items i (leg way t k)) e ∙ then_save op a v (leg way t k)
      ∙ sym (ap (λ (is : Items). and_more way t is k) (ap (λ (i : HyperItem). then_items i Done) e
      ∙ then_save op a v Done))

  module _ (i : HyperItem) (u : Source) (one other : Items)
      (is : (r : Items) → then_items i r ≡ If u one other r) where
    chosen : (c : Bool) → keeps_test t u one other ≡ c
        → and_more way t (then_items i Done) k
        ≡ cond c (in_leg way u one other k) (If u one other (leg way t k))
    chosen c e =
        ap (λ (x : Items). and_more way t x k) (is Done)
        ∙ ap (λ c. cond c (in_leg way u one other k) (If u one other (leg way t k))) e

    -- an if that keeps the test, with more in its leg
    pub in_if : keeps_test t u one other ≡ true → in_leg way u one other k ≡ and_more way t (then_items i Done) k
    in_if e = sym (chosen true e)

    -- another if, with more behind it
    pub behind_if : keeps_test t u one other ≡ false
        → then_items i (leg way t k) ≡ and_more way t (then_items i Done) k
    behind_if e = is (leg way t k) ∙ sym (chosen false e)

-- ITEMS THAT ARE PUT

-- an item at the end
pub item_end : (xs all : List HyperItem) (i : HyperItem) (k : Items) → all ≡ xs ++ i ∷ [] → then_items i Done ≡ k
    → items_of all ≡ before (items_of xs) k
item_end xs all i k e h = ap items_of e ∙ items_put xs i ∙ ap (before (items_of xs)) h

pub before_before : (a b k : Items) → before (before a b) k ≡ before a (before b k)
before_before Done b k = refl
before_before (Set to op x y rest) b k = ap (Set to op x y) (before_before rest b k)
before_before (Load to op x rest) b k = ap (Load to op x) (before_before rest b k)
before_before (Save op x y rest) b k = ap (Save op x y) (before_before rest b k)
before_before (If t one other rest) b k = ap (If t one other) (before_before rest b k)

-- two items at the end, the first of which is a copy
pub behind : (first one all : List HyperItem) (i last l : HyperItem) (k : Items) → i ≡ last → one ≡ first ++ i ∷ []
    → all ≡ one ++ l ∷ [] → then_items l Done ≡ k → items_of all ≡ before (items_of first) (then_items last k)
behind first one all i last l k s e f h =
    item_end one all l k f h
    ∙ ap (λ (is : Items). before is k) (item_end first one i (then_items i Done) e refl)
    ∙ before_before (items_of first) (then_items i Done) k
    ∙ ap (before (items_of first)) (sym (item_put i Done k))
    ∙ ap (λ (j : HyperItem). before (items_of first) (then_items j k)) s

-- an if whose first leg has more at its end
pub first_leg : (t : Source) (left right copy other all more : List HyperItem) → copy ≡ left → other ≡ right
    → all ≡ copy ++ more
    → then_items (variant.If t all other) Done ≡ in_leg true t (items_of left) (items_of right) (items_of more)
first_leg t left right copy other all more c o e =
    then_if t all other Done
    ∙ ap₂ (λ (a b : Items). If t a b Done) (ap items_of e ∙ all_put copy more
    ∙ ap (λ (x : List HyperItem). before (items_of x) (items_of more)) c) (ap items_of o)

-- or the second
pub second_leg : (t : Source) (left right copy other all more : List HyperItem) → copy ≡ left → other ≡ right
    → all ≡ other ++ more
    → then_items (variant.If t copy all) Done ≡ in_leg false t (items_of left) (items_of right) (items_of more)
second_leg t left right copy other all more c o e =
    then_if t copy all Done
    ∙ ap₂ (λ (a b : Items). If t a b Done) (ap items_of c) (ap items_of e ∙ all_put other more
    ∙ ap (λ (x : List HyperItem). before (items_of x) (items_of more)) o)
