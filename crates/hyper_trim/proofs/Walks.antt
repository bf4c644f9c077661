-- A walk before one item more.
use Rattle.std.proofs.Common.{◌≡◌, ℕ, Bool, true, false, cond, List, [], ◌∷◌, ◌++◌, reverse, sym, ap, ◌∙◌, subst}
use Rattle.ir_forms.specs.declared.hyper.Source.{Source}
use Rattle.std.proofs.lemmas.List.{reverse-append}
use Rattle.ir_forms.specs.declared.hyper.HyperItem.{HyperItem}
use Rattle.ir_forms.specs.declared.hyper.HyperItem.TheVariants as item
use Rattle.ir_forms.specs.inside.HyperCode.{Items, If}
use Rattle.ir_forms.proofs.Views.{then_if}
use Rattle.ir_forms.specs.inside.HyperViews.{items_of, then_items}
use Rattle.hyper_trim.specs.declared.walking.Walk.{Walk}
use Rattle.hyper_trim.specs.inside.Trim.{Trimmed, ended, trim, if_before}
use Rattle.hyper_trim.specs.inside.Walked.{Holds}

-- an item more in front
pub pushed : (kept more : List HyperItem) (i : HyperItem) (behind j : Items)
    → items_of (reverse kept) ≡ behind → more ≡ kept ++ i ∷ [] → then_items i behind ≡ j
    → items_of (reverse more) ≡ j
pushed kept more i behind j h e g =
    ap (λ (l : List HyperItem). items_of (reverse l)) e
    ∙ ap items_of (reverse-append kept (i ∷ [])) ∙ ap (then_items i) h ∙ g

-- an item that is dropped, and one that is kept
pub dropped_holds : (c : Bool) (t s : Trimmed) (w : Walk) → c ≡ true → Holds t w → Holds (cond c t s) w
dropped_holds true t s w e h = h
dropped_holds false t s w e h = absurd (let bad : false ≡ true = e in cc)

-- a walk that keeps an item holds what is kept
pub kept_holds : (c : Bool) (t s : Trimmed) (w : Walk) → c ≡ false → Holds s w → Holds (cond c t s) w
kept_holds true t s w e h = absurd (let bad : true ≡ false = e in cc)
kept_holds false t s w e h = h

-- ITEMS

-- a walk before an item, which is another term for these items
pub before_is : (leg : Bool) (i j : Items) (t : Trimmed) (w : Walk) → i ≡ j → Holds (trim leg j t) w
    → Holds (trim leg i t) w
before_is leg i j t w e h = subst (λ (x : Items). Holds (trim leg x t) w) (sym e) h

-- before an if-item
pub if_holds : (leg : Bool) (i : HyperItem) (test : Source) (xs zs ys ns : List HyperItem) (rest : Items)
    (u : Trimmed)
    (w v one other : Walk) → i ≡ item.If test xs zs → ys ≡ xs → ns ≡ zs → Holds (trim leg rest u) w
    → Holds (trim true (items_of ys) (ended w.live)) one → Holds (trim true (items_of ns) (ended w.live)) other
    → ((t p q : Trimmed) → Holds t w → Holds p one → Holds q other → Holds (if_before test p q t) v)
    → Holds (trim leg (then_items i rest) u) v
if_holds leg i test xs zs ys ns rest u w v one other is ey en h hp hq go =
    let t = trim leg rest u in
    let leg_is : (fs gs : List HyperItem) (l : Walk) → fs ≡ gs → Holds (trim true (items_of fs) (ended w.live)) l
    → Holds (trim true (items_of gs) (ended t.live)) l =
    λ fs gs l e g. subst (λ (n : ℕ). Holds (trim true (items_of gs) (ended n)) l) h.live
    (subst (λ (x : List HyperItem). Holds (trim true (items_of x) (ended w.live)) l) e g) in
    before_is leg (then_items i rest) (If test (items_of xs) (items_of zs) rest) u v
    (ap (λ (x : HyperItem). then_items x rest) is ∙ then_if test xs zs rest)
    (go t (trim true (items_of xs) (ended t.live)) (trim true (items_of zs) (ended t.live)) h
    (leg_is ys xs one ey hp) (leg_is ns zs other en hq))
