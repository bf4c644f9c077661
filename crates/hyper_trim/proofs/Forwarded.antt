-- Items forwarded, each as it is declared.
use Rattle.std.proofs.Common.{◌≡◌, ℕ, List, refl, sym, ap, ap₂, ◌∙◌}
use Rattle.trips_isa.specs.declared.op.Op.{Op}
use Rattle.ir_forms.specs.declared.hyper.Source.{Source}
use Rattle.ir_forms.specs.declared.hyper.HyperItem.{HyperItem}
use Rattle.ir_forms.specs.declared.hyper.HyperItem.TheVariants as item
use Rattle.ir_forms.specs.inside.HyperCode.{Items, Set, Load, Save, If}
use Rattle.ir_forms.specs.inside.HyperViews.{items_of, then_items}
use Rattle.ir_forms.proofs.Views.{then_set, then_load, then_save, then_if}
use Rattle.hyper_trim.specs.inside.Forward.{Copies, source_in, forget, behind_set, forget_all, behind, forward}

module _ (c d : Copies) (i : HyperItem) (rest : Items) where
  module _ (j : Items) (is : then_items i rest ≡ j) where
    -- what items leave unknown, where what stands behind the first is known
    pub forget_is : forget_all rest d ≡ forget_all j c → forget_all rest d ≡ forget_all (then_items i rest) c
    forget_is e = e ∙ sym (ap (λ (x : Items). forget_all x c) is)

    -- what is known behind items, so
    pub behind_is : behind rest d ≡ behind j c → behind rest d ≡ behind (then_items i rest) c
    behind_is e = e ∙ sym (ap (λ (x : Items). behind x c) is)

    -- items forwarded, so
    pub forward_is : (f : Items) → f ≡ forward j c → f ≡ forward (then_items i rest) c
    forward_is f e = e ∙ sym (ap (λ (x : Items). forward x c) is)

  -- a declared item that sets a register, before others
  pub set_is : (to : ℕ) (op : Op) (a b : Source) → i ≡ item.Set to op a b → then_items i rest ≡ Set to op a b rest
  set_is to op a b e = ap (λ (x : HyperItem). then_items x rest) e ∙ then_set to op a b rest

  -- a load
  pub load_is : (to : ℕ) (op : Op) (a : Source) → i ≡ item.Load to op a → then_items i rest ≡ Load to op a rest
  load_is to op a e = ap (λ (x : HyperItem). then_items x rest) e ∙ then_load to op a rest

  -- a save
  pub save_is : (op : Op) (a v : Source) → i ≡ item.Save op a v → then_items i rest ≡ Save op a v rest
  save_is op a v e = ap (λ (x : HyperItem). then_items x rest) e ∙ then_save op a v rest

  -- an if
  pub if_is : (x : Source) (ys ns : List HyperItem) → i ≡ item.If x ys ns
      → then_items i rest ≡ If x (items_of ys) (items_of ns) rest
  if_is x ys ns e = ap (λ (z : HyperItem). then_items z rest) e ∙ then_if x ys ns rest

  -- SET

  module _ (to : ℕ) (op : Op) (a b x y : Source) (is : i ≡ item.Set to op a b) (ex : x ≡ source_in c a)
      (ey : y ≡ source_in c b) (ed : d ≡ behind_set op to x c)
    where
      set_known : d ≡ behind_set op to (source_in c a) c
      set_known = ed ∙ ap (λ (u : Source). behind_set op to u c) ex

      -- one that sets a register, forwarded before others that are
      pub set_items : then_items (item.Set to op x y) (forward rest d) ≡ forward (then_items i rest) c
      set_items =
          forward_is (Set to op a b rest) (set_is to op a b is) (then_items (item.Set to op x y) (forward rest d))
          (then_set to op x y (forward rest d) ∙ ap₂ (λ (u v : Source). Set to op u v (forward rest d)) ex ey
          ∙ ap (λ (k : Copies). Set to op (source_in c a) (source_in c b) (forward rest k)) set_known)

      -- and what is known behind
      pub set_behind : behind rest d ≡ behind (then_items i rest) c
      set_behind = behind_is (Set to op a b rest) (set_is to op a b is) (ap (behind rest) set_known)

  -- LOAD

  module _ (to : ℕ) (op : Op) (a x : Source) (is : i ≡ item.Load to op a) (ex : x ≡ source_in c a)
      (ed : d ≡ forget to c)
    where
      -- a load, forwarded
      pub load_items : then_items (item.Load to op x) (forward rest d) ≡ forward (then_items i rest) c
      load_items =
          forward_is (Load to op a rest) (load_is to op a is) (then_items (item.Load to op x) (forward rest d))
          (then_load to op x (forward rest d)
          ∙ ap₂ (λ (u : Source) (k : Copies). Load to op u (forward rest k)) ex ed)

      -- and what is known behind it
      pub load_behind : behind rest d ≡ behind (then_items i rest) c
      load_behind = behind_is (Load to op a rest) (load_is to op a is) (ap (behind rest) ed)

  -- IF

  module _ (a x : Source) (ys ns one other : List HyperItem) (is : i ≡ item.If a ys ns) (ex : x ≡ source_in c a)
      (e1 : items_of one ≡ forward (items_of ys) c) (e2 : items_of other ≡ forward (items_of ns) c)
      (ed : d ≡ forget_all (items_of ns) (forget_all (items_of ys) c))
    where
      -- an if, forwarded
      pub if_items : then_items (item.If x one other) (forward rest d) ≡ forward (then_items i rest) c
      if_items =
          forward_is (If a (items_of ys) (items_of ns) rest) (if_is a ys ns is)
          (then_items (item.If x one other) (forward rest d))
          (then_if x one other (forward rest d)
          ∙ ap₂ (λ (u : Source) (k : Copies). If u (items_of one) (items_of other) (forward rest k)) ex ed
          ∙ ap₂ (λ (p q : Items). If (source_in c a) p q
          (forward rest (forget_all (items_of ns) (forget_all (items_of ys) c)))) e1 e2)

      -- and what is known behind it
      pub if_behind : behind rest d ≡ behind (then_items i rest) c
      if_behind = behind_is (If a (items_of ys) (items_of ns) rest) (if_is a ys ns is) (ap (behind rest) ed)

-- SAVE

module _ (c : Copies) (i : HyperItem) (rest : Items) (op : Op) (a v x y : Source) (is : i ≡ item.Save op a v) where
  -- a save, forwarded
  pub save_items : x ≡ source_in c a → y ≡ source_in c v
      → then_items (item.Save op x y) (forward rest c) ≡ forward (then_items i rest) c
  save_items ex ey =
      forward_is c c i rest (Save op a v rest) (save_is c c i rest op a v is)
      (then_items (item.Save op x y) (forward rest c))
      (then_save op x y (forward rest c) ∙ ap₂ (λ (u w : Source). Save op u w (forward rest c)) ex ey)

  -- and what is known behind it
  pub save_behind : behind rest c ≡ behind (then_items i rest) c
  save_behind = behind_is c c i rest (Save op a v rest) (save_is c c i rest op a v is) refl
