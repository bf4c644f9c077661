-- What lists of copies say.
use Rattle.std.proofs.Common.{◌≡◌, ℕ, Bool, true, false, cond, List, [], ◌∷◌, ◌++◌, map, refl, sym, ap, ap₂, ◌∙◌}
use Rattle.std.proofs.Common.{nat_eq, not, ◌&&◌, ◌||◌, inl, inr, ne_eqb}
use Rattle.std.proofs.lemmas.Bool.{cases_eq}
use mathlib.Core.Path.{fun_ext}
use Rattle.ir_forms.specs.declared.hyper.Source.{Source}
use Rattle.ir_forms.specs.declared.hyper.Source.TheVariants.{Reg}
use Rattle.ir_forms.specs.declared.hyper.HyperItem.{HyperItem}
use Rattle.ir_forms.specs.inside.HyperCode.{Items, Done}
use Rattle.ir_forms.specs.inside.HyperViews.{items_of, then_items}
use Rattle.hyper_trim.specs.declared.forwarding.Entry.{Entry}
use Rattle.hyper_trim.specs.inside.Forward.{Copies, reads, unless_read, forget, copied}
use Rattle.hyper_trim.specs.inside.Entries.{from, copies_of, forgotten, is_known, any_known, before}

forget_one : ℕ → ℕ → Source → Source
forget_one to r s = cond (nat_eq r to) (Reg r) (unless_read to r s)

-- of the entry of this register, and of others
one_more : (to r : ℕ) (e : Entry) (s : Source) → (nat_eq r e.register ≡ true → r ≡ e.register)
    → cond (nat_eq r e.register) (forgotten to e).source (forget_one to r s)
    ≡ forget_one to r (cond (nat_eq r e.register) e.source s)
unfolding forget_one
one_more to r e s same = go (nat_eq r e.register) same
  where
    go : (b : Bool) → (b ≡ true → r ≡ e.register) → cond b (forgotten to e).source (forget_one to r s)
        ≡ forget_one to r (cond b e.source s)
    go true h = ap (λ (q : ℕ). forget_one to q e.source) (sym (h refl))
    go false h = refl

forget_from : (l : List Entry) (to r : ℕ) (s : Source) → ((e : Entry) → nat_eq r e.register ≡ true → r ≡ e.register)
    → from (forget_one to r s) (map (forgotten to) l) r ≡ forget_one to r (from s l r)
forget_from [] to r s same = refl
forget_from (e ∷ l) to r s same =
    ap (λ (x : Source). from x (map (forgotten to) l) r) (one_more to r e s (same e))
    ∙ forget_from l to r (cond (nat_eq r e.register) e.source s) same

itself : (to r : ℕ) → Reg r ≡ forget_one to r (Reg r)
unfolding forget_one
itself to r = go (nat_eq r to)
  where
    go : (b : Bool) → Reg r ≡ cond b (Reg r) (cond b (Reg r) (Reg r))
    go true = refl
    go false = refl

is_same : (r k : ℕ) → nat_eq r k ≡ true → r ≡ k
is_same r k e = elim (cases_eq r k) [
  | inl same ↦ same
  | inr other ↦ absurd (let bad : true ≡ false = sym e ∙ ne_eqb r k other in cc)
]

-- an entry of each register forgotten is that of the function
pub forget_list : (l : List Entry) (to : ℕ) → copies_of (map (forgotten to) l) ≡ forget to (copies_of l)
unfolding forget_one
forget_list l to = fun_ext (λ r.
    ap (λ (x : Source). from x (map (forgotten to) l) r) (itself to r)
    ∙ forget_from l to r (Reg r) (λ e h. is_same r e.register h))

or_none : (a b : Bool) → (a || b) ≡ false → (a ≡ false) × (b ≡ false)
or_none true b e = absurd (cc)
or_none false b e = (refl, e)

forgotten_same : (to : ℕ) (e : Entry) → is_known to e ≡ false → forgotten to e ≡ e
forgotten_same to e h = go (nat_eq e.register to) (reads to e.source) h
  where
    go : (a b : Bool) → (a || b) ≡ false
        → record { register = e.register; source = cond a (Reg e.register) (cond b (Reg e.register) e.source) } ≡ e
    go true b h = absurd (cc)
    go false true h = absurd (cc)
    go false false h = refl

none_known : (to : ℕ) (l : List Entry) → any_known to l ≡ false → map (forgotten to) l ≡ l
none_known to [] h = refl
none_known to (e ∷ l) h =
    let parts = or_none (is_known to e) (any_known to l) h in
    ap₂ (λ (x : Entry) (y : List Entry). x ∷ y) (forgotten_same to e parts.0) (none_known to l parts.1)

-- where no entry is of a register or of one that has its word, nothing is forgotten
pub forget_none : (l : List Entry) (to : ℕ) → any_known to l ≡ false → copies_of l ≡ forget to (copies_of l)
forget_none l to h = sym (ap copies_of (none_known to l h)) ∙ forget_list l to

from_more : (l : List Entry) (e : Entry) (s : Source) (r : ℕ)
    → from s (l ++ e ∷ []) r ≡ cond (nat_eq r e.register) e.source (from s l r)
from_more [] e s r = refl
from_more (x ∷ l) e s r = from_more l e (cond (nat_eq r x.register) x.source s) r

-- behind an item of which nothing is known
pub behind_kept : (op_mov read : Bool) (to : ℕ) (s : Source) (c : Copies) → reads to s ≡ read
    → op_mov && not read ≡ false → cond op_mov (copied to s c) (forget to c) ≡ forget to c
behind_kept false read to s c e h = refl
behind_kept true false to s c e h = absurd (let bad : true ≡ false = h in cc)
behind_kept true true to s c e h = fun_ext (λ r.
    ap (λ (b : Bool). cond (nat_eq r to) (cond b (Reg r) s) (forget to c r)) e
    ∙ go (nat_eq r to) (Reg r) (unless_read to r (c r)))
  where
    go : (b : Bool) (x y : Source) → cond b x (cond b x y) ≡ cond b x y
    go true x y = refl
    go false x y = refl

-- behind one of which an entry is kept
pub behind_more : (l : List Entry) (op_mov read : Bool) (to : ℕ) (s : Source) (c : Copies) → reads to s ≡ read
    → op_mov && not read ≡ true → copies_of l ≡ forget to c
    → copies_of (l ++ (record { register = to; source = s }) ∷ []) ≡ cond op_mov (copied to s c) (forget to c)
behind_more l false read to s c e m h = absurd (let bad : false ≡ true = m in cc)
behind_more l true true to s c e m h = absurd (let bad : false ≡ true = m in cc)
behind_more l true false to s c e m h = fun_ext (λ r.
    from_more l (record { register = to; source = s }) (Reg r) r
    ∙ ap (λ (x : Source). cond (nat_eq r to) s x) (ap (λ (f : Copies). f r) h)
    ∙ ap (λ (b : Bool). cond (nat_eq r to) (cond b (Reg r) s) (forget to c r)) (sym e))

-- ITEMS IN A LIST

-- declared items before none
pub before_done : (l : List HyperItem) → before l Done ≡ items_of l
before_done [] = refl
before_done (i ∷ l) = ap (then_items i) (before_done l)

-- one item more
pub before_more : (l : List HyperItem) (i : HyperItem) (rest : Items)
    → before (l ++ i ∷ []) rest ≡ before l (then_items i rest)
before_more [] i rest = refl
before_more (x ∷ l) i rest = ap (then_items x) (before_more l i rest)
