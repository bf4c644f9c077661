-- What forwarding keeps of blocks.
use Rattle.std.proofs.Common.{◌≡◌, ℕ, ◌+◌, ◌<◌, Bool, true, false, cond, ◌||◌}
use Rattle.std.proofs.Common.{refl, ap, ap₂, ◌∙◌, arith, nat_eq}
use Rattle.trips_isa.specs.declared.op.Op.{Op}
use Rattle.ir_forms.specs.declared.hyper.Source.{Source}
use Rattle.ir_forms.specs.declared.hyper.Source.TheVariants.{Const, Reg}
use Rattle.ir_forms.specs.inside.HyperCode.{Items, Done, Set, Load, Save, If, Tail, Leave, Test, Block}
use Rattle.ir_forms.specs.inside.HyperFits.{FitsSource, FitsItems, FitsTail, AllLeadOn, items_in, ifs_in}
use Rattle.ir_forms.specs.inside.HyperFits.{is_filled, filled_ifs}
use Rattle.ir_forms.specs.inside.HyperFits.{tests_in, exits_in}
use Rattle.hyper_trim.specs.inside.Forward.{Copies, none, source_in, reads, unless_read, forget, copied}
use Rattle.hyper_trim.specs.inside.Forward.{is_mov, behind_set}
use Rattle.hyper_trim.specs.inside.Forward.{forget_all, behind, forward, forward_tail, forward_block}
use Rattle.hyper_trim.specs.inside.Laws.{Shaped, ForwardingTrims}
use Rattle.hyper_trim.proofs.Forwards.{forwarding_is_same}
use Rattle.hyper_trim.proofs.Programs.{same_trims}

-- items with the same counts, which fit where those do
record Counts (i j : Items) : Type 0 where
  pub fits : FitsItems i → FitsItems j
  pub items : items_in j ≡ items_in i
  pub ifs : ifs_in j ≡ ifs_in i
  pub full : is_filled j ≡ is_filled i
  pub filled : filled_ifs j ≡ filled_ifs i

counts_itself : (i : Items) → Counts i i
counts_itself i = record { fits = λ x. x; items = refl; ifs = refl; full = refl; filled = refl }

counts_then : (i j k : Items) → Counts i j → Counts j k → Counts i k
counts_then i j k g h = record {
  fits = λ x. h.fits (g.fits x);
  items = h.items ∙ g.items;
  ifs = h.ifs ∙ g.ifs;
  full = h.full ∙ g.full;
  filled = h.filled ∙ g.filled;
}

set_counts : (t : ℕ) (op : Op) (a b : Source) (i j : Items) → Counts i j → Counts (Set t op a b i) (Set t op a b j)
set_counts t op a b i j g = record {
  fits = λ x. (x.0, x.1, x.2, x.3, g.fits x.4);
  items = ap suc_of g.items;
  ifs = g.ifs;
  full = refl;
  filled = g.filled;
}
  where
    suc_of : ℕ → ℕ
    suc_of n = 1 + n

load_counts : (t : ℕ) (op : Op) (a : Source) (i j : Items) → Counts i j → Counts (Load t op a i) (Load t op a j)
load_counts t op a i j g = record {
  fits = λ x. (x.0, x.1, x.2, g.fits x.3);
  items = ap (λ (n : ℕ). 1 + n) g.items;
  ifs = g.ifs;
  full = refl;
  filled = g.filled;
}

save_counts : (op : Op) (a v : Source) (i j : Items) → Counts i j → Counts (Save op a v i) (Save op a v j)
save_counts op a v i j g = record {
  fits = λ x. (x.0, x.1, x.2, g.fits x.3);
  items = ap (λ (n : ℕ). 1 + n) g.items;
  ifs = g.ifs;
  full = refl;
  filled = g.filled;
}

if_counts : (x : Source) (i1 j1 i2 j2 i j : Items) → Counts i1 j1 → Counts i2 j2 → Counts i j
    → Counts (If x i1 i2 i) (If x j1 j2 j)
if_counts x i1 j1 i2 j2 i j p q g = record {
  fits = λ h. (h.0, p.fits h.1, q.fits h.2, g.fits h.3);
  items = ap₂ (λ (u v : ℕ). u + v) (ap₂ (λ (u v : ℕ). u + v) p.items q.items) g.items;
  ifs = ap₂ (λ (u v : ℕ). 1 + (u + v)) (ap₂ (λ (u v : ℕ). u + v) p.ifs q.ifs) g.ifs;
  full = g.full;
  filled = ap₂ (λ (u v : ℕ). u + v) (ap₂ (λ (c d : Bool). cond (c || d) 1 0) p.full q.full)
      (ap₂ (λ (u v : ℕ). u + v) (ap₂ (λ (u v : ℕ). u + v) p.filled q.filled) g.filled);
}

-- the sources fit that are known
FitsCopies : Copies → Type 0
FitsCopies c = (r : ℕ) → r < 128 → FitsSource (c r)

source_fits : (c : Copies) → FitsCopies c → (x : Source) → FitsSource x → FitsSource (source_in c x)
unfolding FitsCopies
source_fits c f (Const w) h = h
source_fits c f (Reg r) h = f r h

choice_fits : (b : Bool) (x y : Source) → FitsSource x → FitsSource y → FitsSource (cond b x y)
choice_fits true x y h g = h
choice_fits false x y h g = g

forget_fits : (to : ℕ) (c : Copies) → FitsCopies c → FitsCopies (forget to c)
unfolding FitsCopies
forget_fits to c f r h =
    choice_fits (nat_eq r to) (Reg r) (unless_read to r (c r)) h
    (choice_fits (reads to (c r)) (Reg r) (c r) h (f r h))

copied_fits : (to : ℕ) (s : Source) (c : Copies) → FitsSource s → FitsCopies c → FitsCopies (copied to s c)
unfolding FitsCopies
copied_fits to s c g f r h =
    choice_fits (nat_eq r to) (unless_read to r s) (forget to c r) (choice_fits (reads to s) (Reg r) s h g)
    (forget_fits to c f r h)

set_fits : (op : Op) (to : ℕ) (s : Source) (c : Copies) → FitsSource s → FitsCopies c
    → FitsCopies (behind_set op to s c)
set_fits op to s c g f = go (is_mov op)
  where
    go : (b : Bool) → FitsCopies (cond b (copied to s c) (forget to c))
    go true = copied_fits to s c g f
    go false = forget_fits to c f

forget_all_fits : (i : Items) (c : Copies) → FitsCopies c → FitsCopies (forget_all i c)
forget_all_fits Done c f = f
forget_all_fits (Set to op a b rest) c f = forget_all_fits rest (forget to c) (forget_fits to c f)
forget_all_fits (Load to op a rest) c f = forget_all_fits rest (forget to c) (forget_fits to c f)
forget_all_fits (Save op a v rest) c f = forget_all_fits rest c f
forget_all_fits (If x one other rest) c f =
    forget_all_fits rest (forget_all other (forget_all one c))
    (forget_all_fits other (forget_all one c) (forget_all_fits one c f))

forward_fits : (i : Items) (c : Copies) → FitsCopies c → FitsItems i → FitsItems (forward i c)
forward_fits Done c f h = tt
forward_fits (Set to op a b rest) c f h = (
  h.0,
  h.1,
  source_fits c f a h.2,
  source_fits c f b h.3,
  forward_fits rest (behind_set op to (source_in c a) c)
      (set_fits op to (source_in c a) c (source_fits c f a h.2) f) h.4,
)
forward_fits (Load to op a rest) c f h =
    (h.0, h.1, source_fits c f a h.2, forward_fits rest (forget to c) (forget_fits to c f) h.3)
forward_fits (Save op a v rest) c f h =
    (h.0, source_fits c f a h.1, source_fits c f v h.2, forward_fits rest c f h.3)
forward_fits (If x one other rest) c f h = (
  source_fits c f x h.0,
  forward_fits one c f h.1,
  forward_fits other c f h.2,
  forward_fits rest (forget_all other (forget_all one c))
      (forget_all_fits other (forget_all one c) (forget_all_fits one c f)) h.3,
)

behind_fits : (i : Items) (c : Copies) → FitsCopies c → FitsItems i → FitsCopies (behind i c)
behind_fits Done c f h = f
behind_fits (Set to op a b rest) c f h =
    behind_fits rest (behind_set op to (source_in c a) c)
    (set_fits op to (source_in c a) c (source_fits c f a h.2) f) h.4
behind_fits (Load to op a rest) c f h = behind_fits rest (forget to c) (forget_fits to c f) h.3
behind_fits (Save op a v rest) c f h = behind_fits rest c f h.3
behind_fits (If x one other rest) c f h =
    behind_fits rest (forget_all other (forget_all one c))
    (forget_all_fits other (forget_all one c) (forget_all_fits one c f)) h.3

tail_fits : (t : Tail) (c : Copies) → FitsCopies c → FitsTail t → FitsTail (forward_tail t c)
tail_fits (Leave e) c f h = h
tail_fits (Test x one other) c f h = (source_fits c f x h.0, tail_fits one c f h.1, tail_fits other c f h.2)

none_fits : FitsCopies none
unfolding FitsCopies
none_fits r h = h

tail_leads : (t : Tail) (c : Copies) (k n : ℕ) → AllLeadOn k n t → AllLeadOn k n (forward_tail t c)
tail_leads (Leave e) c k n h = h
tail_leads (Test x one other) c k n h = (tail_leads one c k n h.0, tail_leads other c k n h.1)

tail_tests : (t : Tail) (c : Copies) → tests_in (forward_tail t c) ≡ tests_in t
tail_tests (Leave e) c = refl
tail_tests (Test x one other) c = ap₂ (λ (u v : ℕ). 1 + (u + v)) (tail_tests one c) (tail_tests other c)

tail_exits : (t : Tail) (c : Copies) → exits_in (forward_tail t c) ≡ exits_in t
tail_exits (Leave e) c = refl
tail_exits (Test x one other) c = ap₂ (λ (u v : ℕ). u + v) (tail_exits one c) (tail_exits other c)

-- whatever is known, the counts are the same
record Numbers (i j : Items) : Type 0 where
  pub items : items_in j ≡ items_in i
  pub ifs : ifs_in j ≡ ifs_in i
  pub full : is_filled j ≡ is_filled i
  pub filled : filled_ifs j ≡ filled_ifs i

numbers : (i : Items) (c : Copies) → Numbers i (forward i c)
numbers Done c = record { items = refl; ifs = refl; full = refl; filled = refl }
numbers (Set to op a b rest) c =
    let g = numbers rest (behind_set op to (source_in c a) c) in
    record { items = ap (λ (n : ℕ). 1 + n) g.items; ifs = g.ifs; full = refl; filled = g.filled }
numbers (Load to op a rest) c =
    let g = numbers rest (forget to c) in
    record { items = ap (λ (n : ℕ). 1 + n) g.items; ifs = g.ifs; full = refl; filled = g.filled }
numbers (Save op a v rest) c =
    let g = numbers rest c in
    record { items = ap (λ (n : ℕ). 1 + n) g.items; ifs = g.ifs; full = refl; filled = g.filled }
numbers (If x one other rest) c =
    let p = numbers one c in
    let q = numbers other c in
    let g = numbers rest (forget_all other (forget_all one c)) in
    record {
      items = ap₂ (λ (u v : ℕ). u + v) (ap₂ (λ (u v : ℕ). u + v) p.items q.items) g.items;
      ifs = ap₂ (λ (u v : ℕ). 1 + (u + v)) (ap₂ (λ (u v : ℕ). u + v) p.ifs q.ifs) g.ifs;
      full = g.full;
      filled = ap₂ (λ (u v : ℕ). u + v) (ap₂ (λ (s t : Bool). cond (s || t) 1 0) p.full q.full)
          (ap₂ (λ (u v : ℕ). u + v) (ap₂ (λ (u v : ℕ). u + v) p.filled q.filled) g.filled);
    }

forward_shaped : (b : Block) → Shaped b (forward_block b)
forward_shaped b =
    let g = numbers b.items none in
    let c = behind b.items none in
    record {
      fits = λ h. record {
        items = forward_fits b.items none none_fits h.items;
        tail = tail_fits b.tail c (behind_fits b.items none none_fits h.items) h.tail;
      };
      leads = λ k n h. tail_leads b.tail c k n h;
      fewer = let e = g.items in omega (arith, e);
      ifs = g.ifs;
      tests = tail_tests b.tail c;
      exits = tail_exits b.tail c;
      filled = g.filled;
    }

-- programs are trimmed whose blocks are forwarded
pub forwarding_trims : ForwardingTrims
forwarding_trims P = same_trims forward_block refl forwarding_is_same forward_shaped P
