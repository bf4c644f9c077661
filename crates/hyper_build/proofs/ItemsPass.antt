-- Items that go on: a block goes on behind items that pass.
use Rattle.std.proofs.Common.{◌≡◌, ℕ, zero, suc, Bool, true, false, cond}
use Rattle.std.proofs.Common.{not, ◌&&◌, List, ◌∷◌, ◌++◌, refl, sym, ap, ◌∙◌}
use Rattle.trips_isa.specs.declared.op.Op.{Op}
use Rattle.trips_isa.specs.Alu.{alu_of}
use Rattle.trips_isa.specs.Forms.{size_of}
use Rattle.trips_isa.specs.Stores.{is_good_address}
use Rattle.ir_forms.specs.declared.hyper.Source.{Source}
use Rattle.trips_isa.specs.inside.Acts.{Act, Accessed, divisions, is_clean}
use Rattle.ir_forms.specs.inside.HyperCode.{Items, Done, Set, Load, Save, If, Block}
use Rattle.ir_forms.specs.inside.HyperRuns.{Machine, Standing, Unclean, with_register, value_of, loaded, saved}
use Rattle.ir_forms.specs.inside.HyperRuns.{pick, after_items, acts, exit_of, leave, run}
use Rattle.ir_forms.specs.inside.HyperRuns as machine
use Rattle.hyper_build.specs.inside.World.{World, Goes}
use Rattle.hyper_build.proofs.Goes.{clean_append, goes_same}

-- ITEMS BEFORE OTHERS

-- Items before others lead from a machine to another, put nothing out, and nothing that they do faults
-- where faults are looked for.
pub record Passes (W : World) (its : Items → Items) (m m1 : Machine) : Type 0 where
  pub after : (rest : Items) → after_items (its rest) m ≡ after_items rest m1
  pub clean : W.check ≡ true → (rest : Items)
      → is_clean (acts (its rest) m) ≡ is_clean (acts rest m1)
  pub output : m1.output ≡ m.output

-- no items pass, and change nothing
pub passes_none : (W : World) (m : Machine) → Passes W (λ k. k) m m
passes_none W m = record { after = λ rest. refl; clean = λ t rest. refl; output = refl }

-- items that pass, behind others that pass, pass
pub passes_then : (W : World) (a b : Items → Items) (m m1 m2 : Machine) → Passes W a m m1
    → Passes W b m1 m2 → Passes W (λ k. a (b k)) m m2
passes_then W a b m m1 m2 p q = record {
  after = λ rest. p.after (b rest) ∙ q.after rest;
  clean = λ t rest. p.clean t (b rest) ∙ q.clean t rest;
  output = q.output ∙ p.output;
}

-- a block with more items before its own
abbrev pub with_items : (Items → Items) → Block → Block
with_items its k = record { items = its k.items; tail = k.tail }

-- a block goes on behind items that pass
pub goes_passed : (W : World) (its : Items → Items) (m m1 : Machine) (k : Block) → Passes W its m m1
    → Goes W (with_items its k) m 0 k m1
goes_passed W its m m1 k p = goes_same W (with_items its k) k m m1 go
  where
    same : (c : Bool) (x y : Bool) (a b : Standing) → (c ≡ true → x ≡ y) → a ≡ b
        → cond (c && not x) Unclean a ≡ cond (c && not y) Unclean b
    same true x y a b h e =
        ap (λ z. cond (not z) Unclean a) (h refl) ∙ ap (λ z. cond (not y) Unclean z) e
    same false x y a b h e = e

    go : (n : ℕ) → run W.check W.at W.program n (with_items its k) m
        ≡ run W.check W.at W.program n k m1
    go zero = ap machine.Running (sym p.output)
    go (suc n) =
        same W.check (is_clean (acts (its k.items) m)) (is_clean (acts k.items m1)) _ _
        (λ t. p.clean t k.items)
        (ap (λ (z : Machine). leave W.at W.program (run W.check W.at W.program n)
        (exit_of k.tail z.registers) z) (p.after k.items))

-- ONE ITEM

-- an operation passes, and its register holds the result
pub passes_set : (W : World) (r : ℕ) (op : Op) (x y : Source) (m : Machine)
    → (W.check ≡ true → is_clean (divisions op (value_of m.registers y)) ≡ true)
    → Passes W (λ k. Set r op x y k) m
    (with_register m r (alu_of op (value_of m.registers x) (value_of m.registers y)))
passes_set W r op x y m h =
    let m1 = with_register m r (alu_of op (value_of m.registers x) (value_of m.registers y)) in
    record {
      after = λ rest. refl;
      clean = λ t rest.
          clean_append (divisions op (value_of m.registers y)) (acts rest m1) (h t);
      output = refl;
    }

clean_access : (a n : ℕ) (rest : List Act) → is_good_address a n ≡ true
    → is_clean (Accessed a n ∷ rest) ≡ is_clean rest
clean_access a n rest h = ap (λ g. not (not g) && is_clean rest) h

-- a load passes, and its register holds what stands in memory
pub passes_load : (W : World) (r : ℕ) (op : Op) (x : Source) (m : Machine)
    → (W.check ≡ true → is_good_address (value_of m.registers x) (size_of op) ≡ true)
    → Passes W (λ k. Load r op x k) m
    (with_register m r (loaded op m.memory (value_of m.registers x)))
passes_load W r op x m h =
    let m1 = with_register m r (loaded op m.memory (value_of m.registers x)) in
    record {
      after = λ rest. refl;
      clean = λ t rest.
          clean_access (value_of m.registers x) (size_of op) (acts rest m1) (h t);
      output = refl;
    }

-- a store passes, and memory holds what is stored
pub passes_save : (W : World) (op : Op) (x y : Source) (m : Machine)
    → (W.check ≡ true → is_good_address (value_of m.registers x) (size_of op) ≡ true)
    → Passes W (λ k. Save op x y k) m (machine.with_memory m
    (saved op m.memory (value_of m.registers x) (value_of m.registers y)))
passes_save W op x y m h =
    let m1 = machine.with_memory m
    (saved op m.memory (value_of m.registers x) (value_of m.registers y)) in
    record {
      after = λ rest. refl;
      clean = λ t rest.
          clean_access (value_of m.registers x) (size_of op) (acts rest m1) (h t);
      output = refl;
    }

-- the leg that the test chooses passes
pub passes_if : (W : World) (t : Source) (one other : Items → Items) (m m1 : Machine) (v : ℕ)
    → value_of m.registers t ≡ v → Passes W (pick v one other) m m1
    → Passes W (λ k. If t (one Done) (other Done) k) m m1
passes_if W t one other m m1 v e p = record {
  after = λ rest. ap (after_items rest) (ap (λ v. pick v (after_items (one Done) m)
      (after_items (other Done) m)) e ∙ after v p);
  clean = λ c rest.
      let same = ap (λ v. pick v (after_items (one Done) m) (after_items (other Done) m)) e
      ∙ after v p in
      ap (λ (z : Machine). is_clean (pick (value_of m.registers t) (acts (one Done) m)
      (acts (other Done) m) ++ acts rest z)) same
      ∙ clean_append (pick (value_of m.registers t) (acts (one Done) m) (acts (other Done) m))
      (acts rest m1)
      (ap (λ v. is_clean (pick v (acts (one Done) m) (acts (other Done) m))) e ∙ clean v p c);
  output = p.output;
}
  where
    after : (v : ℕ) → Passes W (pick v one other) m m1
        → pick v (after_items (one Done) m) (after_items (other Done) m) ≡ m1
    after zero p = p.after Done
    after (suc v) p = p.after Done

    clean : (v : ℕ) → Passes W (pick v one other) m m1 → W.check ≡ true
        → is_clean (pick v (acts (one Done) m) (acts (other Done) m)) ≡ true
    clean zero p c = p.clean c Done
    clean (suc v) p c = p.clean c Done
