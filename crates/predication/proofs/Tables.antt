-- Tables that agree with a list of nodes, the entries of registers, and operands.
use Rattle.std.proofs.Common.{◌≡◌, ◌≢◌, ℕ, zero, suc, ◌+◌, ◌/◌, ◌≤◌, List, [], ◌∷◌, ◌++◌, length, refl, sym, ap}
use Rattle.std.proofs.Common.{subst, arith, cond, nat_eq, nat_lt, Bool, true, false}
use Rattle.std.specs.Prelude.{Option, Some, None}
use Rattle.trips_isa.specs.declared.form.Form.{Form}
use Rattle.trips_isa.specs.declared.form.Form.TheVariants as form
use Rattle.trips_isa.specs.declared.block.Token.TheVariants.{Null, Word}
use Rattle.trips_isa.specs.declared.block.Stored.{Stored}
use Rattle.trips_isa.specs.Forms.{form_of}
use Rattle.trips_isa.specs.Rule.{Answer, if_matched}
use Rattle.trips_isa.specs.Tables.{or_else}
use Rattle.ir_forms.specs.declared.hyper.Source.{Source}
use Rattle.ir_forms.specs.declared.hyper.Source.TheVariants.{Const, Reg}
use Rattle.ir_forms.specs.declared.flow.FlowSource.{FlowSource}
use Rattle.ir_forms.specs.declared.flow.FlowNode.{FlowNode}
use Rattle.ir_forms.specs.inside.HyperRuns.{register_put}
use Rattle.ir_forms.specs.inside.FlowRuns.{Computes, got, first, guard_token, gives, met, stored_where, present}
use Rattle.ir_forms.specs.inside.FlowRuns.{count}
use Rattle.ir_forms.specs.inside.FlowFits.{AtMostOne}
use Rattle.predication.specs.inside.Environments.{Scope, Entry, Env, put, from_node, both}
use Rattle.predication.specs.inside.Operands.{Chain, longer, chain, movs, froms, read_of, operand, second}

-- how many of the scopes are met
abbrev pub total : (ℕ → Answer) → List Scope → ℕ
total h [] = 0
total h (g ∷ gs) = cond (met h g) 1 0 + total h gs

-- absent, or this word
abbrev pub Is : Answer → ℕ → Type 0
Is None v = Unit {0}
Is (Some Null) v = ⊥
Is (Some (Word w)) v = w ≡ v

module _ (regs : ℕ → ℕ) (h : ℕ → Answer) where
  -- SOURCES

  pub count_append : (a b : List FlowSource) → count regs h (a ++ b) ≡ count regs h a + count regs h b
  count_append [] b = omega arith
  count_append (s ∷ a) b = omega (arith, count_append a b)

  pub total_append : (a b : List Scope) → total h (a ++ b) ≡ total h a + total h b
  total_append [] b = omega arith
  total_append (s ∷ a) b = omega (arith, total_append a b)

  -- each source that is there gives this word
  abbrev pub Each : List FlowSource → ℕ → Type 0
  Each [] v = Unit {0}
  Each (s ∷ ss) v = Is (got regs h s) v × Each ss v

  pub each_append : (a b : List FlowSource) (v : ℕ) → Each a v → Each b v → Each (a ++ b) v
  each_append [] b v x y = y
  each_append (s ∷ a) b v x y = (x.0, each_append a b v x.1 y)

  absent_is : (t : Answer) (v : ℕ) → present t ≡ 0 → Is t v
  absent_is None v e = tt
  absent_is (Some t) v e = absurd (omega arith)

  pub dead_each : (a : List FlowSource) (v : ℕ) → count regs h a ≡ 0 → Each a v
  dead_each [] v e = tt
  dead_each (s ∷ a) v e = (absent_is (got regs h s) v (omega arith), dead_each a v (omega arith))

  absent_none : (t : Answer) → present t ≡ 0 → t ≡ None
  absent_none None e = refl
  absent_none (Some t) e = absurd (omega arith)

  -- sources of which none is there give nothing
  pub first_none : (a : List FlowSource) → count regs h a ≡ 0 → first regs h a ≡ None
  first_none [] e = refl
  first_none (s ∷ a) e = rw (absent_none (got regs h s) (omega arith), first_none a (omega arith)) refl

  first_step : (t u : Answer) (n v : ℕ) → present t + n ≡ 1 → Is t v → (n ≡ 1 → u ≡ Some (Word v)) → or_else t u
      ≡ Some (Word v)
  first_step None u n v e i f = f (omega arith)
  first_step (Some Null) u n v e i f = absurd i
  first_step (Some (Word w)) u n v e i f = ap (λ (x : ℕ). Some (Word x)) i

  -- sources of which one is there, each with this word where it is, give the word
  pub first_word : (a : List FlowSource) (v : ℕ) → count regs h a ≡ 1 → Each a v → first regs h a ≡ Some (Word v)
  first_word [] v e x = absurd (omega arith)
  first_word (s ∷ a) v e x = first_step (got regs h s) (first regs h a) (count regs h a) v e x.0
      (λ o. first_word a v o x.1)

  -- at most one token is there
  pub present_most : (t : Answer) → present t ≤ 1
  present_most None = omega arith
  present_most (Some t) = omega arith

  -- ENTRIES

  -- no null token stands at the guard
  abbrev pub Clear : Scope → Type 0
  Clear g = guard_token h g ≢ Some Null

  abbrev pub AllClear : List Scope → Type 0
  AllClear [] = Unit {0}
  AllClear (g ∷ gs) = Clear g × AllClear gs

  pub clear_append : (a b : List Scope) → AllClear a → AllClear b → AllClear (a ++ b)
  clear_append [] b x y = y
  clear_append (g ∷ a) b x y = (x.0, clear_append a b x.1 y)

  -- exactly one source is there or scope is met; v is the register's word, and old what the block found in it
  pub record Sound (e : Entry) (v old : ℕ) : Type 0 where
    pub single : count regs h e.given + total h e.kept ≡ 1
    pub word : Each e.given v
    pub same : count regs h e.given ≡ 0 → v ≡ old
    pub clear : AllClear e.kept

  -- nothing that stands for a register is there
  pub record Dead (e : Entry) : Type 0 where
    pub given : count regs h e.given ≡ 0
    pub kept : total h e.kept ≡ 0
    pub clear : AllClear e.kept

  -- at most one of what stands for a register is there
  pub record Few (e : Entry) : Type 0 where
    pub most : count regs h e.given + total h e.kept ≤ 1
    pub clear : AllClear e.kept

  pub sound_few : (e : Entry) (v old : ℕ) → Sound e v old → Few e
  sound_few e v old s = record { most = omega (arith, s.single); clear = s.clear }

  -- where none is there, at most one is
  pub dead_few : (e : Entry) → Dead e → Few e
  dead_few e d = record { most = omega (arith, d.given, d.kept); clear = d.clear }

  -- a sound entry beside a dead one is sound
  pub sound_dead : (a b : Entry) (v old : ℕ) → Sound a v old → Dead b → Sound (both a b) v old
  sound_dead a b v old s d = record {
    single = omega (arith, count_append a.given b.given, total_append a.kept b.kept, s.single, d.given, d.kept);
    word = each_append a.given b.given v s.word (dead_each b.given v d.given);
    same = λ e. s.same (omega (arith, count_append a.given b.given));
    clear = clear_append a.kept b.kept s.clear d.clear;
  }

  -- a dead entry beside a sound one is sound
  pub dead_sound : (a b : Entry) (v old : ℕ) → Dead a → Sound b v old → Sound (both a b) v old
  dead_sound a b v old d s = record {
    single = omega (arith, count_append a.given b.given, total_append a.kept b.kept, s.single, d.given, d.kept);
    word = each_append a.given b.given v (dead_each a.given v d.given) s.word;
    same = λ e. s.same (omega (arith, count_append a.given b.given));
    clear = clear_append a.kept b.kept d.clear s.clear;
  }

  -- a dead entry beside a dead one is dead
  pub dead_dead : (a b : Entry) → Dead a → Dead b → Dead (both a b)
  dead_dead a b x y = record {
    given = omega (arith, count_append a.given b.given, x.given, y.given);
    kept = omega (arith, total_append a.kept b.kept, x.kept, y.kept);
    clear = clear_append a.kept b.kept x.clear y.clear;
  }

  -- each register's entry, where vals are the registers' words now
  abbrev pub Live : Env → (ℕ → ℕ) → Type 0
  Live env vals = (q : ℕ) → Sound (env q) (vals q) (regs q)

  -- of what stands for each register at most one is there
  abbrev pub Sparse : Env → Type 0
  Sparse env = (q : ℕ) → Few (env q)

  -- where each register stands for its word, at most one of its sources is there
  pub live_sparse : (env : Env) (vals : ℕ → ℕ) → Live env vals → Sparse env
  live_sparse env vals l q = sound_few (env q) (vals q) (regs q) (l q)

  -- a node with a word stands for this word
  pub from_sound : (j v old : ℕ) → h j ≡ Some (Word v) → Sound (from_node j) v old
  from_sound j v old e = record {
    single = let p : present (h j) ≡ 1 = rw e refl in omega arith;
    word = (rw e refl, tt);
    same = λ z. let p : present (h j) ≡ 1 = rw e refl in absurd (omega arith);
    clear = tt;
  }

  -- a node without a token stands for nothing
  pub from_dead : (j : ℕ) → h j ≡ None → Dead (from_node j)
  from_dead j e = record { given = let p : present (h j) ≡ 0 = rw e refl in omega arith; kept = refl; clear = tt }

  put_case : (b : Bool) (e d : Entry) (v w old : ℕ) → Sound e v old → Sound d w old
      → Sound (cond b e d) (cond b v w) old
  put_case true e d v w old x y = x
  put_case false e d v w old x y = y

  -- with one register set to what stands for a word, each register still stands for its word
  pub live_put : (env : Env) (vals : ℕ → ℕ) (r v : ℕ) (e : Entry) → Live env vals → ((old : ℕ) → Sound e v old)
      → Live (put env r e) (register_put vals r v)
  live_put env vals r v e l s q = put_case (nat_eq q r) e (env q) v (vals q) (regs q) (s (regs q)) (l q)

  few_case : (b : Bool) (e d : Entry) → Few e → Few d → Few (cond b e d)
  few_case true e d x y = x
  few_case false e d x y = y

  -- with one register set to an entry of which at most one is there, this holds of each
  pub sparse_put : (env : Env) (r : ℕ) (e : Entry) → Sparse env → Few e → Sparse (put env r e)
  sparse_put env r e l s q = few_case (nat_eq q r) e (env q) s (l q)

  -- TIDINESS

  -- no null meets a guard, and each operand has at most one token
  abbrev pub Calm : List FlowNode → Type 0
  Calm [] = Unit {0}
  Calm (n ∷ ns) = (guard_token h n.guard ≢ Some Null) × AtMostOne regs h n × Calm ns

  -- Two calm lists of nodes are one calm list.
  pub calm_append : (a b : List FlowNode) → Calm a → Calm b → Calm (a ++ b)
  calm_append [] b x y = y
  calm_append (n ∷ a) b x y = (x.0, x.1, calm_append a b x.2 y)

  -- where there is no guard, no null stands at it
  pub none_clear : Clear None
  none_clear = λ e. absurd (cc)

  -- the movs of a register are calm where its guards are clear
  pub movs_calm : (r : ℕ) (gs : List Scope) → AllClear gs → Calm (movs r gs)
  movs_calm r [] c = tt
  movs_calm r (g ∷ gs) c = (c.0, (omega arith, omega arith), movs_calm r gs c.1)

  longer_calm : (b : Bool) (j w : ℕ) (c : Chain) → Calm c.nodes → Calm (longer b j w c).nodes
  longer_calm true j w c q = (none_clear, (omega arith, omega arith), tt)
  longer_calm false j w c q = calm_append c.nodes _ q
      (none_clear, (omega (arith, present_most (h c.last)), omega arith), tt)

  pub chain_calm : (d j w : ℕ) → Calm (chain d j w).nodes
  chain_calm zero j w = (none_clear, (omega arith, omega arith), tt)
  chain_calm (suc d) j w = longer_calm (nat_lt w 65536) j w (chain d j (w / 65536)) (chain_calm d j (w / 65536))

  read_calm : (j r : ℕ) (ss : List FlowSource) (kept : List Scope) → AllClear kept → Calm (read_of j r ss kept).nodes
  read_calm j r [] kept c = tt
  read_calm j r (s ∷ ss) kept c = movs_calm r kept c

  -- the nodes of an operand are calm
  pub operand_calm : (j : ℕ) (env : Env) (a : Source) → Sparse env → Calm (operand j env a).nodes
  operand_calm j env (Const w) s = chain_calm 3 j w
  operand_calm j env (Reg r) s = read_calm j r (env r).given (env r).kept (s r).clear

  -- the nodes of a second operand are calm
  pub second_calm : (b : Bool) (j : ℕ) (env : Env) (a : Source) → Sparse env → Calm (second b j env a).nodes
  second_calm true j env a s = operand_calm j env a s
  second_calm false j env a s = tt

  -- TABLES

  module _ (f : Computes) (st : ℕ → Option Stored) where
    -- what is stored under a node's number is what the node stores
    abbrev pub SettledIn : Form → FlowNode → Type 0
    SettledIn form.Store n = st n.number ≡ stored_where (met h n.guard) regs h n
    SettledIn form.Load n = st n.number ≡ None
    SettledIn _ n = Unit {0}

    -- the table agrees with the nodes from number j on, and st with their stores
    abbrev pub Runs : ℕ → List FlowNode → Type 0
    Runs j [] = Unit {0}
    Runs j (n ∷ ns) = (h j ≡ gives regs h (f j n) n) × (SettledIn (form_of n.op) n) × (Runs (suc j) ns)

    -- Where two lists of nodes run, the first does.
    pub runs_front : (j : ℕ) (a b : List FlowNode) → Runs j (a ++ b) → Runs j a
    runs_front j [] b r = tt
    runs_front j (n ∷ a) b r = (r.0, r.1, runs_front (suc j) a b r.2)

    -- Where two lists of nodes run, the second does behind the first.
    pub runs_back : (j : ℕ) (a b : List FlowNode) → Runs j (a ++ b) → Runs (j + length a) b
    runs_back j [] b r = let e : j ≡ j + 0 = omega arith in subst (λ (i : ℕ). Runs i b) e r
    runs_back j (n ∷ a) b r =
        let e : suc j + length a ≡ j + length (n ∷ a) =
        omega arith in subst (λ (i : ℕ). Runs i b) e (runs_back (suc j) a b r.2)

    -- OPERANDS

    mov_one : (b : Bool) (t : Answer) (v : ℕ) → t ≡ if_matched b (Some (Word v)) → (present t ≡ cond b 1 0) × Is t v
    mov_one true t v e = (rw e refl, rw e refl)
    mov_one false t v e = (rw e refl, rw e tt)

    pub movs_count : (j r : ℕ) (kept : List Scope) → Runs j (movs r kept) → count regs h (froms j kept) ≡ total h kept
    movs_count j r [] x = refl
    movs_count j r (g ∷ gs) x = omega (arith, (mov_one (met h g) (h j) (regs r) x.0).0, movs_count (suc j) r gs x.2)

    pub movs_each : (j r : ℕ) (kept : List Scope) → Runs j (movs r kept) → Each (froms j kept) (regs r)
    movs_each j r [] x = tt
    movs_each j r (g ∷ gs) x = ((mov_one (met h g) (h j) (regs r) x.0).1, movs_each (suc j) r gs x.2)

    froms_each : (n : ℕ) (ss ts : List FlowSource) (kept : List Scope) (v old : ℕ) → count regs h ss ≡ n
        → n + total h kept ≡ 1 → (count regs h ss ≡ 0 → v ≡ old) → count regs h ts ≡ total h kept → Each ts old
        → Each ts v
    froms_each zero ss ts kept v old e o s c x = subst (λ (w : ℕ). Each ts w) (sym (s e)) x
    froms_each (suc n) ss ts kept v old e o s c x = dead_each ts v (omega arith)

    -- the sources of a register that is read give its word
    pub read_sound : (j r : ℕ) (ss : List FlowSource) (kept : List Scope) (v : ℕ)
        → Sound (record { given = ss; kept = kept }) v (regs r) → Runs j (read_of j r ss kept).nodes
        → first regs h (read_of j r ss kept).sources ≡ Some (Word v)
    read_sound j r [] kept v s x = ap (λ (w : ℕ). Some (Word w)) (sym (s.same refl))
    read_sound j r (p ∷ ss) kept v s x =
        first_word ((p ∷ ss) ++ froms j kept) v
        (omega (arith, count_append (p ∷ ss) (froms j kept), movs_count j r kept x, s.single))
        (each_append (p ∷ ss) (froms j kept) v s.word
        (froms_each (count regs h (p ∷ ss)) (p ∷ ss) (froms j kept) kept v (regs r) refl s.single s.same
        (movs_count j r kept x) (movs_each j r kept x)))

    -- of the sources of a register that is read at most one is there
    pub read_few : (j r : ℕ) (ss : List FlowSource) (kept : List Scope) → count regs h ss + total h kept ≤ 1
        → Runs j (read_of j r ss kept).nodes → count regs h (read_of j r ss kept).sources ≤ 1
    read_few j r [] kept s x = omega arith
    read_few j r (p ∷ ss) kept s x = omega (arith, count_append (p ∷ ss) (froms j kept), movs_count j r kept x)

    -- of the sources of an operand at most one is there
    pub operand_few : (j : ℕ) (env : Env) (a : Source) → Sparse env → Runs j (operand j env a).nodes
        → count regs h (operand j env a).sources ≤ 1
    operand_few j env (Const w) s x = omega (arith, present_most (h (chain 3 j w).last))
    operand_few j env (Reg r) s x = read_few j r (env r).given (env r).kept (s r).most x

    -- of the sources of a second operand at most one is there
    pub second_few : (b : Bool) (j : ℕ) (env : Env) (a : Source) → Sparse env → Runs j (second b j env a).nodes
        → count regs h (second b j env a).sources ≤ 1
    second_few true j env a s x = operand_few j env a s x
    second_few false j env a s x = omega arith
